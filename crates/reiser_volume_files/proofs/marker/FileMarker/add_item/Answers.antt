use Rattle.reiser_volume_files.proofs.Imports.{◌≡◌, ◌-◌, ◌/◌, ◌∙◌, ℕ, refl, sym, ap, subst, ◌⊎◌, ItemHead, Stat, Directory, FileMarker}
use Rattle.fs_rows.specs.declared.file.FileBytes.{FileBytes}
use Rattle.reiser_volume_files.proofs.Adding.{marks_empty, marks_direct, marks_indirect, no_bytes}
use Rattle.reiser_volume_files.proofs.marker.FileMarker.add_item.Goals as goal

abbrev of_bytes : FileBytes → FileMarker
of_bytes b = record { file = b }

pub returns-in-Direct-clause-given : goal.returns-in-Direct-clause-given
returns-in-Direct-clause-given g c = λ tells image is given i head body may marks.
    marks_direct c.args.self.now (record { file = c.put_bytes.new.self }) image given i c.first_byte.result c.args.body.now (ap (λ (h : ItemHead). h.kind) head ∙ c.in-Direct.is)
    (c.first_byte.ensures ∙ sym (ap (λ (h : ItemHead). h.offset - 1) head)) body c.put_bytes.ensures.size c.put_bytes.ensures.near (λ none. ap of_bytes (c.put_bytes.ensures.none none)) c.put_bytes.ensures.bytes may marks

pub returns-in-Indirect-clause-given : goal.returns-in-Indirect-clause-given
returns-in-Indirect-clause-given g c = λ tells image is given i head body may marks.
    marks_indirect c.put_pointers.result c.args.self.now c.put_pointers.new.self image given i _ c.args.body.now (ap (λ (h : ItemHead). h.kind) head ∙ c.in-Indirect.is)
    (ap (λ (n : ℕ). n / 4096) (c.first_byte-in-Indirect.ensures ∙ sym (ap (λ (h : ItemHead). h.offset - 1) head))) body c.put_pointers.ensures.size c.put_pointers.ensures.next c.put_pointers.ensures.none
    (c.put_pointers.ensures.bytes tells image is) may marks

pub returns-in-Stat-clause-given : goal.returns-in-Stat-clause-given
returns-in-Stat-clause-given g c = λ tells image is given i head body may marks.
    let kind = subst (λ (h : ItemHead). (h.kind ≡ Stat) ⊎ (h.kind ≡ Directory)) (sym head) c.in-Stat.is in
    marks_empty c.args.self.now c.args.self.now image given i refl (no_bytes i kind) marks
