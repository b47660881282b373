use Rattle.reiser_volume_files.proofs.Imports.{◌≡◌, ◌-◌, ◌/◌, ◌∙◌, ℕ, refl, sym, ap, subst, ◌⊎◌, ItemHead, Stat, Directory}
use Rattle.reiser_volume_files.proofs.Adding.{no_bytes}
use Rattle.reiser_volume_files.proofs.Mapped.{maps_empty, maps_direct, maps_indirect}
use Rattle.reiser_volume_files.proofs.mapper.FileMapper.add_item.Goals as goal

pub returns-in-Direct-clause-given : goal.returns-in-Direct-clause-given
returns-in-Direct-clause-given c = λ given i head body may maps.
    maps_direct c.put_bytes.result c.args.self.now c.put_bytes.new.self given i c.first_byte.result c.args.body.now (ap (λ (h : ItemHead). h.kind) head ∙ c.in-Direct.is)
    (c.first_byte.ensures ∙ sym (ap (λ (h : ItemHead). h.offset - 1) head)) body c.put_bytes.ensures.size c.put_bytes.ensures.next c.put_bytes.ensures.none c.put_bytes.ensures.runs may maps

pub returns-in-Indirect-clause-given : goal.returns-in-Indirect-clause-given
returns-in-Indirect-clause-given c = λ given i head body may maps.
    maps_indirect c.put_pointers.result c.args.self.now c.put_pointers.new.self given i _ c.args.body.now (ap (λ (h : ItemHead). h.kind) head ∙ c.in-Indirect.is)
    (ap (λ (n : ℕ). n / 4096) (c.first_byte-in-Indirect.ensures ∙ sym (ap (λ (h : ItemHead). h.offset - 1) head))) body c.put_pointers.ensures.size c.put_pointers.ensures.next c.put_pointers.ensures.none
    c.put_pointers.ensures.runs may maps

pub returns-in-Stat-clause-given : goal.returns-in-Stat-clause-given
returns-in-Stat-clause-given c = λ given i head body may maps.
    let kind = subst (λ (h : ItemHead). (h.kind ≡ Stat) ⊎ (h.kind ≡ Directory)) (sym head) c.in-Stat.is in
    maps_empty c.args.self.now c.args.self.now given i refl (no_bytes i kind) maps
