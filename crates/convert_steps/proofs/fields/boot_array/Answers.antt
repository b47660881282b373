use Rattle.convert_steps.proofs.Imports.{arith, refl, ◌≡◌, ◌≤◌, ◌+◌, ◌-◌, ◌++◌, ℕ, List, length, replicate, sym, ◌∙◌, ap, subst, get_or, slice_get_within, get_or_from_slice_get, PlannedChunk}
use borrow.Rule.Slice.PartMut.{put_mid}
use Rattle.convert_steps.proofs.Booting.{boot_longer, boot_put, boot_room, boot_same, boot_all}
use Rattle.convert_steps.proofs.fields.boot_array.Goals as goal
use Rattle.convert_steps.proofs.fields.boot_array.Goals.{then-is_system, else-is_system}

pub loop-i-init : goal.loop-i-init
loop-i-init c = record { end_ = refl; built = refl }

pub overflow_add-end : goal.overflow_add-end
overflow_add-end c =
    omega (arith, c.loop-i.invariant.end_, boot_room c.args.ids.now c.args.chunks.now c.loop-i.i c.get-chunk.result c.get-chunk.ensures c.requires.device (sym c.is_system.ensures ∙ c.if-is_system.true) c.requires.fits)

pub slice_bounds-array-end : goal.slice_bounds-array-end
slice_bounds-array-end c =
    omega (arith, c.loop-i.invariant.end_, boot_room c.args.ids.now c.args.chunks.now c.loop-i.i c.get-chunk.result c.get-chunk.ensures c.requires.device (sym c.is_system.ensures ∙ c.if-is_system.true) c.requires.fits)

pub write_record-requires-clause-small : goal.write_record-requires-clause-small
write_record-requires-clause-small c =
    let at : get_or c.args.chunks.now c.loop-i.i c.get-chunk.result ≡ c.get-chunk.result =
    get_or_from_slice_get c.args.chunks.now c.loop-i.i c.get-chunk.result c.get-chunk.result c.get-chunk.ensures in
    subst (λ (d : PlannedChunk). d.start + d.length ≤ 536870912) at
    (c.requires.small c.loop-i.i c.get-chunk.result (slice_get_within c.args.chunks.now c.loop-i.i c.get-chunk.result c.get-chunk.ensures))

pub loop-i-preserved : goal.loop-i-preserved
loop-i-preserved c = elim c.if-is_system.branch [
  | then-is_system w ↦
      let system = sym c.is_system.ensures ∙ w.if-is_system.true in
      let longer = boot_longer c.args.ids.now c.args.chunks.now c.loop-i.i c.get-chunk.result c.get-chunk.ensures c.requires.device system in
      record {
        end_ = omega (arith, w.end-is, c.loop-i.invariant.end_, longer);
        built =
            w.array-is
            ∙ (ap (λ (n : ℕ). put_mid n (c.loop-i.end + 97 - c.loop-i.end) c.loop-i.array w.write_record.new.into) c.loop-i.invariant.end_
            ∙ boot_put c.args.ids.now c.args.chunks.now c.loop-i.i c.get-chunk.result c.get-chunk.ensures c.requires.device system (c.loop-i.end + 97 - c.loop-i.end) c.loop-i.array
            w.write_record.new.into c.requires.fits (omega arith) w.write_record.ensures c.loop-i.invariant.built);
      }
  | else-is_system w ↦
      let same = boot_same c.args.ids.now c.args.chunks.now c.loop-i.i c.get-chunk.result c.get-chunk.ensures (sym c.is_system.ensures ∙ w.if-is_system.false) in
      record {
        end_ = w.end-is ∙ (c.loop-i.invariant.end_ ∙ ap (λ (l : List ℕ). length l) (sym same));
        built = w.array-is ∙ (c.loop-i.invariant.built ∙ ap (λ (l : List ℕ). l ++ replicate (2048 - length l) 0) (sym same));
      }
]

pub returns-clause-array : goal.returns-clause-array
returns-clause-array c =
    c.loop-i.invariant.built ∙ ap (λ (l : List ℕ). l ++ replicate (2048 - length l) 0) (boot_all c.args.ids.now c.args.chunks.now c.loop-i.i (omega (arith, c.loop-i-test.false, c.len-i-end.ensures)))

pub returns-clause-size : goal.returns-clause-size
returns-clause-size c =
    c.loop-i.invariant.end_ ∙ ap (λ (l : List ℕ). length l) (boot_all c.args.ids.now c.args.chunks.now c.loop-i.i (omega (arith, c.loop-i-test.false, c.len-i-end.ensures)))
