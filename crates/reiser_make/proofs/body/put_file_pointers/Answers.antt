use Rattle.reiser_make.proofs.Imports.{◌≡◌, ◌+◌, ◌*◌, ◌++◌, ℕ, take, drop, ap, sym, ◌∙◌, refl, arith, pointers_bytes, pointer}
use Rattle.byteorder.specs.Endian.{little_bytes}
use Rattle.reiser_items.proofs.vol_block.Fronts.{front_of_new}
use Rattle.reiser_make.proofs.Lists.{flat_map_more}
use Rattle.reiser_make.proofs.body.put_file_pointers.Goals as goal

pub loop-k-preserved : goal.loop-k-preserved
loop-k-preserved c =
    let at : ℕ = 4 * c.loop-k.k in
    let x : ℕ = c.pointer.result in
    let next : 4 * (c.loop-k.k + 1) ≡ at + 4 = omega arith in
    ap (λ n. take n c.put_u32.new.bytes) next
    ∙ ap (take (at + 4)) c.put_u32.ensures
    ∙ front_of_new at 4 c.loop-k.into (little_bytes 4 x) (drop 4 (drop at c.loop-k.into)) refl (omega (arith, c.loop-k-test.true, c.loop-k.auto.into, c.requires.room))
    ∙ ap (λ z. z ++ little_bytes 4 x) c.loop-k.invariant
    ∙ ap (λ y. pointers_bytes c.args.first c.args.sparse c.loop-k.k ++ little_bytes 4 y) c.pointer.ensures
    ∙ sym (flat_map_more (λ k. little_bytes 4 (pointer c.args.first c.args.sparse k)) 0 c.loop-k.k c.loop-k.k (omega arith))
