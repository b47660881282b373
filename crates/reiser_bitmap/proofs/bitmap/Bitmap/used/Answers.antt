use Rattle.reiser_bitmap.proofs.Imports.{length, ◌∙◌, ap, arith, Bool, List, ℕ, bit_count, bits, used_blocks}
use Rattle.reiser_bitmap.proofs.BitLemmas.{length-bits}
use Rattle.reiser_bitmap.proofs.CountLemmas.{bits_are_used, used_few}
use Rattle.reiser_bitmap.proofs.bitmap.Bitmap.used.Goals as goal

pub bit_count-requires : goal.bit_count-requires
bit_count-requires c =
    let n : ℕ = c.self.inside.blocks in
    let bytes : List ℕ = c.self.inside.bytes.items in
    omega (arith, ap bit_count c.deref.ensures.value, bits_are_used n bytes c.self.invariant.room c.self.invariant.tail, used_few (bits n bytes), length-bits n bytes, c.self.invariant.small)

pub returns : goal.returns
returns c =
    c.bit_count.ensures ∙ (ap bit_count c.deref.ensures.value
    ∙ (bits_are_used c.self.inside.blocks c.self.inside.bytes.items c.self.invariant.room c.self.invariant.tail ∙ ap (λ (used : List Bool). length (used_blocks used)) c.self.view_is))
