use Rattle.reiser_bitmap.proofs.Imports.{◌≡◌, ◌∙◌, length, sym, ap, arith, not, false, bits, has, is_bit}
use Rattle.reiser_bitmap.proofs.BitLemmas.{length-bits}
use Rattle.reiser_bitmap.proofs.Ends.{end_facts, end_is, used_end}
use Rattle.reiser_bitmap.proofs.bitmap.Bitmap.next_used.Goals as goal

pub end_of_bits-requires-clause-inside : goal.end_of_bits-requires-clause-inside
end_of_bits-requires-clause-inside c =
    omega (arith, c.self.invariant.room, c.requires.inside, ap length c.self.view_is, length-bits c.self.inside.blocks c.self.inside.bytes.items, ap length c.deref.ensures.value)

pub returns : goal.returns
returns c =
    c.end_of_bits.ensures
    ∙ end_is (λ b. not (has c.args.self.now b)) c.args.from c.args.end _
    (used_end c.self.inside.blocks c.deref.result.now c.args.self.now c.args.from c.args.end _ (ap (bits c.self.inside.blocks) c.deref.ensures.value ∙ c.self.view_is) c.requires.inside
    (end_facts (is_bit c.deref.result.now false) c.args.from c.args.end c.requires.order))
