use Rattle.reiser_make.proofs.Imports.{ℕ, ◌+◌, sym, subst, arith, MayPackMore, Packed}
use Rattle.reiser_make.proofs.Packing.{leaf_as, packing_more}
use Rattle.reiser_make.proofs.sample.Sample.add_next.Goals as goal

pub returns-else-taken_by-leaf-clause-more : goal.returns-else-taken_by-leaf-clause-more
returns-else-taken_by-leaf-clause-more c = λ all packing.
    let leaf : Packed = c.args.leaf.now in
    subst (λ (n : ℕ). MayPackMore c.args.self.now all (leaf_as leaf.first (leaf.count + 1) (leaf.used + n) c.next_item.new.at)) (sym c.taken_by-in-Some.ensures)
    (packing_more c.args.self.now all leaf.first leaf.count leaf.used leaf.end c.next_item.new.at c.in-Some.item packing c.in-Some.ensures.next
    (omega (arith, c.if-taken_by-leaf.false, c.taken_by.ensures)))
