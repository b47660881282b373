use Rattle.convert_trees.proofs.Imports.{◌∙◌, ◌<◌, ℕ, List, [], length, get_or, ap, subst, arith, slice_get-get_or, Item, Counted}
use Rattle.btr_tree.specs.Builder.{no_key}
use Rattle.convert_trees.proofs.Tallying.{small_size, lengths_more}
use Rattle.convert_trees.proofs.roots.counted.Goals as goal

pub add-requires-clause-fits : goal.add-requires-clause-fits
add-requires-clause-fits c =
    let none : Item = (no_key, []) in
    let inside : c.loop-i.i < length c.args.list.now = omega (arith, c.loop-i-test.true, c.len-i-end.ensures, c.loop-i.auto.i-end) in
    let same = ap length (c.body.ensures (get_or c.args.list.now c.loop-i.i none) (slice_get-get_or c.args.list.now c.loop-i.i none inside)) in
    omega (arith, c.requires.short c.loop-i.i none inside, same, c.loop-i.invariant.size)

pub add-requires-clause-small : goal.add-requires-clause-small
add-requires-clause-small c =
    let none : Item = (no_key, []) in
    let inside : c.loop-i.i < length c.args.list.now = omega (arith, c.loop-i-test.true, c.len-i-end.ensures, c.loop-i.auto.i-end) in
    let same = ap length (c.body.ensures (get_or c.args.list.now c.loop-i.i none) (slice_get-get_or c.args.list.now c.loop-i.i none inside)) in
    omega (arith, c.requires.short c.loop-i.i none inside, same, c.loop-i.invariant.bytes, small_size c.args.nodesize c.requires.size, c.requires.few, inside)

pub loop-i-preserved : goal.loop-i-preserved
loop-i-preserved c =
    let none : Item = (no_key, []) in
    let inside : c.loop-i.i < length c.args.list.now = omega (arith, c.loop-i-test.true, c.len-i-end.ensures, c.loop-i.auto.i-end) in
    let same = ap length (c.body.ensures (get_or c.args.list.now c.loop-i.i none) (slice_get-get_or c.args.list.now c.loop-i.i none inside)) in
    record {
      size = c.add.ensures.size ∙ c.loop-i.invariant.size;
      bytes = omega (arith, c.add.ensures.bytes, c.requires.short c.loop-i.i none inside, same, c.loop-i.invariant.bytes, small_size c.args.nodesize c.requires.size);
      counted =
          subst (λ (lengths : List ℕ). Counted c.add.new.self lengths) (lengths_more c.args.list.now c.loop-i.i none c.body.result.now inside same)
          (c.add.ensures.counted _ c.loop-i.invariant.counted);
    }
