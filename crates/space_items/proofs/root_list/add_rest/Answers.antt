use Rattle.space_items.proofs.Imports.{◌++◌, ◌∙◌, List, ap, arith, Item}
use Rattle.space_items.proofs.Merging.{range_more, range_all}
use Rattle.space_items.proofs.root_list.add_rest.Goals as goal

pub loop-i-preserved : goal.loop-i-preserved
loop-i-preserved c =
    range_more c.args.items.now c.loop-i.items c.add.new.self c.args.others.now c.args.first c.loop-i.i c.key.result c.body.result.now (omega arith) (omega arith) c.loop-i.invariant c.key.ensures
    c.body.ensures c.in_ok-add.ensures.ok

pub returns : goal.returns
returns c = c.loop-i.invariant ∙ ap (λ (l : List Item). c.args.items.now ++ l) (range_all c.args.others.now c.args.first c.loop-i.i (omega arith))
