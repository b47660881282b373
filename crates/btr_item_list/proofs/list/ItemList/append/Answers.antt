use Rattle.btr_item_list.proofs.Imports.{◌++◌, List, ap, ◌∙◌, arith, take_all, Item}
use Rattle.btr_item_list.proofs.Joining.{appended_more}
use Rattle.btr_item_list.proofs.list.ItemList.append.Goals as goal

pub loop-i-preserved : goal.loop-i-preserved
loop-i-preserved c = appended_more c.args.self.now c.loop-i.self c.add.new.self c.args.more.now c.loop-i.i c.key.result c.body.result.now (omega arith) c.loop-i.invariant c.key.ensures c.body.ensures c.in_ok-add.ensures.ok

pub returns : goal.returns
returns c = c.loop-i.invariant ∙ ap (λ (l : List Item). c.args.self.now ++ l) (take_all c.loop-i.i c.args.more.now (omega arith))
