use Rattle.btr_item_list.proofs.Imports.{arith}
use Rattle.btr_item_list.proofs.Joining.{gathered}
use Rattle.btr_item_list.proofs.list.ItemList.gather.Goals as goal

pub loop-i-preserved : goal.loop-i-preserved
loop-i-preserved c =
    gathered c.args.self.now c.args.first c.loop-i.i c.loop-i.body.items c.extend_from_slice.new.self.items c.body.result.now (omega arith) (omega arith) c.loop-i.invariant c.in_ok-extend_from_slice.ensures.items c.body.ensures
