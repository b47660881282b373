use Rattle.btr_item_list.proofs.Imports.{◌∙◌}
use Rattle.btr_item_list.proofs.Joining.{run_added}
use Rattle.btr_item_list.proofs.list.ItemList.add_runs.Goals as goal

pub loop-next-preserved : goal.loop-next-preserved
loop-next-preserved c = record {
  within = c.run_end-end.ensures.within;
  built =
      run_added c.args.objectid c.args.kind c.args.records.now c.loop-next.self c.add.new.self c.loop-next.next c.run_end-end.result c.offset_at.result c.gather.new.body.items c.requires.sorted c.run_end-end.ensures.some c.run_end-end.ensures.within
      c.run_end-end.ensures.same c.run_end-end.ensures.apart c.in_ok-gather.ensures c.offset_at.ensures (rw c.deref.ensures.value at c.in_ok-add.ensures.ok)
      ∙ c.loop-next.invariant.built;
}
