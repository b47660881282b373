use Rattle.reiser_volume_objects.proofs.Tables.{take_entry}
use Rattle.reiser_volume_objects.proofs.table.note_all.Goals as goal

pub loop-i-preserved : goal.loop-i-preserved
loop-i-preserved c = take_entry c.args.leaf c.args.dir _ _ _ c.args.entries.now c.loop-i.i _ c.get.ensures c.loop-i.invariant (c.in_ok-note_entry.ensures)
