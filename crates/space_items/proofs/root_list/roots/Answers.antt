use Rattle.space_items.proofs.Rooting.{root_more}
use Rattle.space_items.proofs.Imports.{root_items}
use Rattle.space_items.proofs.root_list.roots.Goals as goal

pub loop-i-preserved : goal.loop-i-preserved
loop-i-preserved c =
    let more =
    root_more c.args.ids.now c.args.nodesize c.args.index c.args.now c.key_of-key.result c.in_ok-others.others (root_items c.args.list.now c.args.index c.args.ids.now c.args.now c.args.nodesize)
    c.loop-i.next c.in_ok-next.next c.args.list.now c.loop-i.i c.get-root.result c.loop-i.items c.add_before.new.items c.add_root.new.items c.in_ok-others.ensures c.in_ok-next.ensures.passed
    c.get-root.ensures c.key_of-key.ensures c.loop-i.invariant.added c.in_ok-next.ensures.added c.in_ok-add_root.ensures in
    record { within = more.0; added = more.1 }
