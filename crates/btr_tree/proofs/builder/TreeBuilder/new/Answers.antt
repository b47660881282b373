use Rattle.btr_tree.proofs.Holding.{new_holds, new_stands}
use Rattle.btr_tree.proofs.builder.TreeBuilder.new.Goals as goal

pub returns-clause-ready : goal.returns-clause-ready
returns-clause-ready c =
    new_holds c.in_ok-new.field-0 (record { fsid = c.args.ids.fsid; nodesize = c.args.nodesize; sums = c.args.sums }) c.args.owner c.args.generation c.args.ids.chunk_tree c.args.slots.addresses c.args.slots.offsets c.requires.size c.requires.slots c.in_ok-new.ensures
    c.new-2.result.items c.new-2.ensures.items

pub returns-clause-stands : goal.returns-clause-stands
returns-clause-stands c =
    new_stands c.in_ok-new.field-0 (record { fsid = c.args.ids.fsid; nodesize = c.args.nodesize; sums = c.args.sums }) c.args.owner c.args.generation c.args.ids.chunk_tree c.args.slots.addresses c.args.slots.offsets c.requires.size c.requires.slots c.in_ok-new.ensures
    c.new-2.result.items c.new-2.ensures.items
