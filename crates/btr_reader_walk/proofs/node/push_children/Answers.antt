use Rattle.btr_reader_walk.proofs.Imports.{arith, ◌∙◌}
use Rattle.btr_reader_walk.proofs.Contents.{pushed_more}
use Rattle.btr_reader_walk.proofs.node.push_children.Goals as goal

pub loop-left-preserved : goal.loop-left-preserved
loop-left-preserved c =
    let before = c.loop-left.invariant in
    record {
      few = omega (arith, before.few);
      pushed =
          c.push_reserved.ensures.items
          ∙ pushed_more c.args.node.now c.loop-left.left c.args.level c.child-child.result c.args.pending.now.items c.loop-left.pending.items c.loop-left-test.true before.few (c.child-child.ensures c.child-child.result) before.pushed;
      room = omega (arith, before.room, c.push_reserved.ensures.len, c.loop-left-test.true);
      capacity = c.push_reserved.ensures.capacity ∙ before.capacity;
    }
