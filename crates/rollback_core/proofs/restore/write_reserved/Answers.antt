use Rattle.rollback_core.proofs.Imports.{◌∙◌, sym, arith, take_all, has_place, stand_all, stand_more, one_sync, one_write, then_writes, Saved}
use Rattle.rollback_core.proofs.restore.write_reserved.Goals as goal

pub returns-in_err-write-clause-writes : goal.returns-in_err-write-clause-writes
returns-in_err-write-clause-writes g c =
    then_writes c.loop-block.invariant.writes
    (one_write _ _ _ (has_place (λ (x : Saved). x.at) (λ (x : Saved). x.block.bytes) c.args.saved.now c.loop-block.block-index _ c.loop-block-test.true) c.write.ensures.open c.write.ensures.size c.write.ensures.borrow c.write.ensures.effect)

pub returns-clause-writes : goal.returns-clause-writes
returns-clause-writes g c = then_writes c.loop-block.invariant.writes (one_sync _ c.sync.ensures.open c.sync.ensures.size c.sync.ensures.borrow c.sync.ensures.effect)

pub loop-block-preserved : goal.loop-block-preserved
loop-block-preserved g c =
    let before = c.loop-block.invariant in
    record {
      writes = then_writes before.writes
          (one_write _ _ _ (has_place (λ (x : Saved). x.at) (λ (x : Saved). x.block.bytes) c.args.saved.now c.loop-block.block-index _ c.loop-block-test.true) c.write.ensures.open c.write.ensures.size c.write.ensures.borrow c.write.ensures.effect);
      same = omega (arith, before.same, c.in_ok-write.ensures.cause.kept);
      written = λ tells.
          stand_more (λ (x : Saved). x.at) (λ (x : Saved). x.block.bytes) c.args.saved.now c.loop-block.block-index _ _ (g.D.Disk.history c.loop-block.disk) _ c.loop-block-test.true c.requires.apart
          (sym before.writes.size ∙ g.met.D.Disk.open_size c.loop-block.disk _ tells (before.writes.opened ∙ c.requires.open)) c.requires.in_range (c.in_ok-write.ensures.effect tells) (before.written tells);
    }

pub returns-clause-written : goal.returns-clause-written
returns-clause-written g c = λ tells.
    stand_all (λ (x : Saved). x.at) (λ (x : Saved). x.block.bytes) c.args.saved.now c.loop-block.block-index (g.D.Disk.history c.loop-block.disk) _ c.sync.result (take_all c.loop-block.block-index c.args.saved.now c.loop-block-test.false) (c.sync.ensures.effect tells) (c.loop-block.invariant.written tells)
