use Rattle.btr_tree.proofs.Imports.{◌≡◌, ◌<◌, ◌+◌, ◌/◌, length, sym, ◌∙◌, ap, subst, arith, reads, write_only, writes_then, IsInNode, HoldBytes}
use Rattle.btr_tree.proofs.OnDisk.{hold_more}
use Rattle.btr_tree.proofs.write.write_node.Goals as goal

pub returns-in_err-write-clause-only : goal.returns-in_err-write-clause-only
returns-in_err-write-clause-only g c = λ tells.
    writes_then (λ b _. IsInNode (length c.args.bytes.now) c.args.offset b) _ _ _ (c.loop-j.invariant.only tells)
    (write_only (λ b _. IsInNode (length c.args.bytes.now) c.args.offset b) _ _ _ _ _ (omega arith, omega (arith, c.loop-j-test.true)) (c.write.ensures.effect tells))

pub loop-j-preserved : goal.loop-j-preserved
loop-j-preserved g c =
    let before = c.loop-j.invariant in
    record {
      open_ = c.write.ensures.open ∙ before.open_;
      size = c.write.ensures.size ∙ before.size;
      borrow = c.write.ensures.borrow ∙ before.borrow;
      same = c.in_ok-write.ensures.cause.kept ∙ before.same;
      only = λ tells.
          writes_then (λ b _. IsInNode (length c.args.bytes.now) c.args.offset b) _ _ _ (before.only tells)
          (write_only (λ b _. IsInNode (length c.args.bytes.now) c.args.offset b) _ _ _ _ _ (omega arith, omega (arith, c.loop-j-test.true)) (c.write.ensures.effect tells));
      written = λ tells.
          let sizes : g.D.BlockSource.size c.loop-j.disk ≡ length (reads (g.D.Disk.history c.loop-j.disk)) = g.met.D.Disk.open_size c.loop-j.disk _ tells (before.open_ ∙ c.requires.open) in
          let fits : c.args.offset / 4096 + c.loop-j.j < length (reads (g.D.Disk.history c.loop-j.disk)) = omega (arith, sizes, before.size, c.requires.in_range, c.requires.aligned, c.loop-j-test.true) in
          subst (λ image. HoldBytes image (c.args.offset / 4096) (c.loop-j.j + 1) c.args.bytes.now) (sym (ap reads (c.in_ok-write.ensures.effect tells)))
          (hold_more (reads (g.D.Disk.history c.loop-j.disk)) (c.args.offset / 4096) c.loop-j.j c.args.bytes.now c.block_of-block.result.bytes fits c.block_of-block.ensures (before.written tells));
    }
