use Rattle.btr_tree.proofs.Imports.{take, sym, subst, reads, WritesOnly, IsInSlots}
use Rattle.btr_tree.proofs.Fronts.{goes_flushed, flushed_taken}
use Rattle.btr_tree.proofs.nodes.Nodes.flush.Goals as goal

pub returns-clause-goes : goal.returns-clause-goes
returns-clause-goes g c =
    goes_flushed g.D.BlockSource.tells (reads (g.D.Disk.history c.args.disk.now)) (reads (g.D.Disk.history c.write.new.disk)) c.args.self.now c.let_go.new.self c.let_go.ensures c.in_ok-write.ensures.written

pub returns-clause-only : goal.returns-clause-only
returns-clause-only g c = λ tells.
    subst (λ n. WritesOnly (λ b _. IsInSlots c.args.self.now.form.nodesize (take n c.args.self.now.offsets) b) (g.D.Disk.history c.args.disk.now) (g.D.Disk.history c.write.new.disk))
    (sym (flushed_taken c.args.self.now c.let_go.new.self c.let_go.ensures)) (c.write.ensures.only tells)
