use Rattle.btr_tree.proofs.Imports.{◌≡◌, ℕ, ◌+◌, ◌<◌, Err, length, take, refl, ◌∙◌, ap, subst, arith, div_ceil, reads, writes_none, first_keys, ascends, Goes, taken, fan_out, IsRaised, IsInSlots}
use Rattle.btr_tree.proofs.Answering.{same_back}
use Rattle.btr_tree.proofs.Climbing.{wide_fan}
use Rattle.btr_tree.proofs.ClimbingFronts.{climb_begins, climb_some, climb_order, climb_goes_on, climb_short, climb_ends}
use Rattle.btr_tree.proofs.Fronts.{later_none, later_then, taken_then}
use Rattle.btr_tree.proofs.climb.climb.Goals as goal

pub loop-alloc-init : goal.loop-alloc-init
loop-alloc-init g c = record {
  open_ = refl;
  size = refl;
  borrow = refl;
  same = refl;
  later = later_none c.args.nodes.now;
  only = λ tells. writes_none (λ b _. IsInSlots c.args.nodes.now.form.nodesize (take (taken c.args.nodes.now) c.args.nodes.now.offsets) b) (g.D.Disk.history c.args.disk.now);
  goes =
      climb_begins g.D.BlockSource.tells (reads (g.D.Disk.history c.args.disk.now)) c.args.nodes.now c.args.leaves.items c.requires.some
      (omega (arith, c.args.leaves.ok.0, c.args.leaves.ok.1, c.args.leaves.small)) c.requires.made c.requires.few;
}

pub raise-requires-clause-order : goal.raise-requires-clause-order
raise-requires-clause-order g c =
    ap (λ cs. ascends (first_keys cs)) c.as_slice.ensures.value
    ∙ climb_order g.D.BlockSource.tells (reads (g.D.Disk.history c.args.disk.now)) (reads (g.D.Disk.history c.loop-alloc.disk)) c.args.nodes.now c.loop-alloc.nodes c.args.leaves.items c.loop-alloc.children.items c.loop-alloc.level
    c.loop-alloc.invariant.goes c.requires.forest

pub returns-in_err-children-clause-out : goal.returns-in_err-children-clause-out
returns-in_err-children-clause-out g c = λ is.
    let short = c.in_err-children.ensures.out (ap (λ a. Err a) (same_back c.from_residual.result c.in_err-children.field-0.0 c.from_residual.ensures.1 is)) in
    let many : length c.as_slice.result.now ≡ length c.loop-alloc.children.items = ap length c.as_slice.ensures.value in
    climb_short g.D.BlockSource.tells (reads (g.D.Disk.history c.args.disk.now)) (reads (g.D.Disk.history c.loop-alloc.disk)) c.args.nodes.now c.loop-alloc.nodes c.args.leaves.items c.loop-alloc.children.items c.loop-alloc.level
    c.loop-alloc.invariant.goes (wide_fan c.args.nodes.now.form.nodesize c.requires.size) (omega (arith, c.loop-alloc-test.true, c.len.ensures, c.loop-alloc.children.ok.0))
    (subst (λ (k : ℕ). length c.loop-alloc.nodes.slots < taken c.loop-alloc.nodes + div_ceil k (fan_out c.loop-alloc.nodes.form.nodesize)) many short)

pub returns-in_err-children-clause-only : goal.returns-in_err-children-clause-only
returns-in_err-children-clause-only g c = λ tells.
    taken_then c.args.nodes.now c.loop-alloc.nodes c.raise.new.nodes (g.D.Disk.history c.args.disk.now) (g.D.Disk.history c.loop-alloc.disk) (g.D.Disk.history c.raise.new.disk)
    c.loop-alloc.invariant.later c.raise.ensures.later (c.loop-alloc.invariant.only tells) (c.raise.ensures.only tells)

pub loop-alloc-preserved : goal.loop-alloc-preserved
loop-alloc-preserved g c =
    let before = c.loop-alloc.invariant in
    record {
      open_ = c.raise.ensures.open ∙ before.open_;
      size = c.raise.ensures.size ∙ before.size;
      borrow = c.raise.ensures.borrow ∙ before.borrow;
      same = c.in_ok-children.ensures.cause.kept (λ e. absurd (cc e)) ∙ before.same;
      later = later_then c.args.nodes.now c.loop-alloc.nodes c.raise.new.nodes before.later c.raise.ensures.later;
      only = λ tells.
          taken_then c.args.nodes.now c.loop-alloc.nodes c.raise.new.nodes (g.D.Disk.history c.args.disk.now) (g.D.Disk.history c.loop-alloc.disk) (g.D.Disk.history c.raise.new.disk)
          before.later c.raise.ensures.later (before.only tells) (c.raise.ensures.only tells);
      goes =
          climb_goes_on g.D.BlockSource.tells (reads (g.D.Disk.history c.args.disk.now)) (reads (g.D.Disk.history c.loop-alloc.disk)) c.args.nodes.now c.loop-alloc.nodes c.args.leaves.items c.loop-alloc.children.items c.loop-alloc.level
          before.goes (reads (g.D.Disk.history c.raise.new.disk)) c.raise.new.nodes c.in_ok-children.children.items (c.loop-alloc.level + 1) (wide_fan c.args.nodes.now.form.nodesize c.requires.size)
          (omega (arith, c.loop-alloc-test.true, c.len.ensures, c.loop-alloc.children.ok.0)) refl
          (subst (λ cs. Goes g.D.BlockSource.tells (reads (g.D.Disk.history c.loop-alloc.disk)) (reads (g.D.Disk.history c.raise.new.disk)) c.loop-alloc.nodes c.raise.new.nodes
          (λ m n. IsRaised m cs (c.loop-alloc.level + 1) n c.in_ok-children.children.items)) c.as_slice.ensures.value c.in_ok-children.ensures.raised);
    }

pub returns-clause-climbed : goal.returns-clause-climbed
returns-clause-climbed g c =
    let some = climb_some g.D.BlockSource.tells (reads (g.D.Disk.history c.args.disk.now)) (reads (g.D.Disk.history c.loop-alloc.disk)) c.args.nodes.now c.loop-alloc.nodes c.args.leaves.items c.loop-alloc.children.items c.loop-alloc.level c.loop-alloc.invariant.goes in
    climb_ends g.D.BlockSource.tells (reads (g.D.Disk.history c.args.disk.now)) (reads (g.D.Disk.history c.loop-alloc.disk)) c.args.nodes.now c.loop-alloc.nodes c.args.leaves.items c.loop-alloc.children.items c.loop-alloc.level
    c.loop-alloc.invariant.goes c.subtrees_are_trees.ensures (omega (arith, c.loop-alloc-test.false, c.len.ensures, c.loop-alloc.children.ok.0, some))
    (record { address = c.index.result.now.address; level = c.loop-alloc.level; nodes = c.len-2.result }) c.index.result.now (ap (λ x. x.address) c.index.ensures) refl c.len-2.ensures
