use Rattle.btr_tree.proofs.Imports.{◌≡◌, ℕ, ◌+◌, ◌-◌, ◌≤◌, List, Err, length, take, drop, min, ◌∙◌, ap, refl, arith, reads, writes_none, Child, taken, fan_out, IsInSlots}
use Rattle.std.proofs.Common.{length-take, length-drop}
use Rattle.btr_tree.proofs.Answering.{answer_back}
use Rattle.btr_tree.proofs.Fronts.{later_none, later_then, taken_then, taken_more}
use Rattle.btr_tree.proofs.Raising.{part_ascends}
use Rattle.btr_tree.proofs.RaisingFronts.{raise_begins, raise_goes_on, raise_ends, raise_short}
use Rattle.btr_tree.proofs.parents.raise.Goals as goal

pub loop-start-init : goal.loop-start-init
loop-start-init g c = record {
  open_ = refl;
  size = refl;
  borrow = refl;
  same = refl;
  later = later_none c.args.nodes.now;
  only = λ tells. writes_none (λ b _. IsInSlots c.args.nodes.now.form.nodesize (take (taken c.args.nodes.now) c.args.nodes.now.offsets) b) (g.D.Disk.history c.args.disk.now);
  goes =
      raise_begins g.D.BlockSource.tells (reads (g.D.Disk.history c.args.disk.now)) c.args.nodes.now c.args.children.now c.new-parents.result.items c.args.level
      (omega (arith, c.fan_out-fan_out.ensures.wide, c.fan_out-fan_out.ensures.exact)) c.requires.few c.new-parents.ensures.items;
}

pub returns-in_err-make_room-clause-only : goal.returns-in_err-make_room-clause-only
returns-in_err-make_room-clause-only g c = λ tells.
    taken_then c.args.nodes.now c.loop-start.nodes c.make_room.new.self (g.D.Disk.history c.args.disk.now) (g.D.Disk.history c.loop-start.disk) (g.D.Disk.history c.make_room.new.disk)
    c.loop-start.invariant.later c.make_room.ensures.later (c.loop-start.invariant.only tells) (c.make_room.ensures.only tells)

pub add_parent-requires-clause-order : goal.add_parent-requires-clause-order
add_parent-requires-clause-order g c = part_ascends c.args.children.now c.loop-start.start (c.min-end.result - c.loop-start.start) c.requires.order

pub returns-in_err-add_parent-clause-out : goal.returns-in_err-add_parent-clause-out
returns-in_err-add_parent-clause-out g c = λ is.
    raise_short g.D.BlockSource.tells (reads (g.D.Disk.history c.args.disk.now)) (reads (g.D.Disk.history c.loop-start.disk)) (reads (g.D.Disk.history c.make_room.new.disk))
    c.args.nodes.now c.loop-start.nodes c.make_room.new.self c.args.children.now c.loop-start.parents.items c.args.level c.loop-start.start
    (omega (arith, c.fan_out-fan_out.ensures.wide, c.fan_out-fan_out.ensures.exact)) c.loop-start.invariant.goes c.in_ok-make_room.ensures.goes (omega (arith, c.loop-start-test.true))
    (c.in_err-add_parent.ensures.out (ap (λ a. Err a) (answer_back c.from_residual-in_err-add_parent.result c.in_err-add_parent.field-0.0 c.from_residual-in_err-add_parent.ensures.1 is)))

pub returns-in_err-add_parent-clause-only : goal.returns-in_err-add_parent-clause-only
returns-in_err-add_parent-clause-only g c = λ tells.
    taken_more c.args.nodes.now c.make_room.new.self c.add_parent.new.nodes (g.D.Disk.history c.args.disk.now) (g.D.Disk.history c.make_room.new.disk) c.add_parent.ensures.later
    (taken_then c.args.nodes.now c.loop-start.nodes c.make_room.new.self (g.D.Disk.history c.args.disk.now) (g.D.Disk.history c.loop-start.disk) (g.D.Disk.history c.make_room.new.disk)
    c.loop-start.invariant.later c.make_room.ensures.later (c.loop-start.invariant.only tells) (c.make_room.ensures.only tells))

pub loop-start-preserved : goal.loop-start-preserved
loop-start-preserved g c =
    let before = c.loop-start.invariant in
    let start : ℕ = c.loop-start.start in
    let end : ℕ = c.min-end.result in
    let part : List Child = take (end - start) (drop start c.args.children.now) in
    let end_is : end ≡ min (length c.args.children.now) (start + fan_out c.args.nodes.now.form.nodesize) = omega (arith, c.min-end.ensures, c.fan_out-fan_out.ensures.exact) in
    let some : 1 ≤ end - start = omega (arith, c.min-end.ensures, c.loop-start-test.true, c.fan_out-fan_out.ensures.wide) in
    let long : length part ≡ end - start = omega (arith, length-take (end - start) (drop start c.args.children.now), length-drop start c.args.children.now, c.min-end.ensures, c.loop-start-test.true) in
    record {
      open_ = c.make_room.ensures.open ∙ before.open_;
      size = c.make_room.ensures.size ∙ before.size;
      borrow = c.make_room.ensures.borrow ∙ before.borrow;
      same = c.in_ok-make_room.ensures.cause.kept ∙ before.same;
      later = later_then c.args.nodes.now c.make_room.new.self c.add_parent.new.nodes (later_then c.args.nodes.now c.loop-start.nodes c.make_room.new.self before.later c.make_room.ensures.later) c.add_parent.ensures.later;
      only = λ tells.
          taken_more c.args.nodes.now c.make_room.new.self c.add_parent.new.nodes (g.D.Disk.history c.args.disk.now) (g.D.Disk.history c.make_room.new.disk) c.add_parent.ensures.later
          (taken_then c.args.nodes.now c.loop-start.nodes c.make_room.new.self (g.D.Disk.history c.args.disk.now) (g.D.Disk.history c.loop-start.disk) (g.D.Disk.history c.make_room.new.disk)
          before.later c.make_room.ensures.later (before.only tells) (c.make_room.ensures.only tells));
      goes =
          raise_goes_on c.children_give_items.ensures g.D.BlockSource.tells (reads (g.D.Disk.history c.args.disk.now)) (reads (g.D.Disk.history c.loop-start.disk)) (reads (g.D.Disk.history c.make_room.new.disk))
          c.args.nodes.now c.loop-start.nodes c.make_room.new.self c.add_parent.new.nodes c.args.children.now c.loop-start.parents.items c.add_parent.new.parents.items part c.args.level start end
          c.in_ok-add_parent.ensures.made.0 before.goes c.in_ok-make_room.ensures.goes (omega (arith, c.loop-start-test.true)) end_is some refl long
          c.in_ok-add_parent.ensures.made.1 c.in_ok-add_parent.ensures.made.2;
    }

pub returns-clause-raised : goal.returns-clause-raised
returns-clause-raised g c =
    raise_ends g.D.BlockSource.tells (reads (g.D.Disk.history c.args.disk.now)) (reads (g.D.Disk.history c.loop-start.disk)) c.args.nodes.now c.loop-start.nodes c.args.children.now c.loop-start.parents.items
    c.args.level c.loop-start.start (omega (arith, c.fan_out-fan_out.ensures.wide, c.fan_out-fan_out.ensures.exact)) c.loop-start.invariant.goes (omega (arith, c.loop-start-test.false))
