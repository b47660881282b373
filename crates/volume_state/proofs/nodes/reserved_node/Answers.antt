use Rattle.volume_state.proofs.Imports.{None, Some, rules, sym, ◌∙◌, subst, arith, err_from_is_err_and, Image, IsAmong, wrong, HoldsNodeOf, TellsReserved}
use Rattle.volume_state.proofs.Meeting.{all_met, none_met, one_found, opened, over, passed, refused, taken, taken_among}
use Rattle.volume_state.proofs.nodes.reserved_node.Goals as goal

pub loop-entry-init : goal.loop-entry-init
loop-entry-init g c = record {
  kept = g.met.S.BlockSource.kept_refl c.args.src.now;
  same = search rules;
  ahead = λ tells apart. record {
    tree = c.in_ok-walker.ensures.tree;
    own = c.in_ok-walker.ensures.owners;
    left = none_met _ _ _ c.args.blocks _ (c.in_ok-walker.ensures.ahead _ _);
  };
}

pub returns-in-Some-reserved_in-clause-told : goal.returns-in-Some-reserved_in-clause-told
returns-in-Some-reserved_in-clause-told g c = λ tells image is apart.
    let here : Image = g.S.BlockSource.blocks c.args.src.now in
    let ranges = c.args.ranges.now in
    let t = c.args.tree.now in
    let was = taken here ranges t c.args.blocks c.in-Some.entry c.loop-entry.walker c.take.new.self (c.loop-entry.invariant.ahead tells apart) c.take.ensures.tree c.take.ensures.owners (c.in-Some.ensures.takes here ranges) in
    subst (λ (m : Image). TellsReserved (HoldsNodeOf m ranges t) c.args.blocks (Some c.in-Some-reserved_in.block)) is
    (one_found here ranges t c.args.blocks c.in-Some.entry c.in-Some-reserved_in.block (taken_among here ranges t c.args.blocks c.in-Some.entry c.take.new.self was) (c.in-Some-reserved_in.ensures apart))

pub loop-entry-preserved-in-Continue-branch-2 : goal.loop-entry-preserved-in-Continue-branch-2
loop-entry-preserved-in-Continue-branch-2 g c = record {
  kept = g.met.S.BlockSource.kept_trans _ _ _ c.loop-entry.invariant.kept c.open.ensures.kept;
  same = c.in_ok-open.ensures.cause.kept (λ e. absurd cc) ∙ c.loop-entry.invariant.same;
  ahead = λ tells apart.
      let here : Image = g.S.BlockSource.blocks c.args.src.now in
      let ranges = c.args.ranges.now in
      let t = c.args.tree.now in
      let same = g.met.S.BlockSource.kept_blocks c.args.src.now c.loop-entry.src tells c.loop-entry.invariant.kept in
      let was = taken here ranges t c.args.blocks c.in-Some.entry c.loop-entry.walker c.take.new.self (c.loop-entry.invariant.ahead tells apart) c.take.ensures.tree c.take.ensures.owners (c.in-Some.ensures.takes here ranges) in
      opened here ranges t c.args.blocks c.in-Some.entry c.take.new.self c.open.new.self was (c.in_default-reserved_in.ensures apart) c.open.ensures.tree c.open.ensures.owners (c.in_ok-open.ensures.opens tells here same).below;
}

pub returns-in_err-open-clause-told : goal.returns-in_err-open-clause-told
returns-in_err-open-clause-told g c = λ tells image is apart.
    let here : Image = g.S.BlockSource.blocks c.args.src.now in
    let ranges = c.args.ranges.now in
    let t = c.args.tree.now in
    let same = g.met.S.BlockSource.kept_blocks c.args.src.now c.loop-entry.src tells c.loop-entry.invariant.kept in
    let was = taken here ranges t c.args.blocks c.in-Some.entry c.loop-entry.walker c.take.new.self (c.loop-entry.invariant.ahead tells apart) c.take.ensures.tree c.take.ensures.owners (c.in-Some.ensures.takes here ranges) in
    let err = err_from_is_err_and c.from_residual-in_err-open.result c.from_residual-in_err-open.ensures.1 in
    rw err.1 (subst (λ (m : Image). IsAmong (wrong m ranges t) err.0) is
    (subst (IsAmong (wrong here ranges t)) (sym err.2)
    (refused here ranges t c.args.blocks c.in-Some.entry c.take.new.self c.open.new.self c.in_err-open.field-0.0 was (c.in_err-open.ensures.opens tells here same))))

pub loop-entry-preserved : goal.loop-entry-preserved
loop-entry-preserved g c = record {
  kept = c.loop-entry.invariant.kept;
  same = c.loop-entry.invariant.same;
  ahead = λ tells apart.
      let here : Image = g.S.BlockSource.blocks c.args.src.now in
      let ranges = c.args.ranges.now in
      let t = c.args.tree.now in
      let was = taken here ranges t c.args.blocks c.in-Some.entry c.loop-entry.walker c.take.new.self (c.loop-entry.invariant.ahead tells apart) c.take.ensures.tree c.take.ensures.owners (c.in-Some.ensures.takes here ranges) in
      passed here ranges t c.args.blocks c.in-Some.entry c.take.new.self was (c.in_default-reserved_in.ensures apart) (omega (arith, c.if-entry-gt0.false));
}

pub returns-clause-told : goal.returns-clause-told
returns-clause-told g c = λ tells image is apart.
    let here : Image = g.S.BlockSource.blocks c.args.src.now in
    let ranges = c.args.ranges.now in
    let t = c.args.tree.now in
    subst (λ (m : Image). TellsReserved (HoldsNodeOf m ranges t) c.args.blocks None) is
    (all_met here ranges t c.args.blocks (over here ranges t c.args.blocks c.loop-entry.walker c.take.new.self (c.loop-entry.invariant.ahead tells apart) (c.in_default.ensures.takes here ranges)))
