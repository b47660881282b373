use Rattle.extent_pieces.proofs.Imports.{◌∙◌, ◌≤◌, List, length, refl, sym, subst, arith, take_all, err_from_is_err_and, keys, IsFaultOrMemory, ObjectKey, volume_items, Gathers}
use Rattle.extent_pieces.proofs.parts.FileParts.gather.Goals as goal

pub loop-i-init : goal.loop-i-init
loop-i-init g c = record {
  kept = g.met.S.BlockSource.kept_refl c.args.src.now;
  same = refl;
  told = λ tells image is accepted opened. c.new-parts.ensures c.args.inline (volume_items image) (keys c.args.volume.now.named);
}

pub loop-i-preserved : goal.loop-i-preserved
loop-i-preserved g c =
    let before = c.loop-i.invariant in
    record {
      kept = g.met.S.BlockSource.kept_trans _ _ _ before.kept c.add_object.ensures.kept;
      same = c.in_ok-add_object.ensures.cause.kept (λ e. absurd cc) ∙ before.same;
      told = λ tells image is accepted opened.
          let same = g.met.S.BlockSource.kept_blocks c.args.src.now c.loop-i.src tells before.kept ∙ is in
          c.in_ok-add_object.ensures.parts tells image same accepted opened (before.told tells image is accepted opened);
    }

pub returns-in_err-add_object-clause-parts : goal.returns-in_err-add_object-clause-parts
returns-in_err-add_object-clause-parts g c = λ tells image is accepted opened.
    let before = c.loop-i.invariant in
    let same = g.met.S.BlockSource.kept_blocks c.args.src.now c.loop-i.src tells before.kept ∙ is in
    let fault = c.in_err-add_object.ensures.parts tells image same accepted opened (before.told tells image is accepted opened) in
    let err = err_from_is_err_and c.from_residual.result c.from_residual.ensures.1 in
    rw err.1 (subst IsFaultOrMemory (sym err.2) fault)

pub returns-clause-parts : goal.returns-clause-parts
returns-clause-parts g c = λ tells image is accepted opened.
    let all : List ObjectKey = keys c.args.volume.now.named in
    let past : length all ≤ c.loop-i.i = omega (arith, c.loop-i-test.false) in
    subst (λ (some : List ObjectKey). Gathers c.args.inline (volume_items image) all some c.loop-i.parts) (take_all c.loop-i.i all past) (c.loop-i.invariant.told tells image is accepted opened)

pub returns-in_err-add_object-clause-kept : goal.returns-in_err-add_object-clause-kept
returns-in_err-add_object-clause-kept g c = g.met.S.BlockSource.kept_trans _ _ _ c.loop-i.invariant.kept c.add_object.ensures.kept
