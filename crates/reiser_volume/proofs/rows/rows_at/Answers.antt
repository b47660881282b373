use Rattle.reiser_volume.proofs.Imports.{◌∙◌, ◌<◌, ◌≤◌, List, map, length, sym, ap, subst, refl, arith, take_all, slice_get_read, err_from_is_err_and, row_of, PathTo, IsFaultOrMemory, whole_row}
use Rattle.reiser_volume.proofs.Rowed.{rows_more}
use Rattle.reiser_volume.proofs.rows.rows_at.Goals as goal

pub loop-i-init : goal.loop-i-init
loop-i-init g c = record {
  kept = g.met.S.BlockSource.kept_refl c.args.src.now;
  same = refl;
  told = λ tells image is accepted opened has marked. c.new-rows.ensures;
}

pub loop-i-preserved : goal.loop-i-preserved
loop-i-preserved g c =
    let list : List PathTo = c.args.paths.now.items in
    let before = c.loop-i.invariant in
    let within : c.loop-i.i < length list = omega (arith, c.loop-i-test.true) in
    record {
      kept = g.met.S.BlockSource.kept_trans _ _ _ before.kept c.row_at.ensures.kept;
      same = c.in_ok-row.ensures.cause.kept (λ e. absurd cc) ∙ before.same;
      told = λ tells image is accepted opened has marked.
          let same = g.met.S.BlockSource.kept_blocks c.args.src.now c.loop-i.src tells before.kept ∙ is in
          let rows = before.told tells image is accepted opened has marked in
          let there = slice_get_read list (length list) c.loop-i.i c.index.result.now refl within c.index.ensures in
          rows_more (λ p. row_of (whole_row image list p)) list c.loop-i.i c.index.result.now _ _ c.in_ok-row.row within c.index.ensures rows (c.in_ok-row.ensures.row tells image same accepted opened marked list has c.loop-i.i there rows) c.in_ok-add.ensures.ok;
    }

pub returns-in_err-row-clause-rows : goal.returns-in_err-row-clause-rows
returns-in_err-row-clause-rows g c = λ tells image is accepted opened has marked.
    let list : List PathTo = c.args.paths.now.items in
    let before = c.loop-i.invariant in
    let within : c.loop-i.i < length list = omega (arith, c.loop-i-test.true) in
    let same = g.met.S.BlockSource.kept_blocks c.args.src.now c.loop-i.src tells before.kept ∙ is in
    let there = slice_get_read list (length list) c.loop-i.i c.index.result.now refl within c.index.ensures in
    let fault = c.in_err-row.ensures.row tells image same accepted opened marked list has c.loop-i.i there (before.told tells image is accepted opened has marked) in
    let err = err_from_is_err_and c.from_residual.result c.from_residual.ensures.1 in
    rw err.1 (subst IsFaultOrMemory (sym err.2) fault)

pub returns-clause-rows : goal.returns-clause-rows
returns-clause-rows g c = λ tells image is accepted opened has marked.
    let list : List PathTo = c.args.paths.now.items in
    let all : length list ≤ c.loop-i.i = omega (arith, c.loop-i-test.false) in
    c.loop-i.invariant.told tells image is accepted opened has marked ∙ ap (map (λ p. row_of (whole_row image list p))) (take_all c.loop-i.i list all)

pub returns-in_err-row-clause-kept : goal.returns-in_err-row-clause-kept
returns-in_err-row-clause-kept g c = g.met.S.BlockSource.kept_trans _ _ _ c.loop-i.invariant.kept c.row_at.ensures.kept
