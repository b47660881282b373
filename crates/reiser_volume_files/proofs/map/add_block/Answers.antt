use Rattle.reiser_volume_files.proofs.Imports.{◌≡◌, ◌+◌, ◌-◌, ◌∷◌, ◌++◌, ◌∙◌, ◌<◌, [], List, length, set, OnOk, sym, ap, subst, eqb, arith, and_parts, eqb-true, get_or_from_slice_get, FileRun, goes_on, run_of, longer, with_block, is_next}
use Rattle.reiser_volume_files.proofs.Joining.{run_grown, run_begun, first_run}
use Rattle.reiser_volume_files.proofs.map.add_block.Goals as goal
use Rattle.reiser_volume_files.proofs.map.add_block.Goals.{then-len-gt0+else-goes_on, else-len-gt0}

pub longer-requires : goal.longer-requires
longer-requires c =
    let on = sym c.goes_on.ensures ∙ c.if-goes_on.true in
    let at = eqb-true (c.get-last.result.at + c.get-last.result.count) c.args.k
    (and_parts (eqb (c.get-last.result.at + c.get-last.result.count) c.args.k) (is_next c.get-last.result.from c.get-last.result.count c.args.from) on).0 in
    omega (arith, at, c.requires)

pub returns-then-goes_on-clause-ok : goal.returns-then-goes_on-clause-ok
returns-then-goes_on-clause-ok c =
    let at = get_or_from_slice_get c.args.map.now (c.len-len.result - 1) c.get-last.result c.get-last.result c.get-last.ensures in
    let on = ap (λ (r : FileRun). goes_on r c.args.k c.args.from) at ∙ sym c.goes_on.ensures ∙ c.if-goes_on.true in
    c.set.ensures
    ∙ ap (λ (r : FileRun). set c.args.map.now (c.len-len.result - 1) r) (c.longer.ensures ∙ ap longer (sym at))
    ∙ run_grown c.args.map.now (c.len-len.result - 1) c.get-last.result c.args.k c.args.from (omega (arith, c.if-len-gt0.true, c.len-len.ensures)) on

pub returns-clause-ok : goal.returns-clause-ok
returns-clause-ok c =
    let is : c.args.map.now ++ run_of c.args.k c.args.from ∷ [] ≡ with_block c.args.map.now c.args.k c.args.from =
    elim c.if-len-gt0.branch as (λ _. c.args.map.now ++ run_of c.args.k c.args.from ∷ [] ≡ with_block c.args.map.now c.args.k c.args.from) [
      | then-len-gt0+else-goes_on w ↦
          let at = get_or_from_slice_get c.args.map.now (c.len-len.result - 1) w.get-last.result w.get-last.result w.get-last.ensures in
          let off = ap (λ (r : FileRun). goes_on r c.args.k c.args.from) at ∙ sym w.goes_on.ensures ∙ w.if-goes_on.false in
          run_begun c.args.map.now (c.len-len.result - 1) w.get-last.result c.args.k c.args.from (omega (arith, w.if-len-gt0.true, c.len-len.ensures)) off
      | else-len-gt0 w ↦ first_run c.args.map.now c.args.k c.args.from (omega (arith, w.if-len-gt0.false, c.len-len.ensures))
    ] in
    subst (λ (rs : List FileRun). OnOk c.add.result (c.add.new.self ≡ rs)) is c.add.ensures.ok
