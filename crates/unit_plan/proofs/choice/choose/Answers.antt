use Rattle.unit_plan.proofs.Imports.{◌≡◌, ℕ, List, ◌∙◌, ap, refl, arith, fold, free_runs, Run, longest_run, lowest_long}
use Rattle.std.proofs.Common.{max}
use Rattle.unit_plan.proofs.Enough.{IsLowest, lowest_is}
use Rattle.unit_plan.proofs.choice.choose.Goals as goal
use Rattle.unit_plan.proofs.choice.choose.Goals.{then-free-total-via-then-free-total, then-free-total-via-else-free-total+then-longest_run-need}

abbrev longest_of : List Run → ℕ
longest_of runs = fold (λ most run. max most run.count) 0 runs

pub returns-then-free-total-clause-err : goal.returns-then-free-total-clause-err
unfolding longest_run
returns-then-free-total-clause-err c =
    let longest : c.longest-longest_run.result ≡ longest_run c.args.map.now = c.longest-longest_run.ensures ∙ ap longest_of c.in_ok-runs.ensures in
    record {
      missing = λ enough. elim c.then-free-total.branch [
        | then-free-total-via-then-free-total w ↦ omega (arith, w.if-free-total.true, c.total.ensures, c.free_units-free.ensures, enough.units)
        | then-free-total-via-else-free-total+then-longest_run-need w ↦ omega (arith, w.if-longest_run-need.true, longest, enough.run)
      ];
      needed_is = c.total-then-free-total.ensures;
      free_is = c.free_units-free.ensures;
      run_needed_is = refl;
      longest_is = longest;
    }

pub plan_at-requires-clause-inside : goal.plan_at-requires-clause-inside
unfolding longest_run
plan_at-requires-clause-inside c =
    let longest : c.longest-longest_run.result ≡ longest_run c.args.map.now = c.longest-longest_run.ensures ∙ ap longest_of c.in_ok-runs.ensures in
    let lowest : IsLowest c.args.map.now c.args.need.now.system (lowest_long c.args.need.now.system (free_runs c.args.map.now)) =
    lowest_is c.args.map.now c.args.need.now.system (omega (arith, longest, c.if-longest_run-need.false)) in
    omega (arith, lowest.inside, c.first_long.ensures ∙ ap (lowest_long c.args.need.now.system) c.in_ok-runs.ensures)

pub returns-clause-enough : goal.returns-clause-enough
unfolding longest_run
returns-clause-enough c =
    let longest : c.longest-longest_run.result ≡ longest_run c.args.map.now = c.longest-longest_run.ensures ∙ ap longest_of c.in_ok-runs.ensures in
    record { units = omega (arith, c.if-free-total.false, c.total.ensures, c.free_units-free.ensures); run = omega (arith, longest, c.if-longest_run-need.false) }
