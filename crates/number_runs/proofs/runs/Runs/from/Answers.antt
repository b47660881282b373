use Rattle.number_runs.proofs.Imports.{List, arith, length, sym, ap, subst, ◌<◌, ◌≤◌, ◌∙◌, IsRunFrom, is_among, Run}
use Rattle.number_runs.proofs.Finding.{IsPlaceOf, none_from, run_from}
use Rattle.number_runs.proofs.runs.Runs.from.Goals as goal

pub returns-then-at-len : goal.returns-then-at-len
returns-then-at-len c =
    let runs : List Run = c.self.inside.runs.items in
    let at : c.ended-at.result < length runs = omega (arith, c.deref.ensures.len, ap length c.deref.ensures.value) in
    let place : IsPlaceOf runs c.args.number c.ended-at.result = subst (λ l. IsPlaceOf l c.args.number c.ended-at.result) c.deref.ensures.value c.ended-at.ensures in
    subst (λ l. IsRunFrom (is_among l) c.args.number c.index.result.now) c.self.view_is
    (subst (IsRunFrom (is_among runs) c.args.number) (sym c.index.ensures) (run_from runs c.args.number c.ended-at.result c.index.result.now c.self.invariant place at))

pub returns-else-at-len : goal.returns-else-at-len
returns-else-at-len c = λ m low.
    let runs : List Run = c.self.inside.runs.items in
    let past : length runs ≤ c.ended-at.result = omega (arith, c.deref.ensures.len, ap length c.deref.ensures.value) in
    let place : IsPlaceOf runs c.args.number c.ended-at.result = subst (λ l. IsPlaceOf l c.args.number c.ended-at.result) c.deref.ensures.value c.ended-at.ensures in
    ap (λ l. is_among l m) (sym c.self.view_is) ∙ none_from runs c.args.number c.ended-at.result place past m low
