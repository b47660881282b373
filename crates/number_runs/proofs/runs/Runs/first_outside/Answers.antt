use Rattle.number_runs.proofs.Imports.{◌&&◌, ◌≡◌, Some, not, subst, sym, ◌∙◌, AreParted, IsFirst, is_among}
use Rattle.number_runs.proofs.Finding.{found_first}
use Rattle.number_runs.proofs.runs.Runs.first_outside.Goals as goal

pub returns-in-Some : goal.returns-in-Some
returns-in-Some c =
    let e : c.deref-run-items.result.now ≡ c.args.self.now = c.deref-run-items.ensures.value ∙ c.self.view_is in
    subst (λ l. IsFirst (λ n. is_among l n && not (is_among c.args.others.now n)) (Some c.in-Some.n)) e
    (found_first c.deref-run-items.result.now (λ n. not (is_among c.args.others.now n)) c.loop-run.run-index c.in-Some.n (record { first = 0; last = 0 }) (subst AreParted (sym c.deref-run-items.ensures.value) c.self.invariant) c.loop-run-test.true c.loop-run.invariant c.in-Some.ensures)
