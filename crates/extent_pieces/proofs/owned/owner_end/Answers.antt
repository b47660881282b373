use Rattle.extent_pieces.proofs.Imports.{◌-◌, ◌∙◌, ℕ, Option, sym, ap, arith, end_of_run, end_is, advanced, is_owner}
use Rattle.extent_pieces.proofs.Owning.{Holds, holds, run_end, run_small}
use Rattle.extent_pieces.proofs.owned.owner_end.Goals as goal

pub returns-in-Some-clause-end : goal.returns-in-Some-clause-end
returns-in-Some-clause-end c = λ owner tells.
    let own = c.in-Some.ensures.owner owner tells in
    let is : Holds c.args.b c.in-Some.run' = holds c.args.b c.in-Some.run' c.in-Some.ensures.holds in
    let small = run_small c.args.runs.now owner c.in-Some.run' tells own.0 in
    end_is (λ k. is_owner (owner k) (advanced (owner c.args.b) (k - c.args.b))) c.args.b c.args.end c.min.result
    (run_end c.args.runs.now owner c.args.b c.args.end c.min.result c.in-Some.run' tells own.0 is c.requires.order
    (omega (arith, c.min.ensures)) (omega (arith, c.min.ensures, c.saturating_add.ensures, small)) (omega (arith, c.min.ensures, c.saturating_add.ensures, small, is.high, c.requires.order))
    (λ h. omega (arith, c.min.ensures, c.saturating_add.ensures, small)))

pub returns-in-None-clause-end : goal.returns-in-None-clause-end
returns-in-None-clause-end c = λ owner tells.
    let none = c.in-None.ensures.owner owner tells in
    c.next_first.ensures.end owner tells none
    ∙ ap (λ (o : Option (ℕ × ℕ)). end_of_run (λ k. is_owner (owner k) (advanced o (k - c.args.b))) c.args.b c.args.end) (sym none)
