use Rattle.volume_state.proofs.Imports.{◌≤◌, ◌<◌, ℕ, subst, TellsBetween}
use Rattle.volume_state.proofs.Lying.{in_one}
use Rattle.volume_state.proofs.reserved.reserved_between.Goals as goal

pub returns : goal.returns
returns c =
    in_one c.args.first c.args.end c.args.blocks c.first_in-4.result c.in_default.ensures c.in_default-first_in.ensures c.in_default-first_in-2.ensures
    (subst (λ (n : ℕ). TellsBetween (λ b. (n ≤ b) × (b < c.args.blocks)) c.args.first c.args.end c.first_in-4.result) c.usable_end.ensures c.first_in-4.ensures)
