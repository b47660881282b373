use Rattle.reiser_make.proofs.Imports.{◌≡◌, ◌∙◌, ℕ, ◌+◌, ◌*◌, ◌/◌, ◌%◌, ap, refl}
use Rattle.std.proofs.Math.Nat.{mod-add-mod}
use Rattle.reiser_make.specs.Draw.{next_state, drawn}
use Rattle.reiser_make.proofs.draw.Draws.draw.Goals as goal

next_is : (s : ℕ) → (s * 6364136223846793005 % 18446744073709551616 + 1442695040888963407) % 18446744073709551616 ≡ next_state s
unfolding next_state
next_is s = mod-add-mod (s * 6364136223846793005) 18446744073709551616 1442695040888963407

drawn_is : (m s : ℕ) → s / 8589934592 % m ≡ drawn m s
unfolding drawn
drawn_is m s = refl

pub returns-clause-state : goal.returns-clause-state
returns-clause-state c = next_is c.args.self.now.state

pub returns-clause-value : goal.returns-clause-value
returns-clause-value c = ap (λ s. s / 8589934592 % c.args.below) (next_is c.args.self.now.state) ∙ drawn_is c.args.below (next_state c.args.self.now.state)
