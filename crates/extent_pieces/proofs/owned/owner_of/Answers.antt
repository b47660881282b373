use Rattle.extent_pieces.proofs.Imports.{◌≡◌, ◌-◌, ◌+◌, ◌∙◌, ℕ, Option, Some, sym, ap, arith}
use Rattle.extent_pieces.proofs.Owning.{held_low}
use Rattle.extent_pieces.proofs.owned.owner_of.Goals as goal

pub returns-in-Some : goal.returns-in-Some
returns-in-Some c = λ owner tells.
    let own = c.in-Some.ensures.owner owner tells in
    let low = held_low c.args.runs.now owner c.args.b c.in-Some.run' tells own.0 c.in-Some.ensures.holds in
    ap (λ (n : ℕ). let o : Option (ℕ × ℕ) = Some (c.in-Some.run'.inode, n) in o) (let e : c.saturating_add.result ≡ c.in-Some.run'.at + (c.args.b - c.in-Some.run'.first) = omega (arith, c.saturating_add.ensures, low) in e) ∙ sym own.1

pub returns-in-None : goal.returns-in-None
returns-in-None c = λ owner tells. sym (c.in-None.ensures.owner owner tells)
