use Rattle.extent_pieces.proofs.Imports.{◌≡◌, ◌-◌, ◌∙◌, ℕ, Option, Some, ap, Piece}
use Rattle.extent_pieces.proofs.divide.kept_piece.Goals as goal

same_piece : (b e f : ℕ) (o q : Option (ℕ × ℕ)) → e ≡ f → o ≡ q
    → (let p : Piece = record { from = Some b; count = e - b; owner = o; place = b } in p) ≡ record { from = Some b; count = f - b; owner = q; place = b }
same_piece b e f o q ends owners =
    ap (λ (n : ℕ). let p : Piece = record { from = Some b; count = n - b; owner = o; place = b } in p) ends
    ∙ ap (λ (r : Option (ℕ × ℕ)). let p : Piece = record { from = Some b; count = f - b; owner = r; place = b } in p) owners

pub returns-clause-exact : goal.returns-clause-exact
returns-clause-exact c = λ owner tells. same_piece c.args.b c.kept_end.result _ c.owner_of.result _ (c.kept_end.ensures.exact owner tells) (c.owner_of.ensures owner tells)
