-- Sums over the pieces at their places.
use Rattle.convert_trees_laws.proofs.Imports.{◌≡◌, ◌≤◌, ℕ, List, [], ◌∷◌, ◌++◌, length, take, drop, sum_by, refl, arith, sum_by-IsPermutation, sum_by-append, sum_by-cons, sum_by-take-drop, WerePlaced, at_place, at_places, blocks_of_units, Piece}
use Rattle.convert_trees_laws.proofs.ItemBytes.{sum-same}

-- what goes by no place
module _ (f : Piece → ℕ) (same : (p : Piece) (b : ℕ) → f (at_place p b) ≡ f p) where
  moved_few : (ps : List Piece) (bs : List ℕ) → sum_by f (at_places ps bs) ≤ sum_by f ps
  moved_few [] bs = omega arith
  moved_few (p ∷ ps) [] = omega arith
  moved_few (p ∷ ps) (b ∷ bs) =
      let one = sum_by-cons f p ps in
      let other = sum_by-cons f (at_place p b) (at_places ps bs) in
      let here = same p b in
      let rest = moved_few ps bs in
      omega (arith, one, other, here, rest)

  pub placed_few : (kept : ℕ) (units : List ℕ) (old new : List Piece) → WerePlaced kept units old new → sum_by f new ≤ sum_by f old
  placed_few kept units old new are =
      let moved : List Piece = at_places (drop kept old) (blocks_of_units units) in
      let all = sum_by-IsPermutation f (take kept old ++ moved) new are.same in
      let parts = sum_by-append f (take kept old) moved in
      let few = moved_few (drop kept old) (blocks_of_units units) in
      let whole = sum_by-take-drop f old kept in
      omega (arith, all, parts, few, whole)

-- their number, and the number of their blocks
pub placed_number : (kept : ℕ) (units : List ℕ) (old new : List Piece) → WerePlaced kept units old new → length new ≤ length old
placed_number kept units old new are =
    let few : sum_by (λ (p : Piece). 1) new ≤ sum_by (λ (p : Piece). 1) old = placed_few (λ p. 1) (λ p b. refl) kept units old new are in
    let one = sum-same {A = Piece} 1 new in
    let other = sum-same {A = Piece} 1 old in
    omega (arith, few, one, other)

pub placed_blocks : (kept : ℕ) (units : List ℕ) (old new : List Piece) → WerePlaced kept units old new → sum_by (λ p. p.count) new ≤ sum_by (λ p. p.count) old
placed_blocks kept units old new are = placed_few (λ p. p.count) (λ p b. refl) kept units old new are
