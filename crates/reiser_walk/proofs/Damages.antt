-- A rule that fails is among the damages.
use Rattle.reiser_walk.proofs.Imports.{◌≡◌, ℕ, Bool, false, ◌++◌, Contains, refl, arith, Contains-append_left, Contains-append_right, Damaged, Rule, KeyOrder, Body, unless}

pub unless_in : (test : Bool) (b : ℕ) (r : Rule) → test ≡ false → Contains (unless test b r) (Damaged b r)
unless_in test b r e = rw e (0, omega arith, refl)

pub order_in : (above body : Bool) (b : ℕ) → above ≡ false → Contains (unless above b KeyOrder ++ unless body b Body) (Damaged b KeyOrder)
order_in above body b e = Contains-append_left _ _ _ (unless_in above b KeyOrder e)

pub body_in : (above body : Bool) (b : ℕ) → body ≡ false → Contains (unless above b KeyOrder ++ unless body b Body) (Damaged b Body)
body_in above body b e = Contains-append_right (unless above b KeyOrder) _ _ (unless_in body b Body e)
