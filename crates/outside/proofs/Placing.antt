-- Blocks that are written to their places, one after the other: each of a list of things that have a place and bytes.
use Rattle.outside.proofs.Imports.{◌≡◌, ◌≢◌, ℕ, ◌+◌, ◌<◌, true, List, [], ◌∷◌, length, take, set, get_or, Result, OnOk, refl, sym, ◌∙◌, ap, subst, arith, get_or-set_same, get_or-set_other, All, AllPairs, Any, get_or-take, get_or_default, length-take, Image, History, wrote, block_at, reads, WritesBlock, Syncs, WritesOnly}
use Rattle.std.proofs.lemmas.List.Elements.{All-more}
use Rattle.outside.proofs.Crash.{write_only, sync_only, writes_then}
use Rattle.outside.proofs.Phases.{on_ok, sync_reads}

module _ {X : Type 0} (at : X → ℕ) (bytes : X → List ℕ) (xs : List X) where
  -- one of them goes to block b
  abbrev pub IsPlaceOf : ℕ → Type 0
  IsPlaceOf b = Any (λ x. b ≡ at x) xs

  -- this one stands in its place
  abbrev pub Stands : Image → X → Type 0
  Stands image x = block_at image (at x) ≡ bytes x

  pub has_place : (i : ℕ) (d : X) → i < length xs → IsPlaceOf (at (get_or xs i d))
  has_place i d inside = (i, get_or xs i d, inside, get_or_default xs i (get_or xs i d) d inside, refl)

  module _ (i : ℕ) (d : X) (image : Image) (inside : i < length xs) (apart : AllPairs (λ p q. at p ≢ at q) xs) where
    abbrev here : X
    here = get_or xs i d

    -- those before stay
    earlier : All (Stands image) (take i xs) → All (Stands (set image (at here) (bytes here))) (take i xs)
    earlier has k e below =
        let early : k < i = omega (arith, below, length-take i xs) in
        let read : here ≡ get_or xs i e = get_or_default xs i d e inside in
        let same : get_or (take i xs) k e ≡ get_or xs k e = get_or-take i xs k e early in
        let other : at (get_or (take i xs) k e) ≢ at here = λ eq. apart k i e early inside (ap at (sym same) ∙ eq ∙ ap at read) in
        get_or-set_other image (at here) (at (get_or (take i xs) k e)) (bytes here) [] other ∙ has k e below

    more_in : All (λ x. at x < length image) xs → All (Stands image) (take i xs) → All (Stands (set image (at here) (bytes here))) (take (i + 1) xs)
    more_in fits has = All-more (Stands (set image (at here) (bytes here))) xs i d inside (earlier has) (get_or-set_same image (at here) (bytes here) [] (fits i d inside))

  -- one more stands in its place
  pub stand_more : (i : ℕ) (d : X) (n : ℕ) (old new : History) → i < length xs → AllPairs (λ p q. at p ≢ at q) xs → n ≡ length (reads old) → All (λ x. at x < n) xs
      → new ≡ record { start = old.start; calls = wrote (at (get_or xs i d)) (bytes (get_or xs i d)) true ∷ old.calls } → All (Stands (reads old)) (take i xs) → All (Stands (reads new)) (take (i + 1) xs)
  stand_more i d n old new inside apart size fits is has =
      subst (λ (image : Image). All (Stands image) (take (i + 1) xs)) (sym (ap reads is))
      (more_in i d (reads old) inside apart (subst (λ (k : ℕ). All (λ x. at x < k) xs) size fits) has)

  -- all stand behind the sync
  pub stand_all : (i : ℕ) (old new : History) {T E : Type 0} (result : Result T E) → take i xs ≡ xs → Syncs old result new → All (Stands (reads old)) (take i xs) → OnOk result (All (Stands (reads new)) xs)
  stand_all i old new result whole effect has =
      on_ok result _
      (subst (λ (image : Image). All (Stands image) xs) (sym (sync_reads old new result effect)) (subst (λ (ys : List X). All (Stands (reads old)) ys) whole has))
