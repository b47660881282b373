-- The places of those elements of a list that pass a test.
use Rattle.reiser_volume.proofs.Imports.{◌≡◌, ℕ, ◌+◌, ◌<◌, Bool, true, false, List, [], ◌∷◌, ◌++◌, length, get_or, map, take, filter, Option, Some, None, if◌then◌else◌, refl, sym, ap, subst, ◌∙◌, arith, slice_get, get_or-map, get_or_default, length-map, map-append, append-nil, slice_get_read, slice_get_within, get_or_from_slice_get}
use Rattle.reiser_volume_names.proofs.Lists.{kept_step}

module _ {X : Type 0} (p : X → Bool) (xs : List X) (places : List ℕ) (i : ℕ) (x : X) (within : i < length xs) (at : x ≡ get_or xs i x)
    (before : map (slice_get xs) places ≡ map (λ (y : X). Some y) (filter p (take i xs))) where
  -- one more place where the next element passes
  pub place_more : p x ≡ true → slice_get xs i ≡ Some x → map (slice_get xs) (places ++ i ∷ []) ≡ map (λ (y : X). Some y) (filter p (take (i + 1) xs))
  place_more passes there =
      let step : filter p (take (i + 1) xs) ≡ filter p (take i xs) ++ x ∷ [] = kept_step p xs i x within at ∙ ap (λ (b : Bool). filter p (take i xs) ++ (if b then x ∷ [] else [])) passes in
      map-append (slice_get xs) places (i ∷ [])
      ∙ (ap (λ (l : List (Option X)). l ++ slice_get xs i ∷ []) before
      ∙ (ap (λ (o : Option X). map (λ (y : X). Some y) (filter p (take i xs)) ++ o ∷ []) there
      ∙ (sym (map-append (λ (y : X). Some y) (filter p (take i xs)) (x ∷ [])) ∙ ap (map (λ (y : X). Some y)) (sym step))))

  -- and none where it doesn't
  pub place_same : p x ≡ false → map (slice_get xs) places ≡ map (λ (y : X). Some y) (filter p (take (i + 1) xs))
  place_same fails =
      let step : filter p (take (i + 1) xs) ≡ filter p (take i xs) ++ [] = kept_step p xs i x within at ∙ ap (λ (b : Bool). filter p (take i xs) ++ (if b then x ∷ [] else [])) fails in
      before ∙ ap (map (λ (y : X). Some y)) (sym (step ∙ append-nil (filter p (take i xs))))

module _ {X : Type 0} (xs ys : List X) (places : List ℕ) (at : map (slice_get xs) places ≡ map (λ (y : X). Some y) ys) where
  -- as many places as elements
  pub as_many : length places ≡ length ys
  as_many = sym (length-map places (slice_get xs)) ∙ (ap length at ∙ length-map ys (λ (y : X). Some y))

  -- each has its element
  pub place_there : (i p : ℕ) (y : X) → slice_get places i ≡ Some p → slice_get ys i ≡ Some y → slice_get xs p ≡ Some y
  place_there i p y place is =
      let within = slice_get_within places i p place in
      let inside = slice_get_within ys i y is in
      let left : get_or (map (slice_get xs) places) i None ≡ slice_get xs (get_or places i p) = get_or-map (slice_get xs) places i p None within in
      let right : get_or (map (λ (z : X). Some z) ys) i None ≡ Some (get_or ys i y) = get_or-map (λ (z : X). Some z) ys i y None inside in
      sym (ap (slice_get xs) (get_or_from_slice_get places i p p place))
      ∙ (sym left ∙ (ap (λ (l : List (Option X)). get_or l i None) at ∙ (right ∙ ap (λ (z : X). Some z) (get_or_from_slice_get ys i y y is))))

  -- and is inside
  pub inside : (i p : ℕ) → i < length ys → slice_get places i ≡ Some p → p < length xs
  inside i p within place = by ys refl within
    where
      by : (zs : List X) → zs ≡ ys → i < length zs → p < length xs
      by [] same within = absurd (omega (arith, within))
      by (z ∷ zs) same within =
          let below : i < length ys = subst (λ (l : List X). i < length l) same within in
          slice_get_within xs p (get_or ys i z) (place_there i p (get_or ys i z) place (slice_get_read ys (length ys) i (get_or ys i z) refl below (get_or_default ys i z (get_or ys i z) below)))
