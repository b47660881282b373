-- The items behind a place, step by step.
use Rattle.reiser_make.proofs.Imports.{◌≡◌, ◌≤◌, ◌<◌, ℕ, zero, suc, ◌+◌, ◌-◌, [], ◌∷◌, ◌++◌, length, refl, sym, ap, ◌∙◌, arith, Some, None, slice_get, items_of_name, items_from, items, Shape, object_count, rest_of, items_behind, SampleItem, ItemPlace}
use Rattle.reiser_make.proofs.Lists.{drop_some, drop_none}

abbrev pub at_place : ℕ → ℕ → ItemPlace
at_place object part = record { object = object; part = part }

-- the items from an object on, without any left out
whole_rest : (s : Shape) (o n : ℕ) → items_from s o n ≡ rest_of s o 0 n
whole_rest s o zero = refl
whole_rest s o (suc n) = refl

pub behind_item : (s : Shape) (o p : ℕ) (item : SampleItem) → o < object_count (length s.names) → slice_get (items_of_name s o) p ≡ Some item
    → items_behind s (at_place o p) ≡ item ∷ items_behind s (at_place o (p + 1))
unfolding items_behind
behind_item s o p item lt is =
    let left : ℕ = object_count (length s.names) - (o + 1) in
    let counted : object_count (length s.names) - o ≡ suc left = omega arith in
    ap (rest_of s o p) counted ∙ ap (λ z. z ++ items_from s (o + 1) left) (drop_some (items_of_name s o) p item is) ∙ sym (ap (λ n. item ∷ rest_of s o (p + 1) n) counted)

pub behind_none : (s : Shape) (o p : ℕ) → o < object_count (length s.names) → slice_get (items_of_name s o) p ≡ None
    → items_behind s (at_place o p) ≡ items_behind s (at_place (o + 1) 0)
unfolding items_behind
behind_none s o p lt is =
    let left : ℕ = object_count (length s.names) - (o + 1) in
    let counted : object_count (length s.names) - o ≡ suc left = omega arith in
    ap (rest_of s o p) counted ∙ ap (λ z. z ++ items_from s (o + 1) left) (drop_none (items_of_name s o) p is) ∙ whole_rest s (o + 1) left

pub behind_end : (s : Shape) (o p : ℕ) → object_count (length s.names) ≤ o → items_behind s (at_place o p) ≡ []
unfolding items_behind
behind_end s o p end = ap (rest_of s o p) (let none : object_count (length s.names) - o ≡ 0 = omega arith in none)

pub behind_first : (s : Shape) → items_behind s (at_place 0 0) ≡ items s
unfolding items_behind items
behind_first s =
    ap (rest_of s 0 0) (let same : object_count (length s.names) - 0 ≡ object_count (length s.names) = omega arith in same)
    ∙ sym (whole_rest s 0 (object_count (length s.names)))
