-- Marks that are kept of files.
use Rattle.reiser_volume.proofs.Imports.{◌≡◌, ℕ, ◌<◌, List, Option, Some, None, get_or, set, length, replicate, subst, sym, ⊎_elim, arith, get_or-set_same, get_or-set_other, cases_lt, slice_get, Image, ObjectKey, AreKeptMarks, IsKeptMark, get_or-replicate, get_or_past, length-replicate}

abbrev no_mark : Option (List ℕ)
no_mark = None

none_at : (n i : ℕ) → get_or (replicate n no_mark) i no_mark ≡ no_mark
none_at n i =
    let long : length (replicate n no_mark) ≡ n = length-replicate n no_mark in
    ⊎_elim
    (λ within. get_or-replicate n i no_mark no_mark within)
    (λ past. get_or_past (replicate n no_mark) i no_mark (omega (arith, past, long)))
    (cases_lt i n)

-- where none is kept
pub none_kept : (image : Image) (keys : List ObjectKey) (n : ℕ) → AreKeptMarks image keys (replicate n None)
none_kept image keys n = λ i key there. subst (IsKeptMark image key) (sym (none_at n i)) tt

module _ (image : Image) (keys : List ObjectKey) (marks : List (Option (List ℕ))) (place : ℕ) (mark : List ℕ) (within : place < length marks) (before : AreKeptMarks image keys marks)
    (own : (key : ObjectKey) → slice_get keys place ≡ Some key → IsKeptMark image key (Some mark)) where
  abbrev kept_at : ℕ → ObjectKey → Type 0
  kept_at i key = IsKeptMark image key (get_or (set marks place (Some mark)) i None)

  other : (i : ℕ) (key : ObjectKey) → slice_get keys i ≡ Some key → ¬ (i ≡ place) → kept_at i key
  other i key there apart = subst (IsKeptMark image key) (sym (get_or-set_other marks place i (Some mark) None apart)) (before i key there)

  same : (i : ℕ) (key : ObjectKey) → slice_get keys i ≡ Some key → i ≡ place → kept_at i key
  same i key there is =
      subst (λ (k : ℕ). kept_at k key) (sym is) (subst (IsKeptMark image key) (sym (get_or-set_same marks place (Some mark) None within)) (own key (subst (λ (k : ℕ). slice_get keys k ≡ Some key) is there)))

  -- where one more is kept
  pub one_kept : AreKeptMarks image keys (set marks place (Some mark))
  one_kept = λ i key there.
      ⊎_elim
      (λ less. other i key there (λ is. omega (arith, less, is)))
      (λ not_less. ⊎_elim
      (λ more. other i key there (λ is. omega (arith, more, is)))
      (λ not_more. same i key there (omega (arith, not_less, not_more)))
      (cases_lt place i))
      (cases_lt i place)
