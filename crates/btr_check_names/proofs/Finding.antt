-- Entries that are found by the hashes of their names.
use Rattle.btr_check_names.proofs.Imports.{◌≡◌, ◌≢◌, ℕ, ◌+◌, ◌<◌, ◌≤◌, ◌⊎◌, inl, inr, ⊎_elim, Bool, true, false, List, [], ◌∷◌, length, get_or, filter, refl, sym, ap, ◌∙◌, subst, arith, Option, Some, None, eq-eqb, cases_lt, true≢false, All-contains, All-filter, All-get_or, All-weaker, All-permutation, Contains-permutation, get_or_from_slice_get, slice_get-get_or, slice_get_within, Decides, AllPairs, Contains, slice_get, IsPermutation, extref_hash, has_hash, hash_at, hashes_from, DifferInName, IndexEntry, dir_of, HasName, IsNamedAt, NoneNamedBut, HashAt, MatchOption, is_some, PairsAt}
use Rattle.std.specs.List.{All}
use Rattle.btr_check_names.proofs.Hashing.{hash_there, numbers_within}
use Rattle.btr_check_names.proofs.Permuting.{Contains_filter, any_of}

-- ---- one entry

pub found : (entries : List IndexEntry) (dir : ℕ) (name : List ℕ) (i : ℕ) (r : Bool) → i < length entries → ((e : IndexEntry) → slice_get entries i ≡ Some e → Decides r (HasName dir name e)) → r ≡ true → IsNamedAt entries dir name i
found entries dir name i r within tells is =
    let d : IndexEntry = any_of entries i within in
    let there = slice_get-get_or entries i d within in
    (get_or entries i d, there, (tells (get_or entries i d) there).0 is)

pub other : (entries : List IndexEntry) (dir : ℕ) (name : List ℕ) (i : ℕ) (r : Bool) → ((e : IndexEntry) → slice_get entries i ≡ Some e → Decides r (HasName dir name e)) → r ≡ false → ¬ IsNamedAt entries dir name i
other entries dir name i r tells is at = true≢false (sym ((tells at.0 at.1).1 at.2) ∙ is)

-- ---- those of a hash

module _ (entries : List IndexEntry) (keys : List HashAt) (keyed : IsPermutation (hashes_from 0 entries) keys) where
  pub number_within : (hash : ℕ) (items : List HashAt) (n : ℕ) (d : HashAt) → items ≡ filter (has_hash hash) keys → n < length items → (get_or items n d).number < length entries
  number_within hash items n d are within =
      let all : All (λ (k : HashAt). k.number < length entries) (hashes_from 0 entries) =
      All-weaker (λ (k : HashAt). k.number < 0 + length entries) (λ (k : HashAt). k.number < length entries) (λ k less. omega arith) (hashes_from 0 entries) (numbers_within 0 entries) in
      All-get_or (λ (k : HashAt). k.number < length entries) items n d within
      (subst (All (λ (k : HashAt). k.number < length entries)) (sym are) (All-filter (has_hash hash) (λ (k : HashAt). k.number < length entries) keys (All-permutation (λ (k : HashAt). k.number < length entries) (hashes_from 0 entries) keys keyed all)))

  key_there : (i : ℕ) (e : IndexEntry) → slice_get entries i ≡ Some e → Contains keys (hash_at i e)
  key_there i e there =
      let same : 0 + i ≡ i = omega arith in
      Contains-permutation (hashes_from 0 entries) keys (hash_at i e) keyed
      (subst (λ (k : HashAt). Contains (hashes_from 0 entries) k) (ap (λ (n : ℕ). hash_at n (get_or entries i e)) same ∙ ap (hash_at i) (get_or_from_slice_get entries i e e there))
      (hash_there 0 entries i e (slice_get_within entries i e there)))

  pub none_found : (but dir : ℕ) (name : List ℕ) (items : List HashAt) → items ≡ filter (has_hash (extref_hash dir name)) keys → All (λ (k : HashAt). k.number ≢ but → ¬ IsNamedAt entries dir name k.number) items
      → NoneNamedBut entries but dir name
  none_found but dir name items are none i not_so at =
      let e : IndexEntry = at.0 in
      let hash : extref_hash e.entry.dir e.entry.name ≡ extref_hash dir name = ap (λ (n : ℕ). extref_hash n e.entry.name) at.2.0 ∙ ap (extref_hash dir) at.2.1 in
      let there : Contains (filter (has_hash (extref_hash dir name)) keys) (hash_at i e) = Contains_filter (has_hash (extref_hash dir name)) keys (hash_at i e) (eq-eqb (extref_hash e.entry.dir e.entry.name) (extref_hash dir name) hash) (key_there i e at.1) in
      All-contains (λ (k : HashAt). k.number ≢ but → ¬ IsNamedAt entries dir name k.number) items (hash_at i e) none (subst (λ (l : List HashAt). Contains l (hash_at i e)) (sym are) there) not_so at

-- ---- names that stand twice

module _ (entries : List IndexEntry) (i : ℕ) (dir : ℕ) (name : List ℕ) (within : i < length entries)
    (dir_is : (e : IndexEntry) → slice_get entries i ≡ Some e → dir ≡ e.entry.dir) (name_is : (e : IndexEntry) → slice_get entries i ≡ Some e → name ≡ e.entry.name) where
  pub stands_twice : (o : Option ℕ) → MatchOption o (NoneNamedBut entries i dir name) (λ j. (j ≢ i) × IsNamedAt entries dir name j) → is_some o ≡ true → ¬ PairsAt dir_of dir DifferInName entries
  stands_twice None has is pairs = absurd (true≢false (sym is))
  stands_twice (Some j) has is pairs =
      let f : IndexEntry = has.1.0 in
      let here = slice_get-get_or entries i f within in
      let e : IndexEntry = get_or entries i f in
      let there : get_or entries j f ≡ f = get_or_from_slice_get entries j f f has.1.1 in
      let inside = slice_get_within entries j f has.1.1 in
      let dirs : e.entry.dir ≡ f.entry.dir = sym (dir_is e here) ∙ sym has.1.2.0 in
      let names : e.entry.name ≡ f.entry.name = sym (name_is e here) ∙ sym has.1.2.1 in
      ⊎_elim (λ less. subst (λ (g : IndexEntry). (dir_of e ≡ dir) ⊎ (dir_of g ≡ dir) → DifferInName e g) there (pairs i j f less inside) (inl (sym (dir_is e here))) (dirs, names))
      (λ not_less. subst (λ (g : IndexEntry). (dir_of g ≡ dir) ⊎ (dir_of e ≡ dir) → DifferInName g e) there (pairs j i f (below i j has.0 not_less) within) (inr (sym (dir_is e here))) (sym dirs, sym names))
      (cases_lt i j)
    where
      below : (i j : ℕ) → j ≢ i → j ≤ i → j < i
      below i j apart le = omega arith

  pub stands_once : (o : Option ℕ) → MatchOption o (NoneNamedBut entries i dir name) (λ j. (j ≢ i) × IsNamedAt entries dir name j) → is_some o ≡ false → (d : IndexEntry) → NoneNamedBut entries i (get_or entries i d).entry.dir (get_or entries i d).entry.name
  stands_once (Some j) has is d = absurd (true≢false is)
  stands_once None none is d =
      let here = slice_get-get_or entries i d within in
      subst (λ (n : ℕ). NoneNamedBut entries i n (get_or entries i d).entry.name) (dir_is (get_or entries i d) here)
      (subst (NoneNamedBut entries i dir) (name_is (get_or entries i d) here) none)

pub all_once : (entries : List IndexEntry) → ((k : ℕ) → k < length entries → (d : IndexEntry) → NoneNamedBut entries k (get_or entries k d).entry.dir (get_or entries k d).entry.name) → AllPairs DifferInName entries
all_once entries once i j d less within same =
    once i (omega arith) d j (λ is. omega arith) (get_or entries j d, slice_get-get_or entries j d within, (sym same.0, sym same.1))
