-- The inodes of objects whose keys ascend.
use Rattle.reiser_volume.proofs.Imports.{◌≡◌, ◌<◌, ◌≤◌, ℕ, zero, suc, ◌+◌, ◌-◌, Bool, true, false, cond, not, ◌&&◌, ◌||◌, List, [], ◌∷◌, filter, get_or, count_by, Option, Some, None, refl, sym, ap, subst, ◌∙◌, if◌then◌else◌, nat_eq, ⊎_elim, arith, slice_get, list_any, IsDistinct, AllByRecursion, is_eq, is_lt, ordering_reverse, cases_lt, nat_tests, Less-from_sorted, slice_get_within, unwrap_or-slice_get, ObjectKey, same_key, root, same_key-self, object_cmp, ino_of_key, object_ties, object_total}
use Rattle.std.specs.Prelude.{unwrap_or}
use Rattle.std.specs.List.Sorted.{IsStrictlySortedBy}
use Rattle.std.specs.declared.cmp.Ordering.TheVariants.{Less}
use Rattle.reiser_volume_names.proofs.Numbering.{place_counts, root_apart}
use Rattle.reiser_volume.specs.Numbers.{by_inode, AreNumbered}

-- keys that ascend differ
sorted_apart : (ks : List ObjectKey) → IsStrictlySortedBy object_cmp ks → IsDistinct same_key ks
unfolding IsDistinct IsStrictlySortedBy
sorted_apart [] sorted = tt
sorted_apart (k ∷ ks) sorted = (each ks sorted.0, sorted_apart ks sorted.1)
  where
    each : (ys : List ObjectKey) → AllByRecursion (λ y. object_cmp k y ≡ Less) ys → AllByRecursion (λ y. same_key k y ≡ false) ys
    each [] all = tt
    each (y ∷ ys) all = (object_ties k y ∙ ap is_eq all.0, each ys all.1)

any_at : (ks : List ObjectKey) (i : ℕ) (key : ObjectKey) → slice_get ks i ≡ Some key → list_any (same_key key) ks ≡ true
any_at [] i key there = let never : None ≡ Some key = there in absurd cc
any_at (k ∷ ks) zero key there = let same : k ≡ key = cc in ap (λ (b : Bool). b || list_any (same_key key) ks) (ap (same_key key) same ∙ same_key-self key)
any_at (k ∷ ks) (suc i) key there = by (same_key key k) (any_at ks i key there)
  where
    by : (b : Bool) → list_any (same_key key) ks ≡ true → (b || list_any (same_key key) ks) ≡ true
    by true rest = refl
    by false rest = rest

-- the earlier of two keys is less
less_at : (ks : List ObjectKey) (i j : ℕ) (a b : ObjectKey) → IsStrictlySortedBy object_cmp ks → i < j → slice_get ks i ≡ Some a → slice_get ks j ≡ Some b → object_cmp a b ≡ Less
less_at ks i j a b sorted before first second =
    let is_a : get_or ks i a ≡ a = sym (unwrap_or-slice_get ks i a) ∙ ap (λ (o : Option ObjectKey). unwrap_or o a) first in
    let is_b : get_or ks j a ≡ b = sym (unwrap_or-slice_get ks j a) ∙ ap (λ (o : Option ObjectKey). unwrap_or o a) second in
    subst (λ (x : ObjectKey). object_cmp x b ≡ Less) is_a
    (subst (λ (y : ObjectKey). object_cmp (get_or ks i a) y ≡ Less) is_b (Less-from_sorted object_cmp ks i j a sorted before (slice_get_within ks j b second)))

behind : (a b : ObjectKey) → object_cmp a b ≡ Less → is_lt (object_cmp b a) ≡ false
behind a b less = ap is_lt (object_total.antisymm b a ∙ ap ordering_reverse less)

other : (a b : ObjectKey) → object_cmp a b ≡ Less → same_key a b ≡ false
other a b less = object_ties a b ∙ ap is_eq less

other_back : (a b : ObjectKey) → object_cmp a b ≡ Less → same_key b a ≡ false
other_back a b less = object_ties b a ∙ ap is_eq (object_total.antisymm b a ∙ ap ordering_reverse less)

module _ (keys : List ObjectKey) (at : ℕ) (numbered : AreNumbered at keys) (place : ℕ) (key : ObjectKey) (there : slice_get keys place ≡ Some key) where
  abbrev before : ObjectKey → Bool
  before k = is_lt (object_cmp k key)

  counted : (b : Bool) → before root ≡ b → count_by (λ k. before k && not (same_key k root)) keys + cond b 1 0 ≡ place
  counted b is =
      ap (λ (c : Bool). count_by (λ k. before k && not (same_key k root)) keys + cond c 1 0) (sym (ap (λ (c : Bool). c && before root) (any_at keys at root numbered.has_root) ∙ is))
      ∙ (root_apart before keys (sorted_apart keys numbered.ascends) ∙ place_counts keys place key numbered.ascends there)

  pub inode_of_root : place ≡ at → ino_of_key keys key ≡ 256
  inode_of_root same =
      let own : Some root ≡ Some key = sym numbered.has_root ∙ (ap (slice_get keys) (sym same) ∙ there) in
      let is : root ≡ key = cc in
      ap (λ (b : Bool). if b then 256 else 257 + count_by (λ k. before k && not (same_key k root)) keys) (ap (λ (k : ObjectKey). same_key k root) (sym is) ∙ same_key-self root)

  pub inode_before : place < at → ino_of_key keys key ≡ 257 + place
  inode_before less =
      let order = less_at keys place at key root numbered.ascends less there numbered.has_root in
      let count = counted false (behind key root order) in
      ap (λ (b : Bool). if b then 256 else 257 + count_by (λ k. before k && not (same_key k root)) keys) (other key root order)
      ∙ omega (arith, count)

  pub inode_behind : at < place → ino_of_key keys key ≡ 256 + place
  inode_behind less =
      let order = less_at keys at place root key numbered.ascends less numbered.has_root there in
      let count = counted true (ap is_lt order) in
      ap (λ (b : Bool). if b then 256 else 257 + count_by (λ k. before k && not (same_key k root)) keys) (other_back root key order)
      ∙ omega (arith, count, less)

-- the keys without the root
abbrev others : List ObjectKey → List ObjectKey
others ks = filter (λ k. not (same_key k root)) ks

all_kept : (ks : List ObjectKey) → AllByRecursion (λ k. object_cmp root k ≡ Less) ks → others ks ≡ ks
all_kept [] all = refl
all_kept (k ∷ ks) all = ap (λ (b : Bool). cond (not b) (k ∷ others ks) (others ks)) (other_back root k all.0) ∙ ap (λ (t : List ObjectKey). k ∷ t) (all_kept ks all.1)

at_place : (P : ObjectKey → Type 0) (ks : List ObjectKey) (i : ℕ) (key : ObjectKey) → AllByRecursion P ks → slice_get ks i ≡ Some key → P key
at_place P [] i key all there = let never : None ≡ Some key = there in absurd cc
at_place P (k ∷ ks) zero key all there = let same : k ≡ key = cc in subst P same all.0
at_place P (k ∷ ks) (suc i) key all there = at_place P ks i key all.1 there

-- a key before the root has its place, and one behind it the place before
pub others_before : (ks : List ObjectKey) (at n : ℕ) → IsStrictlySortedBy object_cmp ks → slice_get ks at ≡ Some root → n < at → slice_get (others ks) n ≡ slice_get ks n
unfolding IsStrictlySortedBy
others_before [] at n sorted there less = let never : None ≡ Some root = there in absurd cc
others_before (k ∷ ks) zero n sorted there less = absurd (omega (arith, less))
others_before (k ∷ ks) (suc at) zero sorted there less =
    let order : object_cmp k root ≡ Less = at_place (λ y. object_cmp k y ≡ Less) ks at root sorted.0 there in
    ap (λ (b : Bool). slice_get (cond (not b) (k ∷ others ks) (others ks)) 0) (other k root order)
others_before (k ∷ ks) (suc at) (suc n) sorted there less =
    let order : object_cmp k root ≡ Less = at_place (λ y. object_cmp k y ≡ Less) ks at root sorted.0 there in
    ap (λ (b : Bool). slice_get (cond (not b) (k ∷ others ks) (others ks)) (suc n)) (other k root order)
    ∙ others_before ks at n sorted.1 there (omega (arith, less))

pub others_behind : (ks : List ObjectKey) (at n : ℕ) → IsStrictlySortedBy object_cmp ks → slice_get ks at ≡ Some root → at ≤ n → slice_get (others ks) n ≡ slice_get ks (suc n)
unfolding IsStrictlySortedBy
others_behind [] at n sorted there less = let never : None ≡ Some root = there in absurd cc
others_behind (k ∷ ks) zero n sorted there less =
    let same : k ≡ root = cc in
    ap (λ (b : Bool). slice_get (cond (not b) (k ∷ others ks) (others ks)) n) (ap (λ (x : ObjectKey). same_key x root) same ∙ same_key-self root)
    ∙ ap (λ (t : List ObjectKey). slice_get t n) (all_kept ks (subst (λ (x : ObjectKey). AllByRecursion (λ y. object_cmp x y ≡ Less) ks) same sorted.0))
others_behind (k ∷ ks) (suc at) zero sorted there less = absurd (omega (arith, less))
others_behind (k ∷ ks) (suc at) (suc n) sorted there less =
    let order : object_cmp k root ≡ Less = at_place (λ y. object_cmp k y ≡ Less) ks at root sorted.0 there in
    ap (λ (b : Bool). slice_get (cond (not b) (k ∷ others ks) (others ks)) (suc n)) (other k root order)
    ∙ others_behind ks at n sorted.1 there (omega (arith, less))

module _ (keys : List ObjectKey) (at : ℕ) (numbered : AreNumbered at keys) where
  pub place_before : (n : ℕ) → 0 < n → n ≤ at → slice_get keys (n - 1) ≡ slice_get (by_inode keys) n
  place_before zero some less = absurd (omega (arith, some))
  place_before (suc n) some less =
      let one : suc n - 1 ≡ n = omega arith in
      ap (slice_get keys) one ∙ sym (others_before keys at n numbered.ascends numbered.has_root (omega (arith, less)))

  pub place_behind : (n : ℕ) → at < n → slice_get keys n ≡ slice_get (by_inode keys) n
  place_behind zero more = absurd (omega (arith, more))
  place_behind (suc n) more = sym (others_behind keys at n numbered.ascends numbered.has_root (omega (arith, more)))

  same_place : (place : ℕ) → nat_eq place at ≡ true → place ≡ at
  same_place place equal = grind (arith, nat_tests)

  apart : (place : ℕ) → nat_eq place at ≡ false → at ≤ place → at < place
  apart place not_same more = grind (arith, nat_tests)

  pub root_at : (place : ℕ) (key : ObjectKey) → slice_get keys place ≡ Some key → nat_eq place at ≡ same_key key root
  root_at place key there = by (nat_eq place at) refl
    where
      by : (b : Bool) → nat_eq place at ≡ b → b ≡ same_key key root
      by true is =
          let same : place ≡ at = same_place place is in
          let own : Some root ≡ Some key = sym numbered.has_root ∙ (ap (slice_get keys) (sym same) ∙ there) in
          let key_is : root ≡ key = cc in
          sym (ap (λ (k : ObjectKey). same_key k root) (sym key_is) ∙ same_key-self root)
      by false is = ⊎_elim
          (λ less. sym (other key root (less_at keys place at key root numbered.ascends less there numbered.has_root)))
          (λ more. sym (other_back root key (less_at keys at place root key numbered.ascends (apart place is more) numbered.has_root there)))
          (cases_lt place at)
