-- An extent's item tells of the uses of its range: where there is one, and where there are two by different trees.
use Rattle.convert_core_laws.proofs.Imports.{◌≡◌, ◌≢◌, ◌⊎◌, ℕ, eqb, Bool, true, List, [], ◌∷◌, refl, sym, ap, subst, ◌∙◌, ⊎_elim, arith, ◌&&◌, false, Contains, and_from, and_parts, eq-eqb, eqb-true, false_from_ne_true, All-cons, All-nil, AllPairs-cons, EXTENT_FLAG_DATA, EXTENT_ITEM, at_head, in_tail, Item, DataUse, Recount, data_uses, CountsUses, TellsRefs, IsDataItem, is_of_range, is_use, InlineRef, DataRef, AreDistinct, one_passes, two_pass}
use Rattle.btr_check_rules.specs.Extents.{same_ref}
use Rattle.std.specs.List.{count_by}
use Rattle.btr_check_rules.proofs.Refs.{alike}

-- the reference that a use is
abbrev pub ref_of : DataUse → InlineRef
ref_of u = DataRef u.tree u.inode u.offset 1

in_range : (u v : DataUse) → v.start ≡ u.start → v.length ≡ u.length → is_of_range u.start u.length v ≡ true
in_range u v one two = and_from (eqb v.start u.start) (eqb v.length u.length) (eq-eqb v.start u.start one) (eq-eqb v.length u.length two)

range_is : (u v : DataUse) → is_of_range u.start u.length v ≡ true → (v.start ≡ u.start) × (v.length ≡ u.length)
range_is u v t =
    let parts = and_parts (eqb v.start u.start) (eqb v.length u.length) t in (eqb-true v.start u.start parts.0, eqb-true v.length u.length parts.1)

abbrev is_same : DataUse → DataUse → Bool
is_same u v = is_use u.start u.length u.tree u.inode u.offset v

itself : (u : DataUse) → is_same u u ≡ true
itself u =
    and_from (eqb u.start u.start) _ (eq-eqb u.start u.start refl)
    (and_from (eqb u.length u.length) _ (eq-eqb u.length u.length refl)
    (and_from (eqb u.tree u.tree) _ (eq-eqb u.tree u.tree refl) (and_from (eqb u.inode u.inode) (eqb u.offset u.offset) (eq-eqb u.inode u.inode refl) (eq-eqb u.offset u.offset refl))))

-- what the test of a use says
record Same (u v : DataUse) : Type 0 where
  start_is : v.start ≡ u.start
  length_is : v.length ≡ u.length
  tree_is : v.tree ≡ u.tree

same_parts : (u v : DataUse) → is_same u v ≡ true → Same u v
same_parts u v t =
    let last : Bool = eqb v.inode u.inode && eqb v.offset u.offset in
    let one = and_parts (eqb v.start u.start) (eqb v.length u.length && (eqb v.tree u.tree && last)) t in
    let two = and_parts (eqb v.length u.length) (eqb v.tree u.tree && last) one.1 in
    let three = and_parts (eqb v.tree u.tree) last two.1 in
    record { start_is = eqb-true v.start u.start one.0; length_is = eqb-true v.length u.length two.0; tree_is = eqb-true v.tree u.tree three.0 }

abbrev Differ : InlineRef → InlineRef → Type 0
Differ a b = same_ref a b ≡ false

module _ (r : Recount) (once : AreDistinct (data_uses r)) (i : Item) where
  -- a reference counts one use, where no other use of its range is by its tree
  counts : (start length : ℕ) (u : DataUse) → u.start ≡ start → u.length ≡ length → Contains (data_uses r) u
      → ((v : DataUse) → Contains (data_uses r) v → v.start ≡ u.start → v.length ≡ u.length → v.tree ≡ u.tree → u ≡ v) → CountsUses r start length (ref_of u)
  counts start length u one two h only =
      let count : count_by (is_same u) (data_uses r) ≡ 1 =
      one_passes (is_same u) (data_uses r) u once h (itself u) (λ v l t. let same = same_parts u v t in only v l same.start_is same.length_is same.tree_is) in
      let here : count_by (is_use start length u.tree u.inode u.offset) (data_uses r) ≡ 1 =
      subst (λ (s : ℕ). count_by (is_use s length u.tree u.inode u.offset) (data_uses r) ≡ 1) one
      (subst (λ (n : ℕ). count_by (is_use u.start n u.tree u.inode u.offset) (data_uses r) ≡ 1) two count) in
      (λ e. omega (arith, e), here)

  -- one use
  pub one_ref : (u : DataUse) → Contains (data_uses r) u → i.0 ≡ record { objectid = u.start; kind = EXTENT_ITEM; offset = u.length } → TellsRefs r.super.generation i.1 EXTENT_FLAG_DATA 1 (ref_of u ∷ [])
      → ((v : DataUse) → Contains (data_uses r) v → v.start ≡ u.start → v.length ≡ u.length → u ≡ v) → IsDataItem r i
  one_ref u h key body only =
      let refs : List InlineRef = ref_of u ∷ [] in
      let count : count_by (is_of_range u.start u.length) (data_uses r) ≡ 1 =
      one_passes (is_of_range u.start u.length) (data_uses r) u once h (in_range u u refl refl) (λ v l t. let parts = range_is u v t in only v l parts.0 parts.1) in
      record {
        is_use = u;
        used = h;
        key = key;
        refs = refs;
        body = subst (λ (n : ℕ). TellsRefs r.super.generation i.1 EXTENT_FLAG_DATA n refs) (sym count) body;
        each = All-cons (CountsUses r u.start u.length) (ref_of u) [] (counts u.start u.length u refl refl h (λ v l s n t. only v l s n)) (All-nil (CountsUses r u.start u.length));
        once = λ a b d l k. absurd (omega (arith, l, k));
        whole = λ v l s n. (1, subst (λ (w : DataUse). Contains refs (ref_of w)) (only v l s n) (at_head (ref_of u) []));
      }

  -- two uses, by different trees
  pub two_refs : (u w : DataUse) → Contains (data_uses r) u → Contains (data_uses r) w → w.start ≡ u.start → w.length ≡ u.length → u.tree ≢ w.tree
      → i.0 ≡ record { objectid = u.start; kind = EXTENT_ITEM; offset = u.length } → TellsRefs r.super.generation i.1 EXTENT_FLAG_DATA 2 (ref_of u ∷ (ref_of w ∷ []))
      → ((v : DataUse) → Contains (data_uses r) v → v.start ≡ u.start → v.length ≡ u.length → (u ≡ v) ⊎ (w ≡ v)) → IsDataItem r i
  two_refs u w h k start length apart key body only =
      let refs : List InlineRef = ref_of u ∷ (ref_of w ∷ []) in
      let count : count_by (is_of_range u.start u.length) (data_uses r) ≡ 2 =
      two_pass (is_of_range u.start u.length) (data_uses r) u w once (λ e. apart (ap (λ (x : DataUse). x.tree) e)) h k (in_range u u refl refl) (in_range u w start length)
      (λ v l t. let parts = range_is u v t in only v l parts.0 parts.1) in
      record {
        is_use = u;
        used = h;
        key = key;
        refs = refs;
        body = subst (λ (n : ℕ). TellsRefs r.super.generation i.1 EXTENT_FLAG_DATA n refs) (sym count) body;
        each = All-cons (CountsUses r u.start u.length) (ref_of u) (ref_of w ∷ [])
            (counts u.start u.length u refl refl h (λ v l s n t. ⊎_elim (λ (e : u ≡ v). e) (λ (e : w ≡ v). absurd (apart (sym (ap (λ (x : DataUse). x.tree) e ∙ t)))) (only v l s n)))
            (All-cons (CountsUses r u.start u.length) (ref_of w) []
            (counts u.start u.length w start length k (λ v l s n t. ⊎_elim (λ (e : u ≡ v). absurd (apart (ap (λ (x : DataUse). x.tree) e ∙ t))) (λ (e : w ≡ v). e) (only v l (s ∙ start) (n ∙ length))))
            (All-nil (CountsUses r u.start u.length)));
        once = AllPairs-cons Differ (ref_of u) (ref_of w ∷ []) (All-cons (Differ (ref_of u)) (ref_of w) [] (false_from_ne_true (same_ref (ref_of u) (ref_of w)) (λ t. apart (alike (ref_of u) (ref_of w) t).root)) (All-nil (Differ (ref_of u))))
            (λ a b d l g. absurd (omega (arith, l, g)));
        whole = λ v l s n. (
          1,
          ⊎_elim (λ (e : u ≡ v). subst (λ (x : DataUse). Contains refs (ref_of x)) e (at_head (ref_of u) (ref_of w ∷ [])))
              (λ (e : w ≡ v). subst (λ (x : DataUse). Contains refs (ref_of x)) e (in_tail (ref_of u) (ref_of w ∷ []) (ref_of w) (at_head (ref_of w) []))) (only v l s n),
        );
      }
