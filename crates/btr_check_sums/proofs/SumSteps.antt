-- One more item of the checksum tree.
use Rattle.btr_check_sums.proofs.Imports.{◌≡◌, ◌≤◌, ◌<◌, ◌+◌, ◌*◌, ◌%◌, ◌^◌, ◌==◌, ◌⊎◌, ℕ, Bool, true, false, ◌&&◌, ◌||◌, List, [], ◌∷◌, ◌++◌, length, map, get_or, inr, refl, sym, ap, subst, ◌∙◌, ⊎_elim, arith, Decides-and, Decides-eqb, Decides-like, nat_tests, get_or_append_left, get_or_push, length_push, map-append, list_any-append, All, AllPairs, Any, nat_le, is_among, All-contains, All-push, All-weaker, Contains-push, IsSumItem, most_sums, sum_count, sum_end, Checksums, part_number, Key, Item, TreeItem, in_leaf, bare_item, SumKind, Span, has_block, AreSumItemsAt, BreaksSumItems, EndsBefore, fits_count, has_whole_sums, is_covered, is_sum_item, is_sum_key, sum_span, HoldsSums, SumPass, Decides, kind_width, EXTENT_CSUM}
use Rattle.std.proofs.lemmas.List.Quantifiers.{Any-push, all_pairs_push}
use Rattle.btr_reader_walk.specs.btrfs_format.declared.object.TheConstants.{EXTENT_CSUM_OBJECTID}

-- ---- the form of an item

le_decides : (a b : ℕ) → Decides (nat_le a b) (a ≤ b)
le_decides a b = ((λ t. grind (arith, nat_tests)), (λ h. grind (arith, nat_tests)))

pub form_decides : (nodesize : ℕ) (sums : SumKind) (i : Item) → Decides (is_sum_item nodesize sums i) (IsSumItem nodesize sums i)
form_decides nodesize sums i =
    Decides-like (is_sum_item nodesize sums i) (λ all. record { objectid = all.0.0; kind = all.0.1.0; start = all.0.1.1; whole = all.1.0; count = all.1.1 })
    (λ form. ((form.objectid, (form.kind, form.start)), (form.whole, form.count)))
    (Decides-and (is_sum_key i.0) (has_whole_sums nodesize sums i.1)
    (Decides-and (i.0.objectid == EXTENT_CSUM_OBJECTID) ((i.0.kind == EXTENT_CSUM) && (i.0.offset % 4096 == 0)) (Decides-eqb i.0.objectid EXTENT_CSUM_OBJECTID)
    (Decides-and (i.0.kind == EXTENT_CSUM) (i.0.offset % 4096 == 0) (Decides-eqb i.0.kind EXTENT_CSUM) (Decides-eqb (i.0.offset % 4096) 0)))
    (Decides-and (length i.1 % kind_width sums == 0) (fits_count nodesize sums (sum_count sums i)) (Decides-eqb (length i.1 % kind_width sums) 0)
    (Decides-and (nat_le 1 (sum_count sums i)) (nat_le (sum_count sums i) (most_sums nodesize sums)) (le_decides 1 (sum_count sums i)) (le_decides (sum_count sums i) (most_sums nodesize sums)))))

-- ---- lists

pairs_last : {X : Type 0} (R : X → X → Type 0) (xs : List X) (y : X) → AllPairs R (xs ++ y ∷ []) → All (λ x. R x y) xs
pairs_last R xs y pairs = λ k d low.
    subst (λ x. R x y) (get_or_append_left xs (y ∷ []) d k low)
    (subst (λ z. R (get_or (xs ++ y ∷ []) k d) z) (get_or_push xs y d (length xs) refl) (pairs k (length xs) d low (omega (arith, length_push xs y))))

or_same : (a b c : Bool) → ((a || (b || false)) || c) ≡ (b || (a || c))
or_same true true c = refl
or_same true false c = refl
or_same false true c = refl
or_same false false c = refl

-- blocks from an address on, so many
abbrev pub blocks_from : ℕ → ℕ → Span
blocks_from a count = record { start = a; length = 4096 * count }

pub covered_more : (sums : SumKind) (xs : List Item) (i : Item) (n : ℕ) (rest : Bool) → (is_covered sums (xs ++ i ∷ []) n || rest) ≡ (has_block (sum_span sums i) n || (is_covered sums xs n || rest))
covered_more sums xs i n rest =
    ap (λ (b : Bool). b || rest) (list_any-append (λ (j : Item). has_block (sum_span sums j) n) xs (i ∷ []))
    ∙ or_same (is_covered sums xs n) (has_block (sum_span sums i) n) rest

apart_more : (sums : SumKind) (xs : List Item) (i : Item) (end : ℕ) → AllPairs (EndsBefore sums) xs → All (λ j. sum_end sums j ≤ end) xs → end ≤ i.0.offset → AllPairs (EndsBefore sums) (xs ++ i ∷ [])
apart_more sums xs i end pairs last behind = all_pairs_push (EndsBefore sums) xs i pairs (λ k d low. let ends = last k d low in omega (arith, ends, behind))

item_noted : (begun pass after : SumPass) (xs : List Item) (i : Item) → HoldsSums begun pass xs → IsSumItem begun.nodesize begun.kind i → pass.end ≤ i.0.offset → i.0.offset < 2 ^ 64
    → after.nodesize ≡ pass.nodesize → after.kind ≡ pass.kind → after.end ≡ sum_end begun.kind i
    → ((n : ℕ) → is_among after.covered n ≡ (has_block (sum_span begun.kind i) n || is_among pass.covered n))
    → HoldsSums begun after (xs ++ i ∷ [])
item_noted begun pass after xs i held form behind low nodesize kind end covered =
    let more : pass.end ≤ after.end = omega (arith, behind, end) in
    record {
      nodesize_is = nodesize ∙ held.nodesize_is;
      kind_is = kind ∙ held.kind_is;
      kept = record {
        forms = All-push (IsSumItem begun.nodesize begun.kind) xs i held.kept.forms form;
        apart = apart_more begun.kind xs i pass.end held.kept.apart held.last behind;
        low = All-push (λ (j : Item). j.0.offset < 2 ^ 64) xs i held.kept.low low;
      };
      last =
          All-push (λ (j : Item). sum_end begun.kind j ≤ after.end) xs i
          (All-weaker (λ (j : Item). sum_end begun.kind j ≤ pass.end) (λ (j : Item). sum_end begun.kind j ≤ after.end) (λ j low. omega (arith, low, more)) xs held.last) (omega (arith, end));
      met = inr (Any-push (λ (j : Item). sum_end begun.kind j ≡ after.end) xs i (sym end));
      covered = λ n.
          covered n
          ∙ (ap (λ (b : Bool). has_block (sum_span begun.kind i) n || b) (held.covered n) ∙ sym (covered_more begun.kind xs i n (is_among begun.covered n)));
    }

-- the items with one more
abbrev with_one : List TreeItem → ℕ → Key → List ℕ → List Item
with_one items leaf key body = map bare_item (items ++ in_leaf leaf (key, body) ∷ [])

one_more : (items : List TreeItem) (leaf : ℕ) (key : Key) (body : List ℕ) → with_one items leaf key body ≡ map bare_item items ++ (key, body) ∷ []
one_more items leaf key body = map-append bare_item items (in_leaf leaf (key, body) ∷ [])

module _ (begun pass : SumPass) (items : List TreeItem) (leaf : ℕ) (key : Key) (body : List ℕ) (held : HoldsSums begun pass (map bare_item items)) where
  form_there : IsSumItem pass.nodesize pass.kind (key, body) → IsSumItem begun.nodesize begun.kind (key, body)
  form_there form = subst (λ (k : SumKind). IsSumItem begun.nodesize k (key, body)) held.kind_is (subst (λ (n : ℕ). IsSumItem n pass.kind (key, body)) held.nodesize_is form)

  form_here : IsSumItem begun.nodesize begun.kind (key, body) → IsSumItem pass.nodesize pass.kind (key, body)
  form_here form =
      subst (λ (n : ℕ). IsSumItem n pass.kind (key, body)) (sym held.nodesize_is) (subst (λ (k : SumKind). IsSumItem begun.nodesize k (key, body)) (sym held.kind_is) form)

  pub visited : (after : SumPass) → IsSumItem pass.nodesize pass.kind (key, body) → pass.end ≤ key.offset → key.offset < 2 ^ 64
      → after.nodesize ≡ pass.nodesize → after.kind ≡ pass.kind → after.end ≡ key.offset + 4096 * sum_count pass.kind (key, body)
      → ((n : ℕ) → is_among after.covered n ≡ (has_block (blocks_from key.offset (sum_count pass.kind (key, body))) n || is_among pass.covered n))
      → HoldsSums begun after (with_one items leaf key body)
  visited after form behind low nodesize kind end covered =
      subst (HoldsSums begun after) (sym (one_more items leaf key body))
      (item_noted begun pass after (map bare_item items) (key, body) held (form_there form) behind low nodesize kind
      (end ∙ ap (λ (k : SumKind). key.offset + 4096 * sum_count k (key, body)) held.kind_is)
      (λ n. covered n ∙ ap (λ (k : SumKind). has_block (blocks_from key.offset (sum_count k (key, body))) n || is_among pass.covered n) held.kind_is))

  pub form_refused : ¬ IsSumItem pass.nodesize pass.kind (key, body) → BreaksSumItems begun.nodesize begun.kind (with_one items leaf key body) (part_number Checksums) key.offset
  form_refused none = (
    refl,
    λ kept.
        let at : AreSumItemsAt begun.nodesize begun.kind key.offset (map bare_item items ++ (key, body) ∷ []) = subst (AreSumItemsAt begun.nodesize begun.kind key.offset) (one_more items leaf key body) kept in
        none (form_here (All-contains (λ (i : Item). i.0.offset ≡ key.offset → IsSumItem begun.nodesize begun.kind i) (map bare_item items ++ (key, body) ∷ []) (key, body) at.0 (Contains-push (map bare_item items) (key, body)) refl)),
  )

  overlaps : (xs : List Item) → key.offset < pass.end → (pass.end ≡ 0) ⊎ Any (λ i. sum_end begun.kind i ≡ pass.end) xs → AllPairs (λ i j. (i.0.offset ≡ key.offset) ⊎ (j.0.offset ≡ key.offset) → EndsBefore begun.kind i j) (xs ++ (key, body) ∷ []) → ⊥
  overlaps xs over met pairs =
      ⊎_elim
      (λ (none : pass.end ≡ 0). omega (arith, over, none))
      (λ (some : Any (λ i. sum_end begun.kind i ≡ pass.end) xs).
      let before : All (λ i. (i.0.offset ≡ key.offset) ⊎ (key.offset ≡ key.offset) → EndsBefore begun.kind i (key, body)) xs = pairs_last (λ (i j : Item). (i.0.offset ≡ key.offset) ⊎ (j.0.offset ≡ key.offset) → EndsBefore begun.kind i j) xs (key, body) pairs in
      let ends : sum_end begun.kind some.1 ≤ key.offset = All-contains (λ (i : Item). (i.0.offset ≡ key.offset) ⊎ (key.offset ≡ key.offset) → EndsBefore begun.kind i (key, body)) xs some.1 before (some.0, some.2, some.3) (inr refl) in
      omega (arith, ends, over, some.4))
      met

  pub overlap_refused : key.offset < pass.end → BreaksSumItems begun.nodesize begun.kind (with_one items leaf key body) (part_number Checksums) key.offset
  overlap_refused over = (
    refl,
    λ kept.
        let at : AreSumItemsAt begun.nodesize begun.kind key.offset (map bare_item items ++ (key, body) ∷ []) = subst (AreSumItemsAt begun.nodesize begun.kind key.offset) (one_more items leaf key body) kept in
        overlaps (map bare_item items) over held.met at.1,
  )
