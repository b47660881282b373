-- Part 5 of a sound volume, by its checksum tree and the sets of the blocks that its files use.
use Rattle.btr_check_sums.proofs.Imports.{◌≡◌, ◌≤◌, ◌<◌, ◌+◌, ◌-◌, ◌*◌, ◌/◌, ◌%◌, ◌^◌, ◌⊎◌, ℕ, Bool, true, false, if◌then◌else◌, List, [], ◌∷◌, ◌++◌, length, get_or, Some, inl, inr, refl, sym, subst, ◌∙◌, ⊎_elim, arith, length-append, nat_tests, get_or_append_left, All-contains, All-head, All-tail, Contains-append_right, Contains-get_or, Any-from_list_any, list_any-from_Any, All, AllPairs, Contains, is_among, Run, HasBlockSum, IsReadBy, IsSumItem, IsSumRight, IsWrittenTo, KeepsCover, KeepsSums, read_span, sum_end, sum_items, sums_of, Item, holds, place, MapRange, SumKind, Image, Span, has_block, IsCoverRight, AreSumItems, BreaksSumItems, EndsBefore, is_covered, sum_span, UsedBlocks, cases_lt, true≢false, AreSumsRight, BreaksSums, HasWrongSum, has_no_sums, DataUse, Recount, TreeOn, all_trees, data_uses, file_trees, is_file_tree, is_within, map_of, span_of, uses_in, Inode, AreUsedBlocks, BreaksPart, EndsLow}
use Rattle.btr_check_rules.proofs.At.{each_at, pairs_at}
use Rattle.btr_check_rules.proofs.Imports.{from_filter, in_flat_map}

-- ---- ranges of addresses

within_low : (s : Span) (a : ℕ) → is_within s a ≡ true → s.start ≤ a
within_low s a is = grind (arith, nat_tests)

within_high : (s : Span) (a : ℕ) → is_within s a ≡ true → a < s.start + s.length
within_high s a is = grind (arith, nat_tests)

is_inside : (s : Span) (a : ℕ) → s.start ≤ a → a < s.start + s.length → is_within s a ≡ true
is_inside s a low high = grind (arith, nat_tests)

block_of_span : (s : Span) (n : ℕ) → n < 2 ^ 52 → is_within s (4096 * n) ≡ true → has_block s n ≡ true
block_of_span s n low is = grind (arith, nat_tests)

block_low : (s : Span) (n : ℕ) → has_block s n ≡ true → n < 2 ^ 52
block_low s n is = grind (arith, nat_tests)

block_inside : (s : Span) (n : ℕ) → has_block s n ≡ true → is_within s (4096 * n) ≡ true
block_inside s n is = grind (arith, nat_tests)

false_unless : (b : Bool) → (b ≡ true → ⊥) → b ≡ false
false_unless true never = absurd (never refl)
false_unless false never = refl

not_both : (b : Bool) → b ≡ true → b ≡ false → ⊥
not_both b is none = true≢false (sym is ∙ none)

-- a place lies in a range, which ends at 2^64
holds_high : (g : MapRange) (a : ℕ) → holds g a ≡ true → a < g.logical + g.length
holds_high g a is = grind (arith, nat_tests)

place_low : (ranges : List MapRange) (a p : ℕ) → All (λ g. g.logical + g.length ≤ 2 ^ 64) ranges → place ranges a ≡ Some p → a < 2 ^ 64
place_low [] a p low is = absurd (cc is)
place_low (g ∷ ranges) a p low is = by (holds g a) refl (place_low ranges a p (All-tail (λ (r : MapRange). r.logical + r.length ≤ 2 ^ 64) g ranges low)) is
  where
    by : (b : Bool) → holds g a ≡ b → (place ranges a ≡ Some p → a < 2 ^ 64) → (if b then Some (g.physical + (a - g.logical)) else place ranges a) ≡ Some p → a < 2 ^ 64
    by true held later at =
        let ends = All-head (λ (r : MapRange). r.logical + r.length ≤ 2 ^ 64) g ranges low in
        let inside = holds_high g a held in
        omega (arith, ends, inside)
    by false held later at = later at

-- ---- what holds of all holds of the first ones

first_all : {X : Type 0} (P : X → Type 0) (xs ys : List X) → All P (xs ++ ys) → All P xs
first_all P xs ys all = λ k d low. subst P (get_or_append_left xs ys d k low) (all k d (longer xs ys k low))
  where
    longer : {Y : Type 0} (ps qs : List Y) (n : ℕ) → n < length ps → n < length (ps ++ qs)
    longer ps qs n low = let long = length-append ps qs in omega (arith, long, low)

first_pairs : {X : Type 0} (R : X → X → Type 0) (xs ys : List X) → AllPairs R (xs ++ ys) → AllPairs R xs
first_pairs R xs ys all = λ i j d order high.
    subst (λ x. R x (get_or xs j d)) (get_or_append_left xs ys d i (omega (arith, order, high)))
    (subst (λ y. R (get_or (xs ++ ys) i d) y) (get_or_append_left xs ys d j high) (all i j d order (longer xs ys j high)))
  where
    longer : {Y : Type 0} (ps qs : List Y) (n : ℕ) → n < length ps → n < length (ps ++ qs)
    longer ps qs n low = let long = length-append ps qs in omega (arith, long, low)

pub items_break : (nodesize : ℕ) (sums : SumKind) (first later : List Item) (part a : ℕ) → BreaksSumItems nodesize sums first part a → BreaksSumItems nodesize sums (first ++ later) part a
items_break nodesize sums first later part a breaks = (
  breaks.0,
  λ kept. breaks.1 (
    first_all (λ (i : Item). i.0.offset ≡ a → IsSumItem nodesize sums i) first later kept.0,
    first_pairs (λ (i j : Item). (i.0.offset ≡ a) ⊎ (j.0.offset ≡ a) → EndsBefore sums i j) first later kept.1,
  ),
)

-- ---- data of files is data

file_tree_there : (r : Recount) (t : TreeOn) → Contains (file_trees r) t → Contains (all_trees r) t
file_tree_there r t has = Contains-append_right (r.chunk_tree ∷ (r.root_tree ∷ [])) r.others t (from_filter is_file_tree r.others t has).0

pub is_data : (r : Recount) (a : ℕ) (u : DataUse) (inode : Inode) → IsReadBy r a u inode → Contains (data_uses r) u
is_data r a u inode read = in_flat_map uses_in (all_trees r) read.tree u (file_tree_there r read.tree read.among) read.used

-- ---- the part

module _ (image : Image) (r : Recount) (used : UsedBlocks) (covered : List Run) (are : AreUsedBlocks r used) (ends : EndsLow r)
    (whole : (n : ℕ) → is_among covered n ≡ is_covered (sums_of r) (sum_items r) n) where
  -- the block has a checksum
  has_sum : (n : ℕ) → is_among covered n ≡ true → HasBlockSum r (4096 * n)
  has_sum n is =
      let some = Any-from_list_any (λ (i : Item). has_block (sum_span (sums_of r) i) n) (sum_items r) (sym (whole n) ∙ is) in
      let inside = block_inside (sum_span (sums_of r) some.1) n some.4 in
      record {
        item = some.1;
        there = (some.0, some.2, some.3);
        low = within_low (sum_span (sums_of r) some.1) (4096 * n) inside;
        high = within_high (sum_span (sums_of r) some.1) (4096 * n) inside;
      }

  is_summed : (n : ℕ) → n < 2 ^ 52 → HasBlockSum r (4096 * n) → is_among covered n ≡ true
  is_summed n low has =
      whole n
      ∙ list_any-from_Any (λ (i : Item). has_block (sum_span (sums_of r) i) n) (sum_items r) (
        has.there.0,
        has.item,
        has.there.1,
        has.there.2,
        block_of_span (sum_span (sums_of r) has.item) n low (is_inside (sum_span (sums_of r) has.item) (4096 * n) has.low has.high),
      )

  covered_low : (n : ℕ) → is_among covered n ≡ true → n < 2 ^ 52
  covered_low n is =
      let some = Any-from_list_any (λ (i : Item). has_block (sum_span (sums_of r) i) n) (sum_items r) (sym (whole n) ∙ is) in
      block_low (sum_span (sums_of r) some.1) n some.4

  -- what is read lies below 2^64
  read_low : (a : ℕ) (u : DataUse) (inode : Inode) → IsReadBy r a u inode → a < 2 ^ 64
  read_low a u inode read =
      let high = within_high (read_span u) a read.here in
      let end = ends.read_ends u (is_data r a u inode read) in
      omega (arith, high, end)

  -- an item with a checksum of a block from 2^64 on has one of the last block before that, which is no data
  sum_low : (a : ℕ) → All (λ i. (i.0.offset < 2 ^ 64) × (i.0.offset % 4096 ≡ 0)) (sum_items r) → ((n : ℕ) → IsCoverRight used covered n) → HasBlockSum r a → a < 2 ^ 64
  sum_low a items right has = ⊎_elim (λ (low : a < 2 ^ 64). low) (λ (high : 2 ^ 64 ≤ a). absurd (never high)) (cases_lt a (2 ^ 64))
    where
      never : 2 ^ 64 ≤ a → ⊥
      never high =
          let of = All-contains (λ (i : Item). (i.0.offset < 2 ^ 64) × (i.0.offset % 4096 ≡ 0)) (sum_items r) has.item items has.there in
          let first : has.item.0.offset ≤ 4096 * (2 ^ 52 - 1) = omega (arith, of.0, of.1) in
          let behind : 4096 * (2 ^ 52 - 1) < sum_end (sums_of r) has.item = let end = has.high in omega (arith, end, high) in
          let last : is_among covered (2 ^ 52 - 1) ≡ true = is_summed (2 ^ 52 - 1) (omega arith) (record { item = has.item; there = has.there; low = first; high = behind }) in
          let of_data = ((are.data_are (2 ^ 52 - 1)).0 ((right (2 ^ 52 - 1)).sums.inside last)).1 in
          let inside = within_high (span_of of_data.0) (4096 * (2 ^ 52 - 1)) of_data.2 in
          let end = ends.data_ends of_data.0 of_data.1 in
          omega (arith, inside, end)

  number_of : (a : ℕ) → a % 4096 ≡ 0 → 4096 * (a / 4096) ≡ a
  number_of a whole_block = omega (arith, whole_block)

  cover_at : (n : ℕ) → n < 2 ^ 52 → IsCoverRight used covered n → KeepsCover r (4096 * n)
  cover_at n low right = record {
    wanted = λ u inode read written sums. has_sum n (right.wanted ((are.wanted_are n).1 (low, (u, inode, read, written, sums))));
    unsummed = λ u inode read written none has. not_both (is_among covered n) (is_summed n low has) (right.sums.bare ((are.bare_are n).1 (low, (u, inode, read, inl (written, none)))));
    unwritten = λ u inode read laid none has. not_both (is_among covered n) (is_summed n low has) (right.sums.bare ((are.bare_are n).1 (low, (u, inode, read, inr (laid, none)))));
    inside = λ has. ((are.data_are n).0 (right.sums.inside (is_summed n low has))).1;
  }

  cover_far : (a : ℕ) → 2 ^ 64 ≤ a → (HasBlockSum r a → a < 2 ^ 64) → KeepsCover r a
  cover_far a far low = record {
    wanted = λ u inode read written sums. absurd (let near = read_low a u inode read in omega (arith, near, far));
    unsummed = λ u inode read written none has. let near = read_low a u inode read in omega (arith, near, far);
    unwritten = λ u inode read laid none has. let near = read_low a u inode read in omega (arith, near, far);
    inside = λ has. absurd (let near = low has in omega (arith, near, far));
  }

  keeps_cover : (a : ℕ) → a % 4096 ≡ 0 → All (λ i. (i.0.offset < 2 ^ 64) × (i.0.offset % 4096 ≡ 0)) (sum_items r) → ((n : ℕ) → IsCoverRight used covered n) → KeepsCover r a
  keeps_cover a block items right =
      ⊎_elim
      (λ (near : a < 2 ^ 64). subst (KeepsCover r) (number_of a block) (cover_at (a / 4096) (omega (arith, near)) (right (a / 4096))))
      (λ (far : 2 ^ 64 ≤ a). cover_far a far (sum_low a items right))
      (cases_lt a (2 ^ 64))

  pub keeps_sums : AreSumItems r.super.nodesize (sums_of r) (sum_items r) → ((n : ℕ) → IsCoverRight used covered n) → AreSumsRight image (map_of r) (sums_of r) (sum_items r)
      → (a : ℕ) → KeepsSums image r a
  keeps_sums items cover right a = record {
    forms = each_at (λ (i : Item). i.0.offset) a (IsSumItem r.super.nodesize (sums_of r)) (sum_items r) items.forms;
    once = pairs_at (λ (i : Item). i.0.offset) a (EndsBefore (sums_of r)) (sum_items r) items.apart;
    cover = λ block. keeps_cover a block (λ k d low. (items.low k d low, (items.forms k d low).start)) cover;
    right = λ k d low.
        λ number p counted is at.
        let i : Item = get_or (sum_items r) k d in
        let here : place (map_of r) (i.0.offset + 4096 * number) ≡ Some p = subst (λ (x : ℕ). place (map_of r) x ≡ Some p) (sym is) at in
        right i (Contains-get_or (sum_items r) k d low) number p counted (place_low (map_of r) (i.0.offset + 4096 * number) p ends.ranges here) here;
  }

  -- ---- where it fails

  cover_kept : (n : ℕ) → KeepsCover r (4096 * n) → IsCoverRight used covered n
  cover_kept n keeps = record {
    wanted = λ is.
        let of = (are.wanted_are n).0 is in
        is_summed n of.0 (keeps.wanted of.1.0 of.1.1 of.1.2 of.1.3 of.1.4);
    sums = record {
      bare = λ is.
          let of = (are.bare_are n).0 is in
          false_unless (is_among covered n) (λ has.
          ⊎_elim
          (λ (bare : (of.1.0.written ≡ true) × (has_no_sums of.1.1 ≡ true)). keeps.unsummed of.1.0 of.1.1 of.1.2 bare.0 bare.1 (has_sum n has))
          (λ (laid : (of.1.0.written ≡ false) × ¬ IsWrittenTo r of.1.0.start). keeps.unwritten of.1.0 of.1.1 of.1.2 laid.0 laid.1 (has_sum n has))
          of.1.3);
      inside = λ has. (are.data_are n).1 (covered_low n has, keeps.inside (has_sum n has));
    };
  }

  cover_none : (n : ℕ) → (n < 2 ^ 52 → ⊥) → IsCoverRight used covered n
  cover_none n high = record {
    wanted = λ is. absurd (high ((are.wanted_are n).0 is).0);
    sums = record {
      bare = λ is. absurd (high ((are.bare_are n).0 is).0);
      inside = λ has. absurd (high (covered_low n has));
    };
  }

  -- a block at which the cover is wrong
  pub cover_fails : (n : ℕ) → ¬ IsCoverRight used covered n → (n < 2 ^ 52) × ¬ KeepsSums image r (4096 * n)
  cover_fails n wrong = (
    ⊎_elim (λ (low : n < 2 ^ 52). low) (λ (high : 2 ^ 52 ≤ n). absurd (wrong (cover_none n (λ low. omega (arith, low, high))))) (cases_lt n (2 ^ 52)),
    λ keeps. wrong (cover_kept n (keeps.cover (omega arith))),
  )

module _ (image : Image) (r : Recount) where
  pub items_fail : (part a : ℕ) → BreaksSumItems r.super.nodesize (sums_of r) (sum_items r) part a → BreaksPart image r part a
  items_fail part a breaks = (breaks.0, λ keeps. breaks.1 (keeps.forms, keeps.once))

  pub sums_fail : (part a : ℕ) → BreaksSums image (map_of r) (sums_of r) (sum_items r) part a → BreaksPart image r part a
  sums_fail part a breaks =
      let wrong : HasWrongSum image (map_of r) (sums_of r) (sum_items r) a = breaks.1 in (
        breaks.0,
        λ keeps.
            wrong.wrong (All-contains (IsSumRight image r a) (sum_items r) wrong.item keeps.right wrong.there wrong.number wrong.at wrong.counted wrong.address wrong.place_is),
      )
