-- The pieces that hold blocks of the old volume, by these blocks.
use Rattle.convert_core_laws.proofs.Imports.{◌≡◌, ◌≤◌, ◌<◌, ℕ, zero, suc, ◌+◌, ◌*◌, ◌==◌, inl, eqb, Bool, true, false, List, [], ◌∷◌, ◌++◌, length, take, drop, filter, get_or, Option, Some, None, refl, sym, ap, subst, ◌∙◌, ⊎_elim, arith, Contains, MatchOption, AllByRecursion, option_map_or, and_parts, both_ways, cases_lt, eq-eqb, le-ltb, is_lt, nat_cmp, Less, Equal, Greater, All-contains_itself, All-drop, All-take, Contains-append_cases, get_or_default, Contains-permutation, IsPermutation-sym, EXTENT_DATA, from_filter, in_filter, Image, has, contains_cases, contains_head, contains_tail, used_of, make_key, Key, Item, keys_of, IsNodeSize, ascends, is_before, MapRange, IsMaking, Making, HasPieces, well, piece_apart, owner, tails, files_of, CoverUsed, HasPlan, HoldsBlock, LieWell, Owners, at_place, at_places, blocks_of_units, pieces_cover_used, all_at, extents_at, pieces_of_volume, source_block, ascending_all, ascending_filter, used_few, Piece, map_for}
use Rattle.std.proofs.Common.{is_some, if◌then◌else◌}
use Rattle.convert_core.proofs.Copying.{at_its_place}
use Rattle.convert_core_laws.proofs.reading.Mapped.{all_itself}
use Rattle.convert_core_laws.proofs.reading.SavedExtents.{AreSources, Holds, IsSource}

-- ---- a list that ascends by the blocks that it holds

less_of : (a b : ℕ) → is_lt (nat_cmp a b) ≡ true → a < b
less_of a b t = ⊎_elim (λ (less : a < b). less) (λ (other : b ≤ a). absurd (not_less (eqb a b) t other)) (cases_lt a b)
  where
    not_less : (c : Bool) → is_lt (nat_cmp a b) ≡ true → b ≤ a → ⊥
    not_less c t other = both_ways (is_lt (nat_cmp a b)) (ap (λ (d : Bool). is_lt (if d then Less else if eqb a b then Equal else Greater)) (le-ltb a b other) ∙ never (eqb a b)) t
      where
        never : (c : Bool) → is_lt (if c then Equal else Greater) ≡ false
        never true = refl
        never false = refl

pub ascends_tail : (k : Key) (ks : List Key) → ascends (k ∷ ks) ≡ true → ascends ks ≡ true
ascends_tail k [] t = refl
ascends_tail k (next ∷ ks) t = (and_parts (is_before k next) (ascends (next ∷ ks)) t).1

pub six_behind : (a b c d e f : Item) (items : List Item) → ascends (keys_of (a ∷ (b ∷ (c ∷ (d ∷ (e ∷ (f ∷ items))))))) ≡ true → ascends (keys_of items) ≡ true
six_behind a b c d e f items t =
    ascends_tail f.0 (keys_of items)
    (ascends_tail e.0 (keys_of (f ∷ items))
    (ascends_tail d.0 (keys_of (e ∷ (f ∷ items)))
    (ascends_tail c.0 (keys_of (d ∷ (e ∷ (f ∷ items))))
    (ascends_tail b.0 (keys_of (c ∷ (d ∷ (e ∷ (f ∷ items)))))
    (ascends_tail a.0 (keys_of (b ∷ (c ∷ (d ∷ (e ∷ (f ∷ items)))))) t)))))

ascends_first : (k next : Key) (ks : List Key) → ascends (k ∷ (next ∷ ks)) ≡ true → is_before k next ≡ true
ascends_first k next ks t = (and_parts (is_before k next) (ascends (next ∷ ks)) t).0

source_less : (a b : ℕ) → is_before (make_key 257 EXTENT_DATA (4096 * a)) (make_key 257 EXTENT_DATA (4096 * b)) ≡ true → a < b
source_less a b t = let less = less_of (4096 * a) (4096 * b) t in omega (arith, less)

-- a piece of the list, of which something is known
all_contain : (P : Piece → Type 0) (xs : List Piece) → ((p : Piece) → Contains xs p → P p) → AllByRecursion P xs
all_contain P [] each = tt
all_contain P (x ∷ xs) each = (each x (contains_head x xs), all_contain P xs (λ p h. each p (contains_tail p x xs h)))

all_of : (P : Piece → Type 0) (xs : List Piece) (p : Piece) → AllByRecursion P xs → Contains xs p → P p
all_of P [] p all h = absurd (omega (arith, h.1))
all_of P (x ∷ xs) p all h = ⊎_elim (λ (same : x ≡ p). subst P same all.0) (λ (later : Contains xs p). all_of P xs p all.1 later) (contains_cases p x xs h)

module _ (ranges : List MapRange) where
  -- the keys of their extents ascend, and no two pieces hold one block
  sources_are : (low : ℕ) (p : Piece) (ps : List Piece) → AllByRecursion (IsSource ranges) (p ∷ ps) → ascends (keys_of (extents_at 257 source_block (p ∷ ps))) ≡ true → low ≤ source_block p
      → ((x y : Piece) → Contains (p ∷ ps) x → Contains (p ∷ ps) y → source_block x < source_block y → source_block x + x.count ≤ source_block y) → AreSources ranges low (p ∷ ps)
  sources_are low p [] all up above apart = (all.0, above, tt)
  sources_are low p (q ∷ ps) all up above apart =
      let less : source_block p < source_block q = source_less (source_block p) (source_block q) (ascends_first (make_key 257 EXTENT_DATA (4096 * source_block p)) (make_key 257 EXTENT_DATA (4096 * source_block q)) (keys_of (extents_at 257 source_block ps)) up) in
      let next : source_block p + p.count ≤ source_block q = apart p q (contains_head p (q ∷ ps)) (contains_tail q p (q ∷ ps) (contains_head q ps)) less in (
        all.0,
        above,
        sources_are (source_block p + p.count) q ps all.1 (ascends_tail (make_key 257 EXTENT_DATA (4096 * source_block p)) (keys_of (extents_at 257 source_block (q ∷ ps))) up) next
            (λ x y h k. apart x y (contains_tail x p (q ∷ ps) h) (contains_tail y p (q ∷ ps) k)),
      )

  all_sources : (ps : List Piece) → AllByRecursion (IsSource ranges) ps → ascends (keys_of (extents_at 257 source_block ps)) ≡ true
      → ((x y : Piece) → Contains ps x → Contains ps y → source_block x < source_block y → source_block x + x.count ≤ source_block y) → AreSources ranges 0 ps
  all_sources [] all up apart = tt
  all_sources (p ∷ ps) all up apart = sources_are 0 p ps all up (omega arith) apart

-- ---- the pieces of a conversion

from_is : (o : Option ℕ) → is_some o ≡ true → o ≡ Some (option_map_or (λ b. b) o 0)
from_is None t = absurd (cc t)
from_is (Some b) t = refl

inside_of : (o : Option ℕ) (count blocks : ℕ) → is_some o ≡ true → MatchOption o (Unit {0}) (λ b. b + count ≤ blocks) → option_map_or (λ b. b) o 0 + count ≤ blocks
inside_of None count blocks t h = absurd (cc t)
inside_of (Some b) count blocks t h = h

-- an element that has a place
from_places : (ps : List Piece) (places : List ℕ) (q : Piece) → Contains (at_places ps places) q → (p : Piece) × Contains ps p × (p.from ≡ q.from) × (p.count ≡ q.count)
from_places [] places q h = absurd (omega (arith, h.1))
from_places (p ∷ ps) [] q h = absurd (omega (arith, h.1))
from_places (p ∷ ps) (b ∷ bs) q h =
    ⊎_elim (λ (same : at_place p b ≡ q). (p, contains_head p ps, ap (λ (z : Piece). z.from) same, ap (λ (z : Piece). z.count) same))
    (λ (later : Contains (at_places ps bs) q). let r = from_places ps bs q later in (r.0, contains_tail r.0 p ps r.1, r.2, r.3)) (contains_cases q (at_place p b) (at_places ps bs) h)

-- parts of a list
of_take : (n : ℕ) (xs : List Piece) (x : Piece) → Contains (take n xs) x → Contains xs x
of_take n xs x h = all_at (Contains xs) (take n xs) x (All-take (Contains xs) n xs (All-contains_itself xs)) h

of_drop : (n : ℕ) (xs : List Piece) (x : Piece) → Contains (drop n xs) x → Contains xs x
of_drop n xs x h = all_at (Contains xs) (drop n xs) x (All-drop (Contains xs) n xs (All-contains_itself xs)) h

module _ (image : Image) (m : Making) (made : IsMaking image m) (size : IsNodeSize m.options.nodesize) where
  abbrev of : HasPieces m.volume image m.options m.plan m.pieces
  of = made.has_pieces

  abbrev plan : HasPlan image of.found m.options m.plan
  plan = of.plan_

  abbrev used : List Bool
  used = used_of image

  lie : LieWell used m.plan.data_ m.pieces
  lie = well m.volume image m.options m.plan m.pieces of

  abbrev old : List Piece
  old = of.found.items.items

  abbrev by : Owners
  by = owner (files_of image of.plan_.keys)

  abbrev front : List Piece
  front = take of.found.kept old

  abbrev back_part : List Piece
  back_part = drop of.found.kept old

  abbrev spots : List ℕ
  spots = blocks_of_units m.plan.data_

  covered : CoverUsed used by old
  covered = subst (CoverUsed used by) (sym of.plan_.found_.pieces_are) (pieces_cover_used used by (tails m.options.inline (files_of image of.plan_.keys)))

  -- a piece as it was before it got its place
  record Was (q : Piece) : Type 0 where
    p : Piece
    among : Contains old p
    from : p.from ≡ q.from
    count : p.count ≡ q.count

  was : (q : Piece) → Contains m.pieces q → Was q
  was q h =
      ⊎_elim (λ first. record { p = q; among = of_take of.found.kept old q first; from = refl; count = refl })
      (λ later. let r = from_places back_part spots q later in record { p = r.0; among = of_drop of.found.kept old r.0 r.1; from = r.2; count = r.3 })
      (Contains-append_cases front (at_places back_part spots) q
      (Contains-permutation m.pieces (front ++ at_places back_part spots) q (IsPermutation-sym (front ++ at_places back_part spots) m.pieces of.placed.same) h))

  -- two pieces that hold one block are one
  once : (p q : Piece) (b : ℕ) → Contains old p → Contains old q → HoldsBlock b p → HoldsBlock b q → p ≡ q
  once p q b h k in_p in_q =
      ⊎_elim (λ (less : h.0 < k.0). absurd (meet p q h k less in_p in_q))
      (λ (rest : k.0 ≤ h.0). ⊎_elim (λ (more : k.0 < h.0). absurd (meet q p k h more in_q in_p))
      (λ (end : h.0 ≤ k.0). let at : h.0 ≡ k.0 = omega (arith, rest, end) in sym h.2 ∙ (ap (λ (i : ℕ). get_or old i p) at ∙ (get_or_default old k.0 p q k.1 ∙ k.2))) (cases_lt k.0 h.0))
      (cases_lt h.0 k.0)
    where
      meet : (x y : Piece) (i : Contains old x) (j : Contains old y) → i.0 < j.0 → HoldsBlock b x → HoldsBlock b y → ⊥
      meet x y i j less in_x in_y =
          covered.once i.0 j.0 x less j.1 b (subst (HoldsBlock b) (sym i.2) in_x) (subst (HoldsBlock b) (sym (get_or_default old j.0 x y j.1 ∙ j.2)) in_y)

  source : (p : Piece) → Contains m.pieces p → is_some p.from ≡ true → IsSource (map_for m.chunks) p
  source p h t =
      let some = all_at (λ (q : Piece). 1 ≤ q.count) m.pieces p lie.apart.some h in
      let inside = all_at (λ (q : Piece). q.place + q.count ≤ length used) m.pieces p lie.apart.inside h in
      let from = all_at (λ (q : Piece). MatchOption q.from (Unit {0}) (λ b. b + q.count ≤ length used)) m.pieces p lie.apart.sources h in
      let source_inside : source_block p + p.count ≤ length used = inside_of p.from p.count (length used) t from in
      let few = used_few image m made in
      record {
        from = from_is p.from t;
        some = some;
        above = above p h some;
        small = omega (arith, inside, few);
        inside = omega (arith, source_inside, few);
        mapped = λ a low high. (all_itself image m made size).pieces p a h low high;
      }
    where
      above : (p : Piece) → Contains m.pieces p → 1 ≤ p.count → 1 ≤ p.place
      above p h some = not_first p.place refl
        where
          not_first : (n : ℕ) → p.place ≡ n → 1 ≤ p.place
          not_first zero is = absurd (piece_apart m.volume image m.options m.plan m.pieces of p h 0 (omega (arith, is)) (omega (arith, is, some)) (inl (omega arith)))
          not_first (suc n) is = omega (arith, is)

  -- a piece of the list is one of all, and holds blocks of the volume
  pub member : (p : Piece) → Contains (pieces_of_volume m.pieces) p → Contains m.pieces p × (is_some p.from ≡ true)
  member p h =
      all_of (λ q. Contains m.pieces q × (is_some q.from ≡ true)) (pieces_of_volume m.pieces) p
      (ascending_all source_block (λ q. Contains m.pieces q × (is_some q.from ≡ true)) (filter (λ q. is_some q.from) m.pieces)
      (all_contain (λ q. Contains m.pieces q × (is_some q.from ≡ true)) (filter (λ q. is_some q.from) m.pieces) (λ q k. from_filter (λ (z : Piece). is_some z.from) m.pieces q k))) h

  apart : (p q : Piece) → Contains (pieces_of_volume m.pieces) p → Contains (pieces_of_volume m.pieces) q → source_block p < source_block q → source_block p + p.count ≤ source_block q
  apart p q h k less =
      ⊎_elim
      (λ (cross : source_block q < source_block p + p.count).
      let one = member p h in
      let other = member q k in
      let is_p : IsSource (map_for m.chunks) p = source p one.0 one.1 in
      let is_q : IsSource (map_for m.chunks) q = source q other.0 other.1 in
      let some = is_q.some in
      let old_p : Was p = was p one.0 in
      let old_q : Was q = was q other.0 in
      let count_p = old_p.count in
      let count_q = old_q.count in
      let same : old_p.p ≡ old_q.p =
      once old_p.p old_q.p (source_block q) old_p.among old_q.among (source_block p, old_p.from ∙ is_p.from, omega (arith, less), omega (arith, cross, count_p)) (source_block q, old_q.from ∙ is_q.from, omega arith, omega (arith, some, count_q)) in
      let from : p.from ≡ q.from = sym old_p.from ∙ (ap (λ (z : Piece). z.from) same ∙ old_q.from) in
      let block : source_block p ≡ source_block q = ap (λ (o : Option ℕ). option_map_or (λ n. n) o 0) from in
      absurd (omega (arith, less, block)))
      (λ (end : source_block p + p.count ≤ source_block q). end)
      (cases_lt (source_block q) (source_block p + p.count))

  pub are_sources : ascends (keys_of (extents_at 257 source_block (pieces_of_volume m.pieces))) ≡ true → AreSources (map_for m.chunks) 0 (pieces_of_volume m.pieces)
  are_sources up =
      all_sources (map_for m.chunks) (pieces_of_volume m.pieces) (all_contain (IsSource (map_for m.chunks)) (pieces_of_volume m.pieces) (λ p h. let of_all = member p h in source p of_all.0 of_all.1)) up apart

  -- ---- used blocks

  -- a piece that holds blocks of the volume is in the list
  in_list : (q : Piece) → Contains m.pieces q → is_some q.from ≡ true → Contains (pieces_of_volume m.pieces) q
  in_list q h t =
      let some : List Piece = filter (λ (p : Piece). is_some p.from) m.pieces in
      let kept_one : Contains some q = in_filter (λ (p : Piece). is_some p.from) m.pieces q h t in
      let numbered : Contains (filter (λ (p : Piece). source_block p == source_block q) some) q = in_filter (λ (p : Piece). source_block p == source_block q) some q kept_one (self (source_block q)) in
      (from_filter (λ (p : Piece). source_block p == source_block q) (pieces_of_volume m.pieces) q
      (subst (λ (ps : List Piece). Contains ps q) (sym (ascending_filter source_block (source_block q) some)) numbered)).0
    where
      self : (n : ℕ) → (n == n) ≡ true
      self n = eq-eqb n n refl

  -- a used block is held by one of them
  pub held : (b : ℕ) → has (used_of image) b ≡ true → (p : Piece) × Contains (pieces_of_volume m.pieces) p × Holds p b
  held b t =
      let at = covered.whole b t in
      let p : Piece = at.1 in
      let holds : HoldsBlock b p = at.4 in
      let there = at_its_place m.volume image m.options m.plan m.pieces of p (at.0, at.2, at.3) in
      let from : there.q.from ≡ Some holds.0 = there.from ∙ holds.1 in
      let start : source_block there.q ≡ holds.0 = ap (λ (o : Option ℕ). option_map_or (λ n. n) o 0) from in
      let count = there.count in
      let low = holds.2 in
      let high = holds.3 in
      (there.q, in_list there.q there.among (ap is_some from), (omega (arith, start, low), omega (arith, start, count, high)))
