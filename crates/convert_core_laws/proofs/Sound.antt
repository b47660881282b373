-- The extents of pieces keep the rules of extents.
use Rattle.convert_core_laws.proofs.Imports.{◌≡◌, ◌≤◌, ◌<◌, ◌⊎◌, ℕ, zero, suc, ◌+◌, ◌*◌, ◌/◌, ◌%◌, ◌^◌, ◌==◌, ◌&&◌, ◌||◌, nat_le, nat_lt, Bool, true, false, cond, List, [], ◌∷◌, ◌++◌, length, map, filter, get_or, Option, Some, None, refl, sym, ap, subst, ◌∙◌, ⊎_elim, arith, AllPairs, Contains, AllByRecursion, option_map_or, cases_lt, nat_tests, Contains-get_or, AllPairs-filter, from_filter, BtrRefusal, BadBtrfs, ExtentForm, at_unmapped, covered_after, covered_by, end_after, extent_length, extent_refusals, extents_of, extents_refusals, has_form, is_aligned, is_extent_of, place_refusals, refusals_at, refused_unless, unmapped_in, FileExtentValue, file_extent_of, Item, TreeItem, place, bare_item, MapRange, two_cases, extents_at, file_block, is_owned_by, pieces_of, Climb, climb_once, extent_item, inline_extent, regular_extent, ascending_filter, ascending_sorted, Piece}
use Rattle.std.proofs.Common.{if◌then◌else◌}
use Rattle.convert_core_laws.proofs.Pieces.{Fits, all_of_inode}
use Rattle.convert_core_laws.proofs.ByteReading.{inline_read, is_extent, regular_read}

pub bare_extents : (items : List TreeItem) (ino : ℕ) → map bare_item (extents_of items ino) ≡ filter (is_extent ino) (map bare_item items)
bare_extents [] ino = refl
bare_extents (i ∷ items) ino = by (is_extent_of ino i) (bare_extents items ino)
  where
    by : (b : Bool) → map bare_item (extents_of items ino) ≡ filter (is_extent ino) (map bare_item items)
        → map bare_item (cond b (i ∷ extents_of items ino) (extents_of items ino)) ≡ cond b (bare_item i ∷ filter (is_extent ino) (map bare_item items)) (filter (is_extent ino) (map bare_item items))
    by true rest = ap (λ (l : List Item). bare_item i ∷ l) rest
    by false rest = rest

-- each piece lies before the later ones
abbrev pub Follow : List Piece → Type 0
Follow [] = Unit {0}
Follow (p ∷ ps) = AllByRecursion (λ q. file_block p + p.count ≤ file_block q) ps × Follow ps

all_times : (n : ℕ) (ps : List Piece) → AllByRecursion (λ q. n ≤ file_block q) ps → AllByRecursion (λ q. 4096 * n ≤ 4096 * file_block q) ps
all_times n [] all = tt
all_times n (p ∷ ps) all = (let h = all.0 in omega (arith, h), all_times n ps all.1)

module _ (ranges : List MapRange) where
  -- extents without fault, wherever they stand, behind some that end at `end` and cover so much
  abbrev pub AreSound : ℕ → ℕ → List Item → Type 0
  AreSound end covered [] = Unit {0}
  AreSound end covered (i ∷ items) =
      (e : FileExtentValue) × (file_extent_of i.1 ≡ Some e) × ((leaf : ℕ) → extent_refusals ranges end covered i.0.offset leaf e ≡ []) × AreSound (i.0.offset + extent_length e.content) (covered + covered_by e.content) items

  pub no_refusals : (end covered : ℕ) (ts : List TreeItem) → AreSound end covered (map bare_item ts) → extents_refusals ranges end covered ts ≡ []
  no_refusals end covered [] sound = refl
  no_refusals end covered (t ∷ ts) sound =
      ap (λ (o : Option FileExtentValue). refusals_at ranges end covered t o ++ extents_refusals ranges (end_after end t.key.offset o) (covered_after covered o) ts) sound.1
      ∙ (ap (λ (l : List BtrRefusal). l ++ extents_refusals ranges (t.key.offset + extent_length sound.0.content) (covered + covered_by sound.0.content) ts) (sound.2 t.leaf)
      ∙ no_refusals (t.key.offset + extent_length sound.0.content) (covered + covered_by sound.0.content) ts sound.3)

  pub inline_sound : (ino : ℕ) (bytes : List ℕ) → length bytes < 2 ^ 64 → AreSound 0 0 (extent_item ino 0 (inline_extent bytes) ∷ [])
  inline_sound ino bytes few = (inline_extent bytes, inline_read bytes few, λ leaf. refl, tt)

  -- a piece whose extent keeps the rules alone
  pub record IsWell (p : Piece) : Type 0 where
    pub fits : Fits p
    pub high : 256 ≤ p.place
    pub short : file_block p + p.count ≤ 2 ^ 32
    pub mapped : (a : ℕ) → 4096 * p.place ≤ a → a < 4096 * (p.place + p.count) → place ranges a ≡ Some a

  all_mapped : (n address : ℕ) → ((j : ℕ) → j < n → place ranges (address + 4096 * j) ≡ Some (address + 4096 * j)) → unmapped_in ranges n address ≡ []
  all_mapped zero address each = refl
  all_mapped (suc n) address each =
      let first : place ranges address ≡ Some address = subst (λ (a : ℕ). place ranges a ≡ Some a) (let e : address + 4096 * 0 ≡ address = omega arith in e) (each 0 (omega arith)) in
      ap (λ (o : Option ℕ). at_unmapped o address ++ unmapped_in ranges n (address + 4096)) first
      ∙ all_mapped n (address + 4096) (λ j h. subst (λ (a : ℕ). place ranges a ≡ Some a) (let e : address + 4096 * (1 + j) ≡ address + 4096 + 4096 * j = omega arith in e) (each (1 + j) (omega (arith, h))))

  not_zero : (n : ℕ) → 0 < n → (n == 0) ≡ false
  not_zero n some = grind (arith, nat_tests)

  zero_test : (n : ℕ) → n ≡ 0 → (n == 0) ≡ true
  zero_test n none = grind (arith, nat_tests)

  le_test : (a b : ℕ) → a ≤ b → nat_le a b ≡ true
  le_test a b h = grind (arith, nat_tests)

  lt_test : (a b : ℕ) → a < b → nat_lt a b ≡ true
  lt_test a b h = grind (arith, nat_tests)

  four : (a b c : Bool) → a ≡ true → b ≡ true → c ≡ true → (a && (b && c)) ≡ true
  four true true true x y z = refl
  four true true false x y z = z
  four true false c x y z = y
  four false b c x y z = x

  module _ (p : Piece) (well : IsWell p) (end covered : ℕ) (behind : end ≤ 4096 * file_block p) (less : covered ≤ end) where
    abbrev e : FileExtentValue
    e = regular_extent p.place p.count

    no_hole : (4096 * p.place == 0) ≡ false
    no_hole = let high = well.high in not_zero (4096 * p.place) (omega (arith, high))

    covered_is : covered_by e.content ≡ 4096 * p.count
    covered_is = ap (λ (b : Bool). if b then 0 else 4096 * p.count) no_hole

    places_are : place_refusals ranges e.content ≡ []
    places_are =
        let many : 4096 * p.count / 4096 ≡ p.count = omega arith in
        ap (λ (b : Bool). if b then [] else unmapped_in ranges (4096 * p.count / 4096) (4096 * p.place + 0)) no_hole
        ∙ (ap (λ (n : ℕ). unmapped_in ranges n (4096 * p.place + 0)) many
        ∙ all_mapped p.count (4096 * p.place + 0) (λ j h. well.mapped (4096 * p.place + 0 + 4096 * j) (omega arith) (omega (arith, h))))

    aligned : is_aligned (4096 * file_block p) e.content ≡ true
    aligned =
        four (4096 * file_block p % 4096 == 0) (4096 * p.count % 4096 == 0) _ (zero_test (4096 * file_block p % 4096) (omega arith)) (zero_test (4096 * p.count % 4096) (omega arith))
        (ap (λ (b : Bool). b || ((4096 * p.place % 4096 == 0) && ((0 % 4096 == 0) && nat_le (0 + 4096 * p.count) (4096 * p.count)))) no_hole
        ∙ four (4096 * p.place % 4096 == 0) (0 % 4096 == 0) (nat_le (0 + 4096 * p.count) (4096 * p.count)) (zero_test (4096 * p.place % 4096) (omega arith)) refl (le_test (0 + 4096 * p.count) (4096 * p.count) (omega arith)))

    formed : has_form end covered (4096 * file_block p) e.content ≡ true
    formed =
        let is = covered_is in
        let short = well.short in
        four (nat_le end (4096 * file_block p)) (is_aligned (4096 * file_block p) e.content) (nat_lt (covered + covered_by e.content) (2 ^ 59)) (le_test end (4096 * file_block p) behind) aligned
        (lt_test (covered + covered_by e.content) (2 ^ 59) (omega (arith, is, short, behind, less)))

    pub piece_sound : (leaf : ℕ) → extent_refusals ranges end covered (4096 * file_block p) leaf e ≡ []
    piece_sound leaf = ap (λ (b : Bool). refused_unless b (BadBtrfs leaf ExtentForm) ++ place_refusals ranges e.content) formed ∙ places_are

    pub still_less : covered + covered_by e.content ≤ 4096 * file_block p + extent_length e.content
    still_less = let is = covered_is in omega (arith, is, behind, less)

  pub pieces_sound : (ino : ℕ) (ps : List Piece) (end covered : ℕ) → covered ≤ end → AllByRecursion IsWell ps → Follow ps → AllByRecursion (λ p. end ≤ 4096 * file_block p) ps → AreSound end covered (extents_at ino file_block ps)
  pieces_sound ino [] end covered less well follow behind = tt
  pieces_sound ino (p ∷ ps) end covered less well follow behind = (
    regular_extent p.place p.count,
    regular_read p.place p.count well.0.fits.low well.0.fits.few,
    piece_sound p well.0 end covered behind.0 less,
    pieces_sound ino ps (4096 * file_block p + 4096 * p.count) (covered + covered_by (regular_extent p.place p.count).content) (still_less p well.0 end covered behind.0 less) well.1 follow.1
        (all_same ps (all_times (file_block p + p.count) ps follow.0)),
  )
    where
      all_same : (qs : List Piece) → AllByRecursion (λ q. 4096 * (file_block p + p.count) ≤ 4096 * file_block q) qs → AllByRecursion (λ q. 4096 * file_block p + 4096 * p.count ≤ 4096 * file_block q) qs
      all_same [] all = tt
      all_same (q ∷ qs) all = (let h = all.0 in omega (arith, h), all_same qs all.1)

-- ---- pieces of an inode lie one behind the other

-- two pieces hold no block of one file
abbrev pub Disjoint : Piece → Piece → Type 0
Disjoint p q = (i k l : ℕ) → p.owner ≡ Some (i, k) → q.owner ≡ Some (i, l) → (k + p.count ≤ l) ⊎ (l + q.count ≤ k)

-- at most one element, where no two can be
few : {A : Type 0} (xs : List A) → AllPairs (λ x y. ⊥) xs → length xs ≤ 1
few [] pairs = omega arith
few (x ∷ xs) pairs = ⊎_elim (λ (more : 1 < length (x ∷ xs)). absurd (pairs 0 1 x (omega arith) more)) (λ (least : length (x ∷ xs) ≤ 1). least) (cases_lt 1 (length (x ∷ xs)))

equal : (a b : ℕ) → (a == b) ≡ true → a ≡ b
equal a b t = grind (arith, nat_tests)

pub owner_is : (ino : ℕ) (p : Piece) → is_owned_by ino p ≡ true → p.owner ≡ Some (ino, file_block p)
owner_is ino p is = by p.owner is
  where
    by : (w : Option (ℕ × ℕ)) → option_map_or (λ x. x.0 == ino) w false ≡ true → w ≡ Some (ino, option_map_or (λ x. x.1) w 0)
    by None t = absurd (cc)
    by (Some w) t = ap (λ (m : ℕ). let x : Option (ℕ × ℕ) = Some (m, w.1) in x) (equal w.0 ino t)

module _ (pieces : List Piece) (some : (p : Piece) → Contains pieces p → 1 ≤ p.count) (once : AllPairs Disjoint pieces) (ino : ℕ) where
  abbrev owned : List Piece
  owned = filter (is_owned_by ino) pieces

  at_once : (n : ℕ) → length (filter (λ p. file_block p == n) owned) ≤ 1
  at_once n =
      let same : Piece → Bool = λ p. file_block p == n in
      few (filter same owned) (λ i j d order inside.
      let p : Piece = get_or (filter same owned) i d in
      let q : Piece = get_or (filter same owned) j d in
      let in_p = from_filter same owned p (Contains-get_or (filter same owned) i d (omega (arith, order, inside))) in
      let in_q = from_filter same owned q (Contains-get_or (filter same owned) j d inside) in
      let own_p = from_filter (is_owned_by ino) pieces p in_p.0 in
      let own_q = from_filter (is_owned_by ino) pieces q in_q.0 in
      let some_p = some p own_p.0 in
      let some_q = some q own_q.0 in
      let at_p : file_block p ≡ n = equal (file_block p) n in_p.1 in
      let at_q : file_block q ≡ n = equal (file_block q) n in_q.1 in
      ⊎_elim (λ low. omega (arith, low, some_p, at_p, at_q)) (λ high. omega (arith, high, some_q, at_p, at_q))
      (AllPairs-filter Disjoint same owned (AllPairs-filter Disjoint (is_owned_by ino) pieces once) i j d order inside ino (file_block p) (file_block q) (owner_is ino p own_p.1) (owner_is ino q own_q.1)))

  climb : Climb file_block (pieces_of pieces ino)
  climb = climb_once file_block (pieces_of pieces ino) (ascending_sorted file_block owned) (λ n. subst (λ (xs : List Piece). length xs ≤ 1) (sym (ascending_filter file_block n owned)) (at_once n))

  -- an owned piece
  abbrev IsOwn : Piece → Type 0
  IsOwn p = Contains pieces p × (is_owned_by ino p ≡ true)

  before : (p q : Piece) → IsOwn p → IsOwn q → file_block p < file_block q → file_block p + p.count ≤ file_block q
  before p q own_p own_q less =
      let some_p = some p own_p.0 in
      ⊎_elim
      (λ (same : p ≡ q). let level = ap file_block same in absurd (omega (arith, level, less)))
      (λ either. ⊎_elim
      (λ (r : Disjoint p q). ⊎_elim (λ low. low) (λ high. absurd (omega (arith, high, less))) (r ino (file_block p) (file_block q) (owner_is ino p own_p.1) (owner_is ino q own_q.1)))
      (λ (r : Disjoint q p). ⊎_elim (λ high. absurd (omega (arith, high, less))) (λ low. low) (r ino (file_block q) (file_block p) (owner_is ino q own_q.1) (owner_is ino p own_p.1)))
      either)
      (two_cases Disjoint pieces p q once own_p.0 own_q.0)

  follow_one : (p : Piece) (qs : List Piece) → IsOwn p → AllByRecursion IsOwn qs → AllByRecursion (λ q. file_block p < file_block q) qs → AllByRecursion (λ q. file_block p + p.count ≤ file_block q) qs
  follow_one p [] own all up = tt
  follow_one p (q ∷ qs) own all up = (before p q own all.0 up.0, follow_one p qs own all.1 up.1)

  follow_all : (ps : List Piece) → AllByRecursion IsOwn ps → Climb file_block ps → Follow ps
  follow_all [] all up = tt
  follow_all (p ∷ ps) all up = (follow_one p ps all.0 all.1 up.0, follow_all ps all.1 up.1)

  -- each piece of the inode lies in the file before the later ones
  pub all_follow : Follow (pieces_of pieces ino)
  all_follow = follow_all (pieces_of pieces ino) (all_of_inode IsOwn pieces ino (λ p among is. (among, is))) climb
