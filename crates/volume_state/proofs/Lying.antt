-- Where bytes lie by the ranges of a map.
use Rattle.volume_state.proofs.Imports.{◌≡◌, ⊎_elim, inl, inr, ℕ, zero, suc, ◌+◌, ◌-◌, ◌*◌, ◌/◌, ◌<◌, ◌≤◌, Bool, true, false, List, [], ◌∷◌, length, get_or, take, Option, Some, None, refl, sym, ◌∙◌, ap, subst, arith, if◌then◌else◌, option_map, cases_lt, take_all, All-more, nat_tests, FIRST_MIRROR, FIRST_MIRROR_END, SECOND_MIRROR, SECOND_MIRROR_END, IsReserved, holds, place, second_place, MapRange, holds_bounds, IsBetween, IsMapApart, LieInCopy, LieInRange, LieInSecond, TellsBetween, LieIn, TellsReserved}
use Rattle.std.specs.Prelude.{All}
use Rattle.volume_state.proofs.Placed.{no_some, some_is}

-- ---- reserved blocks between two
pub in_one : (first end blocks : ℕ) (o : Option ℕ)
    → TellsBetween (λ b. (0 ≤ b) × (b < 256)) first end None
    → TellsBetween (λ b. (FIRST_MIRROR ≤ b) × (b < FIRST_MIRROR_END)) first end None
    → TellsBetween (λ b. (SECOND_MIRROR ≤ b) × (b < SECOND_MIRROR_END)) first end None
    → TellsBetween (λ b. (16 * (blocks / 16) ≤ b) × (b < blocks)) first end o
    → TellsBetween (λ b. IsReserved b blocks) first end o
in_one first end blocks None one two three four = λ b between reserved.
    ⊎_elim (λ low. one b between (omega arith, low)) (λ rest. ⊎_elim (two b between) (λ last. ⊎_elim (three b between) (four b between) last) rest) reserved
in_one first end blocks (Some b) one two three four = (four.0, inr (inr (inr four.1)))

-- ---- one range
module _ (r : MapRange) (start address count blocks first end : ℕ) (some : first < end) (low : address ≤ first) (own : r.logical ≤ first) (high : end ≤ address + count) (below : end ≤ r.logical + r.length)
    (least : (x : ℕ) → address ≤ x → r.logical ≤ x → first ≤ x) (most : (x : ℕ) → x < address + count → x < r.logical + r.length → x < end) where
  abbrev at : ℕ
  at = start + (first - r.logical)

  abbrev last : ℕ
  last = at + (end - first) - 1

  lies_between : (b : ℕ) → LieInCopy r start address count b → IsBetween (at / 4096) (last / 4096 + 1) b
  lies_between b lies =
      let from : first ≤ address + lies.k = least (address + lies.k) (omega arith) lies.from in
      let to : address + lies.k < end = most (address + lies.k) (omega (arith, lies.within)) lies.below in
      record { from = omega (arith, from, to, own, lies.block); below = omega (arith, from, to, own, lies.block) }

  byte_in : (b : ℕ) → IsBetween (at / 4096) (last / 4096 + 1) b → LieInCopy r start address count b
  byte_in b between =
      ⊎_elim
      (λ (before : at < 4096 * b). record {
        k = (4096 * b - at) + (first - address);
        within = omega (arith, before, between.below, low, high, some);
        from = omega (arith, before, between.below, low, own, some);
        below = omega (arith, before, between.below, low, below, some);
        block = omega (arith, before, between.below, low, own, some);
      })
      (λ (behind : 4096 * b ≤ at). record {
        k = first - address;
        within = omega (arith, low, high, some);
        from = omega (arith, low, own);
        below = omega (arith, low, below, some);
        block = omega (arith, behind, between.from, low, own);
      })
      (cases_lt at (4096 * b))

  pub by_range : (o : Option ℕ) → TellsBetween (λ b. IsReserved b blocks) (at / 4096) (last / 4096 + 1) o → TellsReserved (λ b. LieInCopy r start address count b) blocks o
  by_range None none = λ b reserved lies. none b (lies_between b lies) reserved
  by_range (Some b) one = (one.1, byte_in b one.0)

-- ---- both copies of a range
pub by_copies : (r : MapRange) (address count blocks : ℕ) (o : Option ℕ) → TellsReserved (λ b. LieInCopy r r.physical address count b) blocks None → TellsReserved (λ b. LieInSecond r r.mirror address count b) blocks o
    → TellsReserved (λ b. LieInRange r address count b) blocks o
by_copies r address count blocks None first second = λ b reserved lies. ⊎_elim (first b reserved) (second b reserved) lies
by_copies r address count blocks (Some b) first second = (second.0, inr second.1)

-- ---- a map
-- the range that gives a place, by a copy that begins there
pub record HasRange (start : MapRange → Option ℕ) (ranges : List MapRange) (a p : ℕ) : Type 0 where
  pub j : ℕ
  pub range : MapRange
  pub within : j < length ranges
  pub there : get_or ranges j range ≡ range
  pub from : range.logical ≤ a
  pub below : a < range.logical + range.length
  pub at : ℕ
  pub starts : start range ≡ Some at
  pub place_is : p ≡ at + (a - range.logical)

-- the place of an address by the copies that begin there
abbrev pub place_by : (MapRange → Option ℕ) → List MapRange → ℕ → Option ℕ
place_by start [] a = None
place_by start (r ∷ ranges) a = if holds r a then option_map (λ at. at + (a - r.logical)) (start r) else place_by start ranges a

abbrev pub first_start : MapRange → Option ℕ
first_start r = Some r.physical

abbrev pub second_start : MapRange → Option ℕ
second_start r = r.mirror

pub first_by : (ranges : List MapRange) (a : ℕ) → place ranges a ≡ place_by first_start ranges a
first_by [] a = refl
first_by (r ∷ ranges) a = ap (λ (o : Option ℕ). if holds r a then Some (r.physical + (a - r.logical)) else o) (first_by ranges a)

pub second_by : (ranges : List MapRange) (a : ℕ) → second_place ranges a ≡ place_by second_start ranges a
second_by [] a = refl
second_by (r ∷ ranges) a = ap (λ (o : Option ℕ). if holds r a then option_map (λ at. at + (a - r.logical)) r.mirror else o) (second_by ranges a)

started : (o : Option ℕ) (d p : ℕ) → option_map (λ at. at + d) o ≡ Some p → (at : ℕ) × (o ≡ Some at) × (p ≡ at + d)
started None d p is = absurd (no_some p is)
started (Some at) d p is = (at, refl, sym (some_is (at + d) p is))

module _ (start : MapRange → Option ℕ) where
  by_test : (r : MapRange) (ranges : List MapRange) (a p : ℕ) (t : Bool) → holds r a ≡ t → (place_by start ranges a ≡ Some p → HasRange start ranges a p)
      → (if t then option_map (λ at. at + (a - r.logical)) (start r) else place_by start ranges a) ≡ Some p → HasRange start (r ∷ ranges) a p
  by_test r ranges a p true held rest is =
      let bounds = holds_bounds r a held in
      let begun = started (start r) (a - r.logical) p is in
      record { j = 0; range = r; within = omega arith; there = refl; from = bounds.0; below = bounds.1; at = begun.0; starts = begun.1; place_is = begun.2 }
  by_test r ranges a p false held rest is =
      let has = rest is in
      record { j = suc has.j; range = has.range; within = omega (arith, has.within); there = has.there; from = has.from; below = has.below; at = has.at; starts = has.starts; place_is = has.place_is }

  pub range_of_place : (ranges : List MapRange) (a p : ℕ) → place_by start ranges a ≡ Some p → HasRange start ranges a p
  range_of_place [] a p is = absurd (no_some p is)
  range_of_place (r ∷ ranges) a p is = by_test r ranges a p (holds r a) refl (range_of_place ranges a p) is

pub held_so : (r : MapRange) (a : ℕ) → r.logical ≤ a → a < r.logical + r.length → holds r a ≡ true
held_so r a from below = grind (arith, nat_tests, from, below)

module _ (start : MapRange → Option ℕ) where
  first_holds : (r : MapRange) (ranges : List MapRange) (a : ℕ) → holds r a ≡ true → place_by start (r ∷ ranges) a ≡ option_map (λ at. at + (a - r.logical)) (start r)
  first_holds r ranges a held = ap (λ (t : Bool). if t then option_map (λ at. at + (a - r.logical)) (start r) else place_by start ranges a) held

  later_place : (r : MapRange) (ranges : List MapRange) (a : ℕ) (t : Bool) (o : Option ℕ) → holds r a ≡ t → (t ≡ true → ⊥) → place_by start ranges a ≡ o → place_by start (r ∷ ranges) a ≡ o
  later_place r ranges a true o held never is = absurd (never refl)
  later_place r ranges a false o held never is = ap (λ (t : Bool). if t then option_map (λ at. at + (a - r.logical)) (start r) else place_by start ranges a) held ∙ is

  -- where no two have an address in common, a range gives its addresses their places
  pub place_of_range : (ranges : List MapRange) → IsMapApart ranges → (j : ℕ) (d : MapRange) (a : ℕ) → j < length ranges → (get_or ranges j d).logical ≤ a → a < (get_or ranges j d).logical + (get_or ranges j d).length
      → place_by start ranges a ≡ option_map (λ at. at + (a - (get_or ranges j d).logical)) (start (get_or ranges j d))
  place_of_range [] apart j d a within from below = absurd (omega (arith, within))
  place_of_range (r ∷ ranges) apart zero d a within from below = first_holds r ranges a (held_so r a from below)
  place_of_range (r ∷ ranges) apart (suc j) d a within from below =
      let rest : IsMapApart ranges = λ x y e less under. apart (suc x) (suc y) e (omega (arith, less)) (omega (arith, under)) in
      later_place r ranges a (holds r a) _ refl
      (λ held. let bounds = holds_bounds r a held in apart 0 (suc j) d (omega arith) within a (record { from = bounds.0; below = bounds.1 }) (record { from = from; below = below }))
      (place_of_range ranges rest j d a (omega (arith, within)) from below)

-- bytes that lie in no block by the ranges one after the other
abbrev pub LieNowhere : List MapRange → ℕ → ℕ → ℕ → Type 0
LieNowhere ranges address count blocks = All (λ r. (b : ℕ) → IsReserved b blocks → ¬ LieInRange r address count b) ranges

-- by a copy of one of the ranges
in_copy : (start : MapRange → Option ℕ) (ranges : List MapRange) (address count b k p : ℕ) → k < count → p / 4096 ≡ b → place_by start ranges (address + k) ≡ Some p
    → (has : HasRange start ranges (address + k) p) × LieInCopy has.range has.at address count b
in_copy start ranges address count b k p within block is =
    let has = range_of_place start ranges (address + k) p is in
    (has, record { k = k; within = within; from = has.from; below = has.below; block = ap (λ (n : ℕ). n / 4096) (sym has.place_is) ∙ block })

second_of : (r : MapRange) (o : Option ℕ) (start address count b : ℕ) → o ≡ Some start → LieInCopy r start address count b → LieInSecond r o address count b
second_of r None start address count b is lies = absurd (no_some start is)
second_of r (Some other) start address count b is lies = subst (λ (n : ℕ). LieInCopy r n address count b) (sym (some_is other start is)) lies

pub none_by_map : (ranges : List MapRange) (address count blocks : ℕ) → LieNowhere ranges address count blocks → TellsReserved (λ b. LieIn ranges address count b) blocks None
none_by_map ranges address count blocks nowhere b reserved lies = ⊎_elim first second lies.place_is
  where
    none : (start : MapRange → Option ℕ) (has : HasRange start ranges (address + lies.k) lies.at) → LieInRange has.range address count b → ⊥
    none start has held =
        subst (λ (r : MapRange). (x : ℕ) → IsReserved x blocks → ¬ LieInRange r address count x) has.there (nowhere has.j has.range has.within) b reserved held

    first : place ranges (address + lies.k) ≡ Some lies.at → ⊥
    first is =
        let held = in_copy first_start ranges address count b lies.k lies.at lies.within lies.block (sym (first_by ranges (address + lies.k)) ∙ is) in
        none first_start held.0 (inl (subst (λ (n : ℕ). LieInCopy held.0.range n address count b) (sym (some_is held.0.range.physical held.0.at held.0.starts)) held.1))

    second : second_place ranges (address + lies.k) ≡ Some lies.at → ⊥
    second is =
        let held = in_copy second_start ranges address count b lies.k lies.at lies.within lies.block (sym (second_by ranges (address + lies.k)) ∙ is) in
        none second_start held.0 (inr (second_of held.0.range held.0.range.mirror held.0.at address count b held.0.starts held.1))

-- a range of the map in which they do
module _ (ranges : List MapRange) (address count j : ℕ) (d : MapRange) (within : j < length ranges) (apart : IsMapApart ranges) where
  abbrev own : MapRange
  own = get_or ranges j d

  by_first : (b : ℕ) → LieInCopy own own.physical address count b → LieIn ranges address count b
  by_first b lies = record {
    k = lies.k;
    within = lies.within;
    at = own.physical + (address + lies.k - own.logical);
    place_is = inl (first_by ranges (address + lies.k) ∙ place_of_range first_start ranges apart j d (address + lies.k) within lies.from lies.below);
    block = lies.block;
  }

  by_second : (b : ℕ) (o : Option ℕ) → own.mirror ≡ o → LieInSecond own o address count b → LieIn ranges address count b
  by_second b None is lies = absurd lies
  by_second b (Some start) is lies = record {
    k = lies.k;
    within = lies.within;
    at = start + (address + lies.k - own.logical);
    place_is =
        inr (second_by ranges (address + lies.k)
        ∙ (place_of_range second_start ranges apart j d (address + lies.k) within lies.from lies.below
        ∙ ap (λ (o : Option ℕ). option_map (λ at. at + (address + lies.k - own.logical)) o) is));
    block = lies.block;
  }

pub one_by_map : (ranges : List MapRange) (address count blocks j b : ℕ) (d : MapRange) → j < length ranges → IsReserved b blocks × LieInRange (get_or ranges j d) address count b → IsMapApart ranges
    → TellsReserved (λ b. LieIn ranges address count b) blocks (Some b)
one_by_map ranges address count blocks j b d within one apart =
    (one.0, ⊎_elim (by_first ranges address count j d within apart b) (by_second ranges address count j d within apart b (get_or ranges j d).mirror refl) one.1)

-- one range more in which they don't
pub nowhere_more : (ranges : List MapRange) (i : ℕ) (d : MapRange) (address count blocks : ℕ) → i < length ranges → LieNowhere (take i ranges) address count blocks
    → ((b : ℕ) → IsReserved b blocks → ¬ LieInRange (get_or ranges i d) address count b) → LieNowhere (take (i + 1) ranges) address count blocks
nowhere_more ranges i d address count blocks within before here =
    All-more (λ r. (b : ℕ) → IsReserved b blocks → ¬ LieInRange r address count b) ranges i d within before here

pub nowhere_all : (ranges : List MapRange) (i address count blocks : ℕ) → length ranges ≤ i → LieNowhere (take i ranges) address count blocks → LieNowhere ranges address count blocks
nowhere_all ranges i address count blocks all is = subst (λ (rs : List MapRange). LieNowhere rs address count blocks) (take_all i ranges all) is
