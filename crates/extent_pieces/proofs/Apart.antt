-- Pieces that have their places do not overlap.
use Rattle.extent_pieces.proofs.Imports.{◌≡◌, ℕ, zero, suc, ◌+◌, ◌-◌, ◌*◌, ◌/◌, ◌^◌, ◌<◌, ◌≤◌, ◌==◌, ◌&&◌, ◌||◌, ltb, Bool, true, false, List, [], ◌∷◌, ◌++◌, length, map, get_or, take, drop, Option, Some, None, refl, sym, ◌∙◌, ap, arith, subst, ⊎_elim, length-append, eq-eqb, Contains, All, AllPairs, MatchOption, filter, nat_lt, if◌then◌else◌, unwrap_or, div_ceil, range_with_len, IsPermutation, and_from, and_parts, both_ways, cases_Bool, cases_lt, lt-ltb, ltb-true, length-map, Contains-append_cases, Contains-get_or, Contains-permutation, IsPermutation-sym, IsDistinct-IsPermutation, IsDistinct-from_apart, apart_from_distinct, AllPairs-cons, from_filter, from_flat_map, from_map, Image, has, IsFreeUnit, all_from_contains, contains_cases, contains_head, contains_tail, range_contains, disk_or_hole, is_held, named_block, ObjectStat, no_stat, stat_at, used_of, volume_items, accepted_is_small, used_length, is_among, Counts, Piece, IsSoundPlan, plans_sound, need, Pieces, Tail, is_tail, FileAt, file_at, file_blocks, file_tails, has_tail, is_file_inline, owner, tails, files_of, AreKeptPieces, HasPlan, IsKeptPiece, LieWell, LiesInUnit, PlacesAreApart, PlansHaveRoom, Owners, advanced, copied_pieces, kept_pieces, tail_piece, WerePlaced, FitsPlan, at_place, at_places, blocks_of_units}
use Rattle.std.proofs.Math.Seq.{drop-append_seam, take-append_seam}
use Rattle.reiser_volume_files.specs.declared.map.RunFrom.TheVariants.{Tail as InTree}
use Rattle.unit_plan.specs.convert_options.declared.options.Options.{Options}
use Rattle.unit_plan.specs.declared.plan.Plan.{Plan}
use Rattle.extent_pieces.proofs.Covering.{IsCopied, is_copied_piece, used_inside}
use Rattle.extent_pieces.proofs.Ending.{data_used}
use Rattle.extent_pieces.proofs.Lists.{all_at, all_head, all_tail, pairs_append, pairs_head, pairs_tail}
use Rattle.extent_pieces.proofs.Maximal.{kept_are_maximal}
use Rattle.extent_pieces.proofs.Named.{owners_of, owns_file}
use Rattle.extent_pieces.proofs.Once.{IsFileOf, file_of, size_short}

-- ---- overlaps

-- two pieces have a block in common where they lie
abbrev overlap : Piece → Piece → Bool
overlap p q = ltb p.place (q.place + q.count) && ltb q.place (p.place + p.count)

turned : (a b : Bool) → (a && b) ≡ (b && a)
turned true true = refl
turned true false = refl
turned false true = refl
turned false false = refl

overlap_flips : (p q : Piece) → overlap p q ≡ overlap q p
overlap_flips p q = turned (ltb p.place (q.place + q.count)) (ltb q.place (p.place + p.count))

-- they have none
no_overlap : (p q : Piece) → (p.place < q.place + q.count → q.place < p.place + p.count → ⊥) → overlap p q ≡ false
no_overlap p q never =
    ⊎_elim
    (λ (t : overlap p q ≡ true).
    let parts = and_parts (ltb p.place (q.place + q.count)) (ltb q.place (p.place + p.count)) t in
    absurd (never (ltb-true p.place (q.place + q.count) parts.0) (ltb-true q.place (p.place + p.count) parts.1)))
    (λ (f : overlap p q ≡ false). f)
    (cases_Bool (overlap p q))

-- of two that have none the one that lies lower ends before the other
apart_tells : (p q : Piece) → overlap p q ≡ false → p.place ≤ q.place → 0 < q.count → p.place + p.count ≤ q.place
apart_tells p q off order some =
    ⊎_elim
    (λ (less : q.place < p.place + p.count).
    absurd (both_ways (overlap p q) off
    (and_from (ltb p.place (q.place + q.count)) (ltb q.place (p.place + p.count)) (lt-ltb p.place (q.place + q.count) (omega arith)) (lt-ltb q.place (p.place + p.count) less))))
    (λ (more : p.place + p.count ≤ q.place). more)
    (cases_lt q.place (p.place + p.count))

-- ---- the blocks of units

-- where a block of units lies
blocks_in : (units : List ℕ) (b : ℕ) → Contains (blocks_of_units units) b → (u : ℕ) × Contains units u × (256 * u ≤ b) × (b < 256 * u + 256)
blocks_in units b h =
    let found = from_flat_map (λ u. range_with_len (256 * u) 256) units b h in
    let within = range_contains (256 * found.0) 256 b found.2 in
    (found.0, found.1, within.0, within.1)

-- ascending units have ascending blocks
range_ascends : (a n : ℕ) → AllPairs (λ b c. b < c) (range_with_len a n)
range_ascends a zero = λ i j d order inside. absurd (omega (arith, inside))
range_ascends a (suc n) =
    AllPairs-cons (λ b c. b < c) a (range_with_len (a + 1) n) (all_from_contains (λ c. a < c) (range_with_len (a + 1) n) (λ c h. let low = range_contains (a + 1) n c h in let first = low.0 in omega (arith, first)))
    (range_ascends (a + 1) n)

blocks_ascend : (units : List ℕ) → AllPairs (λ u v. u < v) units → AllPairs (λ b c. b < c) (blocks_of_units units)
blocks_ascend [] pairs = λ i j d order inside. absurd (omega (arith, inside))
blocks_ascend (u ∷ units) pairs =
    pairs_append (λ b c. b < c) (range_with_len (256 * u) 256) (blocks_of_units units) (range_ascends (256 * u) 256) (blocks_ascend units (pairs_tail (λ v w. v < w) u units pairs))
    (λ b h. all_from_contains (λ c. b < c) (blocks_of_units units) (λ c later.
    let here = range_contains (256 * u) 256 b h in
    let found = blocks_in units c later in
    let above : u < found.0 = all_at (λ v. u < v) units found.0 (pairs_head (λ v w. v < w) u units pairs) found.1 in
    let high = here.1 in
    let low = found.2 in
    omega (arith, high, low, above)))

-- ---- pieces at their places

-- each piece that gets a place is one of the old ones at one of the places
record IsMoved (old : List Piece) (places : List ℕ) (p : Piece) : Type 0 where
  from_ : Piece
  among : Contains old from_
  place : Contains places p.place
  is : p ≡ at_place from_ p.place

moved_of : (old : List Piece) (places : List ℕ) (p : Piece) → Contains (at_places old places) p → IsMoved old places p
moved_of [] places p h = absurd (omega (arith, h.1))
moved_of (q ∷ old) [] p h = absurd (omega (arith, h.1))
moved_of (q ∷ old) (b ∷ bs) p h =
    ⊎_elim
    (λ (same : at_place q b ≡ p).
    subst (IsMoved (q ∷ old) (b ∷ bs)) same (record { from_ = q; among = contains_head q old; place = contains_head b bs; is = refl }))
    (λ (later : Contains (at_places old bs) p).
    let rest = moved_of old bs p later in
    record { from_ = rest.from_; among = contains_tail rest.from_ q old rest.among; place = contains_tail p.place b bs rest.place; is = rest.is })
    (contains_cases p (at_place q b) (at_places old bs) h)

moved_apart : (old : List Piece) (places : List ℕ) → All (λ p. p.count ≡ 1) old → AllPairs (λ b c. b < c) places → AllPairs (λ p q. overlap p q ≡ false) (at_places old places)
moved_apart [] places ones ascend = λ i j d order inside. absurd (omega (arith, inside))
moved_apart (q ∷ old) [] ones ascend = λ i j d order inside. absurd (omega (arith, inside))
moved_apart (q ∷ old) (b ∷ bs) ones ascend =
    AllPairs-cons (λ p r. overlap p r ≡ false) (at_place q b) (at_places old bs)
    (all_from_contains (λ r. overlap (at_place q b) r ≡ false) (at_places old bs) (λ r h.
    let moved = moved_of old bs r h in
    let above : b < r.place = all_at (λ c. b < c) bs r.place (pairs_head (λ c e. c < e) b bs ascend) moved.place in
    let one : q.count ≡ 1 = all_head (λ p. p.count ≡ 1) q old ones in
    no_overlap (at_place q b) r (λ low high. omega (arith, above, one, high))))
    (moved_apart old bs (all_tail (λ p. p.count ≡ 1) q old ones) (pairs_tail (λ c e. c < e) b bs ascend))

among_true : (units : List ℕ) (u : ℕ) → Contains units u → is_among units u ≡ true
among_true [] u h = absurd (omega (arith, h.1))
among_true (v ∷ units) u h =
    ⊎_elim
    (λ (same : v ≡ u). ap (λ (b : Bool). b || is_among units u) (eq-eqb v u same))
    (λ (later : Contains units u). by (v == u) (among_true units u later))
    (contains_cases u v units h)
  where
    by : (b : Bool) → is_among units u ≡ true → (b || is_among units u) ≡ true
    by true t = refl
    by false t = t

-- ---- the pieces of a volume with a plan

-- a file block that has a place is below the size
block_below : (f : FileAt) (k : ℕ) → has_tail f k ≡ true → 4096 * k < f.size
block_below f k = by (nat_lt (4096 * k) f.size) refl
  where
    by : (b : Bool) → nat_lt (4096 * k) f.size ≡ b → is_tail (if b then (if is_held f.items f.size k then Some InTree else disk_or_hole (named_block f.items k)) else None) ≡ true → 4096 * k < f.size
    by true is t = ltb-true (4096 * k) f.size is
    by false is t = absurd (cc)

-- what a piece is that gets a place: one block of the volume, or a tail
record IsOne (blocks : ℕ) (p : Piece) : Type 0 where
  one : p.count ≡ 1
  source : MatchOption p.from (Unit {0}) (λ b. b + p.count ≤ blocks)
  owner : MatchOption p.owner (Unit {0}) (λ o. o.1 + p.count ≤ 2 ^ 32)

module _ (image : Image) (found : Pieces) (o : Options) (plan : Plan) (has_plan : HasPlan image found o plan) where
  abbrev used : List Bool
  used = used_of image

  abbrev all_files : List FileAt
  all_files = files_of image has_plan.keys

  abbrev by : Owners
  by = owner all_files

  abbrev kept : List Piece
  kept = kept_pieces used by

  abbrev all_tails : List Tail
  all_tails = tails o.inline all_files

  abbrev rest : List Piece
  rest = copied_pieces used by ++ map tail_piece all_tails

  abbrev old : List Piece
  old = found.items.items

  old_is : old ≡ kept ++ rest
  old_is = has_plan.found_.pieces_are

  front : take found.kept old ≡ kept
  front = ap (λ (n : ℕ). take n old) has_plan.found_.kept_are ∙ (ap (take (length kept)) old_is ∙ take-append_seam kept rest)

  back : drop found.kept old ≡ rest
  back = ap (λ (n : ℕ). drop n old) has_plan.found_.kept_are ∙ (ap (drop (length kept)) old_is ∙ drop-append_seam kept rest)

  sound : IsSoundPlan used (need found.counts o) plan
  sound = plans_sound used (need found.counts o) plan has_plan.enough has_plan.plan_

  unit_free : (u : ℕ) → Contains plan.data_ u → IsFreeUnit used u
  unit_free u h = all_at (IsFreeUnit used) plan.data_ u sound.data_.free h

  rest_long : length rest ≡ found.counts.copies + found.counts.tails
  rest_long =
      let copies : found.counts.copies ≡ length (copied_pieces used by) = ap (λ (c : Counts). c.copies) has_plan.found_.counts_are in
      let tails_are : found.counts.tails ≡ length all_tails = ap (λ (c : Counts). c.tails) has_plan.found_.counts_are in
      let many = length-map all_tails tail_piece in
      let both = length-append (copied_pieces used by) (map tail_piece all_tails) in
      omega (arith, copies, tails_are, many, both)

  old_long : length old ≡ found.kept + length rest
  old_long = let sum = length-append kept rest in let all = ap length old_is in let first = has_plan.found_.kept_are in omega (arith, sum, all, first)

  -- no unit is large
  unit_small : (u : ℕ) → Contains plan.data_ u → u < 2 ^ 50
  unit_small u h =
      let inside = (unit_free u h).inside in
      let long = used_length image in
      let most = (accepted_is_small image has_plan.sorted.accepted).blocks in
      omega (arith, inside, long, most)

  pub fits_plan : FitsPlan found plan.data_
  fits_plan =
      let many : length plan.data_ ≡ div_ceil (found.counts.copies + found.counts.tails) 256 = sound.data_.many in
      let long = rest_long in
      let all = old_long in
      record {
        kept = omega (arith, all);
        room = omega (arith, many, long, all);
        small = all_from_contains (λ u. u < 2 ^ 50) plan.data_ unit_small;
      }

  -- ---- owners

  -- a file block that an owner is told by is below 2^32
  owner_low : (b ino k : ℕ) → by b ≡ Some (ino, k) → k + 1 ≤ 2 ^ 32
  owner_low b ino k is =
      let from = (owners_of image has_plan.keys has_plan.sorted).owns b ino k is in
      let owns = from.2 in
      let among : Contains has_plan.keys from.0 = (has_plan.sorted.are_keys.exact from.0).1 owns.named in
      let short = size_short image has_plan.sorted.accepted has_plan.keys has_plan.sorted.are_keys from.0 among (owns_file image from.0 k b owns) in
      let stat : (stat_at (volume_items image) from.0).fields.size ≡ owns.stat.fields.size = ap (λ (s : Option ObjectStat). (unwrap_or s no_stat).fields.size) owns.has_stat in
      let below = owns.below in
      omega (arith, short, stat, below)

  owner_fits : (b : ℕ) (who : Option (ℕ × ℕ)) → by b ≡ who → MatchOption who (Unit {0}) (λ w. w.1 + 1 ≤ 2 ^ 32)
  owner_fits b None is = tt
  owner_fits b (Some w) is = owner_low b w.0 w.1 is

  -- the owner of the first block of a piece, by that of its last
  run_fits : (c : ℕ) (who : Option (ℕ × ℕ)) (last : ℕ) → 0 < c → by last ≡ advanced who (c - 1) → MatchOption who (Unit {0}) (λ w. w.1 + c ≤ 2 ^ 32)
  run_fits c None last some is = tt
  run_fits c (Some w) last some is = let low = owner_low last w.0 (w.1 + (c - 1)) is in omega (arith, low, some)

  -- ---- kept pieces

  are_kept : AreKeptPieces used by kept
  are_kept = kept_are_maximal used by

  is_kept : (p : Piece) → Contains kept p → IsKeptPiece used by p
  is_kept p h = all_at (IsKeptPiece used by) kept p are_kept.each h

  last_of : (p : Piece) → IsKeptPiece used by p → p.place + p.count ≤ length used
  last_of p is =
      let some = is.some in
      let last = used_inside used by (p.place + (p.count - 1)) (data_used used (p.place + (p.count - 1)) (is.data_ (p.place + (p.count - 1)) (omega arith, omega (arith, some)))) in
      omega (arith, some, last)

  kept_owner : (p : Piece) → IsKeptPiece used by p → MatchOption p.owner (Unit {0}) (λ w. w.1 + p.count ≤ 2 ^ 32)
  kept_owner p is =
      let some = is.some in
      let last : ℕ = p.place + (p.count - 1) in
      let there = is.owners last (omega arith, omega (arith, some)) in
      run_fits p.count p.owner last some (there ∙ ap (advanced p.owner) (let e : last - p.place ≡ p.count - 1 = omega arith in e))

  kept_source : (p : Piece) → IsKeptPiece used by p → MatchOption p.from (Unit {0}) (λ b. b + p.count ≤ length used)
  kept_source p is = subst (λ (f : Option ℕ). MatchOption f (Unit {0}) (λ b. b + p.count ≤ length used)) (sym is.stays) (last_of p is)

  -- ---- copies and tails

  copied_one : (p : Piece) → Contains (copied_pieces used by) p → IsOne (length used) p
  copied_one p h =
      let of : IsCopied used by p = is_copied_piece used by p h in
      let inside = used_inside used by of.block of.used_ in
      subst (IsOne (length used)) (sym of.is) (record { one = refl; source = omega (arith, inside); owner = owner_fits of.block (by of.block) refl })

  tail_low : (f : FileAt) (k : ℕ) → Contains all_files f → has_tail f k ≡ true → k + 1 ≤ 2 ^ 32
  tail_low f k among t =
      let of : IsFileOf (volume_items image) has_plan.keys has_plan.keys f = file_of (volume_items image) has_plan.keys has_plan.keys f among in
      let short = size_short image has_plan.sorted.accepted has_plan.keys has_plan.sorted.are_keys of.key of.among of.file in
      let size : (file_at (volume_items image) has_plan.keys of.key).size ≡ f.size = ap (λ (g : FileAt). g.size) of.is in
      let below = block_below f k t in
      omega (arith, short, size, below)

  tail_of : (f : FileAt) (t : Tail) → Contains all_files f → Contains (file_tails o.inline f) t → t.at + 1 ≤ 2 ^ 32
  tail_of f t among = go (is_file_inline o.inline f)
    where
      go : (b : Bool) → Contains (if b then [] else map (λ k. record { inode = f.inode; at = k }) (filter (has_tail f) (file_blocks f))) t → t.at + 1 ≤ 2 ^ 32
      go true h = absurd (omega (arith, h.1))
      go false h =
          let mapped = from_map (λ (k : ℕ). let u : Tail = record { inode = f.inode; at = k } in u) (filter (has_tail f) (file_blocks f)) t h in
          let held = from_filter (has_tail f) (file_blocks f) mapped.0 mapped.1 in
          let low = tail_low f mapped.0 among held.1 in
          let same : mapped.0 ≡ t.at = ap (λ (u : Tail). u.at) mapped.2 in
          omega (arith, low, same)

  tail_one : (p : Piece) → Contains (map tail_piece all_tails) p → IsOne (length used) p
  tail_one p h =
      let mapped = from_map tail_piece all_tails p h in
      let from = from_flat_map (file_tails o.inline) all_files mapped.0 mapped.1 in
      subst (IsOne (length used)) mapped.2 (record { one = refl; source = tt; owner = tail_of from.0 mapped.0 from.1 from.2 })

  rest_one : (p : Piece) → Contains rest p → IsOne (length used) p
  rest_one p h = ⊎_elim (λ here. copied_one p here) (λ later. tail_one p later) (Contains-append_cases (copied_pieces used by) (map tail_piece all_tails) p h)

  -- ---- all

  abbrev places : List ℕ
  places = blocks_of_units plan.data_

  abbrev moved : List Piece
  moved = at_places rest places

  -- where a piece lies that got a place
  record IsThere (p : Piece) : Type 0 where
    unit : ℕ
    among : Contains plan.data_ unit
    low : 256 * unit ≤ p.place
    high : p.place < 256 * unit + 256

  there : (p : Piece) → Contains places p.place → IsThere p
  there p h = let at = blocks_in plan.data_ p.place h in record { unit = at.0; among = at.1; low = at.2; high = at.3 }

  is_one : (p : Piece) → Contains moved p → IsOne (length used) p
  is_one p h =
      let of : IsMoved rest places p = moved_of rest places p h in
      let was : IsOne (length used) of.from_ = rest_one of.from_ of.among in
      subst (IsOne (length used)) (sym of.is) (record { one = was.one; source = was.source; owner = was.owner })

  is_there : (p : Piece) → Contains moved p → IsThere p
  is_there p h = there p (moved_of rest places p h).place

  unused_there : (p : Piece) → IsThere p → has used p.place ≡ false
  unused_there p is = let low = is.low in let high = is.high in (unit_free is.unit is.among).unused p.place (omega (arith, low, high))

  -- what holds of each piece at its place
  record IsWell (p : Piece) : Type 0 where
    some : 1 ≤ p.count
    inside : p.place + p.count ≤ length used
    source : MatchOption p.from (Unit {0}) (λ b. b + p.count ≤ length used)
    owner : MatchOption p.owner (Unit {0}) (λ w. w.1 + p.count ≤ 2 ^ 32)
    unit : LiesInUnit plan.data_ p

  kept_well : (p : Piece) → Contains kept p → IsWell p
  kept_well p h =
      let is : IsKeptPiece used by p = is_kept p h in
      record { some = is.some; inside = last_of p is; source = kept_source p is; owner = kept_owner p is; unit = λ other. absurd (other is.stays) }

  moved_well : (p : Piece) → Contains moved p → IsWell p
  moved_well p h =
      let is : IsOne (length used) p = is_one p h in
      let at : IsThere p = is_there p h in
      let one = is.one in
      let low = at.low in
      let high = at.high in
      let within = (unit_free at.unit at.among).inside in
      record {
        some = omega (arith, one);
        inside = omega (arith, one, high, within);
        source = is.source;
        owner = is.owner;
        unit = λ other. (one, ap (is_among plan.data_) (let e : p.place / 256 ≡ at.unit = omega (arith, low, high) in e) ∙ among_true plan.data_ at.unit at.among);
      }

  all_apart : AllPairs (λ p q. overlap p q ≡ false) (kept ++ moved)
  all_apart =
      pairs_append (λ p q. overlap p q ≡ false) kept moved
      (λ i j d order inside. no_overlap (get_or kept i d) (get_or kept j d) (λ low high. let apart = are_kept.ascending i j d order inside in omega (arith, apart, high)))
      (moved_apart rest places (all_from_contains (λ p. p.count ≡ 1) rest (λ p h. (rest_one p h).one)) (blocks_ascend plan.data_ sound.data_.ascending))
      (λ p in_p. all_from_contains (λ q. overlap p q ≡ false) moved (λ q in_q.
      no_overlap p q (λ low high.
      let one = (is_one q in_q).one in
      let unused = unused_there q (is_there q in_q) in
      let data_ = (is_kept p in_p).data_ q.place (omega (arith, low, one), high) in
      both_ways (has used q.place) unused (data_used used q.place data_))))

  pub lie_well : (placed : List Piece) → WerePlaced found.kept plan.data_ old placed → LieWell used plan.data_ placed
  lie_well placed are =
      let same : IsPermutation (kept ++ moved) placed =
      subst (λ (xs : List Piece). IsPermutation (xs ++ moved) placed) front (subst (λ (xs : List Piece). IsPermutation (take found.kept old ++ at_places xs places) placed) back are.same) in
      let well : (p : Piece) → Contains placed p → IsWell p =
      λ p h. ⊎_elim (λ here. kept_well p here) (λ later. moved_well p later)
      (Contains-append_cases kept moved p (Contains-permutation placed (kept ++ moved) p (IsPermutation-sym (kept ++ moved) placed same) h)) in
      record {
        apart = record {
          some = all_from_contains (λ p. 1 ≤ p.count) placed (λ p h. (well p h).some);
          ascending = λ i j d order inside.
              let off = apart_from_distinct overlap placed i j d
              (IsDistinct-IsPermutation overlap overlap_flips (kept ++ moved) placed same (IsDistinct-from_apart overlap (kept ++ moved) all_apart)) order inside in
              apart_tells (get_or placed i d) (get_or placed j d) off (are.ascending i j d (omega arith) inside) (well (get_or placed j d) (Contains-get_or placed j d inside)).some;
          inside = all_from_contains (λ p. p.place + p.count ≤ length used) placed (λ p h. (well p h).inside);
          sources = all_from_contains (λ p. MatchOption p.from (Unit {0}) (λ b. b + p.count ≤ length used)) placed (λ p h. (well p h).source);
          owners = all_from_contains (λ p. MatchOption p.owner (Unit {0}) (λ w. w.1 + p.count ≤ 2 ^ 32)) placed (λ p h. (well p h).owner);
        };
        moved = all_from_contains (LiesInUnit plan.data_) placed (λ p h. (well p h).unit);
      }

pub plans_have_room : PlansHaveRoom
plans_have_room image found o plan has_plan = fits_plan image found o plan has_plan

pub places_are_apart : PlacesAreApart
places_are_apart image found o plan placed has_plan are = lie_well image found o plan has_plan placed are
