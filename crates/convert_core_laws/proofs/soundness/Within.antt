-- Each extent of a converted volume lies in one chunk of its kind.
use Rattle.convert_core_laws.proofs.Imports.{◌≡◌, ◌≢◌, ◌≤◌, ◌<◌, ℕ, zero, suc, ◌+◌, ◌-◌, ◌*◌, ◌/◌, ◌%◌, inl, inr, Bool, true, false, not, List, [], ◌∷◌, ◌++◌, length, map, take, drop, Some, refl, sym, ap, subst, ◌∙◌, ⊎_elim, arith, Contains, range_with_len, flat_map, and_from, and_parts, both_ways, cases_Bool, cases_lt, not_from_false, or_left, or_right, Contains-append_cases, list_any-from_Any, Contains-permutation, IsPermutation-sym, take-append_seam, IsReserved, is_reserved, decides_reserved, Image, Ids, IsNodeSize, ChunkAt, IsExtent, IsUncrossed, KeepsPlacement, LiesIn, kind_alone, Recount, TreeOn, all_trees, PairsAt, Span, data_kind, NodePointer, IsMaking, Making, new_ids, HasPieces, TreeRoots, can_move, piece_not_metadata, piece_not_system, sound, stays_or_moves, well, piece_apart, slot_unit, NewIdsFit, IsNewVolume, chunk_at, owner, tails, files_of, IsKeptPiece, LiesInUnit, Owners, copied_pieces, kept_pieces, tail_piece, at_places, blocks_of_units, all_at, any_from, kept_are_maximal, has, IsFreeUnit, contains_cases, contains_head, contains_range, contains_tail, range_contains, all_from_contains, from_flat_map, used_of, chunk_kind, TreeNode, chunks_of, holds_data, is_among, is_data, AreChunks, HoldsUnit, IsChunk, is_data_unit, role_of, usable_end, use_of, IsSoundPlan, need, node_places, PlannedChunk, Role, System, Metadata, Data, Options, Piece, among_contains, contains_among, role_is, ConvertedPlacementIsSound, recount_for, pairs_at, pairs_in}
use Rattle.convert_core_laws.proofs.soundness.AllUses.{span_of}
use Rattle.convert_core_laws.proofs.soundness.Apart.{IsAt, a_piece, apart, in_chunk_slots, in_slots, is_at, once, size_some}
use Rattle.convert_core_laws.proofs.soundness.Recounting.{volume_for}
use Rattle.convert_core_laws.proofs.soundness.Stripes.{chunk_there}
use Rattle.convert_core_laws.proofs.soundness.Unreserved.{fit_size, place_aligned, slot_holds}

some_role : (a b : Role) → Some a ≡ Some b → a ≡ b
some_role a b is = cc

-- the unit of a block of data holds data
unit_holds : (used : List Bool) (b : ℕ) → is_data used b ≡ true → holds_data used (b / 256) ≡ true
unfolding holds_data
unit_holds used b t =
    list_any-from_Any (is_data used) (range_with_len (256 * (b / 256)) 256)
    (any_from (λ x. is_data used x ≡ true) (range_with_len (256 * (b / 256)) 256) b (contains_range (256 * (b / 256)) 256 b (omega arith) (omega arith)) t)

-- a node lies in one unit
one_unit : (n a : ℕ) → IsNodeSize n → a % n ≡ 0 → a + n ≤ 1048576 * (a / 4096 / 256) + 1048576
one_unit n a fit aligned =
    ⊎_elim (λ (e : n ≡ 4096). by 4096 e (λ x. omega (arith, x))) (λ rest. ⊎_elim (λ (e : n ≡ 8192). by 8192 e (λ x. omega (arith, x))) (λ rest'. ⊎_elim (λ (e : n ≡ 16384). by 16384 e (λ x. omega (arith, x))) (λ rest''. ⊎_elim (λ (e : n ≡ 32768). by 32768 e (λ x. omega (arith, x))) (λ (e : n ≡ 65536). by 65536 e (λ x. omega (arith, x))) rest'') rest') rest) fit
  where
    by : (x : ℕ) → n ≡ x → (a % x ≡ 0 → a + x ≤ 1048576 * (a / 4096 / 256) + 1048576) → a + n ≤ 1048576 * (a / 4096 / 256) + 1048576
    by x e is = subst (λ (y : ℕ). a + y ≤ 1048576 * (a / 4096 / 256) + 1048576) (sym e) (is (subst (λ (y : ℕ). a % y ≡ 0) e aligned))

-- a node of one of the sizes lies between two multiples of 64 KiB
uncrossed_at : (n a : ℕ) → IsNodeSize n → a % n ≡ 0 → a / 65536 ≡ (a + n - 1) / 65536
uncrossed_at n a fit aligned =
    ⊎_elim (λ (e : n ≡ 4096). by 4096 e (λ x. omega (arith, x))) (λ rest. ⊎_elim (λ (e : n ≡ 8192). by 8192 e (λ x. omega (arith, x))) (λ rest'. ⊎_elim (λ (e : n ≡ 16384). by 16384 e (λ x. omega (arith, x))) (λ rest''. ⊎_elim (λ (e : n ≡ 32768). by 32768 e (λ x. omega (arith, x))) (λ (e : n ≡ 65536). by 65536 e (λ x. omega (arith, x))) rest'') rest') rest) fit
  where
    by : (x : ℕ) → n ≡ x → (a % x ≡ 0 → a / 65536 ≡ (a + x - 1) / 65536) → a / 65536 ≡ (a + n - 1) / 65536
    by x e is = subst (λ (y : ℕ). a / 65536 ≡ (a + y - 1) / 65536) (sym e) (is (subst (λ (y : ℕ). a % y ≡ 0) e aligned))

-- what got a place lies in a block of the units
moved_place : (old : List Piece) (places : List ℕ) (q : Piece) → Contains (at_places old places) q → Contains places q.place
moved_place [] places q h = absurd (omega (arith, h.1))
moved_place (p ∷ old) [] q h = absurd (omega (arith, h.1))
moved_place (p ∷ old) (b ∷ bs) q h =
    ⊎_elim (λ same. subst (λ (x : ℕ). Contains (b ∷ bs) x) (ap (λ (x : Piece). x.place) same) (contains_head b bs))
    (λ later. contains_tail q.place b bs (moved_place old bs q later)) (contains_cases q _ (at_places old bs) h)

module _ (o : Options) (ids : Ids) (now : ℕ) (image other : Image) (m : Making) (r : TreeRoots) (nodes : List TreeNode) (v : IsNewVolume o ids now image other m r nodes) where
  abbrev making : IsMaking image m
  making = v.new.conversion.making

  abbrev of : HasPieces m.volume image m.options m.plan m.pieces
  of = making.has_pieces

  abbrev k : Recount
  k = recount_for image other m r nodes

  abbrev n : ℕ
  n = m.options.nodesize

  abbrev used : List Bool
  used = used_of image

  abbrev whole : ℕ
  whole = length (used_of image)

  abbrev fit : IsNodeSize m.options.nodesize
  fit = fit_size o ids now image other m r nodes v

  plan_sound : IsSoundPlan used (need of.found.counts m.options) m.plan
  plan_sound = sound m.volume image m.options m.plan m.pieces of

  -- the chunk of a unit that has a role
  record HasChunk (role : Role) (u : ℕ) : Type 0 where
    chunk : PlannedChunk
    among : Contains m.chunks chunk
    role_is_ : chunk.role ≡ role
    holds : HoldsUnit chunk u
    is : IsChunk (role_of m.plan whole) (usable_end whole) chunk
    first : is.first ≤ u
    last : u < is.end

  unit_chunk : (role : Role) (u : ℕ) → role_of m.plan whole u ≡ Some role → HasChunk role u
  unit_chunk role u is =
      let are : AreChunks m.plan whole m.chunks = chunks_of image m making in
      let at = are.whole u role is in
      let c : PlannedChunk = at.1 in
      let among : Contains m.chunks c = (at.0, at.2, at.3) in
      let holds : HoldsUnit c u = at.4 in
      let chunk : IsChunk (role_of m.plan whole) (usable_end whole) c = all_at (IsChunk (role_of m.plan whole) (usable_end whole)) m.chunks c are.each among in
      let low = holds.low in
      let high = holds.high in
      let starts = chunk.starts in
      let ends = chunk.ends in
      let first : chunk.first ≤ u = omega (arith, low, starts) in
      let last : u < chunk.end = omega (arith, high, ends) in
      record {
        chunk = c;
        among = among;
        role_is_ = some_role c.role role (sym (chunk.one_role u first last) ∙ is);
        holds = holds;
        is = chunk;
        first = first;
        last = last;
      }

  -- roles of units
  abbrev role_by_use : (u : ℕ) → 1 ≤ u → role_of m.plan whole u ≡ use_of used m.plan u
  role_by_use = role_is used (need of.found.counts m.options) m.plan plan_sound

  no_unit : (units : List ℕ) (u : ℕ) → (Contains units u → ⊥) → is_among units u ≡ false
  no_unit units u none = ⊎_elim (λ (t : is_among units u ≡ true). absurd (none (among_contains units u t))) (λ (f : is_among units u ≡ false). f) (cases_Bool (is_among units u))

  not_first : (u : ℕ) → IsFreeUnit used u → 1 ≤ u
  not_first zero free = absurd (free.unreserved 16 (omega arith) (inl (omega arith)))
  not_first (suc u) free = omega arith

  system_role : (u : ℕ) → Contains m.plan.system u → role_of m.plan whole u ≡ Some System
  system_role u h =
      let free : IsFreeUnit used u = all_at (IsFreeUnit used) m.plan.system u plan_sound.system.free h in
      let t : is_among m.plan.system u ≡ true = contains_among m.plan.system u h in
      let is : use_of used m.plan u ≡ Some System = rw t refl in
      role_by_use u (not_first u free) ∙ is

  -- there is a system chunk for each of its units
  pub system_there : (u : ℕ) → Contains m.plan.system u → (c : PlannedChunk) × Contains m.chunks c × (c.role ≡ System)
  system_there u h = let at : HasChunk System u = unit_chunk System u (system_role u h) in (at.chunk, at.among, at.role_is_)

  metadata_role : (u : ℕ) → Contains m.plan.metadata u → role_of m.plan whole u ≡ Some Metadata
  metadata_role u h =
      let free : IsFreeUnit used u = all_at (IsFreeUnit used) m.plan.metadata u plan_sound.metadata.free h in
      let t : is_among m.plan.metadata u ≡ true = contains_among m.plan.metadata u h in
      let f : is_among m.plan.system u ≡ false = no_unit m.plan.system u (λ l. plan_sound.system_metadata u l h) in
      let is : use_of used m.plan u ≡ Some Metadata = rw (f, t) refl in
      role_by_use u (not_first u free) ∙ is

  data_role : (u : ℕ) → 1 ≤ u → (Contains m.plan.system u → ⊥) → (Contains m.plan.metadata u → ⊥) → is_data_unit used m.plan u ≡ true → role_of m.plan whole u ≡ Some Data
  data_role u some not_system not_metadata t =
      let f : is_among m.plan.system u ≡ false = no_unit m.plan.system u not_system in
      let g : is_among m.plan.metadata u ≡ false = no_unit m.plan.metadata u not_metadata in
      let is : use_of used m.plan u ≡ Some Data = rw (f, g, t) refl in
      role_by_use u some ∙ is

  -- ---- nodes

  abbrev Inside : Span → ℕ → Type 0
  Inside span kind = (c : ChunkAt) × Contains k.chunks c × LiesIn c span × (c.chunk.kind ≡ kind)

  node_inside : (units : List ℕ) (a : ℕ) (span : Span) (kind : ℕ) (role : Role) → Contains (node_places n units) a → span ≡ record { start = a; length = n } → kind ≡ chunk_kind role
      → ((u : ℕ) → Contains units u → role_of m.plan whole u ≡ Some role) → ((u : ℕ) → Contains units u → IsFreeUnit used u) → Inside span kind
  node_inside units a span kind role h e kind_is roles free =
      let u : ℕ = a / 4096 / 256 in
      let unit : Contains units (a / 4096 / 256) = slot_unit n units (a / 4096) fit (slot_holds n fit units a a h (omega arith) (omega (arith, size_some n fit))) in
      let at : HasChunk role (a / 4096 / 256) = unit_chunk role (a / 4096 / 256) (roles (a / 4096 / 256) unit) in
      let inside = (free (a / 4096 / 256) unit).inside in
      let one = one_unit n a fit (place_aligned n fit units a h) in
      let start : span.start ≡ a = ap (λ (x : Span). x.start) e in
      let long : span.length ≡ n = ap (λ (x : Span). x.length) e in
      let low = at.holds.low in
      let ends = at.is.ends in
      let last = at.last in (
        chunk_at (new_ids m) at.chunk,
        chunk_there o ids now image other m r nodes v at.chunk at.among,
        record { low = omega (arith, low, start); high = omega (arith, one, inside, start, long, ends, last) },
        ap chunk_kind at.role_is_ ∙ sym kind_is,
      )

  -- ---- pieces

  abbrev by_owner : Owners
  by_owner = owner (files_of image of.plan_.keys)

  -- a block of a piece that stays is data
  data_block : (p : Piece) (b : ℕ) → Contains m.pieces p → p.from ≡ Some p.place → p.place ≤ b → b < p.place + p.count → is_data used b ≡ true
  data_block p b h stays low high =
      let at : p.place + (b - p.place) ≡ b = omega (arith, low) in
      let is : has used b ≡ true = subst (λ (x : ℕ). has used x ≡ true) at ((can_move m.volume image m.options m.plan m.pieces of).sources p p.place (b - p.place) h stays (omega (arith, low, high))) in
      let free : ¬ IsReserved b whole = piece_apart m.volume image m.options m.plan m.pieces of p h b low high in
      let off : is_reserved b whole ≡ false = ⊎_elim (λ (yes : is_reserved b whole ≡ true). absurd (free ((decides_reserved b whole).0 yes))) (λ (none : is_reserved b whole ≡ false). none) (cases_Bool (is_reserved b whole)) in
      and_from (has used b) (not (is_reserved b whole)) is (not_from_false (is_reserved b whole) off)

  -- a piece that stays lies between two multiples of 32768
  uncut : (p : Piece) (b : ℕ) → Contains m.pieces p → p.from ≡ Some p.place → p.place ≤ b → b < p.place + p.count → b / 32768 ≡ p.place / 32768
  uncut p b h stays low high =
      let old : List Piece = of.found.items.items in
      let front : List Piece = take of.found.kept old in
      let back : List Piece = at_places (drop of.found.kept old) (blocks_of_units m.plan.data_) in
      ⊎_elim
      (λ (first : Contains front p).
      let is : IsKeptPiece used by_owner p = all_at (IsKeptPiece used by_owner) (kept_pieces used by_owner) p (kept_are_maximal used by_owner).each (subst (λ (l : List Piece). Contains l p) kept_are first) in
      is.uncut b (low, high))
      (λ (later : Contains back p).
      let place : Contains (blocks_of_units m.plan.data_) p.place = moved_place (drop of.found.kept old) (blocks_of_units m.plan.data_) p later in
      absurd (not_there (in_unit place)))
      (Contains-append_cases front back p (Contains-permutation m.pieces (front ++ back) p (IsPermutation-sym (front ++ back) m.pieces of.placed.same) h))
    where
      kept_are : take of.found.kept of.found.items.items ≡ kept_pieces used by_owner
      kept_are =
          ap (λ (x : ℕ). take x of.found.items.items) of.plan_.found_.kept_are
          ∙ (ap (take (length (kept_pieces used by_owner))) of.plan_.found_.pieces_are
          ∙ take-append_seam (kept_pieces used by_owner) (copied_pieces used by_owner ++ map tail_piece (tails m.options.inline (files_of image of.plan_.keys))))

      in_unit : Contains (blocks_of_units m.plan.data_) p.place → Contains m.plan.data_ (p.place / 256)
      in_unit place =
          let unit = from_flat_map (λ u. range_with_len (256 * u) 256) m.plan.data_ p.place place in
          let inside = range_contains (256 * unit.0) 256 p.place unit.2 in
          let first = inside.0 in
          let last = inside.1 in
          let is : unit.0 ≡ p.place / 256 = omega (arith, first, last) in
          subst (Contains m.plan.data_) is unit.1

      -- a free unit has no used block
      not_there : Contains m.plan.data_ (p.place / 256) → ⊥
      not_there unit =
          let free : IsFreeUnit used (p.place / 256) = all_at (IsFreeUnit used) m.plan.data_ (p.place / 256) plan_sound.data_.free unit in
          let there : is_data used p.place ≡ true = data_block p p.place h stays (omega arith) (omega (arith, low, high)) in
          both_ways (has used p.place) (free.unused p.place refl) (and_parts (has used p.place) (not (is_reserved p.place whole)) there).0

  -- the role of the unit of a block of a piece
  block_role : (p : Piece) (b : ℕ) → Contains m.pieces p → p.place ≤ b → b < p.place + p.count → is_data_unit used m.plan (b / 256) ≡ true → role_of m.plan whole (b / 256) ≡ Some Data
  block_role p b h low high t =
      let free : ¬ IsReserved b whole = piece_apart m.volume image m.options m.plan m.pieces of p h b low high in
      let some : 256 ≤ b = ⊎_elim (λ (under : b < 256). absurd (free (inl under))) (λ (over : 256 ≤ b). over) (cases_lt b 256) in
      data_role (b / 256) (omega (arith, some)) (λ l. piece_not_system m.volume image m.options m.plan m.pieces of p h b low high l) (λ l. piece_not_metadata m.volume image m.options m.plan m.pieces of p h b low high l) t

  usable : (p : Piece) (b : ℕ) → Contains m.pieces p → p.place ≤ b → b < p.place + p.count → b < usable_end whole
  usable p b h low high =
      let free : ¬ IsReserved b whole = piece_apart m.volume image m.options m.plan m.pieces of p h b low high in
      let inside : p.place + p.count ≤ whole = all_at (λ (q : Piece). q.place + q.count ≤ whole) m.pieces p (well m.volume image m.options m.plan m.pieces of).apart.inside h in
      ⊎_elim (λ (under : b < usable_end whole). under) (λ (past : usable_end whole ≤ b). absurd (free (inr (inr (inr (past, omega (arith, high, inside))))))) (cases_lt b (usable_end whole))

  piece_inside : (p : Piece) (span : Span) (kind : ℕ) → Contains m.pieces p → span ≡ span_of p → kind ≡ 1 → ((b : ℕ) → p.place ≤ b → b < p.place + p.count → is_data_unit used m.plan (b / 256) ≡ true)
      → ((b : ℕ) → p.place ≤ b → b < p.place + p.count → b / 32768 ≡ p.place / 32768) → Inside span kind
  piece_inside p span kind h e kind_is units cut =
      let some : 1 ≤ p.count = all_at (λ (q : Piece). 1 ≤ q.count) m.pieces p (well m.volume image m.options m.plan m.pieces of).apart.some h in
      let end : ℕ = p.place + p.count - 1 in
      let at : HasChunk Data (p.place / 256) = unit_chunk Data (p.place / 256) (block_role p p.place h (omega arith) (omega (arith, some)) (units p.place (omega arith) (omega (arith, some)))) in
      let low = at.holds.low in
      let ends = at.is.ends in
      let last = at.last in
      let start : span.start ≡ 4096 * p.place = ap (λ (x : Span). x.start) e in
      let long : span.length ≡ 4096 * p.count = ap (λ (x : Span). x.length) e in
      let reach : end / 256 < at.is.end = ⊎_elim (λ (under : end / 256 < at.is.end). under) (λ (over : at.is.end ≤ end / 256). absurd (past at some over)) (cases_lt (end / 256) at.is.end) in
      let room : end < usable_end whole = usable p end h (omega (arith, some)) (omega (arith, some)) in (
        chunk_at (new_ids m) at.chunk,
        chunk_there o ids now image other m r nodes v at.chunk at.among,
        record { low = omega (arith, low, start); high = omega (arith, some, start, long, ends, reach, room) },
        ap chunk_kind at.role_is_ ∙ sym kind_is,
      )
    where
      -- the chunk does not end before the piece
      past : (at : HasChunk Data (p.place / 256)) → 1 ≤ p.count → at.is.end ≤ (p.place + p.count - 1) / 256 → ⊥
      past at some over =
          let last = at.last in
          let b : ℕ = 256 * at.is.end in
          let low : p.place ≤ 256 * at.is.end = omega (arith, last) in
          let high : 256 * at.is.end < p.place + p.count = omega (arith, over, some) in
          let unit : 256 * at.is.end / 256 ≡ at.is.end = omega arith in
          let role : role_of m.plan whole at.is.end ≡ Some Data = subst (λ (u : ℕ). role_of m.plan whole u ≡ Some Data) unit (block_role p (256 * at.is.end) h low high (units (256 * at.is.end) low high)) in
          let same = cut (256 * at.is.end) low high in
          ⊎_elim (λ (step : at.is.end % 1024 ≡ 0). omega (arith, step, same, last)) (λ (other_ : role_of m.plan whole at.is.end ≢ Some at.chunk.role). other_ (role ∙ ap (λ (x : Role). Some x) (sym at.role_is_))) at.is.behind

  any_piece : (p : Piece) (span : Span) (kind : ℕ) → Contains m.pieces p → span ≡ span_of p → kind ≡ 1 → Inside span kind
  any_piece p span kind h e kind_is =
      ⊎_elim
      (λ (stays : p.from ≡ Some p.place).
      piece_inside p span kind h e kind_is (λ b low high. or_right (is_among m.plan.data_ (b / 256)) _ (unit_holds used b (data_block p b h stays low high))) (λ b low high. uncut p b h stays low high))
      (λ (moves : p.from ≢ Some p.place).
      let unit = all_at (LiesInUnit m.plan.data_) m.pieces p (well m.volume image m.options m.plan m.pieces of).moved h moves in
      let one = unit.0 in
      piece_inside p span kind h e kind_is
      (λ b low high. or_left (is_among m.plan.data_ (b / 256)) _ (let here : p.place ≡ b = omega (arith, one, low, high) in subst (λ (x : ℕ). is_among m.plan.data_ (x / 256) ≡ true) here unit.1))
      (λ b low high. let here : b ≡ p.place = omega (arith, one, low, high) in ap (λ (x : ℕ). x / 32768) here))
      (stays_or_moves p.from p.place)

  within : (span : Span) (kind : ℕ) → IsExtent k span kind → Inside span kind
  within span kind is = by (is_at o ids now image other m r nodes v span kind is)
    where
      by : IsAt o ids now image other m r nodes v span kind → Inside span kind
      by (in_chunk_slots a h e kind_is) = node_inside m.plan.system a span kind System h e kind_is system_role (λ u l. all_at (IsFreeUnit used) m.plan.system u plan_sound.system.free l)
      by (in_slots a h e kind_is) = node_inside m.plan.metadata a span kind Metadata h e kind_is metadata_role (λ u l. all_at (IsFreeUnit used) m.plan.metadata u plan_sound.metadata.free l)
      by (a_piece p h e kind_is) = any_piece p span kind h e kind_is

  -- no chunk is in two copies
  alone : (span : Span) (kind : ℕ) → IsExtent k span kind → kind_alone kind ≡ kind
  alone span kind is = by (is_at o ids now image other m r nodes v span kind is)
    where
      same : (x : ℕ) → kind ≡ x → kind_alone x ≡ x → kind_alone kind ≡ kind
      same x is_x own = subst (λ (y : ℕ). kind_alone y ≡ y) (sym is_x) own

      by : IsAt o ids now image other m r nodes v span kind → kind_alone kind ≡ kind
      by (in_chunk_slots a h e kind_is) = same 2 kind_is refl
      by (in_slots a h e kind_is) = same 4 kind_is refl
      by (a_piece p h e kind_is) = same 1 kind_is refl

  within_alone : (span : Span) (kind : ℕ) → IsExtent k span kind → (c : ChunkAt) × Contains k.chunks c × LiesIn c span × (kind_alone c.chunk.kind ≡ kind)
  within_alone span kind is = let at = within span kind is in (at.0, at.1, at.2, ap kind_alone at.3 ∙ alone span kind is)

  uncrossed : (span : Span) (kind : ℕ) → IsExtent k span kind → kind ≢ data_kind → IsUncrossed span
  uncrossed span kind is no_data = by (is_at o ids now image other m r nodes v span kind is)
    where
      at_slot : (units : List ℕ) (a : ℕ) → Contains (node_places n units) a → span ≡ record { start = a; length = n } → IsUncrossed span
      at_slot units a h e = subst IsUncrossed (sym e) (uncrossed_at n a fit (place_aligned n fit units a h))

      by : IsAt o ids now image other m r nodes v span kind → IsUncrossed span
      by (in_chunk_slots a h e kind_is) = at_slot m.plan.system a h e
      by (in_slots a h e kind_is) = at_slot m.plan.metadata a h e
      by (a_piece p h e kind_is) = absurd (no_data kind_is)

  abbrev Apart : NodePointer → NodePointer → Type 0
  Apart p q = p.address ≢ q.address

  pub keeps : (at : ℕ) → KeepsPlacement k at
  keeps at = record {
    apart = λ a b kind other_kind here is also. apart o ids now image other m r nodes v a b kind other_kind is also;
    nodes = all_from_contains (λ (t : TreeOn). PairsAt (λ (p : NodePointer). p.address) at Apart t.nodes) (all_trees k) (λ t h. pairs_at (λ (p : NodePointer). p.address) at Apart t.nodes (pairs_in Apart (λ (u : TreeOn). u.nodes) (all_trees k) t h (once o ids now image other m r nodes v)));
    within = λ span kind here is. within_alone span kind is;
    uncrossed = λ span kind here is no_data. uncrossed span kind is no_data;
  }

pub converted_placement_is_sound : NewIdsFit → ConvertedPlacementIsSound
converted_placement_is_sound fit = λ o ids now image other m r nodes is size low are has bytes.
    keeps o ids now image other m r nodes (volume_for fit o ids now image other m r nodes is size are has)
