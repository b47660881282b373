-- Each block of a node and of a piece lies in a chunk.
use Rattle.convert_core_laws.proofs.Imports.{◌≡◌, ◌≢◌, ◌≤◌, ◌<◌, ℕ, ◌+◌, ◌-◌, ◌*◌, ◌/◌, inl, inr, ◌||◌, Bool, true, false, List, length, zero, suc, Some, None, refl, sym, subst, ◌∙◌, ⊎_elim, arith, Contains, if◌then◌else◌, range_with_len, and_from, cases_Bool, cases_lt, not_from_false, or_left, or_right, list_any-from_Any, IsReserved, is_reserved, decides_reserved, Image, IsNodeSize, IsInSlots, has, IsFreeUnit, contains_range, used_of, LieWell, LiesInUnit, all_at, any_from, holds_data, is_among, is_data, AreChunks, HoldsUnit, IsChunk, is_data_unit, is_filler, role_of, usable_end, use_of, need, IsSoundPlan, PlannedChunk, Role, System, Metadata, Data, Piece, contains_among, free_of, role_is, IsMaking, Making, chunk_slots, slots, HasPieces, IsFree, can_move, metadata_free, sound, stays_or_moves, system_free, well, piece_apart, slot_unit, chunks_of}
use Rattle.std.specs.Prelude.{not}

-- a chunk holds the block
pub record HasBlock (chunks : List PlannedChunk) (b : ℕ) : Type 0 where
  pub chunk : PlannedChunk
  pub among : Contains chunks chunk
  pub low : chunk.start ≤ b
  pub high : b < chunk.start + chunk.length

-- and has this role
pub record HasBlockOf (role : Role) (chunks : List PlannedChunk) (b : ℕ) : Type 0 where
  pub has : HasBlock chunks b
  pub role_is : has.chunk.role ≡ role

-- a unit that is used for something
by_uses : (s m d f : Bool) → (s || (m || d)) ≡ true → (role : Role) × ((if s then Some System else if m then Some Metadata else if d || f then Some Data else None) ≡ Some role)
by_uses true m d f t = (System, refl)
by_uses false true d f t = (Metadata, refl)
by_uses false false true f t = (Data, refl)
by_uses false false false f t = absurd (cc)

some_role : (a b : Role) → Some a ≡ Some b → a ≡ b
some_role a b is = cc

-- the unit of a block of data holds data
unit_holds : (used : List Bool) (b : ℕ) → is_data used b ≡ true → holds_data used (b / 256) ≡ true
unfolding holds_data
unit_holds used b t =
    list_any-from_Any (is_data used) (range_with_len (256 * (b / 256)) 256)
    (any_from (λ x. is_data used x ≡ true) (range_with_len (256 * (b / 256)) 256) b (contains_range (256 * (b / 256)) 256 b (omega arith) (omega arith)) t)

module _ (image : Image) (m : Making) (made : IsMaking image m) where
  abbrev used : List Bool
  used = used_of image

  abbrev n : ℕ
  n = length used

  abbrev of : HasPieces m.volume image m.options m.plan m.pieces
  of = made.has_pieces

  plan_sound : IsSoundPlan used (need of.found.counts m.options) m.plan
  plan_sound = sound m.volume image m.options m.plan m.pieces of

  -- a block of a unit that has a role lies in a chunk of this role, where it is usable
  in_role : (role : Role) (b : ℕ) → role_of m.plan n (b / 256) ≡ Some role → b < usable_end n → HasBlockOf role m.chunks b
  in_role role b is inside =
      let are : AreChunks m.plan n m.chunks = chunks_of image m made in
      let at = are.whole (b / 256) role is in
      let c : PlannedChunk = at.1 in
      let among : Contains m.chunks c = (at.0, at.2, at.3) in
      let holds : HoldsUnit c (b / 256) = at.4 in
      let chunk : IsChunk (role_of m.plan n) (usable_end n) c = all_at (IsChunk (role_of m.plan n) (usable_end n)) m.chunks c are.each among in
      let low = holds.low in
      let high = holds.high in
      let starts = chunk.starts in
      let ends = chunk.ends in
      let first : chunk.first ≤ b / 256 = omega (arith, low, starts) in
      let last : b / 256 < chunk.end = omega (arith, high, ends) in
      record {
        has = record { chunk = c; among = among; low = omega (arith, low); high = omega (arith, ends, last, inside) };
        role_is = some_role c.role role (sym (chunk.one_role (b / 256) first last) ∙ is);
      }

  -- a free unit is not the first, and its blocks are usable
  free_unit : (b : ℕ) → IsFree image b → 1 ≤ b / 256
  free_unit b free = not_first (b / 256) free
    where
      not_first : (u : ℕ) → IsFreeUnit used u → 1 ≤ u
      not_first zero is = absurd (is.unreserved 16 (omega arith) (inl (omega arith)))
      not_first (suc u) is = omega arith

  free_usable : (b : ℕ) → IsFree image b → b < usable_end n
  free_usable b free = let inside = free.inside in omega (arith, inside)

  -- a block of a unit that is used
  in_use : (b : ℕ) → 1 ≤ b / 256 → b < usable_end n → (is_among m.plan.system (b / 256) || (is_among m.plan.metadata (b / 256) || is_data_unit used m.plan (b / 256))) ≡ true → HasBlock m.chunks b
  in_use b some inside t =
      let role = by_uses (is_among m.plan.system (b / 256)) (is_among m.plan.metadata (b / 256)) (is_data_unit used m.plan (b / 256)) (is_filler used m.plan (b / 256)) t in
      let is : role_of m.plan n (b / 256) ≡ Some role.0 = role_is used (need of.found.counts m.options) m.plan plan_sound (b / 256) some ∙ role.1 in
      (in_role role.0 b is inside).has

  -- a block of the chunk tree's units
  pub system_block : (b : ℕ) → Contains m.plan.system (b / 256) → HasBlockOf System m.chunks b
  system_block b h =
      let free : IsFree image b = system_free m.volume image m.options m.plan m.pieces of b h in
      let t : is_among m.plan.system (b / 256) ≡ true = contains_among m.plan.system (b / 256) h in
      let is : use_of used m.plan (b / 256) ≡ Some System = rw t refl in
      in_role System b (role_is used (need of.found.counts m.options) m.plan plan_sound (b / 256) (free_unit b free) ∙ is) (free_usable b free)

  -- and one of the other trees' units
  pub metadata_block : (b : ℕ) → Contains m.plan.metadata (b / 256) → HasBlock m.chunks b
  metadata_block b h =
      let free : IsFree image b = metadata_free m.volume image m.options m.plan m.pieces of b h in
      in_use b (free_unit b free) (free_usable b free)
      (or_right (is_among m.plan.system (b / 256)) _ (or_left (is_among m.plan.metadata (b / 256)) _ (contains_among m.plan.metadata (b / 256) h)))

  -- a block of a unit that data are put into, or that has some
  data_block : (b : ℕ) → 1 ≤ b / 256 → b < usable_end n → is_data_unit used m.plan (b / 256) ≡ true → HasBlock m.chunks b
  data_block b some inside t = in_use b some inside (or_right (is_among m.plan.system (b / 256)) _ (or_right (is_among m.plan.metadata (b / 256)) _ t))

  -- a used block that is not reserved
  kept_block : (b : ℕ) → has used b ≡ true → b < n → ¬ IsReserved b n → HasBlock m.chunks b
  kept_block b is inside apart =
      let off : is_reserved b n ≡ false = ⊎_elim (λ (yes : is_reserved b n ≡ true). absurd (apart ((decides_reserved b n).0 yes))) (λ (none : is_reserved b n ≡ false). none) (cases_Bool (is_reserved b n)) in
      let data_ : is_data used b ≡ true = and_from (has used b) (not (is_reserved b n)) is (not_from_false (is_reserved b n) off) in
      let some : 256 ≤ b = ⊎_elim (λ (low : b < 256). absurd (apart (inl low))) (λ (high : 256 ≤ b). high) (cases_lt b 256) in
      let usable : b < usable_end n = ⊎_elim (λ (low : b < usable_end n). low) (λ (past : usable_end n ≤ b). absurd (apart (inr (inr (inr (past, inside)))))) (cases_lt b (usable_end n)) in
      data_block b (omega (arith, some)) usable (or_right (is_among m.plan.data_ (b / 256)) _ (unit_holds used b data_))

  -- a block of a piece
  pub piece_block : (q : Piece) → Contains m.pieces q → (b : ℕ) → q.place ≤ b → b < q.place + q.count → HasBlock m.chunks b
  piece_block q among b low high =
      ⊎_elim
      (λ (stays : q.from ≡ Some q.place).
      let at : q.place + (b - q.place) ≡ b = omega (arith, low) in
      let is : has used b ≡ true =
      subst (λ (k : ℕ). has used k ≡ true) at ((can_move m.volume image m.options m.plan m.pieces of).sources q q.place (b - q.place) among stays (omega (arith, low, high))) in
      let end : q.place + q.count ≤ n = all_at (λ (p : Piece). p.place + p.count ≤ n) m.pieces q lie.apart.inside among in
      kept_block b is (omega (arith, high, end)) (piece_apart m.volume image m.options m.plan m.pieces of q among b low high))
      (λ (moves : q.from ≢ Some q.place).
      let unit = all_at (LiesInUnit m.plan.data_) m.pieces q lie.moved among moves in
      let one = unit.0 in
      let here : q.place ≡ b = omega (arith, one, low, high) in
      let t : is_among m.plan.data_ (b / 256) ≡ true = subst (λ (k : ℕ). is_among m.plan.data_ (k / 256) ≡ true) here unit.1 in
      let free : IsFree image b = free_of used (need of.found.counts m.options).data_ m.plan.data_ (b / 256) plan_sound.data_ t in
      data_block b (free_unit b free) (free_usable b free) (or_left (is_among m.plan.data_ (b / 256)) _ t))
      (stays_or_moves q.from q.place)
    where
      lie : LieWell used m.plan.data_ m.pieces
      lie = well m.volume image m.options m.plan m.pieces of

  module _ (size : IsNodeSize m.options.nodesize) where
    pub chunk_slot_block : (b : ℕ) → IsInSlots m.options.nodesize (chunk_slots m) b → HasBlockOf System m.chunks b
    chunk_slot_block b at = system_block b (slot_unit m.options.nodesize m.plan.system b size at)

    pub slot_block : (b : ℕ) → IsInSlots m.options.nodesize (slots m) b → HasBlock m.chunks b
    slot_block b at = metadata_block b (slot_unit m.options.nodesize m.plan.metadata b size at)
