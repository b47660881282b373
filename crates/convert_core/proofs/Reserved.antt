-- Pieces lie in no block that Btrfs keeps for itself, and nor do nodes.
use Rattle.convert_core.proofs.Imports.{◌≡◌, ◌≢◌, ◌⊎◌, ◌≤◌, ◌<◌, ℕ, ◌+◌, ◌*◌, ◌/◌, inl, inr, Bool, true, List, [], ◌∷◌, ◌++◌, length, map, take, drop, Some, refl, ap, subst, ◌∙◌, ⊎_elim, arith, Contains, range_with_len, both_ways, Contains-append_cases, Contains-permutation, IsPermutation-sym, FIRST_MIRROR, SECOND_MIRROR, from_flat_map, Image, has, IsFreeUnit, contains_cases, contains_head, contains_tail, range_contains, used_of, Volume, Options, Piece, Plan, owner, tails, files_of, IsKeptPiece, LiesInUnit, Owners, copied_pieces, kept_pieces, tail_piece, at_places, blocks_of_units, all_at, kept_are_maximal, reserved_yes, HasPieces, IsMirror, IsFree}
use Rattle.std.proofs.Math.Seq.{take-append_seam}
use Rattle.reiser_volume.specs.vol_block.Volume.{IsReserved, is_reserved}
use Rattle.extent_pieces.proofs.Ending.{data_unreserved}
use Rattle.convert_core.proofs.Moving.{can_move, sound, stays_or_moves, well}

-- the blocks of the superblock and its copies are reserved
pub switch_reserved : (n b : ℕ) → (b ≡ 16) ⊎ IsMirror b → IsReserved b n
switch_reserved n b at =
    ⊎_elim (λ (is : b ≡ 16). inl (omega (arith, is)))
    (λ mirror. ⊎_elim (λ (is : b ≡ FIRST_MIRROR). inr (inl (omega (arith, is), omega (arith, is)))) (λ (is : b ≡ SECOND_MIRROR). inr (inr (inl (omega (arith, is), omega (arith, is))))) mirror) at

-- so they are not free
pub free_apart : (image : Image) (b : ℕ) → IsFree image b → (b ≡ 16) ⊎ IsMirror b → ⊥
free_apart image b free at = free.unreserved b refl (switch_reserved (length (used_of image)) b at)

-- what got a place lies in a block of the units
moved_place : (old : List Piece) (places : List ℕ) (q : Piece) → Contains (at_places old places) q → Contains places q.place
moved_place [] places q h = absurd (omega (arith, h.1))
moved_place (r ∷ old) [] q h = absurd (omega (arith, h.1))
moved_place (r ∷ old) (b ∷ bs) q h =
    ⊎_elim (λ same. subst (λ (n : ℕ). Contains (b ∷ bs) n) (ap (λ (p : Piece). p.place) same) (contains_head b bs))
    (λ later. contains_tail q.place b bs (moved_place old bs q later)) (contains_cases q _ (at_places old bs) h)

module _ (volume : Volume) (image : Image) (o : Options) (plan : Plan) (pieces : List Piece) (of : HasPieces volume image o plan pieces) where
  abbrev used : List Bool
  used = used_of image

  abbrev by : Owners
  by = owner (files_of image of.plan_.keys)

  abbrev kept : List Piece
  kept = kept_pieces used by

  abbrev rest : List Piece
  rest = copied_pieces used by ++ map tail_piece (tails o.inline (files_of image of.plan_.keys))

  kept_are : take of.found.kept of.found.items.items ≡ kept
  kept_are =
      ap (λ (n : ℕ). take n of.found.items.items) of.plan_.found_.kept_are ∙ (ap (take (length kept)) of.plan_.found_.pieces_are ∙ take-append_seam kept rest)

  -- a piece that is kept holds data, and data is nowhere reserved
  kept_apart : (q : Piece) → Contains (take of.found.kept of.found.items.items) q → (b : ℕ) → q.place ≤ b → b < q.place + q.count → ¬ IsReserved b (length used)
  kept_apart q h b low high reserved =
      let is : IsKeptPiece used by q = all_at (IsKeptPiece used by) kept q (kept_are_maximal used by).each (subst (λ (l : List Piece). Contains l q) kept_are h) in
      both_ways (is_reserved b (length used)) (data_unreserved used b (is.data_ b (low, high))) (reserved_yes b (length used) reserved)

  -- a piece that got a place lies in a free unit
  moved_free : (q : Piece) → Contains (at_places (drop of.found.kept of.found.items.items) (blocks_of_units plan.data_)) q → IsFree image q.place
  moved_free q h =
      let place : Contains (blocks_of_units plan.data_) q.place = moved_place (drop of.found.kept of.found.items.items) (blocks_of_units plan.data_) q h in
      let unit = from_flat_map (λ u. range_with_len (256 * u) 256) plan.data_ q.place place in
      let inside = range_contains (256 * unit.0) 256 q.place unit.2 in
      let low = inside.0 in
      let high = inside.1 in
      let is : unit.0 ≡ q.place / 256 = omega (arith, low, high) in
      subst (IsFreeUnit used) is (all_at (IsFreeUnit used) plan.data_ unit.0 (sound volume image o plan pieces of).data_.free unit.1)

  moved_apart : (q : Piece) → Contains pieces q → IsFree image q.place → (b : ℕ) → q.place ≤ b → b < q.place + q.count → ¬ IsReserved b (length used)
  moved_apart q among free b low high reserved =
      ⊎_elim
      (λ (stays : q.from ≡ Some q.place).
      let first = (can_move volume image o plan pieces of).sources q q.place 0 among stays (omega (arith, low, high)) in
      both_ways (has used q.place) (free.unused q.place refl) (subst (λ (n : ℕ). has used n ≡ true) (let e : q.place + 0 ≡ q.place = omega arith in e) first))
      (λ (moves : q.from ≢ Some q.place).
      let one = (all_at (LiesInUnit plan.data_) pieces q (well volume image o plan pieces of).moved among moves).0 in
      let here : b ≡ q.place = omega (arith, one, low, high) in
      free.unreserved b (ap (λ (n : ℕ). n / 256) here) reserved)
      (stays_or_moves q.from q.place)

  -- no block of a piece is reserved
  pub piece_apart : (q : Piece) → Contains pieces q → (b : ℕ) → q.place ≤ b → b < q.place + q.count → ¬ IsReserved b (length used)
  piece_apart q among b low high =
      let there : List Piece = take of.found.kept of.found.items.items ++ at_places (drop of.found.kept of.found.items.items) (blocks_of_units plan.data_) in
      ⊎_elim (λ early. kept_apart q early b low high) (λ late. moved_apart q among (moved_free q late) b low high)
      (Contains-append_cases (take of.found.kept of.found.items.items) (at_places (drop of.found.kept of.found.items.items) (blocks_of_units plan.data_)) q
      (Contains-permutation pieces there q (IsPermutation-sym there pieces of.placed.same) among))
