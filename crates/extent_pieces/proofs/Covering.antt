-- Pieces hold each used block once.
use Rattle.extent_pieces.proofs.Imports.{◌≡◌, ℕ, ◌-◌, ◌<◌, ◌≤◌, Bool, true, false, not, List, ◌++◌, length, map, Option, Some, None, refl, sym, ◌∙◌, ap, arith, subst, ⊎_elim, Contains, AllPairs, filter, range_with_len, and_from, and_parts, both_ways, cases_Bool, cases_lt, not_from_false, get_or_past, All-append, Contains-append_left, Contains-append_right, from_filter, from_map, in_filter, in_map, is_reserved, has, starts_ascend, all_from_contains, contains_range, Piece, Tail, AreKeptPieces, CoverUsed, HoldsBlock, HoldsUsed, IsInPiece, IsKeptPiece, PiecesCoverUsed, Owners, advanced, copied_piece, copied_pieces, is_copied, kept_pieces, pieces, tail_piece}
use Rattle.extent_pieces.proofs.Ending.{data_unreserved, data_used}
use Rattle.extent_pieces.proofs.Joining.{advanced_zero}
use Rattle.extent_pieces.proofs.Lists.{all_at, any_from, pairs_append, pairs_map}
use Rattle.extent_pieces.proofs.Maximal.{kept_are_maximal}

same_first : (a b : ℕ) → (let o : Option ℕ = Some a in o) ≡ Some b → a ≡ b
same_first a b is = cc

no_first : (a : ℕ) → (let o : Option ℕ = None in o) ≡ Some a → ⊥
no_first a is = absurd (cc)

module _ (used : List Bool) (owner : Owners) where
  -- a used block is one of the volume
  pub used_inside : (b : ℕ) → has used b ≡ true → b < length used
  used_inside b t =
      ⊎_elim (λ (inside : b < length used). inside) (λ (past : length used ≤ b). absurd (both_ways (has used b) (get_or_past used b false past) t)) (cases_lt b (length used))

  -- ---- kept pieces

  kept_first : (p : Piece) (first : ℕ) → IsKeptPiece used owner p → p.from ≡ Some first → first ≡ p.place
  kept_first p first is from = same_first first p.place (sym from ∙ is.stays)

  pub kept_within : (p : Piece) (b : ℕ) → IsKeptPiece used owner p → HoldsBlock b p → IsInPiece p b
  kept_within p b is h =
      let first : h.0 ≡ p.place = kept_first p h.0 is h.1 in
      let low = h.2 in
      let high = h.3 in
      (omega (arith, first, low), omega (arith, first, high))

  kept_holds : (p : Piece) → IsKeptPiece used owner p → HoldsUsed used owner p
  kept_holds p is = record {
    used_ = λ b h. data_used used b (is.data_ b (kept_within p b is h));
    owners = λ first b from low high.
        let same : first ≡ p.place = kept_first p first is from in
        is.owners b (kept_within p b is (first, from, low, high)) ∙ ap (λ (n : ℕ). advanced p.owner (b - n)) (sym same);
  }

  abbrev kept : List Piece
  kept = kept_pieces used owner

  are_kept : AreKeptPieces used owner kept
  are_kept = kept_are_maximal used owner

  is_kept : (p : Piece) → Contains kept p → IsKeptPiece used owner p
  is_kept p h = all_at (IsKeptPiece used owner) kept p are_kept.each h

  kept_once : AllPairs (λ p q. (b : ℕ) → HoldsBlock b p → HoldsBlock b q → ⊥) kept
  kept_once = λ i j d order inside b first second.
      let in_p = kept_within _ b (are_kept.each i d (omega arith)) first in
      let in_q = kept_within _ b (are_kept.each j d inside) second in
      let apart = are_kept.ascending i j d order inside in
      omega (arith, in_p.1, in_q.0, apart)

  -- ---- copied pieces

  abbrev copied : List Piece
  copied = copied_pieces used owner

  -- what a copied piece is
  pub record IsCopied (p : Piece) : Type 0 where
    pub block : ℕ
    pub is : p ≡ copied_piece owner block
    pub used_ : has used block ≡ true
    pub reserved : is_reserved block (length used) ≡ true

  pub is_copied_piece : (p : Piece) → Contains copied p → IsCopied p
  unfolding copied_pieces
  is_copied_piece p h =
      let mapped = from_map (copied_piece owner) (filter (is_copied used) (range_with_len 0 (length used))) p h in
      let kept = from_filter (is_copied used) (range_with_len 0 (length used)) mapped.0 mapped.1 in
      let parts = and_parts (has used mapped.0) (is_reserved mapped.0 (length used)) kept.1 in
      record { block = mapped.0; is = sym mapped.2; used_ = parts.0; reserved = parts.1 }

  copied_block : (b c : ℕ) → HoldsBlock b (copied_piece owner c) → b ≡ c
  copied_block b c h =
      let first : h.0 ≡ c = same_first h.0 c (sym h.1) in
      let low = h.2 in
      let high = h.3 in
      omega (arith, first, low, high)

  pub holds_copied : (p : Piece) (b : ℕ) (is : IsCopied p) → HoldsBlock b p → b ≡ is.block
  holds_copied p b is h = copied_block b is.block (subst (HoldsBlock b) is.is h)

  copied_holds : (p : Piece) → IsCopied p → HoldsUsed used owner p
  copied_holds p is = subst (HoldsUsed used owner) (sym is.is) (record {
    used_ = λ b h. ap (has used) (copied_block b is.block h) ∙ is.used_;
    owners = λ first b from low high.
        let same : b ≡ is.block = copied_block b is.block (first, from, low, high) in
        let none : b - first ≡ 0 = let at : first ≡ is.block = same_first first is.block (sym from) in omega (arith, same, at) in
        ap owner same ∙ sym (ap (advanced (owner is.block)) none ∙ advanced_zero (owner is.block));
  })

  copied_once : AllPairs (λ p q. (b : ℕ) → HoldsBlock b p → HoldsBlock b q → ⊥) copied
  unfolding copied_pieces
  copied_once =
      let blocks : List ℕ = filter (is_copied used) (range_with_len 0 (length used)) in
      pairs_map (λ p q. (b : ℕ) → HoldsBlock b p → HoldsBlock b q → ⊥) (copied_piece owner) blocks
      (λ i j d order inside b first second.
      let low = copied_block b _ first in
      let high = copied_block b _ second in
      let apart = starts_ascend (is_copied used) 0 (length used) i j d order inside in
      omega (arith, low, high, apart))

  copied_whole : (b : ℕ) → has used b ≡ true → is_reserved b (length used) ≡ true → Contains copied (copied_piece owner b)
  unfolding copied_pieces
  copied_whole b u r =
      in_map (copied_piece owner) (filter (is_copied used) (range_with_len 0 (length used))) b
      (in_filter (is_copied used) (range_with_len 0 (length used)) b (contains_range 0 (length used) b (omega arith) (let h = used_inside b u in omega (arith, h))) (and_from (has used b) (is_reserved b (length used)) u r))

  -- ---- all

  module _ (tails : List Tail) where
    abbrev made : List Piece
    made = map tail_piece tails

    none_held : (p : Piece) (b : ℕ) → Contains made p → HoldsBlock b p → ⊥
    none_held p b h holds =
        let mapped = from_map tail_piece tails p h in
        no_first holds.0 (ap (λ (q : Piece). q.from) mapped.2 ∙ holds.1)

    tail_holds : (p : Piece) → Contains made p → HoldsUsed used owner p
    tail_holds p h = record {
      used_ = λ b holds. absurd (none_held p b h holds);
      owners = λ first b from low high. absurd (none_held p b h (first, from, low, high));
    }

    tail_once : AllPairs (λ p q. (b : ℕ) → HoldsBlock b p → HoldsBlock b q → ⊥) made
    tail_once = pairs_map (λ p q. (b : ℕ) → HoldsBlock b p → HoldsBlock b q → ⊥) tail_piece tails (λ i j d order inside b first second. no_first first.0 first.1)

    across : (p q : Piece) → Contains kept p → Contains copied q → (b : ℕ) → HoldsBlock b p → HoldsBlock b q → ⊥
    across p q in_p in_q b first second =
        let of = is_copied_piece q in_q in
        let here = holds_copied q b of second in
        let unreserved = data_unreserved used b ((is_kept p in_p).data_ b (kept_within p b (is_kept p in_p) first)) in
        both_ways (is_reserved b (length used)) unreserved (ap (λ (n : ℕ). is_reserved n (length used)) here ∙ of.reserved)

    cover : CoverUsed used owner (pieces used owner tails)
    cover = record {
      each =
          All-append (HoldsUsed used owner) kept (copied ++ made) (all_from_contains (HoldsUsed used owner) kept (λ p h. kept_holds p (is_kept p h)))
          (All-append (HoldsUsed used owner) copied made (all_from_contains (HoldsUsed used owner) copied (λ p h. copied_holds p (is_copied_piece p h)))
          (all_from_contains (HoldsUsed used owner) made tail_holds));
      whole = λ b u.
          ⊎_elim
          (λ (r : is_reserved b (length used) ≡ true).
          any_from (HoldsBlock b) (pieces used owner tails) (copied_piece owner b)
          (Contains-append_right kept (copied ++ made) (copied_piece owner b) (Contains-append_left copied made (copied_piece owner b) (copied_whole b u r)))
          (b, refl, omega arith, omega arith))
          (λ (free : is_reserved b (length used) ≡ false).
          let found = are_kept.whole b (and_from (has used b) (not (is_reserved b (length used))) u (not_from_false (is_reserved b (length used)) free)) in
          let p : Piece = found.1 in
          let among : Contains kept p = (found.0, found.2, found.3) in
          any_from (HoldsBlock b) (pieces used owner tails) p (Contains-append_left kept (copied ++ made) p among) (p.place, (is_kept p among).stays, found.4.0, found.4.1))
          (cases_Bool (is_reserved b (length used)));
      once =
          pairs_append (λ p q. (b : ℕ) → HoldsBlock b p → HoldsBlock b q → ⊥) kept (copied ++ made) kept_once
          (pairs_append (λ p q. (b : ℕ) → HoldsBlock b p → HoldsBlock b q → ⊥) copied made copied_once tail_once
          (λ p in_p. all_from_contains (λ q. (b : ℕ) → HoldsBlock b p → HoldsBlock b q → ⊥) made (λ q in_q b first second. none_held q b in_q second)))
          (λ p in_p.
          All-append (λ q. (b : ℕ) → HoldsBlock b p → HoldsBlock b q → ⊥) copied made
          (all_from_contains (λ q. (b : ℕ) → HoldsBlock b p → HoldsBlock b q → ⊥) copied (λ q in_q. across p q in_p in_q))
          (all_from_contains (λ q. (b : ℕ) → HoldsBlock b p → HoldsBlock b q → ⊥) made (λ q in_q b first second. none_held q b in_q second)));
    }

pub pieces_cover_used : PiecesCoverUsed
pieces_cover_used used owner tails = cover used owner tails
