-- A piece that holds a block which is not reserved lies where it lay.
use Rattle.convert_core_laws.proofs.Imports.{◌≡◌, ℕ, Bool, true, false, List, [], ◌∷◌, ◌++◌, length, map, take, drop, Some, sym, ap, subst, ◌∙◌, ⊎_elim, arith, Contains, both_ways, Contains-append_cases, Contains-permutation, IsPermutation-sym, drop-append_seam, take-append_seam, Image, is_reserved, IsMaking, Making, HasPieces, owner, tails, files_of, HoldsBlock, IsKeptPiece, Owners, copied_pieces, kept_pieces, tail_piece, at_place, at_places, blocks_of_units, IsCopied, holds_copied, is_copied_piece, all_at, kept_are_maximal, from_map, contains_cases, contains_head, contains_tail, used_of, Piece}
use Rattle.convert_core_laws.proofs.going_back.Options.{no_some}

-- a piece that got a place is one that had none
from_places : (ps : List Piece) (places : List ℕ) (q : Piece) → Contains (at_places ps places) q → (p : Piece) × Contains ps p × (p.from ≡ q.from) × (p.count ≡ q.count)
from_places [] places q h = absurd (omega (arith, h.1))
from_places (p ∷ ps) [] q h = absurd (omega (arith, h.1))
from_places (p ∷ ps) (b ∷ bs) q h =
    ⊎_elim (λ (same : at_place p b ≡ q). (p, contains_head p ps, ap (λ (z : Piece). z.from) same, ap (λ (z : Piece). z.count) same))
    (λ (later : Contains (at_places ps bs) q). let r = from_places ps bs q later in (r.0, contains_tail r.0 p ps r.1, r.2, r.3)) (contains_cases q (at_place p b) (at_places ps bs) h)

module _ (image : Image) (m : Making) (made : IsMaking image m) where
  abbrev of : HasPieces m.volume image m.options m.plan m.pieces
  of = made.has_pieces

  abbrev used : List Bool
  used = used_of image

  abbrev by : Owners
  by = owner (files_of image of.plan_.keys)

  abbrev kept : List Piece
  kept = kept_pieces used by

  abbrev rest : List Piece
  rest = copied_pieces used by ++ map tail_piece (tails m.options.inline (files_of image of.plan_.keys))

  abbrev old : List Piece
  old = of.found.items.items

  abbrev spots : List ℕ
  spots = blocks_of_units m.plan.data_

  front_is : take of.found.kept old ≡ kept
  front_is = ap (λ (n : ℕ). take n old) of.plan_.found_.kept_are ∙ (ap (take (length kept)) of.plan_.found_.pieces_are ∙ take-append_seam kept rest)

  back_is : drop of.found.kept old ≡ rest
  back_is = ap (λ (n : ℕ). drop n old) of.plan_.found_.kept_are ∙ (ap (drop (length kept)) of.plan_.found_.pieces_are ∙ drop-append_seam kept rest)

  front_stays : (q : Piece) → Contains (take of.found.kept old) q → q.from ≡ Some q.place
  front_stays q h = (all_at (IsKeptPiece used by) kept q (kept_are_maximal used by).each (subst (λ (l : List Piece). Contains l q) front_is h)).stays

  -- what had no place is a copy of a reserved block, or holds no block
  rest_reserved : (p : Piece) (b : ℕ) → Contains rest p → HoldsBlock b p → is_reserved b (length used) ≡ true
  rest_reserved p b h holds =
      ⊎_elim
      (λ (copied : Contains (copied_pieces used by) p).
      let is : IsCopied used by p = is_copied_piece used by p copied in
      subst (λ (n : ℕ). is_reserved n (length used) ≡ true) (sym (holds_copied used by p b is holds)) is.reserved)
      (λ (tail : Contains (map tail_piece (tails m.options.inline (files_of image of.plan_.keys))) p).
      let t = from_map tail_piece (tails m.options.inline (files_of image of.plan_.keys)) p tail in
      absurd (no_some holds.0 (ap (λ (z : Piece). z.from) t.2 ∙ holds.1)))
      (Contains-append_cases (copied_pieces used by) (map tail_piece (tails m.options.inline (files_of image of.plan_.keys))) p h)

  back_reserved : (q : Piece) (b : ℕ) → Contains (at_places (drop of.found.kept old) spots) q → HoldsBlock b q → is_reserved b (length used) ≡ true
  back_reserved q b h holds =
      let was = from_places (drop of.found.kept old) spots q h in
      let count = was.3 in
      let high = holds.3 in
      rest_reserved was.0 b (subst (λ (l : List Piece). Contains l was.0) back_is was.1) (holds.0, was.2 ∙ holds.1, holds.2, omega (arith, high, count))

  pub stays : (q : Piece) (b : ℕ) → Contains m.pieces q → HoldsBlock b q → is_reserved b (length used) ≡ false → q.from ≡ Some q.place
  stays q b h holds free =
      let front : List Piece = take of.found.kept old in
      let back_part : List Piece = at_places (drop of.found.kept old) spots in
      ⊎_elim (λ early. front_stays q early) (λ late. absurd (both_ways (is_reserved b (length used)) free (back_reserved q b late holds)))
      (Contains-append_cases front back_part q (Contains-permutation m.pieces (front ++ back_part) q (IsPermutation-sym (front ++ back_part) m.pieces of.placed.same) h))
