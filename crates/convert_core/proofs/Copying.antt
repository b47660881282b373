-- The copy of block 16 among the pieces: how it is looked for, and that it is there.
use Rattle.convert_core.proofs.Imports.{◌≡◌, ◌≢◌, ◌∙◌, inl, inr, ⊎_elim, ℕ, ◌+◌, ◌<◌, ◌≤◌, Bool, true, false, List, [], ◌∷◌, ◌++◌, length, take, drop, Option, Some, None, refl, sym, ap, subst, arith, length-drop, take-append-drop, true≢false, cond, Contains, IsTrue, slice_get, Contains-append_cases, Contains-append_left, Contains-append_right, Contains-permutation, Image, block_at, has, used_of, superblock, used_length, Volume, Options, Piece, Plan, owner, tails, files_of, Owners, CoverUsed, LieWell, LiesInUnit, HoldsBlock, FitsPlan, at_place, at_places, blocks_of_units, all_at, HasPieces, HoldMoved, contains_cases, contains_head, contains_tail, drop_all, drop_more, get_or_from_slice_get, slice_get_within, eqb-true, plans_have_room, pieces_cover_used, begins_with_super, copy_in, SUPER_BLOCK}
use Rattle.reiser_volume.proofs.reiser_bitmap.SystemBlocks.{superblock_in}
use Rattle.extent_pieces.proofs.Placing.{length-blocks}
use Rattle.convert_core.proofs.Moving.{can_move, well}
use Rattle.convert_core.proofs.Reserved.{piece_apart}

-- ---- the loop
by_first : (p : Piece) (ps : List Piece) (t : Bool) → begins_with_super p.from ≡ t → copy_in (p ∷ ps) ≡ cond t p.place (copy_in ps)
by_first p ps t is = ap (λ (s : Bool). cond s p.place (copy_in ps)) is

at_drop : (ps : List Piece) (i : ℕ) (p : Piece) → slice_get ps i ≡ Some p → drop i ps ≡ p ∷ drop (i + 1) ps
at_drop ps i p got = drop_more ps i p (slice_get_within ps i p got) ∙ ap (λ (q : Piece). q ∷ drop (i + 1) ps) (get_or_from_slice_get ps i p p got)

pub copy_next : (ps : List Piece) (i : ℕ) (p : Piece) → slice_get ps i ≡ Some p → (t : Bool) → t ≡ begins_with_super p.from → t ≡ false → copy_in (drop i ps) ≡ copy_in ps → copy_in (drop (i + 1) ps) ≡ copy_in ps
copy_next ps i p got t is other rest = sym (ap copy_in (at_drop ps i p got) ∙ by_first p (drop (i + 1) ps) false (sym is ∙ other)) ∙ rest

pub copy_here : (ps : List Piece) (i : ℕ) (p : Piece) → slice_get ps i ≡ Some p → (t : Bool) → t ≡ begins_with_super p.from → t ≡ true → copy_in (drop i ps) ≡ copy_in ps → p.place ≡ copy_in ps
copy_here ps i p got t is here rest = sym (ap copy_in (at_drop ps i p got) ∙ by_first p (drop (i + 1) ps) true (sym is ∙ here)) ∙ rest

pub copy_end : (ps : List Piece) (i : ℕ) → length ps ≤ i → copy_in (drop i ps) ≡ copy_in ps → 16 ≡ copy_in ps
copy_end ps i past rest = sym (ap copy_in (drop_all i ps past)) ∙ rest

-- ---- where one begins with block 16, that is found
begins_at : (o : Option ℕ) → begins_with_super o ≡ true → o ≡ Some 16
begins_at None is = absurd (true≢false (sym is))
begins_at (Some b) is = ap (λ (n : ℕ). Some n) (eqb-true b 16 is)

record HasCopy (ps : List Piece) : Type 0 where
  piece : Piece
  among : Contains ps piece
  from : piece.from ≡ Some 16
  place : copy_in ps ≡ piece.place

copy_of : (ps : List Piece) (p : Piece) → Contains ps p → p.from ≡ Some 16 → HasCopy ps
copy_of [] p h is = absurd (omega (arith, h.1))
copy_of (q ∷ ps) p h is = by (λ later. copy_of ps p later is) (begins_with_super q.from) refl
  where
    by : (Contains ps p → HasCopy ps) → (t : Bool) → begins_with_super q.from ≡ t → HasCopy (q ∷ ps)
    by among true here = record { piece = q; among = contains_head q ps; from = begins_at q.from here; place = by_first q ps true here }
    by among false other =
        let later : Contains ps p = ⊎_elim (λ same. absurd (true≢false (sym (ap begins_with_super (ap (λ (r : Piece). r.from) same ∙ is)) ∙ other))) (λ behind. behind) (contains_cases p q ps h) in
        let found : HasCopy ps = among later in
        record { piece = found.piece; among = contains_tail found.piece q ps found.among; from = found.from; place = by_first q ps false other ∙ found.place }

-- an element that gets a place
placed_there : (ps : List Piece) (places : List ℕ) (p : Piece) → length ps ≤ length places → Contains ps p → (b : ℕ) × Contains (at_places ps places) (at_place p b)
placed_there [] places p few h = absurd (omega (arith, h.1))
placed_there (q ∷ ps) [] p few h = absurd (omega (arith, few))
placed_there (q ∷ ps) (b ∷ bs) p few h =
    ⊎_elim (λ (same : q ≡ p). (b, subst (λ (z : Piece). Contains (at_place q b ∷ at_places ps bs) (at_place z b)) same (contains_head (at_place q b) (at_places ps bs))))
    (λ (later : Contains ps p). let r = placed_there ps bs p (omega (arith, few)) later in (r.0, contains_tail (at_place p r.0) (at_place q b) (at_places ps bs) r.1)) (contains_cases p q ps h)

module _ (volume : Volume) (image : Image) (o : Options) (plan : Plan) (pieces : List Piece) (of : HasPieces volume image o plan pieces) where
  abbrev used : List Bool
  used = used_of image

  abbrev old : List Piece
  old = of.found.items.items

  abbrev front : List Piece
  front = take of.found.kept old

  abbrev back_part : List Piece
  back_part = drop of.found.kept old

  abbrev spots : List ℕ
  spots = blocks_of_units plan.data_

  abbrev by : Owners
  by = owner (files_of image of.plan_.keys)

  covered : CoverUsed used by old
  covered = subst (CoverUsed used by) (sym of.plan_.found_.pieces_are) (pieces_cover_used used by (tails o.inline (files_of image of.plan_.keys)))

  enough : length back_part ≤ length spots
  enough =
      let fits : FitsPlan of.found plan.data_ = plans_have_room image of.found o plan of.plan_ in
      let room = fits.room in
      let long = length-drop of.found.kept of.found.items.items in
      let many = length-blocks plan.data_ in
      omega (arith, room, long, many)

  -- a piece with its place
  pub record IsPlaced (p : Piece) : Type 0 where
    pub q : Piece
    pub among : Contains pieces q
    pub from : q.from ≡ p.from
    pub count : q.count ≡ p.count

  in_place : (q : Piece) → Contains (front ++ at_places back_part spots) q → Contains pieces q
  in_place q h = Contains-permutation (front ++ at_places back_part spots) pieces q of.placed.same h

  pub at_its_place : (p : Piece) → Contains old p → IsPlaced p
  at_its_place p h =
      ⊎_elim
      (λ first. record { q = p; among = in_place p (Contains-append_left front (at_places back_part spots) p first); from = refl; count = refl })
      (λ later.
      let at = placed_there back_part spots p enough later in
      record { q = at_place p at.0; among = in_place (at_place p at.0) (Contains-append_right front (at_places back_part spots) (at_place p at.0) at.1); from = refl; count = refl })
      (Contains-append_cases front back_part p (subst (λ (ps : List Piece). Contains ps p) (sym (take-append-drop of.found.kept old)) h))

  some_is : (a b : ℕ) → Some a ≡ Some b → a ≡ b
  some_is a b is = cc

  -- block 16 is used, so a piece holds it, and it is reserved, so that piece begins with it and lies elsewhere
  pub super_used : has used 16 ≡ true
  super_used = let s = superblock image in of.accepted.system 16 (superblock_in s.blocks s.journal_first s.journal_size)

  found : HasCopy pieces
  found =
      let at = covered.whole 16 super_used in
      let p : Piece = at.1 in
      let holds : HoldsBlock 16 p = at.4 in
      let there : IsPlaced p = at_its_place p (at.0, at.2, at.3) in
      let q : Piece = there.q in
      let from : q.from ≡ Some holds.0 = there.from ∙ holds.1 in
      let count = there.count in
      let low : holds.0 ≤ 16 = holds.2 in
      let high : 16 < holds.0 + p.count = holds.3 in
      let moved : q.from ≢ Some q.place = λ stays.
      let same : holds.0 ≡ q.place = some_is holds.0 q.place (sym from ∙ stays) in
      piece_apart volume image o plan pieces of q there.among 16 (omega (arith, low, same)) (omega (arith, high, same, count)) (inl (omega arith)) in
      let one : q.count ≡ 1 = (all_at (LiesInUnit plan.data_) pieces q (well volume image o plan pieces of).moved there.among moved).0 in
      let first : holds.0 ≡ 16 = omega (arith, low, high, count, one) in
      copy_of pieces q there.among (from ∙ ap (λ (n : ℕ). Some n) first)

  some : 1 ≤ found.piece.count
  some = all_at (λ (q : Piece). 1 ≤ q.count) pieces found.piece (well volume image o plan pieces of).apart.some found.among

  pub copy_elsewhere : copy_in pieces ≢ 16
  copy_elsewhere is =
      let here : found.piece.place ≡ 16 = sym found.place ∙ is in
      let many = some in
      piece_apart volume image o plan pieces of found.piece found.among 16 (omega (arith, here)) (omega (arith, here, many)) (inl (omega arith))

  pub copy_inside : copy_in pieces < length image
  copy_inside =
      let inside = all_at (λ (q : Piece). q.place + q.count ≤ length used) pieces found.piece (well volume image o plan pieces of).apart.inside found.among in
      let long = used_length image in
      let fits = of.accepted.clean.superblock.fits in
      let many = some in
      let place = found.place in
      omega (arith, inside, long, fits, many, place)

  -- and it holds block 16
  pub copy_holds : (other : Image) → HoldMoved volume image other pieces → block_at other (copy_in pieces) ≡ block_at image SUPER_BLOCK
  copy_holds other hold =
      let here = (hold found.piece found.among).blocks 16 0 found.from (omega (arith, some)) in
      let at : copy_in pieces ≡ found.piece.place + 0 = found.place ∙ (let e : found.piece.place ≡ found.piece.place + 0 = omega arith in e) in
      ap (block_at other) at ∙ here
