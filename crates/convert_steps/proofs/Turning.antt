-- Pieces that are written one after the other hold what they are to hold.
use Rattle.convert_steps.proofs.Imports.{◌≡◌, ◌≢◌, ◌<◌, ◌≤◌, ◌⊎◌, ℕ, ◌+◌, Bool, true, false, List, length, get_or, Option, Some, refl, sym, ap, subst, ◌∙◌, true≢false, ⊎_elim, inl, inr, arith, Contains, slice_get, cases_lt, get_or_past, slice_get_within, slice_get-get_or, get_or_from_slice_get, Image, History, WritesOnly, block_at, reads, writes_length, reads_outside, tail_block, items_of, stat_at, IsOpened, used_of, Volume, Piece, CanMove, CanWrite, HoldMoved, HoldsPiece, IsMovedTo, IsMovedPlace}
use Rattle.reiser_volume.specs.reiser_volume_contents.Laws.{SameUsed}
use Rattle.reiser_volume.specs.reiser_bitmap.Bits.{has}
use Rattle.reiser_volume.specs.Laws.{IsSameVolume}
use Rattle.reiser_volume.proofs.Holding.{used_length}
use Rattle.reiser_volume.proofs.Unchanged.{opened_same, same_volume}
use Rattle.reiser_volume.specs.reiser_walk.Items.{ReiserItem}
use Rattle.convert_steps.proofs.Moving.{copy_moves, tail_moves}

has_within : (set : List Bool) (b : ℕ) → has set b ≡ true → b < length set
has_within set b is = ⊎_elim (λ (less : b < length set). less) (λ (past : length set ≤ b). absurd (true≢false (sym is ∙ get_or_past set b false past))) (cases_lt b (length set))

-- all blocks but the places of the pieces are as they were
pub record IsKept (pieces : List Piece) (image cur : Image) : Type 0 where
  pub size : length cur ≡ length image
  pub others : (b : ℕ) → (IsMovedPlace pieces b → ⊥) → block_at cur b ≡ block_at image b

pub kept_by : (pieces : List Piece) (image : Image) (old new : History) → reads old ≡ image → WritesOnly (λ b _. IsMovedPlace pieces b) old new → IsKept pieces image (reads new)
kept_by pieces image old new is only = record {
  size = writes_length (λ b _. IsMovedPlace pieces b) old new only ∙ ap (λ (i : Image). length i) is;
  others = λ b outside. reads_outside (IsMovedPlace pieces) old new only b outside ∙ ap (λ (i : Image). block_at i b) is;
}

-- so many pieces hold what they are to hold
abbrev pub Held : Volume → Image → Image → List Piece → ℕ → Type 0
Held volume image cur pieces n = (j : ℕ) (q : Piece) → j < n → slice_get pieces j ≡ Some q → HoldsPiece volume image cur q

equal_or : (a b : ℕ) → (a ≡ b) ⊎ (a ≢ b)
equal_or a b =
    ⊎_elim (λ (less : a < b). inr (λ same. omega (arith, less, same)))
    (λ (least : b ≤ a). ⊎_elim (λ (more : b < a). inr (λ same. omega (arith, more, same))) (λ (most : a ≤ b). inl (let e : a ≡ b = omega (arith, least, most) in e)) (cases_lt b a)) (cases_lt a b)

module _ (volume : Volume) (image : Image) (pieces : List Piece) (can : CanMove volume image pieces) where
  among : (i : ℕ) (p : Piece) → slice_get pieces i ≡ Some p → Contains pieces p
  among i p at = (i, slice_get_within pieces i p at, get_or_from_slice_get pieces i p p at)

  single_at : (i : ℕ) (p : Piece) → slice_get pieces i ≡ Some p → p.from ≢ Some p.place → p.count ≡ 1
  single_at i p at = subst (λ (q : Piece). q.from ≢ Some q.place → q.count ≡ 1) (get_or_from_slice_get pieces i p p at) (can.single i p (slice_get_within pieces i p at))

  place_at : (i : ℕ) (p : Piece) → slice_get pieces i ≡ Some p → p.from ≢ Some p.place → IsMovedPlace pieces p.place
  place_at i p at moved = (i, p, slice_get_within pieces i p at, get_or_from_slice_get pieces i p p at, record { moved = moved; place = refl })

  apart_at : (j i : ℕ) (q p : Piece) → j < i → slice_get pieces j ≡ Some q → slice_get pieces i ≡ Some p → q.from ≢ Some q.place → p.from ≢ Some p.place → q.place ≢ p.place
  apart_at j i q p before there at =
      subst (λ (x : Piece). q.from ≢ Some q.place → x.from ≢ Some x.place → q.place ≢ x.place) (get_or_from_slice_get pieces i p p at)
      (subst (λ (y : Piece). y.from ≢ Some y.place → (get_or pieces i p).from ≢ Some (get_or pieces i p).place → y.place ≢ (get_or pieces i p).place) (get_or_from_slice_get pieces j q p there)
      (can.apart j i p before (slice_get_within pieces i p at)))

  used_fits : (b : ℕ) → has (used_of image) b ≡ true → b < length image
  used_fits b used = omega (arith, has_within (used_of image) b used, used_length image, can.accepted.clean.superblock.fits)

  used_stays : (cur : Image) → IsKept pieces image cur → SameUsed (used_of image) image cur
  used_stays cur kept = λ b used. kept.others b (λ place. true≢false (sym used ∙ can.unused b place))

  pub same_at : (cur : Image) → IsKept pieces image cur → IsSameVolume image cur
  same_at cur kept = same_volume image cur can.accepted (used_stays cur kept) (omega (arith, kept.size, can.accepted.clean.superblock.fits))

  pub opened_at : (cur : Image) → IsKept pieces image cur → IsOpened volume cur
  opened_at cur kept = opened_same volume image cur (same_at cur kept) can.opened

  pub can_write : (size : ℕ) (i : ℕ) (p : Piece) → size ≡ length image → slice_get pieces i ≡ Some p → CanWrite volume size p
  can_write size i p is at = record {
    single = single_at i p at;
    inside = λ moved. omega (arith, is, can.inside p.place (place_at i p at moved));
    source = λ b from moved.
        let used = can.sources p b 0 (among i p at) from (omega (arith, single_at i p at moved)) in
        omega (arith, is, used_fits (b + 0) used);
    owner = can.owners p (among i p at);
  }

  -- a block of an earlier piece is not the place of a later one
  other_block : (j i : ℕ) (q p : Piece) (k : ℕ) → j < i → slice_get pieces j ≡ Some q → slice_get pieces i ≡ Some p → (b : ℕ) → q.from ≡ Some b → k < q.count → IsMovedTo (q.place + k) p → ⊥
  other_block j i q p k before there at b from few moves =
      ⊎_elim
      (λ (stays : b ≡ q.place).
      let used : has (used_of image) (q.place + k) ≡ true = subst (λ (n : ℕ). has (used_of image) (n + k) ≡ true) stays (can.sources q b k (among j q there) from few) in
      let unused : has (used_of image) (q.place + k) ≡ false = subst (λ (n : ℕ). has (used_of image) n ≡ false) moves.place (can.unused p.place (place_at i p at moves.moved)) in
      true≢false (sym used ∙ unused))
      (λ (moved : b ≢ q.place).
      let goes = copy_moves q b from moved in
      let one = single_at j q there goes in
      apart_at j i q p before there at goes moves.moved (omega (arith, few, one, moves.place)))
      (equal_or b q.place)

  module _ (i : ℕ) (p : Piece) (at : slice_get pieces i ≡ Some p) (cur new : Image) (kept : IsKept pieces image cur) (only : (b : ℕ) → (IsMovedTo b p → ⊥) → block_at new b ≡ block_at cur b) where
    -- an earlier piece still holds it
    earlier : (j : ℕ) (q : Piece) → j < i → slice_get pieces j ≡ Some q → HoldsPiece volume image cur q → HoldsPiece volume image new q
    earlier j q before there holds = record {
      blocks = λ b k from few. only (q.place + k) (other_block j i q p k before there at b from few) ∙ holds.blocks b k from few;
      tail = λ key k none named owner.
          only q.place (λ moves. apart_at j i q p before there at (tail_moves q none) moves.moved (sym moves.place)) ∙ holds.tail key k none named owner;
    }

    -- and the one that was written holds what the first image says
    latest : HoldsPiece volume cur new p → HoldsPiece volume image new p
    latest holds = record {
      blocks = λ b k from few. holds.blocks b k from few ∙ used_stays cur kept (b + k) (can.sources p b k (among i p at) from few);
      tail = λ key k none named owner.
          holds.tail key k none named owner
          ∙ ap (λ (items : List ReiserItem). tail_block (items_of key items) (stat_at items key).fields.size k) (same_at cur kept).items;
    }

    pub held_more : HoldsPiece volume cur new p → Held volume image cur pieces i → Held volume image new pieces (i + 1)
    held_more holds held j q less there =
        ⊎_elim (λ (before : j < i). earlier j q before there (held j q before there))
        (λ (least : i ≤ j).
        let same : i ≡ j = omega (arith, least, less) in
        let both : Some p ≡ Some q = sym at ∙ (ap (slice_get pieces) same ∙ there) in
        let is : p ≡ q = cc in
        subst (λ (x : Piece). HoldsPiece volume image new x) is (latest holds))
        (cases_lt j i)

  pub held_all : (n : ℕ) (cur : Image) → length pieces ≤ n → Held volume image cur pieces n → HoldMoved volume image cur pieces
  held_all n cur all held p h = held h.0 p (omega (arith, h.1, all)) (slice_get-get_or pieces h.0 p h.1 ∙ ap (λ (x : Piece). let o : Option Piece = Some x in o) h.2)
