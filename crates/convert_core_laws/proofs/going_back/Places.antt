-- Where the blocks of the saved image lie.
use Rattle.convert_core_laws.proofs.Imports.{◌≡◌, ◌≤◌, ◌<◌, ℕ, ◌+◌, ◌-◌, ◌*◌, ◌/◌, eqb, nat_lt, Bool, true, false, List, [], ◌∷◌, length, map, Option, Some, None, refl, sym, ap, subst, ◌∙◌, arith, Contains, if◌then◌else◌, option_and_then, option_map, and_parts, leb-true, ltb-true, EXTENT_DATA, from_filter, in_map, Image, IsReserved, is_reserved, covers, extents_of, is_extent_of, FileExtentValue, Regular, file_extent_of, Inode, Item, find_inode_item, inode_of, ImageFile, block_by_extent, content_block, file_if_image, image_at, image_entry, image_in, image_place, inode_number, is_image, TreeItem, place, bare_item, MapRange, IsMaking, Making, image_tree_items, piece_apart, GivesItsOwn, HoldsBlock, source_block, regular_extent, contains_head, contains_tail, used_of, Piece}
use Rattle.btr_reader.specs.Image.{file_block}
use Rattle.convert_core_laws.proofs.going_back.Extents.{IsSavedExtent, extent_read, no_hole, range_by, saved_extent}
use Rattle.convert_core_laws.proofs.going_back.Options.{no_some, some_is, when_true}
use Rattle.convert_core_laws.proofs.going_back.Staying.{stays}

-- ---- the extents of the image are those of an inode of its tree

extents_are : (extents : List TreeItem) (o : Option Inode) (f : ImageFile) → file_if_image extents o ≡ Some f → f.extents ≡ extents
extents_are extents None f is = absurd (no_some f is)
extents_are extents (Some own) f is =
    let file : ImageFile = record { extents = extents; blocks = own.size / 4096 } in
    ap (λ (x : ImageFile). x.extents) (sym (some_is file f (when_true (is_image extents own) (Some file) f is).1))

at_inode : (items : List TreeItem) (ino : ℕ) (o : Option TreeItem) (f : ImageFile) → image_at items ino o ≡ Some f → f.extents ≡ extents_of items ino
at_inode items ino None f is = absurd (no_some f is)
at_inode items ino (Some i) f is = extents_are (extents_of items ino) (inode_of i.body) f is

pub of_inode : (items : List TreeItem) (f : ImageFile) → image_in items ≡ Some f → (ino : ℕ) × (f.extents ≡ extents_of items ino)
of_inode items f is = by (option_and_then inode_number (image_entry items)) is
  where
    by : (o : Option ℕ) → option_and_then (λ ino. image_at items ino (find_inode_item items ino)) o ≡ Some f → (ino : ℕ) × (f.extents ≡ extents_of items ino)
    by None is = absurd (no_some f is)
    by (Some ino) is = (ino, at_inode items ino (find_inode_item items ino) f is)

-- ---- blocks of a list of extents

-- a piece has block b of the old volume, at this place
pub record LiesAt (m : Making) (b at : ℕ) : Type 0 where
  pub piece : Piece
  pub among : Contains m.pieces piece
  pub from : piece.from ≡ Some (source_block piece)
  pub low : source_block piece ≤ b
  pub high : b < source_block piece + piece.count
  pub at_is : at ≡ piece.place + (b - source_block piece)

module _ (image : Image) (m : Making) (made : IsMaking image m) (ranges : List MapRange) (own : GivesItsOwn m ranges) where
  -- where a piece has a block that it holds
  piece_block : (p : Piece) (b at : ℕ) → Contains m.pieces p → source_block p ≤ b → b < source_block p + p.count → content_block ranges (Regular (range_by p)) (b - 4096 * source_block p / 4096) ≡ Some at → at ≡ p.place + (b - source_block p)
  piece_block p b at h low high told =
      let first : 4096 * source_block p / 4096 ≡ source_block p = omega arith in
      let a : ℕ = 4096 * p.place + 0 + 4096 * (b - source_block p) in
      let lies : a / 4096 ≡ p.place + (b - source_block p) = omega arith in
      let is : content_block ranges (Regular (range_by p)) (b - 4096 * source_block p / 4096) ≡ Some (p.place + (b - source_block p)) =
      ap (λ (n : ℕ). content_block ranges (Regular (range_by p)) (b - n)) first
      ∙ (ap (λ (t : Bool). if t then None else option_map (λ (x : ℕ). x / 4096) (place ranges a)) (no_hole image m made p h)
      ∙ (ap (λ (o : Option ℕ). option_map (λ (x : ℕ). x / 4096) o) (own.pieces p a h (omega arith) (omega (arith, low, high)))
      ∙ ap (λ (n : ℕ). let o : Option ℕ = Some n in o) lies)) in
      some_is at (p.place + (b - source_block p)) (sym told ∙ is)

  -- where an extent from a byte on has the block, and else another place
  abbrev from_here : Piece → ℕ → ℕ → Option ℕ → Option ℕ
  from_here p b offset rest = if covers offset (Regular (range_by p)) (4096 * b) then content_block ranges (Regular (range_by p)) (b - offset / 4096) else rest

  pub placed_by : (extents : List TreeItem) (b at : ℕ) → ((i : TreeItem) → Contains extents i → IsSavedExtent m (bare_item i)) → file_block ranges extents b ≡ Some at → LiesAt m b at
  placed_by [] b at each is = absurd (no_some at is)
  placed_by (i ∷ extents) b at each is =
      let e : IsSavedExtent m (bare_item i) = each i (contains_head i extents) in
      let p : Piece = e.piece in
      let read : file_extent_of i.body ≡ Some (regular_extent p.place p.count) = ap (λ (j : Item). file_extent_of j.1) e.is ∙ extent_read image m made p e.among in
      let offset : i.key.offset ≡ 4096 * source_block p = ap (λ (j : Item). j.0.offset) e.is in
      let step : block_by_extent ranges i (file_extent_of i.body) b (file_block ranges extents b) ≡ from_here p b (4096 * source_block p) (file_block ranges extents b) =
      ap (λ (o : Option FileExtentValue). block_by_extent ranges i o b (file_block ranges extents b)) read ∙ ap (λ (n : ℕ). from_here p b n (file_block ranges extents b)) offset in
      by p e.among e.from (placed_by extents b at (λ j k. each j (contains_tail j i extents k))) (covers (4096 * source_block p) (Regular (range_by p)) (4096 * b)) refl (sym step ∙ is)
    where
      by : (p : Piece) → Contains m.pieces p → p.from ≡ Some (source_block p) → (file_block ranges extents b ≡ Some at → LiesAt m b at) → (t : Bool) → covers (4096 * source_block p) (Regular (range_by p)) (4096 * b) ≡ t
          → (if t then content_block ranges (Regular (range_by p)) (b - 4096 * source_block p / 4096) else file_block ranges extents b) ≡ Some at → LiesAt m b at
      by p h from rest true over told =
          let parts = and_parts _ _ over in
          let first = leb-true (4096 * source_block p) (4096 * b) parts.0 in
          let last = ltb-true (4096 * b) (4096 * source_block p + 4096 * p.count) parts.1 in
          let low : source_block p ≤ b = omega (arith, first) in
          let high : b < source_block p + p.count = omega (arith, last) in
          record { piece = p; among = h; from = from; low = low; high = high; at_is = piece_block p b at h low high told }
      by p h from rest false over told = rest told

  -- ---- blocks of the image

  module _ (items : List TreeItem) (are : map bare_item items ≡ image_tree_items m) (f : ImageFile) (found : image_in items ≡ Some f) where
    each_extent : (i : TreeItem) → Contains f.extents i → IsSavedExtent m (bare_item i)
    each_extent i h =
        let at = of_inode items f found in
        let there = from_filter (is_extent_of at.0) items i (subst (λ (l : List TreeItem). Contains l i) at.1 h) in
        let kind = (and_parts (eqb i.key.objectid at.0) (eqb i.key.kind EXTENT_DATA) there.1).1 in
        saved_extent image m made (bare_item i) (subst (λ (l : List Item). Contains l (bare_item i)) are (in_map bare_item items i there.0)) kind

    -- a place of the image is one that a piece has
    pub image_lies : (b at : ℕ) → image_place ranges f b ≡ Some at → LiesAt m b at
    image_lies b at is = placed_by f.extents b at each_extent (when_true (nat_lt b f.blocks) (file_block ranges f.extents b) at is).1

    -- and no such place is reserved
    pub image_unreserved : (b at : ℕ) → image_place ranges f b ≡ Some at → ¬ IsReserved at (length (used_of image))
    image_unreserved b at is =
        let lies : LiesAt m b at = image_lies b at is in
        let where_ = lies.at_is in
        let low = lies.low in
        let high = lies.high in
        piece_apart m.volume image m.options m.plan m.pieces made.has_pieces lies.piece lies.among at (omega (arith, where_)) (omega (arith, where_, low, high))

    -- a block that is not reserved has its own place
    pub image_in_place : (b at : ℕ) → image_place ranges f b ≡ Some at → is_reserved b (length (used_of image)) ≡ false → at ≡ b
    image_in_place b at is free =
        let lies : LiesAt m b at = image_lies b at is in
        let holds : HoldsBlock b lies.piece = (source_block lies.piece, lies.from, lies.low, lies.high) in
        let stay : lies.piece.from ≡ Some lies.piece.place = stays image m made lies.piece b lies.among holds free in
        let same : source_block lies.piece ≡ lies.piece.place = some_is (source_block lies.piece) lies.piece.place (sym lies.from ∙ stay) in
        let where_ = lies.at_is in
        let low = lies.low in
        omega (arith, same, where_, low)
