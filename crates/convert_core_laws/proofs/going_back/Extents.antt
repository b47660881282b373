-- The file extents of a converted volume are those of its pieces.
use Rattle.convert_core_laws.proofs.Imports.{◌≡◌, ℕ, ◌*◌, eqb, Bool, true, false, List, [], ◌∷◌, length, filter, Option, Some, None, refl, sym, ap, subst, ◌∙◌, ⊎_elim, arith, Contains, if◌then◌else◌, AllByRecursion, option_and_then, option_map_or, and_from, eq-eqb, ne_eqb, Contains-append_cases, EXTENT_DATA, from_filter, from_map, in_filter, keys, Image, FileExtentValue, file_extent_bytes, file_extent_of, DiskRange, Item, IsMaking, Making, HasPieces, made_from, file_tree_items, image_tree_items, numbered, extents_at, file_block, is_owned_by, piece_bytes, pieces_of, pieces_of_volume, source_block, image_head, image_items, Source, file_extent_items, inline_in, ino_of, size_in, fs_tree_items, length_bytes, extent_item, inline_extent, regular_extent, ascending, ascending_all, contains_cases, contains_head, contains_tail, file_byte, target_bytes, ObjectKey, items_of, IsNamed, volume_items, content_range, Piece}
use Rattle.std.proofs.Common.{is_some}
use Rattle.convert_core_laws.proofs.Holding.{StaysInTree, stays}
use Rattle.convert_core_laws.proofs.Owned.{any_extents}
use Rattle.convert_core_laws.proofs.ByteReading.{inline_read, is_extent, regular_read}
use Rattle.convert_core_laws.proofs.soundness.Uses.{piece_small}
use Rattle.convert_core_laws.proofs.going_back.Options.{no_some, some_is}

-- ---- lists

-- what holds of each
each_all : (P : Piece → Type 0) (ps : List Piece) → ((p : Piece) → Contains ps p → P p) → AllByRecursion P ps
each_all P [] each = tt
each_all P (q ∷ ps) each = (each q (contains_head q ps), each_all P ps (λ p h. each p (contains_tail p q ps h)))

all_each : (P : Piece → Type 0) (ps : List Piece) (p : Piece) → AllByRecursion P ps → Contains ps p → P p
all_each P [] p all h = absurd (omega (arith, h.1))
all_each P (q ∷ ps) p all h = ⊎_elim (λ (same : q ≡ p). subst P same all.0) (λ (later : Contains ps p). all_each P ps p all.1 later) (contains_cases p q ps h)

-- a piece in another order is one of the list
from_ascending : (number : Piece → ℕ) (ps : List Piece) (p : Piece) → Contains (ascending number ps) p → Contains ps p
from_ascending number ps p h = all_each (Contains ps) (ascending number ps) p (ascending_all number (Contains ps) ps (each_all (Contains ps) ps (λ q k. k))) h

-- ---- one extent

-- the bytes that the body of a file extent has on the device
abbrev pub body_range : List ℕ → Option DiskRange
body_range body = option_and_then (λ (e : FileExtentValue). content_range e.content) (file_extent_of body)

abbrev pub range_by : Piece → DiskRange
range_by p = record { disk_bytenr = 4096 * p.place; disk_num_bytes = 4096 * p.count; offset = 0; num_bytes = 4096 * p.count }

-- the bytes are those of a piece
pub record IsOfPiece (m : Making) (range : DiskRange) : Type 0 where
  pub piece : Piece
  pub among : Contains m.pieces piece
  pub range_is : range ≡ range_by piece

-- an extent of the saved image: that of a piece, from the block on that the piece holds
pub record IsSavedExtent (m : Making) (i : Item) : Type 0 where
  pub piece : Piece
  pub among : Contains m.pieces piece
  pub from : piece.from ≡ Some (source_block piece)
  pub is : i ≡ extent_item 257 (source_block piece) (regular_extent piece.place piece.count)

empty : {X : Type 0} (x : X) → Contains [] x → ⊥
empty x h = absurd (omega (arith, h.1))

module _ (image : Image) (m : Making) (made : IsMaking image m) where
  abbrev of : HasPieces m.volume image m.options m.plan m.pieces
  of = made.has_pieces

  pub no_hole : (p : Piece) → Contains m.pieces p → eqb (4096 * p.place) 0 ≡ false
  no_hole p h = ne_eqb (4096 * p.place) 0 (λ e. let high = (piece_small image m made p h).high in omega (arith, e, high))

  pub extent_read : (p : Piece) → Contains m.pieces p → file_extent_of (file_extent_bytes (regular_extent p.place p.count)) ≡ Some (regular_extent p.place p.count)
  extent_read p h = let end = (piece_small image m made p h).end in regular_read p.place p.count (omega (arith, end)) (omega (arith, end))

  piece_range : (p : Piece) → Contains m.pieces p → body_range (file_extent_bytes (regular_extent p.place p.count)) ≡ Some (range_by p)
  piece_range p h =
      ap (λ (o : Option FileExtentValue). option_and_then (λ (e : FileExtentValue). content_range e.content) o) (extent_read p h)
      ∙ ap (λ (b : Bool). let o : Option DiskRange = if b then None else Some (range_by p) in o) (no_hole p h)

  of_piece : (p : Piece) (i : Item) (ino block : ℕ) (r : DiskRange) → Contains m.pieces p → extent_item ino block (regular_extent p.place p.count) ≡ i → body_range i.1 ≡ Some r → IsOfPiece m r
  of_piece p i ino block r h is told = record {
    piece = p;
    among = h;
    range_is = some_is r (range_by p) (sym told ∙ (ap (λ (j : Item). body_range j.1) (sym is) ∙ piece_range p h));
  }

  -- ---- the file tree

  abbrev s : Source
  s = made_from m.volume image m.options m.pieces

  object_range : (key : ObjectKey) (i : Item) (r : DiskRange) → Contains s.keys key → Contains (file_extent_items s key) i → body_range i.1 ≡ Some r → IsOfPiece m r
  unfolding file_extent_items
  object_range key i r among h told = by (inline_in s key) refl h
    where
      is_named : IsNamed (volume_items image) key
      is_named = (of.opened.are_keys.exact key).0 among

      bytes : List ℕ
      bytes = target_bytes (items_of key s.items) (size_in s key)

      by : (b : Bool) → inline_in s key ≡ b
          → Contains (if b then extent_item (ino_of s key) 0 (inline_extent (target_bytes (items_of key s.items) (size_in s key))) ∷ [] else extents_at (ino_of s key) file_block (pieces_of s.pieces (ino_of s key))) i → IsOfPiece m r
      by true is there =
          let st : StaysInTree image of.accepted key is_named = stays image of.accepted key is_named m.options.inline is in
          let short = st.short in
          let long : length bytes ≡ size_in s key = ap length st.bytes ∙ length_bytes (size_in s key) (file_byte image (items_of key s.items)) 0 in
          let same : extent_item (ino_of s key) 0 (inline_extent bytes) ≡ i =
          ⊎_elim (λ (e : extent_item (ino_of s key) 0 (inline_extent bytes) ≡ i). e) (λ (none : Contains [] i). absurd (empty i none)) (contains_cases i (extent_item (ino_of s key) 0 (inline_extent bytes)) [] there) in
          let read : body_range (file_extent_bytes (inline_extent bytes)) ≡ None =
          ap (λ (o : Option FileExtentValue). option_and_then (λ (e : FileExtentValue). content_range e.content) o) (inline_read bytes (omega (arith, long, short))) in
          absurd (no_some r (sym read ∙ (ap (λ (j : Item). body_range j.1) same ∙ told)))
      by false is there =
          let at = from_map (λ (p : Piece). extent_item (ino_of s key) (file_block p) (regular_extent p.place p.count)) (pieces_of m.pieces (ino_of s key)) i there in
          let p : Piece = at.0 in
          let own : Contains m.pieces p = (from_filter (is_owned_by (ino_of s key)) m.pieces p (from_ascending file_block (filter (is_owned_by (ino_of s key)) m.pieces) p at.1)).0 in
          of_piece p i (ino_of s key) (file_block p) r own at.2 told

  pub file_range : (i : Item) (r : DiskRange) → Contains (file_tree_items image m) i → eqb i.0.kind EXTENT_DATA ≡ true → body_range i.1 ≡ Some r → IsOfPiece m r
  file_range i r h is told =
      let at = numbered image (keys m.volume.named) (record { accepted = of.accepted; are_keys = of.opened.are_keys; ascend = of.opened.ascends }) in
      let ino : ℕ = i.0.objectid in
      let there : Contains (filter (is_extent ino) (fs_tree_items s)) i = in_filter (is_extent ino) (fs_tree_items s) i h (and_from (eqb ino ino) (eqb i.0.kind EXTENT_DATA) (eq-eqb ino ino refl) is) in
      ⊎_elim
      (λ of_key. object_range of_key.0 i r of_key.1 (subst (λ (l : List Item). Contains l i) of_key.3 there) told)
      (λ (none : filter (is_extent ino) (fs_tree_items s) ≡ []). absurd (empty i (subst (λ (l : List Item). Contains l i) none there)))
      (any_extents s at.0 at.1 ino)

  -- ---- the tree of the saved image

  abbrev is_file_extent : Item → Bool
  is_file_extent i = eqb i.0.kind EXTENT_DATA

  head_kinds : (blocks nbytes now : ℕ) (datasum : Bool) → filter is_file_extent (image_head blocks nbytes datasum now) ≡ []
  unfolding image_head
  head_kinds blocks nbytes now datasum = refl

  from_source : (o : Option ℕ) → is_some o ≡ true → o ≡ Some (option_map_or (λ (b : ℕ). b) o 0)
  from_source None t = absurd (cc t)
  from_source (Some b) t = refl

  pub saved_extent : (i : Item) → Contains (image_tree_items m) i → eqb i.0.kind EXTENT_DATA ≡ true → IsSavedExtent m i
  unfolding image_items
  saved_extent i h is =
      let head : List Item = image_head m.volume.sup.blocks (piece_bytes (pieces_of_volume m.pieces)) m.options.datasum m.now in
      ⊎_elim
      (λ (first : Contains head i).
      absurd (empty i (subst (λ (l : List Item). Contains l i) (head_kinds m.volume.sup.blocks (piece_bytes (pieces_of_volume m.pieces)) m.now m.options.datasum) (in_filter is_file_extent head i first is))))
      (λ (second : Contains (extents_at 257 source_block (pieces_of_volume m.pieces)) i).
      let at = from_map (λ (p : Piece). extent_item 257 (source_block p) (regular_extent p.place p.count)) (pieces_of_volume m.pieces) i second in
      let p : Piece = at.0 in
      let some = from_filter (λ (q : Piece). is_some q.from) m.pieces p (from_ascending source_block (filter (λ (q : Piece). is_some q.from) m.pieces) p at.1) in
      record { piece = p; among = some.0; from = from_source p.from some.1; is = sym at.2 })
      (Contains-append_cases head (extents_at 257 source_block (pieces_of_volume m.pieces)) i h)

  pub saved_range : (i : Item) (r : DiskRange) → Contains (image_tree_items m) i → eqb i.0.kind EXTENT_DATA ≡ true → body_range i.1 ≡ Some r → IsOfPiece m r
  saved_range i r h is told =
      let e : IsSavedExtent m i = saved_extent i h is in
      of_piece e.piece i 257 (source_block e.piece) r e.among (sym e.is) told
