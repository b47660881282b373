-- Where the bytes of a file lie by the extents of its pieces.
use Rattle.convert_core_laws.proofs.Imports.{◌≡◌, ◌≤◌, ◌<◌, ℕ, ◌+◌, ◌-◌, ◌*◌, Bool, true, false, cond, List, [], ◌∷◌, map, filter, Option, Some, None, refl, ap, ◌∙◌, arith, Contains, AllByRecursion, Image, extents_of, is_extent_of, FileExtentValue, file_extent_of, Item, TreeItem, place, bare_item, MapRange, IsMaking, Making, GivesItsOwn, extents_at, file_block, regular_extent, Piece, byte_place, content_place, place_from}
use Rattle.std.proofs.Common.{if◌then◌else◌}
use Rattle.convert_core_laws.proofs.going_back.Extents.{extent_read, no_hole}
use Rattle.convert_core_laws.proofs.Pieces.{covers_byte}
use Rattle.convert_core_laws.proofs.ByteReading.{is_extent}

-- ---- items, whatever leaves they stand in

-- the place of byte k by these items
abbrev pub item_place : List MapRange → List Item → ℕ → Option ℕ
item_place ranges [] k = None
item_place ranges (i ∷ items) k = place_from ranges i.0.offset (file_extent_of i.1) k (item_place ranges items k)

pub bare_place : (ranges : List MapRange) (items : List TreeItem) (ino k : ℕ) → byte_place ranges (extents_of items ino) k ≡ item_place ranges (filter (is_extent ino) (map bare_item items)) k
bare_place ranges [] ino k = refl
bare_place ranges (i ∷ items) ino k = by (is_extent_of ino i) (bare_place ranges items ino k)
  where
    by : (b : Bool) → byte_place ranges (extents_of items ino) k ≡ item_place ranges (filter (is_extent ino) (map bare_item items)) k
        → byte_place ranges (cond b (i ∷ extents_of items ino) (extents_of items ino)) k
        ≡ item_place ranges (cond b (bare_item i ∷ filter (is_extent ino) (map bare_item items)) (filter (is_extent ino) (map bare_item items))) k
    by true rest = ap (λ (o : Option ℕ). place_from ranges i.key.offset (file_extent_of i.body) k o) rest
    by false rest = rest

-- ---- pieces

-- the place of byte k of the file by a piece
abbrev pub piece_place : List MapRange → Piece → ℕ → Option ℕ
piece_place ranges p k = content_place ranges (regular_extent p.place p.count).content (k - 4096 * file_block p)

module _ (image : Image) (m : Making) (made : IsMaking image m) (ranges : List MapRange) where
  -- A byte that each piece has at one place in which it lies, and that lies in one of them.
  pub read_places : (ino k : ℕ) (at : Option ℕ) (ps : List Piece) → AllByRecursion (Contains m.pieces) ps → AllByRecursion (λ p. covers_byte p k ≡ true → piece_place ranges p k ≡ at) ps
      → ¬ AllByRecursion (λ p. covers_byte p k ≡ false) ps → item_place ranges (extents_at ino file_block ps) k ≡ at
  read_places ino k at [] among gives some = absurd (some tt)
  read_places ino k at (p ∷ ps) among gives some =
      ap (λ (e : Option FileExtentValue). place_from ranges (4096 * file_block p) e k (item_place ranges (extents_at ino file_block ps) k)) (extent_read image m made p among.0)
      ∙ by (λ out. read_places ino k at ps among.1 gives.1 (λ rest. some (out, rest))) (covers_byte p k) refl
    where
      by : (covers_byte p k ≡ false → item_place ranges (extents_at ino file_block ps) k ≡ at)
          → (b : Bool) → covers_byte p k ≡ b → (if b then piece_place ranges p k else item_place ranges (extents_at ino file_block ps) k) ≡ at
      by later true is = gives.0 is
      by later false is = later is

  module _ (own : GivesItsOwn m ranges) where
    -- a piece has its bytes one after the other from its place on
    pub piece_at : (p : Piece) (k : ℕ) → Contains m.pieces p → 4096 * file_block p ≤ k → k < 4096 * (file_block p + p.count) → piece_place ranges p k ≡ Some (4096 * p.place + (k - 4096 * file_block p))
    piece_at p k among low high =
        let a : ℕ = 4096 * p.place + 0 + (k - 4096 * file_block p) in
        let there : place ranges a ≡ Some a = own.pieces p a among (omega arith) (omega (arith, low, high)) in
        let same : a ≡ 4096 * p.place + (k - 4096 * file_block p) = omega arith in
        ap (λ (b : Bool). let o : Option ℕ = if b then None else place ranges a in o) (no_hole image m made p among) ∙ (there ∙ ap (λ (n : ℕ). let o : Option ℕ = Some n in o) same)
