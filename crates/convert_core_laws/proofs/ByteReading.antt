-- The bytes that extents give.
use Rattle.convert_core_laws.proofs.Imports.{◌≡◌, ◌<◌, ℕ, ◌-◌, ◌*◌, ◌^◌, Bool, true, false, cond, List, [], ◌∷◌, length, map, filter, Option, Some, None, refl, ap, ◌∙◌, arith, AllByRecursion, Image, byte_from, content_byte, covers, extents_of, is_extent_key, is_extent_of, FileExtentValue, disk_range_layout, file_extent_bytes, file_extent_head, file_extent_of, file_extents_read_back, Item, TreeItem, bare_item, MapRange, inline_extent, regular_extent}
use Rattle.std.proofs.Common.{if◌then◌else◌}
use Rattle.btr_reader.specs.btr_reader_contents.Extents.{file_byte}

-- an item is an extent of an inode
abbrev pub is_extent : ℕ → Item → Bool
is_extent ino i = is_extent_key ino i.0

-- byte k of a file by an extent from byte `offset` on, and else another
abbrev pub byte_by : Image → List MapRange → ℕ → Option FileExtentValue → ℕ → ℕ → ℕ
byte_by image ranges offset None k other = other
byte_by image ranges offset (Some e) k other = if covers offset e.content k then content_byte image ranges e.content (k - offset) else other

-- the same by items, wherever they stand
abbrev pub item_byte : Image → List MapRange → List Item → ℕ → ℕ
item_byte image ranges [] k = 0
item_byte image ranges (i ∷ items) k = byte_by image ranges i.0.offset (file_extent_of i.1) k (item_byte image ranges items k)

one_byte : (image : Image) (ranges : List MapRange) (i : TreeItem) (e : Option FileExtentValue) (k other same : ℕ) → other ≡ same → byte_from image ranges i e k other ≡ byte_by image ranges i.key.offset e k same
one_byte image ranges i None k other same is = is
one_byte image ranges i (Some e) k other same is = ap (λ (n : ℕ). if covers i.key.offset e.content k then content_byte image ranges e.content (k - i.key.offset) else n) is

pub bare_byte : (image : Image) (ranges : List MapRange) (items : List TreeItem) (ino k : ℕ) → file_byte image ranges (extents_of items ino) k ≡ item_byte image ranges (filter (is_extent ino) (map bare_item items)) k
bare_byte image ranges [] ino k = refl
bare_byte image ranges (i ∷ items) ino k = by (is_extent_of ino i) (bare_byte image ranges items ino k)
  where
    by : (b : Bool) → file_byte image ranges (extents_of items ino) k ≡ item_byte image ranges (filter (is_extent ino) (map bare_item items)) k
        → file_byte image ranges (cond b (i ∷ extents_of items ino) (extents_of items ino)) k ≡ item_byte image ranges (cond b (bare_item i ∷ filter (is_extent ino) (map bare_item items)) (filter (is_extent ino) (map bare_item items))) k
    by true rest = one_byte image ranges i (file_extent_of i.body) k (file_byte image ranges (extents_of items ino) k) (item_byte image ranges (filter (is_extent ino) (map bare_item items)) k) rest
    by false rest = rest

-- ---- extents are read back

pub regular_read : (place count : ℕ) → 4096 * place < 2 ^ 64 → 4096 * count < 2 ^ 64 → file_extent_of (file_extent_bytes (regular_extent place count)) ≡ Some (regular_extent place count)
unfolding file_extent_head disk_range_layout
regular_read place count low few =
    file_extents_read_back (regular_extent place count)
    ((((((tt, omega arith), omega (arith, few)), omega arith), omega arith), omega arith), omega arith)
    ((((tt, omega (arith, low)), omega (arith, few)), omega arith), omega (arith, few))

pub inline_read : (bytes : List ℕ) → length bytes < 2 ^ 64 → file_extent_of (file_extent_bytes (inline_extent bytes)) ≡ Some (inline_extent bytes)
unfolding file_extent_head
inline_read bytes few =
    file_extents_read_back (inline_extent bytes) ((((((tt, omega arith), omega (arith, few)), omega arith), omega arith), omega arith), omega arith) tt

-- ---- filters

pub filter_all : {A : Type 0} (p : A → Bool) (xs : List A) → AllByRecursion (λ x. p x ≡ true) xs → filter p xs ≡ xs
filter_all p [] all = refl
filter_all {A} p (x ∷ xs) all = ap (λ (b : Bool). cond b (x ∷ filter p xs) (filter p xs)) all.0 ∙ ap (λ (l : List A). x ∷ l) (filter_all p xs all.1)

pub filter_none : {A : Type 0} (p : A → Bool) (xs : List A) → AllByRecursion (λ x. p x ≡ false) xs → filter p xs ≡ []
filter_none p [] all = refl
filter_none p (x ∷ xs) all = ap (λ (b : Bool). cond b (x ∷ filter p xs) (filter p xs)) all.0 ∙ filter_none p xs all.1
