-- The tree of the saved image and the relocation tree take no more than was counted.
use Rattle.convert_trees_laws.proofs.Imports.{◌≡◌, ◌≤◌, ℕ, ◌+◌, ◌*◌, Bool, is_some, List, [], ◌∷◌, length, filter, sum_by, arith, FIRST_FREE_OBJECTID, FILE_EXTENT_BYTES, IMAGE_ROOM, INODE_BYTES, RELOCATION_ROOM, DIRECTORY_MODE, IMAGE_MODE, dir_entry_head, disk_range_layout, file_extent_bytes, file_extent_head, inode_bytes, inode_layout, InodeRefValue, inode_ref_bytes, inode_ref_head, key_layout, stamp_layout, Inode, Item, extent_item, regular_extent, inode_item, inode_made, ref_item, ascending_sum, filter_few, extents_at, piece_bytes, pieces_of_volume, source_block, Indexed, entry_items, letters, image_entries, image_flags, image_head, image_items, image_name, relocation_items, root_directory_items, image_tree_bytes, Counts, Piece, bytes_in}
use Rattle.convert_trees_laws.proofs.ItemBytes.{bytes-append, bytes-cons, bytes-map, sum-same}

inode_long : (i : Inode) → length (inode_bytes i) ≤ 160
unfolding inode_layout stamp_layout
inode_long i = omega arith

regular_long : (place count : ℕ) → length (file_extent_bytes (regular_extent place count)) ≤ 53
unfolding file_extent_head disk_range_layout
regular_long place count = omega arith

ref_long : (r : InodeRefValue) → length (inode_ref_bytes r) ≡ 10 + length r.name
unfolding inode_ref_head
ref_long r = omega arith

-- ---- heads

reference_bytes : (ino parent index : ℕ) (name : List ℕ) (items : List Item) → bytes_in (ref_item ino parent index name ∷ items) ≡ 35 + length name + bytes_in items
reference_bytes ino parent index name items =
    let one = bytes-cons (ref_item ino parent index name) items in
    let long = ref_long (record { index = index; name = name }) in
    omega (arith, one, long)

made_bytes : (ino : ℕ) (i : Inode) (items : List Item) → bytes_in (inode_item ino i ∷ items) ≤ INODE_BYTES + bytes_in items
made_bytes ino i items =
    let one = bytes-cons (inode_item ino i) items in
    let long = inode_long i in
    omega (arith, one, long)

-- the root directory of the image's tree has one entry
entries_bytes : bytes_in (entry_items FIRST_FREE_OBJECTID image_entries) ≤ 200
unfolding dir_entry_head key_layout
entries_bytes = omega arith

none_bytes : bytes_in (entry_items FIRST_FREE_OBJECTID []) ≤ 0
none_bytes = omega arith

root_bytes : (now n : ℕ) (list : List Indexed) → bytes_in (entry_items FIRST_FREE_OBJECTID list) ≤ n → bytes_in (root_directory_items now list) ≤ 222 + n
root_bytes now n list few =
    let made = made_bytes FIRST_FREE_OBJECTID (inode_made now DIRECTORY_MODE (2 * letters list) 0 0) (ref_item FIRST_FREE_OBJECTID FIRST_FREE_OBJECTID 0 (46 ∷ 46 ∷ []) ∷ entry_items FIRST_FREE_OBJECTID list) in
    let named = reference_bytes FIRST_FREE_OBJECTID FIRST_FREE_OBJECTID 0 (46 ∷ 46 ∷ []) (entry_items FIRST_FREE_OBJECTID list) in
    omega (arith, made, named, few)

pub relocation_counted : (now : ℕ) → bytes_in (relocation_items now) ≤ RELOCATION_ROOM
unfolding relocation_items
relocation_counted now = let all = root_bytes now 0 [] none_bytes in omega (arith, all)

head_bytes : (blocks nbytes : ℕ) (datasum : Bool) (now : ℕ) → bytes_in (image_head blocks nbytes datasum now) ≤ IMAGE_ROOM
unfolding image_head
head_bytes blocks nbytes datasum now =
    let name : List Item = ref_item 257 FIRST_FREE_OBJECTID 2 image_name ∷ [] in
    let made : Inode = inode_made now IMAGE_MODE (4096 * blocks) nbytes (image_flags datasum) in
    let both = bytes-append (root_directory_items now image_entries) (inode_item 257 made ∷ name) in
    let first = root_bytes now 200 image_entries entries_bytes in
    let second = made_bytes 257 made name in
    let third : bytes_in name ≡ 40 = reference_bytes 257 FIRST_FREE_OBJECTID 2 image_name [] in
    omega (arith, both, first, second, third)

-- ---- the whole

extents_bytes : (ino : ℕ) (at : Piece → ℕ) (pieces : List Piece) → bytes_in (extents_at ino at pieces) ≤ sum_by (λ p. FILE_EXTENT_BYTES) pieces
extents_bytes ino at pieces = bytes-map (λ (p : Piece). extent_item ino (at p) (regular_extent p.place p.count)) (λ p. 53) (λ p. regular_long p.place p.count) pieces

pub image_counted : (blocks : ℕ) (pieces : List Piece) (datasum : Bool) (now : ℕ) (c : Counts) → length pieces ≤ c.pieces → bytes_in (image_items blocks pieces datasum now) ≤ image_tree_bytes c
unfolding image_items
image_counted blocks pieces datasum now c number =
    let ours : List Piece = filter (λ p. is_some p.from) pieces in
    let extents : List Item = extents_at 257 source_block (pieces_of_volume pieces) in
    let both = bytes-append (image_head blocks (piece_bytes (pieces_of_volume pieces)) datasum now) extents in
    let front = head_bytes blocks (piece_bytes (pieces_of_volume pieces)) datasum now in
    let back = extents_bytes 257 source_block (pieces_of_volume pieces) in
    let sorted : sum_by (λ (p : Piece). FILE_EXTENT_BYTES) (pieces_of_volume pieces) ≡ sum_by (λ (p : Piece). FILE_EXTENT_BYTES) ours = ascending_sum source_block (λ p. FILE_EXTENT_BYTES) ours in
    let same = sum-same {A = Piece} FILE_EXTENT_BYTES ours in
    let few = filter_few (λ (p : Piece). is_some p.from) pieces in
    omega (arith, both, front, back, sorted, same, few, number)
