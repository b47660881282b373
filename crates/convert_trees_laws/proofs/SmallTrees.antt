-- The keys of the image's tree and of the relocation tree.
use Rattle.convert_trees_laws.proofs.Imports.{◌≡◌, ◌≤◌, ℕ, ◌*◌, ◌==◌, Bool, true, is_some, List, [], ◌∷◌, ◌++◌, append_assoc, length, filter, Option, Some, None, sym, subst, arith, flat_map, IsDistinct, option_map_or, nat_tests, DIR_INDEX, DIR_ITEM, EXTENT_DATA, INODE_ITEM, INODE_REF, FIRST_FREE_OBJECTID, DIRECTORY_MODE, IMAGE_MODE, name_hash, dir_entry_bytes, file_extent_bytes, inode_bytes, inode_ref_bytes, Item, regular_extent, grouped, inode_item, inode_made, ref_item, rising_grouped, ascending_filter, ascending_sorted, Piece, extents_at, piece_bytes, pieces_of_volume, source_block, Indexed, entry_items, letters, root_ref, image_entries, image_flags, image_head, image_items, image_name, relocation_items, root_directory_items, ImageKeysAscend}
use Rattle.convert_trees_laws.proofs.Apart.{at_most_one, same_from, shares, shares_none}
use Rattle.convert_trees_laws.proofs.Rising.{Climb, IsPart, Rise, climb_groups, climb_once, climb_times, part_append, part_of_kind, part_one, rise_ascends, rise_two}

-- the entries of a directory, by their indexes
pub entries_part : (ino : ℕ) (list : List Indexed) → Climb (λ (e : Indexed). e.0) list → IsPart ino DIR_ITEM DIR_INDEX (entry_items ino list)
entries_part ino list up =
    part_append ino DIR_ITEM DIR_ITEM DIR_INDEX DIR_INDEX _ _ (omega arith) (omega arith) (omega arith)
    (part_of_kind ino DIR_ITEM (λ (g : ℕ × List Indexed). g.0) (λ (g : ℕ × List Indexed). flat_map (λ (e : Indexed). dir_entry_bytes e.1) g.1) (grouped (λ (e : Indexed). name_hash e.1.name) list)
    (climb_groups (grouped (λ (e : Indexed). name_hash e.1.name) list) (rising_grouped (λ (e : Indexed). name_hash e.1.name) list)))
    (part_of_kind ino DIR_INDEX (λ (e : Indexed). e.0) (λ (e : Indexed). dir_entry_bytes e.1) list up)

-- extents, by a number of theirs that rises
pub extents_part : (ino : ℕ) (at : Piece → ℕ) (pieces : List Piece) → Climb at pieces → IsPart ino EXTENT_DATA EXTENT_DATA (extents_at ino at pieces)
extents_part ino at pieces up = part_of_kind ino EXTENT_DATA (λ (p : Piece). 4096 * at p) (λ (p : Piece). file_extent_bytes (regular_extent p.place p.count)) pieces (climb_times at pieces up)

root_part : (now : ℕ) (list : List Indexed) → Climb (λ (e : Indexed). e.0) list → IsPart FIRST_FREE_OBJECTID INODE_ITEM DIR_INDEX (root_directory_items now list)
root_part now list up =
    part_append FIRST_FREE_OBJECTID INODE_ITEM INODE_ITEM INODE_REF DIR_INDEX (inode_item FIRST_FREE_OBJECTID (inode_made now DIRECTORY_MODE (2 * letters list) 0 0) ∷ []) (root_ref ∷ entry_items FIRST_FREE_OBJECTID list) (omega arith) (omega arith) (omega arith)
    (part_one FIRST_FREE_OBJECTID INODE_ITEM 0 (inode_bytes (inode_made now DIRECTORY_MODE (2 * letters list) 0 0)))
    (part_append FIRST_FREE_OBJECTID INODE_REF INODE_REF DIR_ITEM DIR_INDEX (root_ref ∷ []) (entry_items FIRST_FREE_OBJECTID list) (omega arith) (omega arith) (omega arith)
    (part_one FIRST_FREE_OBJECTID INODE_REF FIRST_FREE_OBJECTID (inode_ref_bytes (record { index = 0; name = 46 ∷ 46 ∷ [] }))) (entries_part FIRST_FREE_OBJECTID list up))

-- pieces with blocks of the volume begin at different ones
sources_once : (pieces : List Piece) → IsDistinct shares pieces → Climb source_block (pieces_of_volume pieces)
sources_once pieces distinct =
    climb_once source_block (pieces_of_volume pieces) (ascending_sorted source_block (filter (λ p. is_some p.from) pieces))
    (λ n. subst (λ (xs : List Piece). length xs ≤ 1) (sym (ascending_filter source_block n (filter (λ p. is_some p.from) pieces)))
    (at_most_one shares (λ p. source_block p == n) (λ p. is_some p.from) (λ p q in_p is_p in_q is_q. same n p.from q.from in_p is_p in_q is_q) pieces distinct))
  where
    equal : (n a b : ℕ) → (a == n) ≡ true → (b == n) ≡ true → (a == b) ≡ true
    equal n a b first second = grind (arith, nat_tests)

    same : (n : ℕ) (x y : Option ℕ) → is_some x ≡ true → (option_map_or (λ b. b) x 0 == n) ≡ true → is_some y ≡ true → (option_map_or (λ b. b) y 0 == n) ≡ true → same_from x y ≡ true
    same n None y in_x is_x in_y is_y = in_x
    same n (Some a) None in_x is_x in_y is_y = in_y
    same n (Some a) (Some b) in_x is_x in_y is_y = equal n a b is_x is_y

image_rises : (blocks : ℕ) (pieces : List Piece) (datasum : Bool) (now : ℕ) → IsDistinct shares pieces → Rise (image_items blocks pieces datasum now)
unfolding image_items image_head
image_rises blocks pieces datasum now distinct =
    let root : List Item = root_directory_items now image_entries in
    let nbytes : ℕ = piece_bytes (pieces_of_volume pieces) in
    let inode : Item = inode_item 257 (inode_made now IMAGE_MODE (4096 * blocks) nbytes (image_flags datasum)) in
    let name : Item = ref_item 257 FIRST_FREE_OBJECTID 2 image_name in
    let extents : List Item = extents_at 257 source_block (pieces_of_volume pieces) in
    subst Rise (sym (append_assoc root (inode ∷ name ∷ []) extents))
    (rise_two FIRST_FREE_OBJECTID 257 INODE_ITEM DIR_INDEX INODE_ITEM EXTENT_DATA root ((inode ∷ name ∷ []) ++ extents) (omega arith) (root_part now image_entries (tt, tt))
    (part_append 257 INODE_ITEM INODE_ITEM INODE_REF EXTENT_DATA (inode ∷ []) ((name ∷ []) ++ extents) (omega arith) (omega arith) (omega arith) (part_one 257 INODE_ITEM 0 (inode_bytes (inode_made now IMAGE_MODE (4096 * blocks) nbytes (image_flags datasum))))
    (part_append 257 INODE_REF INODE_REF EXTENT_DATA EXTENT_DATA (name ∷ []) extents (omega arith) (omega arith) (omega arith) (part_one 257 INODE_REF FIRST_FREE_OBJECTID (inode_ref_bytes (record { index = 2; name = image_name })))
    (extents_part 257 source_block (pieces_of_volume pieces) (sources_once pieces distinct)))))

relocation_rises : (now : ℕ) → Rise (relocation_items now)
unfolding relocation_items
relocation_rises now = (root_part now [] tt).rise

pub image_keys_ascend : ImageKeysAscend
image_keys_ascend volume image o plan pieces now has = record {
  saved = rise_ascends (image_items volume.sup.blocks pieces o.datasum now) (image_rises volume.sup.blocks pieces o.datasum now (shares_none image has.found o plan has.plan_ pieces has.placed));
  relocation = rise_ascends (relocation_items now) (relocation_rises now);
}
