-- How long the bodies of the extent tree's items are.
use Rattle.space_items.proofs.Imports.{◌≡◌, ℕ, suc, ◌+◌, ◌*◌, ◌≤◌, List, [], ◌∷◌, length, Bool, true, false, Option, Some, None, refl, arith, length-append, cond, flat_map, FS_TREE, METADATA_ITEM_SIZE, PlannedChunk, Piece, group_item, node_item, piece_item, piece_refs, put_ref, image_refs, is_behind, data_ref, TreeNode}
use Rattle.std.specs.List.{sum_by}
use Rattle.btr_space_items.specs.BlockGroup.{block_group_bytes, block_group_layout}
use Rattle.btr_space_items.specs.ExtentHead.{extent_head_bytes, extent_head_layout}
use Rattle.btr_space_items.specs.InlineRef.{inline_ref_bytes, ref_uses, tree_block_layout, shared_block_layout, data_ref_layout, shared_data_layout}
use Rattle.btr_space_items.proofs.BodyLengths.{length-head_bytes}
use Rattle.btr_space_items.specs.declared.block_group.BlockGroup.{BlockGroup}
use Rattle.btr_space_items.specs.declared.extent_head.ExtentHead.{ExtentHead}
use Rattle.btr_space_items.specs.declared.inline_ref.InlineRef.{InlineRef}
use Rattle.btr_space_items.specs.declared.inline_ref.InlineRef.TheVariants.{TreeBlock, SharedBlock, DataRef, SharedData}

length-group_bytes : (g : BlockGroup) → length (block_group_bytes g) ≡ 24
unfolding block_group_layout
length-group_bytes g = refl

ref_bytes-le : (r : InlineRef) → length (inline_ref_bytes r) ≤ 29
unfolding tree_block_layout shared_block_layout data_ref_layout shared_data_layout
ref_bytes-le (TreeBlock root) = omega arith
ref_bytes-le (SharedBlock parent) = omega arith
ref_bytes-le (DataRef root objectid offset count) = omega arith
ref_bytes-le (SharedData parent count) = omega arith

pub length-group : (used : ℕ) (c : PlannedChunk) → length (group_item used c).1 ≡ 24
length-group used c = length-group_bytes _

pub length-node : (n : TreeNode) → length (node_item n).1 ≡ METADATA_ITEM_SIZE
unfolding extent_head_layout tree_block_layout
length-node n = refl

refs_bytes-le : (refs : List InlineRef) → length (flat_map inline_ref_bytes refs) ≤ 29 * length refs
refs_bytes-le [] = omega arith
refs_bytes-le (r ∷ refs) = omega (arith, length-append (inline_ref_bytes r) (flat_map inline_ref_bytes refs), ref_bytes-le r, refs_bytes-le refs)

length-put : (r : InlineRef) (refs : List InlineRef) → length (put_ref r refs) ≡ length refs + 1
length-put r [] = refl
length-put r (next ∷ refs) = by_test (is_behind r next) (put_ref r refs) (length-put r refs)
  where
    by_test : (t : Bool) (rest : List InlineRef) → length rest ≡ length refs + 1 → length (cond t (next ∷ rest) (r ∷ (next ∷ refs))) ≡ suc (length refs) + 1
    by_test true rest h = omega arith
    by_test false rest h = omega arith

few_refs : (from : Option ℕ) (owner : Option (ℕ × ℕ)) (count place : ℕ) → length (piece_refs (record { from = from; count = count; owner = owner; place = place })) ≤ 2
few_refs None None count place = omega arith
few_refs (Some b) None count place = omega arith
few_refs None (Some o) count place = omega arith
few_refs (Some b) (Some o) count place = omega (arith, length-put (data_ref FS_TREE o.0 o.1) (image_refs (Some b)))

pub length-piece : (p : Piece) → length (piece_item p).1 ≤ 82
length-piece p =
    let refs : List InlineRef = piece_refs p in
    omega (arith, length-append (extent_head_bytes (record { refs = sum_by ref_uses refs; generation = 1; flags = 1 })) (flat_map inline_ref_bytes refs), length-head_bytes (record { refs = sum_by ref_uses refs; generation = 1; flags = 1 }), refs_bytes-le refs, few_refs p.from p.owner p.count p.place)
