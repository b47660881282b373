-- How long the parts of an extent's body are.
use Rattle.btr_space_items.proofs.Imports.{◌≡◌, length, refl, inline_ref_bytes, inline_ref_size, tree_block_layout, shared_block_layout, data_ref_layout, shared_data_layout, extent_head_bytes, extent_head_layout, InlineRef, TreeBlock, SharedBlock, DataRef, SharedData}
use Rattle.btr_space_items.specs.declared.extent_head.ExtentHead.{ExtentHead}

pub length-head_bytes : (h : ExtentHead) → length (extent_head_bytes h) ≡ 24
unfolding extent_head_layout
length-head_bytes h = refl
