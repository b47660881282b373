-- The chunk tree, the device tree and the root tree take no more than was counted.
use Rattle.convert_trees_laws.proofs.Imports.{◌≤◌, ◌<◌, ℕ, List, [], ◌++◌, length, length-append, map, arith, AllPairs, length-map, DEV_ITEM, DEV_ITEMS_OBJECTID, CHUNK_BYTES, DEV_EXTENT_BYTES, ROOT_TREE_ROOM, Item, make_key, chunk_tree_bytes, device_tree_bytes, PlannedChunk, chunk_item, chunk_items, dev_extent_item, device_body, device_items, AreIds, bytes_in, root_items_fit}
use Rattle.convert_steps.specs.space_items.declared.node.TreeRoot.{TreeRoot}
use Rattle.btr_reader.specs.vol_block.declared.ids.Ids.{Ids}
use Rattle.btr_reader.specs.btr_space_items.Chunk.{chunk_layout}
use Rattle.btr_reader.specs.btr_space_items.DevExtent.{dev_extent_layout}
use Rattle.btr_reader.specs.btr_space_items.Device.{device_bytes, device_layout}
use Rattle.btr_reader.specs.btr_space_items.Stripe.{stripe_layout}
use Rattle.convert_steps.specs.space_items.Merging.{item_cmp}
use Rattle.convert_steps.specs.space_items.Roots.{other_root_items, tree_root_item, root_items}
use Rattle.convert_steps.proofs.space_items.Merges.{length-merge}
use Rattle.convert_trees_laws.proofs.ItemBytes.{bytes-cons, bytes-map, bytes-short, sum-same}

-- ---- chunks

chunk_long : (ids : Ids) (c : PlannedChunk) → AreIds ids → length (chunk_item ids c).1 ≤ 80
unfolding chunk_layout stripe_layout
chunk_long ids c are = omega (arith, are.device, length-append (ids.device ++ []) [], length-append ids.device [])

extent_long : (ids : Ids) (c : PlannedChunk) → AreIds ids → length (dev_extent_item ids c).1 ≤ 48
unfolding dev_extent_layout
extent_long ids c are = omega (arith, are.chunk_tree, length-append ids.chunk_tree [])

device_long : (ids : Ids) (blocks : ℕ) (chunks : List PlannedChunk) → AreIds ids → length (device_bytes (device_body ids blocks chunks)) ≤ 98
unfolding device_layout
device_long ids blocks chunks are = omega (arith, are.device, are.fsid, length-append ids.device (ids.fsid ++ []), length-append ids.fsid [])

pub device_counted : (ids : Ids) (chunks : List PlannedChunk) (most : ℕ) → AreIds ids → length chunks ≤ most → bytes_in (device_items ids chunks) ≤ device_tree_bytes most
device_counted ids chunks most are few =
    let each = bytes-map (dev_extent_item ids) (λ c. 48) (λ c. extent_long ids c are) chunks in
    let all = sum-same {A = PlannedChunk} DEV_EXTENT_BYTES chunks in
    omega (arith, each, all, few)

pub chunks_counted : (ids : Ids) (blocks : ℕ) (chunks : List PlannedChunk) (most : ℕ) → AreIds ids → length chunks ≤ most → bytes_in (chunk_items ids blocks chunks) ≤ chunk_tree_bytes most
chunks_counted ids blocks chunks most are few =
    let first = bytes-cons (make_key DEV_ITEMS_OBJECTID DEV_ITEM 1, device_bytes (device_body ids blocks chunks)) (map (chunk_item ids) chunks) in
    let device = device_long ids blocks chunks are in
    let each = bytes-map (chunk_item ids) (λ c. 80) (λ c. chunk_long ids c are) chunks in
    let all = sum-same {A = PlannedChunk} CHUNK_BYTES chunks in
    omega (arith, first, device, each, all, few)

-- ---- roots

-- seventeen items at most, of 439 bytes at most
pub roots_counted : (list : List TreeRoot) (index : ℕ) (ids : Ids) (now nodesize : ℕ) → AreIds ids → AllPairs (λ r s. r.tree < s.tree) list → length list ≤ 12
    → bytes_in (root_items list index ids now nodesize) ≤ ROOT_TREE_ROOM
roots_counted list index ids now nodesize are ascend few =
    let roots : List Item = map (tree_root_item ids nodesize) list in
    let many = length-merge item_cmp roots (other_root_items index now) in
    let long = length-map list (tree_root_item ids nodesize) in
    let fit = root_items_fit list index ids now nodesize are ascend in
    let all = bytes-short 439 (root_items list index ids now nodesize) fit.short in
    omega (arith, many, long, all, few)
