-- What a walk meets in the tree of a sample.
use Rattle.std.specs.Prelude.{◌≡◌, ℕ, zero, suc, Bool, List, [], ◌∷◌, length, map, true, All, AllPairs}
use Rattle.std.specs.List.{range_with_len, flat_map}
use Rattle.std.specs.Ordering.{is_lt}
use Rattle.reiser_volume.specs.outside.History.{Image, block_at}
use Rattle.reiser_volume.specs.reiser_items.Order.{key_order}
use Rattle.reiser_make.specs.Inner.{node_place, leaf_at, level_nodes, root_level, first_child, child_count}
use Rattle.reiser_make.specs.Items as laid
use Rattle.reiser_make.specs.Items.{body_bytes}
use Rattle.reiser_make.specs.Leaf.{leaves}
use Rattle.reiser_make.specs.Shape.{Shape, shape}
use Rattle.reiser_make.specs.declared.sample_item.SampleItem as parts
use Rattle.reiser_volume.specs.reiser_node.declared.head.ItemHead.{ItemHead}
use Rattle.reiser_volume.specs.reiser_walk.Items.{ReiserItem, Event, node, item_events}
use Rattle.reiser_volume.specs.reiser_walk.Laws.{IsNode, FitsHead, KeepsRules}
use Rattle.reiser_volume.specs.reiser_walk.Rules.{tree_damages}
use Rattle.reiser_volume.specs.reiser_walk.Tree.{tree_events, items_of_tree, visits}
use Rattle.reiser_volume.specs.Volume.{superblock, used_of, reiser_tree_of}
use Rattle.reiser_make_laws.specs.Laws.{FitsSample, made}

-- an item of the layout as a walk meets it in a leaf
abbrev pub met_item : Shape → ℕ → parts.SampleItem → ReiserItem
met_item s leaf item = record { leaf = leaf; head = item.head; body = body_bytes s item.head.old item.body }

-- the items of leaf m
abbrev pub leaf_items : Shape → ℕ → List ReiserItem
leaf_items s m = map (met_item s (node_place s 1 m)) (leaf_at s m)

-- what a walk meets from node m of a level on, whose pointer the holder has
abbrev pub laid_events : Shape → ℕ → ℕ → ℕ → List Event
laid_events s zero m holder = []
laid_events s (suc zero) m holder = node (record { block = node_place s 1 m; holder = holder }) 1 ∷ flat_map item_events (leaf_items s m)
laid_events s (suc (suc level)) m holder =
    let nodes = level_nodes (length (leaves s)) (suc level) in
    let block = node_place s (suc (suc level)) m in
    node (record { block = block; holder = holder }) (suc (suc level))
    ∷ flat_map (λ c. laid_events s (suc level) c block) (range_with_len (first_child nodes m) (child_count nodes m))

-- a walk of a sample meets the nodes of the layout, each with what the layout puts into it
abbrev pub SamplesAreWalked : Type 0
SamplesAreWalked =
    (number : ℕ) (old : Bool) (blocks : ℕ) (image : Image) → FitsSample number old blocks image
    → let s = shape number old in let volume = made s blocks image in
    tree_events (reiser_tree_of (superblock volume)) volume (length (used_of volume)) ≡ laid_events s (root_level (length (leaves s))) 0 16

-- the head and the body of an item, as it is met and as it is laid out
abbrev pub content : ReiserItem → ItemHead × List ℕ
content i = (i.head, i.body)

abbrev pub laid_content : Shape → parts.SampleItem → ItemHead × List ℕ
laid_content s item = (item.head, body_bytes s item.head.old item.body)

-- the items that it meets are those of the layout, in their order
abbrev pub SamplesHoldTheirItems : Type 0
SamplesHoldTheirItems =
    (number : ℕ) (old : Bool) (blocks : ℕ) (image : Image) → FitsSample number old blocks image
    → let s = shape number old in let volume = made s blocks image in
    map content (items_of_tree (reiser_tree_of (superblock volume)) volume (length (used_of volume))) ≡ map (laid_content s) (laid.items s)

-- each node that is visited is on the grammar of its level
abbrev pub SamplesKeepGrammar : Type 0
SamplesKeepGrammar =
    (number : ℕ) (old : Bool) (blocks : ℕ) (image : Image) → FitsSample number old blocks image
    → let volume = made (shape number old) blocks image in
    All (λ v. IsNode v.level (block_at volume v.to.block)) (visits (reiser_tree_of (superblock volume)) volume (length (used_of volume)))

-- each body fits its head
abbrev pub SamplesFitTheirHeads : Type 0
SamplesFitTheirHeads =
    (number : ℕ) (old : Bool) (blocks : ℕ) (image : Image) → FitsSample number old blocks image
    → let volume = made (shape number old) blocks image in
    All (λ i. FitsHead i.head i.body) (items_of_tree (reiser_tree_of (superblock volume)) volume (length (used_of volume)))

-- the items ascend strictly, by directory, object, offset and kind
abbrev pub SamplesAscend : Type 0
SamplesAscend =
    (number : ℕ) (old : Bool) (blocks : ℕ) (image : Image) → FitsSample number old blocks image
    → let volume = made (shape number old) blocks image in
    AllPairs (λ i j. is_lt (key_order i.head j.head) ≡ true) (items_of_tree (reiser_tree_of (superblock volume)) volume (length (used_of volume)))

-- each rule of the tree is kept
abbrev pub SamplesKeepTreeRules : Type 0
SamplesKeepTreeRules =
    (number : ℕ) (old : Bool) (blocks : ℕ) (image : Image) → FitsSample number old blocks image
    → let volume = made (shape number old) blocks image in KeepsRules (reiser_tree_of (superblock volume)) volume (used_of volume)

-- so nothing is wrong with the tree
abbrev pub SampleTreesAreSound : Type 0
SampleTreesAreSound =
    (number : ℕ) (old : Bool) (blocks : ℕ) (image : Image) → FitsSample number old blocks image
    → let volume = made (shape number old) blocks image in tree_damages (reiser_tree_of (superblock volume)) volume (used_of volume) ≡ []
