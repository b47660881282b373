-- The tree of a ReiserFS volume, as one list of what a walk meets: visits of nodes, items, and blocks that are reached.
use Rattle.std.specs.Prelude.{ℕ, zero, suc, ◌-◌, nat_lt, ◌&&◌, List, [], ◌∷◌, ◌++◌, if◌then◌else◌}
use Rattle.reiser_bitmap.specs.reiserfs_format.declared.block.TheConstants.{SUPER_BLOCK}
use Rattle.reiser_bitmap.specs.outside.History.{Image, block_at}
use Rattle.reiser_items.specs.reiser_node.Leaf.{count, is_leaf}
use Rattle.reiser_items.specs.reiser_node.Inner.{is_inner, pointer_count, child_block_at}
use Rattle.reiser_walk.specs.declared.block_pointer.BlockPointer.{BlockPointer}
use Rattle.reiser_walk.specs.declared.reiser_tree.ReiserTree.{ReiserTree}
use Rattle.reiser_walk.specs.Items.{ReiserItem, Event, node, item, pointer, leaf_events}

-- f at each child of an inner node from child i on, n of them
abbrev pub at_children : (ℕ → List Event) → List ℕ → ℕ → ℕ → List Event
at_children f bytes i zero = []
at_children f bytes i (suc n) = f (child_block_at bytes i) ++ at_children f bytes (suc i) n

-- A pointer that the holder has to block b as a node of this level, and what lies below it. Only a block below n that is
-- on the grammar of its level is opened; a leaf has level 1.
unfoldable pub node_events : Image → ℕ → ℕ → ℕ → ℕ → List Event
node_events image n zero holder b = node (record { block = b; holder = holder }) zero ∷ []
node_events image n (suc zero) holder b =
    node (record { block = b; holder = holder }) (suc zero)
    ∷ (if nat_lt b n && is_leaf (block_at image b) then leaf_events b (block_at image b) 0 (count (block_at image b)) else [])
node_events image n (suc (suc level)) holder b =
    node (record { block = b; holder = holder }) (suc (suc level))
    ∷ (if nat_lt b n && is_inner (suc (suc level)) (block_at image b)
    then at_children (node_events image n (suc level) b) (block_at image b) 0 (pointer_count (block_at image b))
    else [])

-- What a walk of the whole tree meets, in a volume of n blocks. The root has the level below the tree's height, and the
-- superblock, block 16, holds the pointer to it.
abbrev pub tree_events : ReiserTree → Image → ℕ → List Event
tree_events tree image n = node_events image n (tree.height - 1) SUPER_BLOCK tree.root

-- a visit of a node: the pointer that leads to it, and the level that it should have
pub record Visit : Type 0 where
  pub to : BlockPointer
  pub level : ℕ

abbrev pub visits_in : List Event → List Visit
visits_in [] = []
visits_in (node p level ∷ events) = record { to = p; level = level } ∷ visits_in events
visits_in (item i ∷ events) = visits_in events
visits_in (pointer p ∷ events) = visits_in events

abbrev pub items_of_events : List Event → List ReiserItem
items_of_events [] = []
items_of_events (node p level ∷ events) = items_of_events events
items_of_events (item i ∷ events) = i ∷ items_of_events events
items_of_events (pointer p ∷ events) = items_of_events events

abbrev pub reached_in : List Event → List BlockPointer
reached_in [] = []
reached_in (node p level ∷ events) = p ∷ reached_in events
reached_in (item i ∷ events) = reached_in events
reached_in (pointer p ∷ events) = p ∷ reached_in events

-- the nodes of the tree of a volume of n blocks, from the root on, each before its children
abbrev pub visits : ReiserTree → Image → ℕ → List Visit
visits tree image n = visits_in (tree_events tree image n)

-- the items of the tree, in order
abbrev pub items_of_tree : ReiserTree → Image → ℕ → List ReiserItem
items_of_tree tree image n = items_of_events (tree_events tree image n)

-- the pointers to nodes and to blocks of data, in the order of the walk
abbrev pub reached : ReiserTree → Image → ℕ → List BlockPointer
reached tree image n = reached_in (tree_events tree image n)
