-- The nodes and the items of a tree, which may share nodes with other trees. It is walked as by every reader, but that a node of a
-- subvolume may be one of another subvolume.
use Rattle.std.specs.Prelude.{ℕ, zero, suc, List, [], ◌++◌, map, if◌then◌else◌, None}
use Rattle.std.specs.List.{flat_map}
use Rattle.btr_reader.specs.outside.History.{Image}
use Rattle.btr_reader.specs.refusals.declared.refusal.BtrRefusal.{BtrRefusal}
use Rattle.btr_reader.specs.btr_node.Leaf.{items_in}
use Rattle.btr_reader.specs.btr_reader_walk.Events.{TreeItem, in_leaf, unless_damaged}
use Rattle.btr_reader.specs.btr_reader_walk.Map.{node_at}
use Rattle.btr_reader.specs.btr_reader_walk.Nodes.{damages_at, is_file_tree as is_subvolume, refusals_at, tree_nodes}
use Rattle.btr_reader.specs.btr_reader_walk.Tree.{order_damages}
use Rattle.btr_reader.specs.btr_reader_walk.declared.map.MapRange.{MapRange}
use Rattle.btr_reader.specs.btr_reader_walk.declared.tree.NodePointer.{NodePointer}
use Rattle.btr_reader.specs.btr_reader_walk.declared.tree.Owners.{Owners}
use Rattle.btr_reader.specs.btr_reader_walk.declared.tree.Owners.TheVariants.{Own, Files}
use Rattle.btr_reader.specs.btr_reader_walk.declared.tree.Tree.{Tree}

-- whose nodes a tree with this number may have (btrfs_check_eb_owner)
abbrev pub owners_of : ℕ → Owners
owners_of number = if is_subvolume number then Files else Own

-- the nodes that a walk meets; one that breaks a rule is not opened
abbrev pub walked_nodes : Image → List MapRange → Tree → List NodePointer
walked_nodes image ranges tree = map (λ e. e.pointer) (tree_nodes image ranges tree (owners_of tree.owner))

-- what leaves have, and other nodes have not
abbrev pub if_leaf : {A : Type 0} → ℕ → List A → List A
if_leaf zero xs = xs
if_leaf (suc level) xs = []

-- what nodes above leaves have
abbrev pub if_inner : {A : Type 0} → ℕ → List A → List A
if_inner zero xs = []
if_inner (suc level) xs = xs

-- the items of a node, where it breaks no rule
abbrev pub node_items : Image → List MapRange → Tree → NodePointer → List TreeItem
node_items image ranges tree p =
    if_leaf p.level (unless_damaged (damages_at image ranges tree (owners_of tree.owner) p) (map (in_leaf p.address) (items_in (node_at image ranges tree.form.nodesize p.address))))

abbrev pub walked_items : Image → List MapRange → Tree → List TreeItem
walked_items image ranges tree = flat_map (node_items image ranges tree) (walked_nodes image ranges tree)

-- What is wrong with the tree: rules that nodes break, and keys that do not ascend over the whole tree.
abbrev pub walk_refusals : Image → List MapRange → Tree → List BtrRefusal
walk_refusals image ranges tree =
    flat_map (refusals_at image ranges tree (owners_of tree.owner)) (walked_nodes image ranges tree) ++ order_damages None (walked_items image ranges tree)
