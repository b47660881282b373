-- The nodes of a tree, each with what its parent says of it.
use Rattle.std.specs.Prelude.{ℕ, zero, suc, ◌^◌, ◌==◌, nat_le, nat_lt, Bool, ◌&&◌, ◌||◌, if◌then◌else◌, List, [], ◌∷◌, map, Option, Some, None}
use Rattle.std.specs.List.{flat_map}
use Rattle.btr_node.specs.btrfs_format.declared.object.TheConstants.{FIRST_FREE_OBJECTID, FS_TREE}
use Rattle.btr_node.specs.outside.History.{Image}
use Rattle.btr_node.specs.refusals.declared.refusal.BtrRefusal.{BtrRefusal}
use Rattle.btr_node.specs.refusals.declared.rule.BtrRule.{BtrRule}
use Rattle.btr_node.specs.btr_keys.declared.key.Key.{Key}
use Rattle.btr_node.specs.Head.{head_in}
use Rattle.btr_node.specs.Inner.{children_in}
use Rattle.btr_node.specs.declared.child.Child.{Child}
use Rattle.btr_node.specs.declared.expect.Expect.{Expect}
use Rattle.btr_reader_walk.specs.declared.map.MapRange.{MapRange}
use Rattle.btr_reader_walk.specs.declared.tree.NodeEntry.{NodeEntry}
use Rattle.btr_reader_walk.specs.declared.tree.NodePointer.{NodePointer}
use Rattle.btr_reader_walk.specs.declared.tree.Owners.{Owners}
use Rattle.btr_reader_walk.specs.declared.tree.Owners.TheVariants.{Own, Files}
use Rattle.btr_reader_walk.specs.declared.tree.Tree.{Tree}
use Rattle.btr_reader_walk.specs.Map.{node_at}
use Rattle.btr_reader_walk.specs.Node.{want, child_pointer, node_damages}
use Rattle.btr_reader_walk.specs.Events.{may_be_bare, unless_damaged}
use Rattle.btr_reader_walk.specs.Tree.{at_address}

-- The trees of files that users see: 5, and those from 256 on without a level of quotas (is_fstree).
abbrev pub is_file_tree : ℕ → Bool
is_file_tree number = (number == FS_TREE) || (nat_le FIRST_FREE_OBJECTID number && nat_lt number (2 ^ 48))

-- The owner that a node of a tree has to tell, where it tells this one. Among trees of files it may be any of them, one
-- that was removed too (btrfs_check_eb_owner).
abbrev pub owner_asked : Owners → ℕ → ℕ → ℕ
owner_asked Own number told = number
owner_asked Files number told = if is_file_tree told then told else number

-- what is known of the node with these bytes
abbrev pub wanted : Tree → Owners → NodePointer → List ℕ → Expect
wanted tree owners p bytes = want tree.form (owner_asked owners tree.owner (head_in bytes).owner) p

-- the rules that a node of a tree breaks
abbrev pub damages_at : Image → List MapRange → Tree → Owners → NodePointer → List BtrRule
damages_at image ranges tree owners p =
    node_damages image ranges tree.form (owner_asked owners tree.owner (head_in (node_at image ranges tree.form.nodesize p.address)).owner) (may_be_bare tree.root) p

-- the same as what is wrong at its address
abbrev pub refusals_at : Image → List MapRange → Tree → Owners → NodePointer → List BtrRefusal
refusals_at image ranges tree owners p = at_address p.address (damages_at image ranges tree owners p)

-- a child of a node, whose level is this
abbrev pub child_entry : ℕ → Child → NodeEntry
child_entry level child = record { pointer = child_pointer level child; key = Some child.key }

-- the children of the node of this level with these bytes; a leaf has none
abbrev pub child_entries : ℕ → List ℕ → List NodeEntry
child_entries zero bytes = []
child_entries (suc level) bytes = map (child_entry level) (children_in bytes)

abbrev pub entry_at : ℕ → Option Key → ℕ → ℕ → NodeEntry
entry_at level key address generation = record { pointer = record { address = address; level = level; generation = generation }; key = key }

-- The nodes of a tree from one of this level on: it, and behind it those from each of its children on. A node that breaks
-- a rule is not opened.
unfoldable pub nodes_under : Image → List MapRange → Tree → Owners → ℕ → Option Key → ℕ → ℕ → List NodeEntry
nodes_under image ranges tree owners zero key address generation = entry_at zero key address generation ∷ []
nodes_under image ranges tree owners (suc level) key address generation =
    entry_at (suc level) key address generation
    ∷ unless_damaged (damages_at image ranges tree owners (entry_at (suc level) key address generation).pointer)
    (flat_map (λ child. nodes_under image ranges tree owners level (Some child.key) child.address child.generation)
    (children_in (node_at image ranges tree.form.nodesize address)))

abbrev pub nodes_from : Image → List MapRange → Tree → Owners → NodeEntry → List NodeEntry
nodes_from image ranges tree owners e = nodes_under image ranges tree owners e.pointer.level e.key e.pointer.address e.pointer.generation

-- the root, which has no parent
abbrev pub root_entry : Tree → NodeEntry
root_entry tree = record { pointer = tree.root; key = None }

-- all nodes of a tree
abbrev pub tree_nodes : Image → List MapRange → Tree → Owners → List NodeEntry
tree_nodes image ranges tree owners = nodes_from image ranges tree owners (root_entry tree)
