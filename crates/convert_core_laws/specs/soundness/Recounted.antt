-- What a recount of a converted volume finds.
use Rattle.std.specs.Prelude.{ℕ, List, ◌++◌, map}
use Rattle.btr_reader.specs.btrfs_format.declared.object.TheConstants.{CHUNK_TREE, ROOT_TREE}
use Rattle.reiser_volume.specs.outside.History.{Image}
use Rattle.btr_reader.specs.btr_node.Leaf.{Item}
use Rattle.btr_reader.specs.Opening.{chunk_map, form_of}
use Rattle.btr_check_rules.specs.Recount.{Recount, TreeOn}
use Rattle.btr_reader.specs.btr_super.declared.superblock.Super.{Super}
use Rattle.convert_core.specs.btr_tree.declared.climb.Root.{Root}
use Rattle.btr_reader.specs.btr_reader_walk.Events.{nodes_in, walk_events}
use Rattle.btr_reader.specs.btr_reader_walk.declared.tree.NodePointer.{NodePointer}
use Rattle.convert_core.specs.convert_steps.Making.{Making, new_ids}
use Rattle.convert_core.specs.convert_steps.Standing.{NamedTree, TreeRoots, named_trees, root_tree_items}
use Rattle.convert_core_laws.specs.reading.Opened.{boot_part, chunk_at, other_part, super_for}
use Rattle.convert_core.specs.space_items.Chunks.{chunk_items}
use Rattle.convert_core.specs.space_items.declared.node.TreeNode.{TreeNode}
use Rattle.convert_core.specs.btr_tree_writer.Trees.{pointer_to_root}

-- a root, and the nodes that a walk from it meets
abbrev pub Walked : Type 0
Walked = NodePointer × List NodePointer

abbrev pub walked : TreeOn → Walked
walked t = (t.root, t.nodes)

-- a tree with these items, which is no snapshot, and of which there was none
abbrev pub walked_tree : ℕ → Walked → List Item → TreeOn
walked_tree number walked items = record { number = number; made = 0; last_snapshot = 0; root = walked.0; nodes = walked.1; items = items }

-- the one that a walk from its root meets
abbrev pub tree_for : Image → Super → ℕ → Root → List Item → TreeOn
tree_for other s number root items = walked_tree number (pointer_to_root root, nodes_in (walk_events other (chunk_map other s) (form_of s) (pointer_to_root root) number)) items

-- one that has a root item
abbrev pub named_on : Image → Super → NamedTree → TreeOn
named_on other s t = tree_for other s t.number t.root t.items

-- the trees that have a root item
abbrev pub trees_for : Image → Image → Making → TreeRoots → List TreeNode → Super → List TreeOn
trees_for image other m r nodes s = map (named_on other s) (named_trees image other m r nodes)

-- The recount of a converted volume: its superblock, the chunks of the plan, and the trees with the items that were written.
abbrev pub recount_for : Image → Image → Making → TreeRoots → List TreeNode → Recount
recount_for image other m r nodes = record {
  super = super_for m r nodes;
  chunks = map (chunk_at (new_ids m)) (boot_part m.chunks ++ other_part m.chunks);
  chunk_tree = tree_for other (super_for m r nodes) CHUNK_TREE r.chunk (chunk_items (new_ids m) m.volume.sup.blocks m.chunks);
  root_tree = tree_for other (super_for m r nodes) ROOT_TREE r.root (root_tree_items m r);
  others = trees_for image other m r nodes (super_for m r nodes);
}
