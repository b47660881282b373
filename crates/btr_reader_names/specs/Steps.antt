-- What the root directory reaches, as links of objects: an inode is in space 0, another tree in space 1.
use Rattle.std.specs.Prelude.{◌≡◌, ℕ, Bool, true, ◌&&◌, List, [], map, filter, if◌then◌else◌}
use Rattle.btr_reader_walk.specs.Events.{TreeItem}
use Rattle.fs_paths.specs.declared.node_link.NodeLink.{NodeLink}
use Rattle.fs_paths.specs.declared.node.NodeId.{NodeId}
use Rattle.btr_reader_names.specs.declared.dir_index.DirIndex.{DirIndex}
use Rattle.btr_reader_names.specs.declared.table.NameTable.{NameTable}
use Rattle.btr_reader_names.specs.Links.{is_followed, names_inode, IsNamedInode, Target, inode, tree}
use Rattle.btr_reader_names.specs.Table.{is_dir}

abbrev pub inode_node : ℕ → NodeId
inode_node ino = record { space = 0; number = ino }

abbrev pub tree_node : ℕ → NodeId
tree_node number = record { space = 1; number = number }

abbrev pub node_of_target : Target → NodeId
node_of_target (inode ino) = inode_node ino
node_of_target (tree number) = tree_node number

-- what an entry names: an inode, or else another tree
abbrev pub target_node : DirIndex → NodeId
target_node n = if names_inode n then inode_node n.location.objectid else tree_node n.location.objectid

-- the entry leads from a directory to an inode
abbrev pub is_step : NameTable → DirIndex → Bool
is_step t n = is_followed n && (names_inode n && is_dir t n.dir)

-- it as a link without its name
abbrev pub step_of : DirIndex → NodeLink
step_of n = record { dir = inode_node n.dir; target = inode_node n.location.objectid; name = [] }

-- The test passes exactly for the named inodes.
pub record AreNamed (items : List TreeItem) (has : NodeId → Bool) : Type 0 where
  pub sound : (node : NodeId) → has node ≡ true → (node.space ≡ 0) × IsNamedInode items node.number
  pub whole : (ino : ℕ) → IsNamedInode items ino → has (inode_node ino) ≡ true

-- the inode is a directory, and passes a test of named ones
abbrev pub is_open : NameTable → (NodeId → Bool) → ℕ → Bool
is_open t named dir = named (inode_node dir) && is_dir t dir

-- the entry is followed, and its directory named
abbrev pub is_link : NameTable → (NodeId → Bool) → DirIndex → Bool
is_link t named n = is_followed n && is_open t named n.dir

abbrev pub link_of : DirIndex → NodeLink
link_of n = record { dir = inode_node n.dir; target = target_node n; name = n.name }

-- the links of the tree
abbrev pub links_of : NameTable → (NodeId → Bool) → List NodeLink
links_of t named = map link_of (filter (is_link t named) t.namings.items)
