-- The links of a tree whose names keep the rules.
use Rattle.std.specs.Prelude.{◌≡◌, List}
use Rattle.btr_reader_walk.specs.btrfs_format.declared.object.TheConstants.{FIRST_FREE_OBJECTID}
use Rattle.btr_reader_walk.specs.Events.{TreeItem}
use Rattle.fs_paths.specs.fs_rows.Rows.{NameList}
use Rattle.fs_paths.specs.declared.node_link.NodeLink.{NodeLink}
use Rattle.fs_paths.specs.declared.node.NodeId.{NodeId}
use Rattle.fs_paths.specs.Links.{AreNamedOnce, Leads as LinksLead}
use Rattle.btr_reader_names.specs.Links.{Target, inode, LeadsToTarget}
use Rattle.btr_reader_names.specs.Steps.{inode_node, node_of_target}

-- They make a tree, and lead from the root directory where the tree's names do.
pub record AreTreeLinks (items : List TreeItem) (links : List NodeLink) : Type 0 where
  pub once : AreNamedOnce links (inode_node FIRST_FREE_OBJECTID)
  pub sound : (path : NameList) (node : NodeId) → LinksLead links (inode_node FIRST_FREE_OBJECTID) path node → (to : Target) × (node ≡ node_of_target to) × LeadsToTarget items (inode FIRST_FREE_OBJECTID) path to
  pub whole : (path : NameList) (to : Target) → LeadsToTarget items (inode FIRST_FREE_OBJECTID) path to → LinksLead links (inode_node FIRST_FREE_OBJECTID) path (node_of_target to)
