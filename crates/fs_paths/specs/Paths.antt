-- The paths of a tree as a list.
use Rattle.std.specs.Prelude.{◌≡◌, Bool, List, length, slice_index_or, count_by, Contains}
use Rattle.std.specs.List.{AllAdjacentBelow, position_or_len}
use Rattle.std.specs.declared.cmp.Ordering.TheVariants.{Less}
use Rattle.fs_rows.specs.Rows.{NameList, path_cmp}
use Rattle.fs_paths.specs.declared.node_link.NodeLink.{NodeLink}
use Rattle.fs_paths.specs.declared.node_link.PathTo.{PathTo}
use Rattle.fs_paths.specs.declared.node.NodeId.{NodeId}
use Rattle.fs_paths.specs.Links.{same_node, Leads}

-- the path leads to this object
abbrev pub leads_to : NodeId → PathTo → Bool
leads_to node p = same_node p.target node

-- The paths of the tree ascend, and each of them stands in the list with its object, with the place of the first path
-- to it and with the number of those.
pub record ArePaths (links : List NodeLink) (root : NodeId) (list : List PathTo) : Type 0 where
  pub ascends : AllAdjacentBelow (λ a b. path_cmp a.path b.path ≡ Less) list (length list)
  pub leads : (p : PathTo) → Contains list p → Leads links root p.path p.target
  pub whole : (path : NameList) (to : NodeId) → Leads links root path to → (p : PathTo) × Contains list p × (p.path ≡ path) × (p.target ≡ to)
  pub least : (p : PathTo) → Contains list p → p.least ≡ position_or_len (leads_to p.target) list
  pub names : (p : PathTo) → Contains list p → p.names ≡ count_by (leads_to p.target) list

-- the first path of the list to the same object
abbrev pub first_path : List PathTo → PathTo → NameList
first_path list p = (slice_index_or list p.least p).path
