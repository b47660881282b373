-- What the root reaches, directory by directory.
use Rattle.std.specs.Prelude.{◌≡◌, ◌≤◌, ℕ, Bool, ◌&&◌, nat_eq, List, [], ◌∷◌, ◌++◌, map, filter, count_by, Contains}
use Rattle.std.specs.List.{All}
use Rattle.std.specs.List.Sorted.{IsSortedByKey}
use Rattle.std.specs.Cmp.Lexicographic.{pointwise}
use Rattle.std.specs.Ordering.{nat_cmp, ordering_then}
use Rattle.std.specs.declared.cmp.Ordering.{Ordering}
use Rattle.fs_rows.specs.Rows.{NameList, is_same_path}
use Rattle.fs_paths.specs.declared.path_found.PathFound.{PathFound}
use Rattle.fs_paths.specs.declared.node_link.NodeLink.{NodeLink}
use Rattle.fs_paths.specs.declared.node.NodeId.{NodeId}
use Rattle.fs_paths.specs.Links.{same_node, Leads}

abbrev pub node_cmp : NodeId → NodeId → Ordering
node_cmp a b = ordering_then (nat_cmp a.space b.space) (nat_cmp a.number b.number)

-- the links of a directory stand together
pub record AscendByDirectory (links : List NodeLink) : Type 0 where
  pub sorted : IsSortedByKey (λ link. link.dir) node_cmp links

-- a link of this directory
abbrev pub is_of : NodeId → NodeLink → Bool
is_of dir link = same_node dir link.dir

-- a link to this object
abbrev pub names_node : NodeId → NodeLink → Bool
names_node node link = same_node link.target node

-- a link of this directory with this name
abbrev pub has_name : NodeId → List ℕ → NodeLink → Bool
has_name dir name link = is_of dir link && pointwise nat_eq link.name name

-- the links make a tree, by counts
pub record FormTree (links : List NodeLink) (root : NodeId) : Type 0 where
  pub not_root : count_by (names_node root) links ≡ 0
  pub directories : (link : NodeLink) → Contains links link → count_by (names_node link.dir) links ≤ 1
  pub names : (dir : NodeId) (name : List ℕ) → count_by (has_name dir name) links ≤ 1

-- the path that a link of its directory adds to a path
abbrev pub child : PathFound → NodeLink → PathFound
child f link = record { path = f.path ++ link.name ∷ []; target = link.target }

-- the paths one name below
abbrev pub children : List NodeLink → PathFound → List PathFound
children links f = map (child f) (filter (is_of f.target) links)

-- each path from the root stands in the list, once
pub record Reaches (links : List NodeLink) (root : NodeId) (found : List PathFound) : Type 0 where
  pub leads : All (λ f. Leads links root f.path f.target) found
  pub whole : (path : NameList) (to : NodeId) → Leads links root path to → (f : PathFound) × Contains found f × (f.path ≡ path) × (f.target ≡ to)
  pub once : (path : NameList) → count_by (λ f. is_same_path f.path path) found ≤ 1
