-- The first path to an object, and the number of paths to it.
use Rattle.std.specs.Prelude.{◌≡◌, ◌<◌, ◌+◌, ℕ, Bool, List, length, count_by, Option, Some, None}
use Rattle.std.specs.List.{position_or_len}
use Rattle.indexmap.specs.IndexMap.{IndexMap, get}
use Rattle.fs_paths.specs.declared.path_found.PathFound.{PathFound}
use Rattle.fs_paths.specs.declared.node_link.PathTo.{PathTo}
use Rattle.fs_paths.specs.declared.node.NodeId.{NodeId}
use Rattle.fs_paths.specs.declared.first_path.FirstPath.{FirstPath}
use Rattle.fs_paths.specs.Links.{same_node}

abbrev pub finds : NodeId → PathFound → Bool
finds node f = same_node f.target node

-- a path with the place of the first one to its object, and the number of those
abbrev pub numbered : List PathFound → PathFound → PathTo
numbered all f = record { path = f.path; target = f.target; least = position_or_len (finds f.target) all; names = count_by (finds f.target) all }

-- what is known of an object: nothing where no path leads to it
abbrev pub IsFirstPath : List PathFound → NodeId → Option FirstPath → Type 0
IsFirstPath all node None = (position_or_len (finds node) all ≡ length all) × (count_by (finds node) all ≡ 0)
IsFirstPath all node (Some place) = (position_or_len (finds node) all < length all) × (place.first ≡ position_or_len (finds node) all) × (place.names ≡ count_by (finds node) all)

-- the map has the place of each object
pub record HasFirstPaths {S : Type 0} (places : IndexMap NodeId FirstPath S) (all : List PathFound) : Type 0 where
  pub each : (node : NodeId) → IsFirstPath all node (get same_node places node)

-- the place with one path more
abbrev pub with_one_more : Option FirstPath → ℕ → FirstPath
with_one_more None i = record { first = i; names = 1 }
with_one_more (Some place) i = record { first = place.first; names = place.names + 1 }
