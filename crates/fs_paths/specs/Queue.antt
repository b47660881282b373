-- The objects that are reached, as a queue: each is followed once, and what it names goes last if it is new.
use Rattle.std.specs.Prelude.{ℕ, not, List, map, filter, count_by}
use Rattle.std.specs.List.{list_any}
use Rattle.indexmap.specs.IndexSet.{insert_all}
use Rattle.fs_paths.specs.declared.node_link.NodeLink.{NodeLink}
use Rattle.fs_paths.specs.declared.node.NodeId.{NodeId}
use Rattle.fs_paths.specs.Links.{same_node}
use Rattle.fs_paths.specs.Spread.{is_of}

-- what the links of a directory name
abbrev pub named_by : List NodeLink → NodeId → List NodeId
named_by links dir = map (λ link. link.target) (filter (is_of dir) links)

-- the queue after a directory was followed
abbrev pub followed : List NodeLink → List NodeId → NodeId → List NodeId
followed links queue dir = insert_all same_node queue (named_by links dir)

-- how many links name an object that is not in the queue
abbrev pub waiting : List NodeLink → List NodeId → ℕ
waiting links queue = count_by (λ link. not (list_any (same_node link.target) queue)) links
