-- The objects of a volume as the nodes of path_list: both numbers of a key, as they are.
use Rattle.std.specs.Prelude.{◌<◌, ◌%◌, ◌^◌, List, [], map, filter}
use Rattle.fs_paths.specs.declared.node_link.NodeLink.{NodeLink}
use Rattle.fs_paths.specs.declared.node.NodeId.{NodeId}
use Rattle.reiser_volume_objects.specs.declared.key.ObjectKey.{ObjectKey}
use Rattle.reiser_volume_objects.specs.declared.naming.Naming.{Naming}
use Rattle.reiser_volume_objects.specs.Names.{is_followed}

abbrev pub node_of : ObjectKey → NodeId
node_of key = record { space = key.dir; number = key.object }

-- the object that a node stands for: its numbers have 32 bits
abbrev pub key_at : NodeId → ObjectKey
key_at node = record { dir = node.space % 2 ^ 32; object = node.number % 2 ^ 32 }

pub record FitsKey (node : NodeId) : Type 0 where
  pub space : node.space < 2 ^ 32
  pub number : node.number < 2 ^ 32

-- from a directory to what an entry of it names, whatever the name
abbrev pub step_of : Naming → NodeLink
step_of n = record { dir = node_of n.dir; target = node_of n.target; name = [] }

-- the steps of the entries that are followed
abbrev pub steps : List Naming → List NodeLink
steps ns = map step_of (filter is_followed ns)
