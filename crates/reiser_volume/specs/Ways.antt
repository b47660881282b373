-- The links of a volume as those of a tree of paths.
use Rattle.std.specs.Prelude.{List, map}
use Rattle.std.specs.List.{All}
use Rattle.fs_paths.specs.declared.node_link.NodeLink.{NodeLink}
use Rattle.fs_paths.specs.declared.node_link.PathTo.{PathTo}
use Rattle.fs_paths.specs.Paths.{ArePaths}
use Rattle.reiser_volume_objects.specs.declared.naming.Naming.{Naming}
use Rattle.reiser_volume_objects.specs.Keys.{root}
use Rattle.reiser_volume_objects.specs.Nodes.{node_of, FitsKey}
use Rattle.reiser_volume.specs.declared.volume.Volume.{Volume}
use Rattle.reiser_volume.specs.Opened.{links_in}

abbrev pub link_of : Naming → NodeLink
link_of n = record { dir = node_of n.dir; target = node_of n.target; name = n.name }

-- the paths of the volume's tree
pub record HasPaths (volume : Volume) (list : List PathTo) : Type 0 where
  pub paths : ArePaths (map link_of (links_in volume)) (node_of root) list
  pub fit : All (λ p. FitsKey p.target) list
