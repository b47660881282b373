-- What is known of a volume that a stream goes over.
use Rattle.std.specs.Prelude.{◌≡◌, length, map}
use Rattle.indexmap.specs.IndexMap.{keys}
use Rattle.reiser_volume.specs.outside.History.{Image}
use Rattle.reiser_volume.specs.Numbers.{AreNumbered}
use Rattle.reiser_volume.specs.Opened.{IsOpened, links_in}
use Rattle.reiser_volume.specs.Volume.{IsAccepted}
use Rattle.reiser_volume.specs.declared.inode_numbers.InodeNumbers.{InodeNumbers}
use Rattle.reiser_volume.specs.declared.volume.Volume.{Volume}
use Rattle.file_items.specs.Names.{indexed_links}
use Rattle.file_items.specs.Spots.{TellsPlaces}
use Rattle.file_items.specs.declared.link_index.LinkIndex.{LinkIndex}

-- the links of an opened volume by their directories, and by the objects that they name
pub record IsIndexOf (volume : Volume) (index : LinkIndex) : Type 0 where
  pub dirs : TellsPlaces (λ n. n.dir) volume (links_in volume) index.by_dir
  pub targets : TellsPlaces (λ n. n.target) volume (links_in volume) index.by_target
  pub extended : index.extended.items ≡ map (λ e. e.extended) (indexed_links (links_in volume))

-- The links are this volume's.
abbrev pub FitsIndex : LinkIndex → Volume → Type 0
FitsIndex index volume = index.count ≡ length (links_in volume)

-- These are the blocks of the volume, and its links and the numbers of its inodes are told.
pub record IsKnown (volume : Volume) (index : LinkIndex) (numbers : InodeNumbers) (image : Image) : Type 0 where
  pub accepted : IsAccepted image
  pub opened : IsOpened volume image
  pub index_is : IsIndexOf volume index
  pub numbers_are : AreNumbered numbers.root (keys volume.named)
