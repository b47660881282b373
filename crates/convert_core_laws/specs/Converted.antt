-- The bytes of files on a converted volume.
use Rattle.std.specs.Prelude.{◌≡◌, ℕ, true, List, [], map, Contains}
use Rattle.indexmap.specs.IndexMap.{keys}
use Rattle.reiser_volume.specs.outside.History.{Image}
use Rattle.reiser_volume.specs.refusals.declared.refusal.BtrRefusal.{BtrRefusal}
use Rattle.btr_reader.specs.btr_reader_contents.Extents.{extents_of, extents_refusals}
use Rattle.btr_reader.specs.Rows.{BreaksExtents}
use Rattle.btr_reader.specs.btr_reader_walk.Events.{TreeItem}
use Rattle.btr_reader.specs.btr_reader_walk.Tree.{bare_item}
use Rattle.btr_reader.specs.btr_reader_walk.declared.map.MapRange.{MapRange}
use Rattle.convert_core.specs.convert_steps.Making.{IsMaking, Making}
use Rattle.convert_core.specs.convert_steps.Source.{made_from}
use Rattle.convert_core.specs.convert_steps.Standing.{TreeRoots, file_tree_items}
use Rattle.convert_core.specs.Converted.{StandsConverted}
use Rattle.convert_core.specs.file_items.Tree.{Source, kind_in}
use Rattle.reiser_volume.specs.fs_rows.Kinds.{has_bytes}
use Rattle.reiser_volume.specs.reiser_volume_objects.declared.key.ObjectKey.{ObjectKey}
use Rattle.convert_core.specs.space_items.declared.node.TreeNode.{TreeNode}
use Rattle.convert_core_laws.specs.Mapped.{AreRangesOf}
use Rattle.convert_core_laws.specs.Read.{HasBytesOf}

-- the file tree of a conversion is made from this
abbrev pub source : Image → Making → Source
source image m = made_from m.volume image m.options m.pieces

-- What a reader finds of files and symlinks: the bytes of each that has a name, and no rule of extents that is broken.
pub record ReadsFiles (image other : Image) (m : Making) (ranges : List MapRange) (items : List TreeItem) : Type 0 where
  pub bytes : (key : ObjectKey) → Contains (keys m.volume.named) key → has_bytes (kind_in (source image m) key) ≡ true → HasBytesOf (source image m) image other ranges items key
  pub extents : (ino : ℕ) → extents_refusals ranges 0 0 (extents_of items ino) ≡ []
  pub unbroken : (refusal : BtrRefusal) → ¬ BreaksExtents ranges items refusal

-- Where a conversion stands on a disk, a tree of its file tree's items, in any leaves, read by the ranges of its chunks, has each
-- named file and symlink as it was.
abbrev pub ConvertedFilesAreRead : Type 0
ConvertedFilesAreRead =
    (image other : Image) (m : Making) (r : TreeRoots) (nodes : List TreeNode) (ranges : List MapRange) (items : List TreeItem)
    → IsMaking image m → StandsConverted image other m r nodes → AreRangesOf m.chunks ranges → map bare_item items ≡ file_tree_items image m
    → ReadsFiles image other m ranges items
