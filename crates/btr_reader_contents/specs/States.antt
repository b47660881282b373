-- What a marker of a file holds.
use Rattle.std.specs.Prelude.{◌≡◌, ◌≤◌, ◌*◌, List, []}
use Rattle.btr_reader_walk.specs.outside.History.{Image}
use Rattle.fs_rows.specs.Held.{HoldsBytes}
use Rattle.btr_reader_walk.specs.declared.map.MapRange.{MapRange}
use Rattle.btr_reader_walk.specs.Events.{TreeItem}
use Rattle.btr_reader_contents.specs.declared.extents.Reach.{Reach}
use Rattle.btr_reader_contents.specs.declared.marker.ExtentMarker.{ExtentMarker}
use Rattle.btr_reader_contents.specs.Extents.{extents_refusals, extents_end, extents_covered}
use Rattle.btr_reader_contents.specs.Bytes.{content}

-- Nothing is wrong with these extents of a file, and so far they reach.
pub record ReachSoFar (reach : Reach) (ranges : List MapRange) (given : List TreeItem) : Type 0 where
  pub sound : extents_refusals ranges 0 0 given ≡ []
  pub end : reach.end ≡ extents_end 0 given
  pub covered : reach.covered ≡ extents_covered 0 given

-- a marker that was given these extents
pub record MarksExtents (m : ExtentMarker) (image : Image) (ranges : List MapRange) (given : List TreeItem) : Type 0 where
  pub reaches : ReachSoFar m.reach ranges given
  pub bytes : HoldsBytes m.file (content image ranges given m.file.size)
  -- the block in hand begins at or before the end of what was given
  pub near : 4096 * m.file.next ≤ m.reach.end
