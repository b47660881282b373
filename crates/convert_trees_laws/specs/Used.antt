-- Streams of items, over a volume whose free blocks are written.
use Rattle.std.specs.Prelude.{◌≡◌, ◌≤◌, length, List}
use Rattle.btr_reader.specs.outside.History.{Image}
use Rattle.convert_steps.specs.file_items.Stream.{ahead}
use Rattle.convert_steps.specs.file_items.declared.items.Items.{Items}
use Rattle.convert_steps.specs.reiser_volume_contents.Laws.{SameUsed}
use Rattle.convert_steps.specs.reiser_volume.Opened.{IsOpened}
use Rattle.convert_steps.specs.reiser_volume.Volume.{IsAccepted, used_of, superblock}
use Rattle.convert_steps.specs.reiser_volume.declared.volume.Volume.{Volume}
use Rattle.convert_steps.specs.unit_plan.declared.piece.Piece.{Piece}

-- The other image is the same opened volume, and the same items are still to come.
pub record IsSameAhead (stream : Items) (volume : Volume) (pieces : List Piece) (image other : Image) : Type 0 where
  pub accepted : IsAccepted other
  pub opened : IsOpened volume other
  pub ahead_is : ahead stream volume pieces other ≡ ahead stream volume pieces image

-- What is still to come depends on the used blocks alone.
abbrev pub ItemsByUsedBlocks : Type 0
ItemsByUsedBlocks =
    (stream : Items) (volume : Volume) (pieces : List Piece) (image other : Image)
    → IsAccepted image → IsOpened volume image → SameUsed (used_of image) image other → (superblock image).blocks ≤ length other
    → IsSameAhead stream volume pieces image other
