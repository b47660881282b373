-- There are rows to speak of.
use Rattle.std.specs.Prelude.{List}
use Rattle.btr_reader.specs.fs_rows.Rows.{WholeRow}
use Rattle.btr_reader.specs.outside.History.{Image}
use Rattle.btr_reader.specs.Parts.{AreRowsOfBtrfs, HasBtrfsRows}
use Rattle.reiser_volume.specs.Volume.{AreRowsOf, IsAccepted}

-- an accepted ReiserFS volume has rows
abbrev pub AcceptedVolumesHaveRows : Type 0
AcceptedVolumesHaveRows = (image : Image) → IsAccepted image → (rows : List WholeRow) × AreRowsOf image rows

-- and so has a Btrfs volume without a log tree whose file tree is readable
abbrev pub ReadableVolumesHaveRows : Type 0
ReadableVolumesHaveRows = (image : Image) → HasBtrfsRows image → (rows : List WholeRow) × AreRowsOfBtrfs image rows
