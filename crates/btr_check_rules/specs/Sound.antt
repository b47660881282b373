-- A sound volume: what a recount of the finished bytes finds agrees with what the volume tells of itself. How the volume came
-- about does not matter.
use Rattle.std.specs.Prelude.{◌≡◌, ℕ, [], All}
use Rattle.btr_reader.specs.outside.History.{Image}
use Rattle.btr_reader.specs.Opening.{opening_refusals}
use Rattle.btr_check_rules.specs.Files.{KeepsExtents}
use Rattle.btr_check_rules.specs.FreeSpace.{KeepsFreeSpace}
use Rattle.btr_check_rules.specs.Groups.{KeepsBlockGroups, KeepsChunks, KeepsTotals}
use Rattle.btr_check_rules.specs.Inodes.{KeepsInode}
use Rattle.btr_check_rules.specs.Names.{KeepsNames}
use Rattle.btr_check_rules.specs.Places.{KeepsPlacement, KeepsReserved}
use Rattle.btr_check_rules.specs.Recount.{Recount, TreeOn, file_trees, recount}
use Rattle.btr_check_rules.specs.References.{KeepsReferences}
use Rattle.btr_check_rules.specs.Sums.{KeepsSums}
use Rattle.btr_check_rules.specs.Trees.{KeepsTrees}

-- what part 2 asks at the number of an inode, in one file tree
pub record KeepsFiles (r : Recount) (t : TreeOn) (ino : ℕ) : Type 0 where
  pub names : KeepsNames r t ino
  pub inode : KeepsInode r.super t ino
  pub extents : KeepsExtents r.super t ino

-- Its ten parts.
pub data SoundPart : Type 0 where
  Trees : SoundPart
  Files : SoundPart
  References : SoundPart
  Placement : SoundPart
  Checksums : SoundPart
  BlockGroups : SoundPart
  Chunks : SoundPart
  Reserved : SoundPart
  Totals : SoundPart
  FreeSpace : SoundPart

-- the number by which a refusal tells a part
abbrev pub part_number : SoundPart → ℕ
part_number Trees = 1
part_number Files = 2
part_number References = 3
part_number Placement = 4
part_number Checksums = 5
part_number BlockGroups = 6
part_number Chunks = 7
part_number Reserved = 8
part_number Totals = 9
part_number FreeSpace = 10

-- What a part asks at an address, in bytes; at the number of an inode or a tree where a part says so.
abbrev pub Keeps : Image → Recount → SoundPart → ℕ → Type 0
Keeps image r Trees a = KeepsTrees image r a
Keeps image r Files a = All (λ t. KeepsFiles r t a) (file_trees r)
Keeps image r References a = KeepsReferences image r a
Keeps image r Placement a = KeepsPlacement r a
Keeps image r Checksums a = KeepsSums image r a
Keeps image r BlockGroups a = KeepsBlockGroups r a
Keeps image r Chunks a = KeepsChunks r a
Keeps image r Reserved a = KeepsReserved r a
Keeps image r Totals a = KeepsTotals r a
Keeps image r FreeSpace a = KeepsFreeSpace r a

-- The volume can be opened, and no part fails anywhere.
pub record IsSound (image : Image) : Type 0 where
  pub opened : opening_refusals image ≡ []
  pub keeps : (part : SoundPart) (a : ℕ) → Keeps image (recount image) part a

-- a part fails at an address
abbrev pub FailsAt : Image → SoundPart → ℕ → Type 0
FailsAt image part a = ¬ Keeps image (recount image) part a
