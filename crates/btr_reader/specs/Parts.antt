-- The parts of a Btrfs volume that are read, and what each is refused by.
use Rattle.std.specs.Prelude.{◌≡◌, ◌⊎◌, ◌==◌, ℕ, List, [], Contains, map, Option, Some, None, if◌then◌else◌, Result, Ok, Err}
use Rattle.btr_space_items.specs.btrfs_format.declared.block.TheConstants.{SUPER_BLOCK}
use Rattle.btr_reader_walk.specs.outside.History.{Image, block_at}
use Rattle.btr_reader_walk.specs.refusals.declared.answer.BtrAnswer.{BtrAnswer}
use Rattle.btr_reader_walk.specs.refusals.declared.answer.BtrAnswer.TheVariants.{Refused, Fault, Memory}
use Rattle.btr_reader_walk.specs.refusals.declared.refusal.BtrRefusal.{BtrRefusal}
use Rattle.btr_reader_walk.specs.refusals.declared.refusal.BtrRefusal.TheVariants.{LogPending}
use Rattle.btr_super.specs.declared.superblock.Super.{Super}
use Rattle.btr_super.specs.Super.{super_in}
use Rattle.btr_reader_walk.specs.declared.map.MapRange.{MapRange}
use Rattle.fs_paths.specs.fs_rows.Rows.{WholeRow, row_of}
use Rattle.fs_paths.specs.fs_rows.declared.row.Row.{Row}
use Rattle.btr_reader.specs.Image.{image_refusals}
use Rattle.btr_reader.specs.Opening.{super_on, chunk_map, opening_refusals}
use Rattle.btr_reader.specs.Rows.{AreBtrfsRows, IsFileTreeRefusal}

-- The superblock alone; with the chunks and the root tree; these with the file tree, or with what lies on the way to the saved image.
pub data Part : Type 0 where
  Superblock : Part
  Opening : Part
  Tree : Part
  SavedImage : Part

-- the fields of the superblock, which is block 16, and the map of addresses by them
abbrev pub own_super : Image → Super
own_super image = super_in (block_at image SUPER_BLOCK)

abbrev pub own_map : Image → List MapRange
own_map image = chunk_map image (own_super image)

-- what is wrong on the way to the saved image
abbrev pub way_refusals : Image → List BtrRefusal
way_refusals image = image_refusals image (own_super image) (own_map image)

-- a refusal of the opening, or where there is none, one of what comes after it
abbrev pub AfterOpening : Image → (BtrRefusal → Type 0) → BtrRefusal → Type 0
AfterOpening image later r = Contains (opening_refusals image) r ⊎ ((opening_refusals image ≡ []) × later r)

-- What a part may be refused by.
abbrev pub IsBtrfsRefusal : Image → Part → BtrRefusal → Type 0
IsBtrfsRefusal image Superblock r = super_on image ≡ Err r
IsBtrfsRefusal image Opening r = Contains (opening_refusals image) r
IsBtrfsRefusal image Tree r = AfterOpening image (IsFileTreeRefusal image (own_super image) (own_map image)) r
IsBtrfsRefusal image SavedImage r = AfterOpening image (Contains (way_refusals image)) r

-- A part is readable where it has no refusal.
abbrev pub IsReadable : Image → Part → Type 0
IsReadable image part = (r : BtrRefusal) → ¬ IsBtrfsRefusal image part r

-- reading a part may answer so; that a device failed or memory was short is said elsewhere
abbrev pub RefusesPart : Image → Part → BtrAnswer → Type 0
RefusesPart image part (Refused r) = IsBtrfsRefusal image part r
RefusesPart image part Fault = Unit {0}
RefusesPart image part Memory = Unit {0}

-- the address of the log tree that a superblock names, if it is read and names one
abbrev pub log_of : Result Super BtrRefusal → Option ℕ
log_of (Err refusal) = None
log_of (Ok s) = if s.log_root == 0 then None else Some s.log_root

abbrev pub log_tree : Image → Option ℕ
log_tree image = log_of (super_on image)

-- The rows are read of a volume without a log tree whose file tree is readable.
pub record HasBtrfsRows (image : Image) : Type 0 where
  pub log : log_tree image ≡ None
  pub tree : IsReadable image Tree

-- A log tree comes before all that is wrong but with the superblock.
pub data IsRowsRefusal (image : Image) (r : BtrRefusal) : Type 0 where
  has_log : (address : ℕ) → log_tree image ≡ Some address → r ≡ LogPending address → IsRowsRefusal image r
  unreadable : log_tree image ≡ None → IsBtrfsRefusal image Tree r → IsRowsRefusal image r

-- the rows of the volume of a disk
abbrev pub AreRowsOfBtrfs : Image → List WholeRow → Type 0
AreRowsOfBtrfs image whole = AreBtrfsRows image (own_super image) (own_map image) whole

-- these are the rows, as the program has them
abbrev pub ListsBtrfs : Image → List Row → Type 0
ListsBtrfs image rows = HasBtrfsRows image × ((whole : List WholeRow) × AreRowsOfBtrfs image whole × (rows ≡ map row_of whole))

-- the rows may be refused so
abbrev pub RefusesBtrfsRows : Image → BtrAnswer → Type 0
RefusesBtrfsRows image (Refused r) = IsRowsRefusal image r
RefusesBtrfsRows image Fault = Unit {0}
RefusesBtrfsRows image Memory = Unit {0}
