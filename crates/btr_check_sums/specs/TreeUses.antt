-- What the file extents of a tree of files use, by its items.
use Rattle.std.specs.Prelude.{◌≡◌, ◌⊎◌, ◌↔◌, ◌≤◌, ◌==◌, ℕ, Bool, true, false, not, ◌&&◌, if◌then◌else◌, List, Option, Some, None, Contains}
use Rattle.number_runs.specs.Runs.{is_among}
use Rattle.btr_check_rules.specs.Inodes.{has_no_sums}
use Rattle.btr_check_rules.specs.btr_reader.btr_keys.FileExtent.{ContentValue, FileExtentValue, Inline, Prealloc, Regular, file_extent_of}
use Rattle.btr_check_rules.specs.btr_reader.btr_keys.Inode.{inode_of}
use Rattle.btr_check_rules.specs.btr_reader.btr_keys.declared.file_extent.DiskRange.{DiskRange}
use Rattle.btr_check_rules.specs.btr_reader.btr_keys.declared.inode.Inode.{Inode}
use Rattle.btr_check_rules.specs.btr_reader.btr_node.Leaf.{Item}
use Rattle.btr_check_rules.specs.btr_reader.btr_reader_contents.Extents.{is_hole}
use Rattle.btr_reader_walk.specs.btrfs_format.declared.key.TheConstants.{EXTENT_DATA, INODE_ITEM}
use Rattle.btr_check_sums.specs.Uses.{AddsUse, is_bare, is_data, is_laid, is_laid_in, is_wanted, is_written_at}
use Rattle.btr_check_sums.specs.declared.tree_uses.Owner.{Owner}
use Rattle.btr_check_sums.specs.declared.tree_uses.TreeUses.{TreeUses}
use Rattle.btr_check_sums.specs.declared.use_of_data.DataOf.{DataOf}
use Rattle.btr_check_sums.specs.declared.use_of_data.Uses.{Uses}

-- ---- one item

-- What a file extent has on the disk, if it has a place there.
abbrev pub placed : ℕ → Bool → DiskRange → Bool → Option Bool → Option DataOf
placed compression written range is_read sums =
    if is_hole range then None else Some (record { range = range; compression = compression; written = written; is_read = is_read; sums = sums })

abbrev pub data_in : ℕ → ContentValue → Bool → Option Bool → Option DataOf
data_in compression (Inline bytes) is_read sums = None
data_in compression (Regular range) is_read sums = placed compression true range is_read sums
data_in compression (Prealloc range) is_read sums = placed compression false range is_read sums

abbrev pub data_by : Option FileExtentValue → Bool → Option Bool → Option DataOf
data_by None is_read sums = None
data_by (Some e) is_read sums = data_in e.compression e.content is_read sums

-- ---- inodes

-- an inode by its item, which is one of these
pub record HasInodeIn (items : List Item) (ino : ℕ) (inode : Inode) : Type 0 where
  pub body : List ℕ
  pub there : Contains items (record { objectid = ino; kind = INODE_ITEM; offset = 0 }, body)
  pub reads : inode_of body ≡ Some inode

-- whether data of the inode has checksums; none where there is no inode
abbrev pub TellsSums : List Item → ℕ → Option Bool → Type 0
TellsSums items ino None = (inode : Inode) → ¬ HasInodeIn items ino inode
TellsSums items ino (Some sums) = (inode : Inode) × HasInodeIn items ino inode × (sums ≡ not (has_no_sums inode))

-- The inode in hand is the last one of these items.
pub record IsOwnerOf (owner : Option Owner) (items : List Item) : Type 0 where
  pub known : (o : Owner) → owner ≡ Some o → (inode : Inode) × HasInodeIn items o.number inode
  pub only : (o : Owner) → owner ≡ Some o → (inode : Inode) → HasInodeIn items o.number inode → o.sums ≡ not (has_no_sums inode)
  pub last : (ino : ℕ) (inode : Inode) → HasInodeIn items ino inode → (o : Owner) × (owner ≡ Some o) × (ino ≤ o.number)

-- whether its data has checksums, where it has this number
abbrev pub sums_by : Option Owner → ℕ → Option Bool
sums_by None ino = None
sums_by (Some o) ino = if o.number == ino then Some o.sums else None

-- the inode in hand behind an inode item
abbrev pub owner_by : Option Owner → ℕ → Option Inode → Option Owner
owner_by before number None = before
owner_by before number (Some inode) = Some (record { number = number; sums = not (has_no_sums inode) })

-- what was met was noted
abbrev pub MeetsData : Option DataOf → Uses → Uses → Type 0
MeetsData None old new = new ≡ old
MeetsData (Some x) old new = AddsUse x old new

-- ---- all items

-- One of these items is a file extent with this place on the disk.
pub record IsUseOf (is_read : Bool) (items : List Item) (x : DataOf) : Type 0 where
  pub item : Item
  pub there : Contains items item
  pub kind : item.0.kind ≡ EXTENT_DATA
  pub x_is : data_by (file_extent_of item.1) is_read x.sums ≡ Some x
  pub sums : TellsSums items item.0.objectid x.sums

-- some use passes a test
abbrev pub HasUse : Bool → List Item → (DataOf → Bool) → Type 0
HasUse is_read items passes = (x : DataOf) × IsUseOf is_read items x × (passes x ≡ true)

-- a set has what it had before, and what is used
abbrev pub Grows : (ℕ → Bool) → (ℕ → Bool) → (ℕ → DataOf → Bool) → Bool → List Item → Type 0
Grows before now passes is_read items = (n : ℕ) → (now n ≡ true) ↔ ((before n ≡ true) ⊎ HasUse is_read items (passes n))

-- The sets have what they had when the walk began, and what is used.
pub record HoldsUses (begun now : TreeUses) (items : List Item) : Type 0 where
  pub read_is : now.is_read ≡ begun.is_read
  pub owner : IsOwnerOf now.owner items
  pub data_is : Grows (is_among begun.uses.data) (is_among now.uses.data) (λ n x. is_data x n) begun.is_read items
  pub wanted_is : Grows (is_among begun.uses.wanted) (is_among now.uses.wanted) (λ n x. is_wanted x n) begun.is_read items
  pub bare_is : Grows (is_among begun.uses.bare) (is_among now.uses.bare) (λ n x. is_bare x n) begun.is_read items
  pub written_is : Grows (is_among begun.uses.written) (is_among now.uses.written) (λ s x. is_written_at x s) begun.is_read items
  pub laid_is :
      (test : ℕ → Bool)
      → Grows (λ n. is_laid_in test begun.uses.laid.items n) (λ n. is_laid_in test now.uses.laid.items n) (λ n x. test x.range.disk_bytenr && is_laid x n) begun.is_read items
