-- What is gathered of a tree's contents, so far.
use Rattle.std.specs.Prelude.{◌≡◌, ◌≤◌, ◌<◌, ℕ, ◌==◌, Bool, true, false, if◌then◌else◌, is_some, List, Option, Some, None}
use Rattle.std.specs.Option.{option_map_or}
use Rattle.btr_reader_walk.specs.btrfs_format.declared.key.TheConstants.{EXTENT_DATA}
use Rattle.btr_reader_walk.specs.outside.History.{Image}
use Rattle.btr_reader_walk.specs.btr_keys.declared.key.Key.{Key}
use Rattle.btr_reader_walk.specs.declared.map.MapRange.{MapRange}
use Rattle.btr_reader_walk.specs.Events.{TreeItem}
use Rattle.btr_reader_walk.specs.Walks.{last_after}
use Rattle.btr_reader_contents.specs.Extents.{extents_of}
use Rattle.btr_reader_contents.specs.States.{MarksExtents}
use Rattle.fs_rows.specs.declared.content.Content.{Content}
use Rattle.btr_reader_contents.specs.declared.hand.Hand.{Hand}
use Rattle.btr_reader_contents.specs.declared.wanted.Wanted.{Wanted}
use Rattle.btr_reader_contents.specs.Contents.{TellsContent}

-- what an item is an extent of, if that is wanted
abbrev pub item_wanted : (ℕ → Option Wanted) → Key → Option Wanted
item_wanted plan key = if key.kind == EXTENT_DATA then plan key.objectid else None

-- the number of the inode of the last item
abbrev pub last_inode : List TreeItem → ℕ
last_inode given = option_map_or (λ key. key.objectid) (last_after None given) 0

abbrev pub is_in_hand : ℕ → Option Hand → Bool
is_in_hand ino None = false
is_in_hand ino (Some h) = h.ino == ino

-- the file in hand was given its extents among these items
pub record HoldsHand (plan : ℕ → Option Wanted) (image : Image) (ranges : List MapRange) (given : List TreeItem) (h : Hand) : Type 0 where
  pub planned : plan h.ino ≡ Some h.wanted
  pub size : h.marker.file.size ≡ h.wanted.size
  pub marks : MarksExtents h.marker image ranges (extents_of given h.ino)

-- a finished inode is before this one
abbrev pub AllBefore : ℕ → (ℕ → Option Content) → Type 0
AllBefore ino told = (done : ℕ) → is_some (told done) ≡ true → done < ino

-- the file in hand is that of the last inode with extents, up to `top`; without one nothing is finished
abbrev pub HandAt : (ℕ → Option Wanted) → Image → List MapRange → List TreeItem → ℕ → (ℕ → Option Content) → Option Hand → Type 0
HandAt plan image ranges given top told None = AllBefore 0 told
HandAt plan image ranges given top told (Some h) = HoldsHand plan image ranges given h × AllBefore h.ino told × (h.ino ≤ top)

-- These items were given, the numbers of whose inodes go up to `top`.
pub record HasGathered (plan : ℕ → Option Wanted) (image : Image) (ranges : List MapRange) (given : List TreeItem) (top : ℕ) (told : ℕ → Option Content) (hand : Option Hand) : Type 0 where
  pub others : (ino : ℕ) (w : Wanted) → plan ino ≡ Some w → is_in_hand ino hand ≡ false → TellsContent image ranges given ino w (told ino)
  pub at : HandAt plan image ranges given top told hand
