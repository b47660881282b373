-- Inodes of a tree by their numbers, and directories below directories.
use Rattle.std.specs.Prelude.{◌≡◌, ◌≢◌, ◌<◌, ℕ, true, List, length, slice_get, Option, Some, None, All, AllPairs, Any, Contains, IfSome}
use Rattle.std.specs.Option.{MatchOption}
use Rattle.btr_check_rules.specs.Names.{IndexEntry, names_inode_item}
use Rattle.btr_check_names.specs.Rings.{IsPlace}
use Rattle.btr_check_names.specs.declared.inodes.InodeAt.{InodeAt}

abbrev pub AscendByNumber : List InodeAt → Type 0
AscendByNumber inodes = AllPairs (λ i j. i.ino < j.ino) inodes

-- an inode with this number stands at a place
abbrev pub IsNumbered : List InodeAt → ℕ → ℕ → Type 0
IsNumbered inodes ino k = (i : InodeAt) × (slice_get inodes k ≡ Some i) × (i.ino ≡ ino)

-- an entry names the inode with a number
abbrev pub Names : ℕ → IndexEntry → Type 0
Names ino e = (names_inode_item e ≡ true) × (e.entry.location.objectid ≡ ino)

-- each entry stands in one of these directories
abbrev pub StandIn : List InodeAt → List IndexEntry → Type 0
StandIn dirs entries = All (λ e. Any (λ d. d.ino ≡ e.entry.dir) dirs) entries

-- no two entries name the same of these directories
abbrev pub IsNamedOnce : List InodeAt → List IndexEntry → Type 0
IsNamedOnce dirs entries = AllPairs (λ e f. (ino : ℕ) → Any (λ d. d.ino ≡ ino) dirs → Names ino e → ¬ Names ino f) entries

-- Where the entries say that a directory stands: at the place of another one, or in none of these.
abbrev pub StandsBy : List InodeAt → List IndexEntry → ℕ → Option ℕ → Type 0
StandsBy dirs entries ino o =
    MatchOption o ((e : IndexEntry) → Contains entries e → ¬ Names ino e) (λ j. (e : IndexEntry) × Contains entries e × Names ino e × IsNumbered dirs e.entry.dir j)

-- the same of each of these directories
pub record AreAbove (dirs : List InodeAt) (entries : List IndexEntry) (above : List (Option ℕ)) : Type 0 where
  pub long : length above ≡ length dirs
  pub places : All (IsPlace (length dirs)) above
  pub each : StandIn dirs entries → (i : ℕ) (d : InodeAt) → slice_get dirs i ≡ Some d → (o : Option ℕ) → slice_get above i ≡ Some o → StandsBy dirs entries d.ino o
