-- What is gathered of files, before the used blocks are divided.
use Rattle.std.specs.Prelude.{◌≡◌, ℕ, ◌+◌, ◌-◌, ◌^◌, nat_le, min, Bool, false, ◌&&◌, List, [], ◌∷◌, ◌++◌, length, map, sum_by, if◌then◌else◌}
use Rattle.std.specs.List.{flat_map, range_with_len}
use Rattle.std.specs.List.Sorted.{IsNonDecreasingBy, IsPermutation}
use Rattle.reiser_volume.specs.reiser_walk.Items.{ReiserItem}
use Rattle.reiser_volume_files.specs.declared.map.FileRun.{FileRun}
use Rattle.reiser_volume_files.specs.declared.map.RunFrom.{RunFrom}
use Rattle.reiser_volume_files.specs.declared.map.RunFrom.TheVariants as from
use Rattle.reiser_volume_files.specs.Runs.{file_runs}
use Rattle.reiser_volume_objects.specs.declared.key.ObjectKey.{ObjectKey}
use Rattle.extent_pieces.specs.declared.parts.FileParts.{FileParts}
use Rattle.extent_pieces.specs.declared.run.OwnedRun.{OwnedRun}
use Rattle.extent_pieces.specs.declared.tail.Tail.{Tail}
use Rattle.reiser_volume.specs.Inline.{is_tail}
use Rattle.extent_pieces.specs.Files.{FileAt, files_among, symlinks_among, inline_files, tails}
use Rattle.std.specs.Prelude.{Option, Some, None}

-- what comes to the runs of owned blocks and to the tails, and the size of a file or symlink that stays in the tree
pub record Gain : Type 0 where
  pub owned : List OwnedRun
  pub tails : List Tail
  pub inline : Option ℕ

-- the greatest number of 64 bits stands for all that are greater
abbrev pub capped : ℕ → ℕ
capped n = min n (2 ^ 64 - 1)

-- the count of what stays in the tree, and its bytes
abbrev pub count_with : ℕ → Option ℕ → ℕ
count_with n None = n
count_with n (Some size) = capped (n + 1)

abbrev pub bytes_with : ℕ → Option ℕ → ℕ
bytes_with n None = n
bytes_with n (Some size) = capped (n + size)

pub record Gains (gain : Gain) (old new : FileParts) : Type 0 where
  pub owned : new.owned.items ≡ old.owned.items ++ gain.owned
  pub tails : new.tails.items ≡ old.tails.items ++ gain.tails
  pub inlines : new.inlines ≡ count_with old.inlines gain.inline
  pub bytes : new.inline_bytes ≡ bytes_with old.inline_bytes gain.inline

abbrev pub adds_inline : ℕ → Gain
adds_inline size = record { owned = []; tails = []; inline = Some size }

-- blocks of a file from one on
abbrev pub tails_from : ℕ → ℕ → ℕ → List Tail
tails_from inode at count = map (λ k. record { inode = inode; at = k }) (range_with_len at count)

abbrev pub adds_tails : ℕ → ℕ → ℕ → Gain
adds_tails inode at count = record { owned = []; tails = tails_from inode at count; inline = None }

-- the blocks that a run of a file's map owns, and its tails
abbrev pub owned_by_run : ℕ → ℕ → ℕ → RunFrom → List OwnedRun
owned_by_run inode at count (from.Disk first) = record { first = first; count = count; inode = inode; at = at } ∷ []
owned_by_run inode at count from.Tail = []

abbrev pub tails_by_run : ℕ → ℕ → ℕ → RunFrom → List Tail
tails_by_run inode at count (from.Disk first) = []
tails_by_run inode at count from.Tail = tails_from inode at count

abbrev pub owned_in : ℕ → FileRun → List OwnedRun
owned_in inode r = owned_by_run inode r.at r.count r.from

abbrev pub tails_in : ℕ → FileRun → List Tail
tails_in inode r = tails_by_run inode r.at r.count r.from

abbrev pub adds_run : ℕ → FileRun → Gain
adds_run inode r = record { owned = owned_in inode r; tails = tails_in inode r; inline = None }

-- the map is one run that lies in direct items
abbrev pub is_one_tail : List FileRun → Bool
is_one_tail [] = false
is_one_tail (r ∷ []) = is_tail (Some r.from)
is_one_tail (r ∷ (s ∷ runs)) = false

abbrev pub is_tail_alone : List FileRun → ℕ → Bool
is_tail_alone runs size = nat_le size 2048 && is_one_tail runs

abbrev pub adds_file : Bool → ℕ → List FileRun → ℕ → Gain
adds_file inline inode runs size =
    if inline && is_tail_alone runs size then adds_inline size
    else record { owned = flat_map (owned_in inode) runs; tails = flat_map (tails_in inode) runs; inline = None }

-- the runs of blocks that a file owns, in its order
abbrev pub file_owned : FileAt → List OwnedRun
file_owned f = flat_map (owned_in f.inode) (file_runs f.items f.size)

-- what some of the named objects have, beside the order of the runs
pub record CountedParts (inline : Bool) (items : List ReiserItem) (keys some : List ObjectKey) (parts : FileParts) : Type 0 where
  pub tails_are : parts.tails.items ≡ tails inline (files_among items keys some)
  pub inlines_are : parts.inlines ≡ capped (length (symlinks_among items keys some) + length (inline_files inline (files_among items keys some)))
  pub bytes_are : parts.inline_bytes ≡ capped (sum_by (λ f. f.size) (symlinks_among items keys some) + sum_by (λ f. f.size) (inline_files inline (files_among items keys some)))

-- the parts of some of the named objects, the runs in the order of the files
pub record Gathers (inline : Bool) (items : List ReiserItem) (keys some : List ObjectKey) (parts : FileParts) : Type 0 where
  pub owned_are : parts.owned.items ≡ flat_map file_owned (files_among items keys some)
  pub counted : CountedParts inline items keys some parts

-- the parts of all of them, the runs by their first blocks
pub record AreParts (inline : Bool) (items : List ReiserItem) (keys : List ObjectKey) (parts : FileParts) : Type 0 where
  pub owned_are : IsPermutation (flat_map file_owned (files_among items keys keys)) parts.owned.items
  pub ascending : IsNonDecreasingBy (λ r. r.first) parts.owned.items
  pub counted : CountedParts inline items keys keys parts
