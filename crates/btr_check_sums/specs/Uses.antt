-- What a file extent asks of the checksums of blocks.
use Rattle.std.specs.Prelude.{◌≡◌, ℕ, ◌+◌, ◌==◌, Bool, false, not, ◌&&◌, ◌||◌, if◌then◌else◌, List, Option, Some, None, is_some}
use Rattle.std.specs.List.{list_any}
use Rattle.number_runs.specs.Runs.{is_among, is_in}
use Rattle.btr_check_rules.specs.declared.span.Span.{Span}
use Rattle.btr_check_sums.specs.Blocks.{has_block}
use Rattle.btr_check_sums.specs.declared.use_of_data.DataOf.{DataOf}
use Rattle.btr_check_sums.specs.declared.use_of_data.LaidOut.{LaidOut}
use Rattle.btr_check_sums.specs.declared.use_of_data.UsedBlocks.{UsedBlocks}
use Rattle.btr_check_sums.specs.declared.use_of_data.Uses.{Uses}

-- its disk extent, and the bytes that are read for it
abbrev pub disk_span : DataOf → Span
disk_span x = record { start = x.range.disk_bytenr; length = x.range.disk_num_bytes }

abbrev pub read_span : DataOf → Span
read_span x = if x.compression == 0 then record { start = x.range.disk_bytenr + x.range.offset; length = x.range.num_bytes } else disk_span x

-- its inode is there, and its data has checksums, or has none
abbrev pub has_sums : Option Bool → Bool
has_sums None = false
has_sums (Some sums) = sums

abbrev pub lacks_sums : Option Bool → Bool
lacks_sums None = false
lacks_sums (Some sums) = not sums

-- it is read and needs checksums, may have none, or is laid out only
abbrev pub wants_sums : DataOf → Bool
wants_sums x = x.is_read && (x.written && has_sums x.sums)

abbrev pub wants_none : DataOf → Bool
wants_none x = x.is_read && (x.written && lacks_sums x.sums)

abbrev pub is_laid_out : DataOf → Bool
is_laid_out x = x.is_read && (not x.written && is_some x.sums)

-- the same of a block; and whether a disk extent that begins at an address has written bytes
abbrev pub is_data : DataOf → ℕ → Bool
is_data x n = has_block (disk_span x) n

abbrev pub is_wanted : DataOf → ℕ → Bool
is_wanted x n = wants_sums x && has_block (read_span x) n

abbrev pub is_bare : DataOf → ℕ → Bool
is_bare x n = wants_none x && has_block (read_span x) n

abbrev pub is_laid : DataOf → ℕ → Bool
is_laid x n = is_laid_out x && has_block (read_span x) n

abbrev pub is_written_at : DataOf → ℕ → Bool
is_written_at x s = x.written && (x.range.disk_bytenr == s)

-- a block is laid out in an extent whose place passes a test
abbrev pub is_laid_in : (ℕ → Bool) → List LaidOut → ℕ → Bool
is_laid_in test laid n = list_any (λ l. test l.extent && is_in l.blocks n) laid

-- One more file extent was noted.
pub record AddsUse (x : DataOf) (old new : Uses) : Type 0 where
  pub data_is : (n : ℕ) → is_among new.data n ≡ (is_data x n || is_among old.data n)
  pub wanted_is : (n : ℕ) → is_among new.wanted n ≡ (is_wanted x n || is_among old.wanted n)
  pub bare_is : (n : ℕ) → is_among new.bare n ≡ (is_bare x n || is_among old.bare n)
  pub written_is : (s : ℕ) → is_among new.written s ≡ (is_written_at x s || is_among old.written s)
  pub laid_is : (test : ℕ → Bool) (n : ℕ) → is_laid_in test new.laid.items n ≡ (is_laid_in test old.laid.items n || (test x.range.disk_bytenr && is_laid x n))

-- What is laid out alone may have no checksums either.
abbrev pub lies_bare : Uses → ℕ → Bool
lies_bare uses n = is_laid_in (λ s. not (is_among uses.written s)) uses.laid.items n

-- the sets of all that was noted
pub record AreUsesOf (uses : Uses) (used : UsedBlocks) : Type 0 where
  pub data_is : (n : ℕ) → is_among used.data n ≡ is_among uses.data n
  pub wanted_is : (n : ℕ) → is_among used.wanted n ≡ is_among uses.wanted n
  pub bare_is : (n : ℕ) → is_among used.bare n ≡ (is_among uses.bare n || lies_bare uses n)
