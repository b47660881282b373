-- What is made of the used blocks of a volume, and of its rows.
use Rattle.std.specs.Prelude.{ℕ, ◌-◌, ◌^◌, Bool, ◌&&◌, List, map, length, min, sum, if◌then◌else◌}
use Rattle.reiser_volume.specs.fs_rows.Kinds.{is_file}
use Rattle.reiser_volume.specs.fs_rows.Mark.{mark_of}
use Rattle.reiser_volume.specs.fs_rows.Rows.{is_same_path}
use Rattle.reiser_volume.specs.fs_rows.declared.row.Row.{Row}
use Rattle.reiser_bitmap.specs.outside.History.{Image, block_at}
use Rattle.reiser_bitmap.specs.Bits.{used_blocks}
use Rattle.trial_core.specs.declared.summary.TrialSummary.{TrialSummary}

-- blocks with their numbers
abbrev pub numbered : Image → List ℕ → List (ℕ × List ℕ)
numbered image blocks = map (λ b. (b, block_at image b)) blocks

-- the mark of the used blocks, each with its number
abbrev pub used_mark : List Bool → Image → List ℕ
used_mark used image = mark_of (numbered image (used_blocks used))

-- the bytes that a row adds: a file is counted at the least of its paths
abbrev pub counted : Row → ℕ
counted row = if is_file row.kind && is_same_path row.path row.least then row.length else 0

-- what is told of rows: how many there are, and the bytes of their files
abbrev pub summary_of : List Row → TrialSummary
summary_of rows = record { rows = length rows; bytes = min (sum (map counted rows)) (2 ^ 64 - 1) }
