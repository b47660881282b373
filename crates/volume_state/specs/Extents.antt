-- Reserved blocks in which the disk extent of one file extent lies.
use Rattle.std.specs.Prelude.{◌≡◌, ℕ, List, Option, Some, None}
use Rattle.btr_node.specs.btr_keys.declared.file_extent.DiskRange.{DiskRange}
use Rattle.btr_reader_walk.specs.declared.map.MapRange.{MapRange}
use Rattle.volume_state.specs.Using.{LieIn, TellsReserved}

-- a reserved block in which the disk extent of a range lies, if there is a range
abbrev pub TellsRange : List MapRange → ℕ → Option DiskRange → Option ℕ → Type 0
TellsRange ranges blocks None told = told ≡ None
TellsRange ranges blocks (Some r) told = TellsReserved (λ b. LieIn ranges r.disk_bytenr r.disk_num_bytes b) blocks told
