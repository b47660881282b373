-- The bytes of a file as a function from the number of a byte.
use Rattle.std.specs.Prelude.{ℕ, nat_lt, List, if◌then◌else◌}
use Rattle.btr_reader_walk.specs.outside.History.{Image}
use Rattle.btr_reader_walk.specs.declared.map.MapRange.{MapRange}
use Rattle.btr_reader_walk.specs.Events.{TreeItem}
use Rattle.btr_reader_contents.specs.Extents.{file_byte}

-- the bytes of a file of these extents, 0 from the size on
abbrev pub content : Image → List MapRange → List TreeItem → ℕ → ℕ → ℕ
content image ranges extents size n = if nat_lt n size then file_byte image ranges extents n else 0
