-- The order of the pieces of a file.
use Rattle.std.specs.Prelude.{◌+◌, ◌≤◌, List, AllPairs}
use Rattle.btr_reader.specs.declared.mapped_extent.MappedExtent.{MappedExtent}

-- one piece ends where another begins, or before
abbrev pub IsExtentBefore : MappedExtent → MappedExtent → Type 0
IsExtentBefore p q = p.first + p.count ≤ q.first

-- the pieces ascend, and none overlaps another
abbrev pub AscendApart : List MappedExtent → Type 0
AscendApart pieces = AllPairs IsExtentBefore pieces
