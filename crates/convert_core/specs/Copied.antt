-- Where the copy of block 16 lies among the pieces of a conversion.
use Rattle.std.specs.Prelude.{ℕ, ◌==◌, Bool, false, if◌then◌else◌, List, [], ◌∷◌, Option, Some, None}
use Rattle.btr_tree_writer.specs.btrfs_format.declared.block.TheConstants.{SUPER_BLOCK}
use Rattle.unit_plan.specs.declared.piece.Piece.{Piece}

-- the first block that a piece holds is that of the superblock
abbrev pub begins_with_super : Option ℕ → Bool
begins_with_super None = false
begins_with_super (Some b) = b == SUPER_BLOCK

-- where the first such piece lies; without one block 16 itself
abbrev pub copy_in : List Piece → ℕ
copy_in [] = SUPER_BLOCK
copy_in (p ∷ ps) = if begins_with_super p.from then p.place else copy_in ps
