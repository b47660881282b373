-- What was found of a block 16 that is to be put back.
use Rattle.std.specs.Prelude.{◌≡◌, ◌<◌, true, false, Option, Some, None, length}
use Rattle.outside.specs.btrfs_format.declared.block.TheConstants.{SUPER_BLOCK}
use Rattle.outside.specs.History.{Image, block_at}
use Rattle.super_turn.specs.PutBack.{copy_place, is_half_turned}
use Rattle.super_turn.specs.declared.back.FoundBefore.{FoundBefore}

-- block 16 and the block that its mark names, exactly where it is half turned
abbrev pub IsFoundBefore : Image → Option FoundBefore → Type 0
IsFoundBefore image None = is_half_turned image ≡ false
IsFoundBefore image (Some found) =
    (is_half_turned image ≡ true) × (found.block.bytes ≡ block_at image SUPER_BLOCK) × (found.before.bytes ≡ block_at image (copy_place image))
