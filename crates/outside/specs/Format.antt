-- The format of a disk.
use Rattle.std.specs.Prelude.{length, nat_le, if◌then◌else◌}
use Rattle.vol_block.specs.btrfs_format.declared.block.TheConstants.{SUPER_BLOCK}
use Rattle.vol_block.specs.declared.format.Format.{Format}
use Rattle.vol_block.specs.declared.format.Format.TheVariants.{Neither}
use Rattle.vol_block.specs.Format.{format}
use Rattle.outside.specs.History.{Image, block_at}

-- the format of block 16; without that block it is neither
abbrev pub format_in : Image → Format
format_in disk = if nat_le (length disk) 16 then Neither else format (block_at disk SUPER_BLOCK)
