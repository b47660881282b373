-- What is found of a disk before its volume is looked at.
use Rattle.std.specs.Prelude.{◌≡◌}
use Rattle.btr_super.specs.btrfs_format.declared.block.TheConstants.{SUPER_BLOCK}
use Rattle.command_answers.specs.outside.Format.{format_in}
use Rattle.command_answers.specs.outside.History.{Image, block_at}
use Rattle.command_answers.specs.vol_block.declared.format.Format.TheVariants.{Btrfs}
use Rattle.convert_steps.specs.declared.finding.FormatFound.{FormatFound}

-- the format is that of the disk, and of a Btrfs volume the block is block 16
pub record IsFoundOn (disk : Image) (found : FormatFound) : Type 0 where
  pub format : found.format ≡ format_in disk
  pub block : found.format ≡ Btrfs → found.block.bytes ≡ block_at disk SUPER_BLOCK
