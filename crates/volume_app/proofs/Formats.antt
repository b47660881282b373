-- The format of a disk, by block 16 and the disk's length, and what it comes to.
use Rattle.volume_app.proofs.Imports.{◌≡◌, ◌<◌, ◌≤◌, Bool, true, false, cond, length, refl, ◌∙◌, arith, ◌≢◌, nat_le, nat_tests, SUPER_BLOCK, Format, format, has_reiser_magic, Image, block_at, IsAccepted, format_in}
use Rattle.reiser_volume.specs.vol_block.declared.format.Format.TheVariants as formats

format_cases : (btrfs reiser : Bool) → cond btrfs formats.Btrfs (cond reiser formats.Reiser formats.Neither) ≢ formats.Btrfs → reiser ≡ true
    → cond btrfs formats.Btrfs (cond reiser formats.Reiser formats.Neither) ≡ formats.Reiser
format_cases true reiser other is = absurd (other refl)
format_cases false true other is = refl
format_cases false false other is = cc

by_block : (b : Bool) (f : Format) → b ≡ false → cond b formats.Neither f ≡ f
by_block false f is = refl
by_block true f is = cc

-- a disk that has block 16 has the format of that block
pub format_long : (disk : Image) → 16 < length disk → format_in disk ≡ format (block_at disk SUPER_BLOCK)
format_long disk long =
    let no : nat_le (length disk) 16 ≡ false = grind (arith, nat_tests) in
    by_block (nat_le (length disk) 16) (format (block_at disk SUPER_BLOCK)) no

-- an accepted volume that is not one of Btrfs has the format of ReiserFS
pub reiser_found : (disk : Image) → IsAccepted disk → format_in disk ≢ formats.Btrfs → format_in disk ≡ formats.Reiser
reiser_found disk accepted other =
    let long = format_long disk accepted.clean.superblock.there in
    long ∙ format_cases _ (has_reiser_magic (block_at disk SUPER_BLOCK)) (λ is. other (long ∙ is)) accepted.clean.superblock.magic
