-- The format of a disk, by block 16 and the disk's length.
use Rattle.rollback_core.proofs.Imports.{◌≡◌, ◌<◌, ◌≤◌, Bool, true, false, cond, List, [], ◌∷◌, length, Result, Err, Contains, inl, refl, sym, ◌∙◌, ap, subst, arith, nat_tests, SUPER_BLOCK, format_in, Image, block_at, BtrRefusal, format, Format, opening_refusals, refusals_after, super_on, IsReadable, SavedImage, Superblock, Super, HasReadableWay}
use Rattle.std.specs.Prelude.{nat_le}
use Rattle.reiser_bitmap.specs.vol_block.declared.format.Format.TheVariants as formats
use Rattle.rollback_core.proofs.RecoveryFormats.{has_format}

opening_refused : (disk : Image) (r : BtrRefusal) → super_on disk ≡ Err r → opening_refusals disk ≡ r ∷ []
unfolding opening_refusals
opening_refused disk r is = ap (λ (read : Result Super BtrRefusal). refusals_after disk read) is

-- what lies on the way to the saved image is readable only where the superblock is
pub super_readable : (disk : Image) → IsReadable disk SavedImage → IsReadable disk Superblock
super_readable disk way r is = way r (inl (subst (λ (rs : List BtrRefusal). Contains rs r) (sym (opening_refused disk r is)) (0, omega arith, refl)))

-- a volume with a way to an image is one of Btrfs
pub format_read : (disk : Image) → HasReadableWay disk → format_in disk ≡ formats.Btrfs
format_read disk way = (has_format.btrfs disk (super_readable disk way.readable)).0
