-- The format of a disk whose volume is in order.
use Rattle.rollback_core.proofs.Imports.{◌≡◌, ◌∙◌, ℕ, zero, suc, ◌+◌, ◌*◌, ◌<◌, Bool, true, false, cond, nat_lt, nat_le, List, [], ◌∷◌, length, get_or, drop, codes, Result, Ok, Err, refl, sym, subst, arith, nat_eq, starts_with, and_parts, eqb-true, nat_tests, get_or-drop, SUPER_BLOCK, SUPER_MAGIC_OFFSET, format_in, Image, block_at, BtrRefusal, super_on, IsReadable, Superblock, super_of, Super, IsFrontAccepted, accepted_front, has_bytes_at, has_reiser_magic, field, Format, Reiser, Btrfs, Neither, InOrderHasFormat, IsInOrder, IsRecoverable}
use Rattle.rollback_core.proofs.Supers.{super_magic}

-- ---- the two magics
starts_get : (xs ys : List ℕ) (i : ℕ) → i < length ys → starts_with nat_eq xs ys ≡ true → get_or xs i 0 ≡ get_or ys i 0
starts_get xs [] i less is = absurd (omega (arith, less))
starts_get [] (y ∷ ys) i less is = absurd cc
starts_get (x ∷ xs) (y ∷ ys) zero less is = sym (eqb-true y x (and_parts (nat_eq y x) (starts_with nat_eq xs ys) is).0)
starts_get (x ∷ xs) (y ∷ ys) (suc i) less is = starts_get xs ys i (omega (arith, less)) (and_parts (nat_eq y x) (starts_with nat_eq xs ys) is).1

-- where a Btrfs superblock has its magic, a ReiserFS superblock has a tree that is too high
high : (bytes : List ℕ) → has_bytes_at bytes SUPER_MAGIC_OFFSET (codes "_BHRfS_M") ≡ true → 7 < field 2 bytes 68
high bytes is =
    let fifth : get_or (drop 64 bytes) 4 0 ≡ 0x66 = starts_get (drop 64 bytes) (codes "_BHRfS_M") 4 (omega arith) is in
    let low : get_or (drop 68 bytes) 0 0 ≡ 0x66 = get_or-drop 68 bytes 0 0 ∙ (sym (get_or-drop 64 bytes 4 0) ∙ fifth) in
    let whole : 7 < get_or (drop 68 bytes) 0 0 + 256 * (get_or (drop 68 bytes) 1 0 + 256 * 0) = omega (arith, low) in
    whole

not_true : (t : Bool) → (t ≡ true → ⊥) → t ≡ false
not_true true never = absurd (never refl)
not_true false never = refl

-- ---- the format by the two
chosen_reiser : (short btrfs reiser : Bool) → short ≡ false → btrfs ≡ false → reiser ≡ true → cond short Neither (cond btrfs Btrfs (cond reiser Reiser Neither)) ≡ Reiser
chosen_reiser false false true long other is = refl
chosen_reiser true btrfs reiser long other is = absurd cc
chosen_reiser false true reiser long other is = absurd cc
chosen_reiser false false false long other is = absurd cc

chosen_btrfs : (short btrfs : Bool) (other : Format) → short ≡ false → btrfs ≡ true → cond short Neither (cond btrfs Btrfs other) ≡ Btrfs
chosen_btrfs false true other long is = refl
chosen_btrfs true btrfs other long is = absurd cc
chosen_btrfs false false other long is = absurd cc

long_enough : (n : ℕ) → 16 < n → nat_le n 16 ≡ false
long_enough n long = grind (arith, nat_tests, long)

-- a ReiserFS superblock has no magic of Btrfs
pub other_magic : (image : Image) → IsFrontAccepted image → has_bytes_at (block_at image SUPER_BLOCK) SUPER_MAGIC_OFFSET (codes "_BHRfS_M") ≡ false
other_magic image a =
    not_true (has_bytes_at (block_at image SUPER_BLOCK) SUPER_MAGIC_OFFSET (codes "_BHRfS_M")) (λ is. omega (arith, high (block_at image SUPER_BLOCK) is, a.clean.superblock.bounds.height_high))

-- one of Btrfs has it
magic_by : (short btrfs reiser : Bool) → cond short Neither (cond btrfs Btrfs (cond reiser Reiser Neither)) ≡ Btrfs → btrfs ≡ true
magic_by false true reiser is = refl
magic_by true btrfs reiser is = absurd cc
magic_by false false true is = absurd cc
magic_by false false false is = absurd cc

pub btrfs_magic : (image : Image) → format_in image ≡ Btrfs → has_bytes_at (block_at image SUPER_BLOCK) SUPER_MAGIC_OFFSET (codes "_BHRfS_M") ≡ true
btrfs_magic image is = magic_by (nat_le (length image) 16) (has_bytes_at (block_at image SUPER_BLOCK) SUPER_MAGIC_OFFSET (codes "_BHRfS_M")) (has_reiser_magic (block_at image SUPER_BLOCK)) is

reiser_format : (image : Image) → IsFrontAccepted image → format_in image ≡ Reiser
reiser_format image a =
    let other : has_bytes_at (block_at image SUPER_BLOCK) SUPER_MAGIC_OFFSET (codes "_BHRfS_M") ≡ false = other_magic image a in
    chosen_reiser (nat_le (length image) 16) (has_bytes_at (block_at image SUPER_BLOCK) SUPER_MAGIC_OFFSET (codes "_BHRfS_M")) (has_reiser_magic (block_at image SUPER_BLOCK)) (long_enough (length image) a.clean.superblock.there) other a.clean.superblock.magic

btrfs_format : (image : Image) (s : Super) → super_of (block_at image SUPER_BLOCK) SUPER_BLOCK (length image) ≡ Ok s → format_in image ≡ Btrfs
btrfs_format image s read =
    let parts = and_parts (nat_lt 16 (length image)) (has_bytes_at (block_at image SUPER_BLOCK) SUPER_MAGIC_OFFSET (codes "_BHRfS_M")) (super_magic (block_at image SUPER_BLOCK) (length image) s read) in
    let long : nat_le (length image) 16 ≡ false = grind (arith, nat_tests, parts.0) in
    chosen_btrfs (nat_le (length image) 16) (has_bytes_at (block_at image SUPER_BLOCK) SUPER_MAGIC_OFFSET (codes "_BHRfS_M")) (cond (has_reiser_magic (block_at image SUPER_BLOCK)) Reiser Neither) long parts.1

by_front : (image : Image) → IsFrontAccepted image → (format_in image ≡ Reiser) × IsRecoverable image
by_front image a = (reiser_format image a, subst (λ (f : Format). IsInOrder f image) (sym (reiser_format image a)) a)

by_super : (image : Image) (read : Result Super BtrRefusal) → super_on image ≡ read → IsReadable image Superblock → (format_in image ≡ Btrfs) × IsRecoverable image
by_super image (Ok s) is readable = (btrfs_format image s is, subst (λ (f : Format). IsInOrder f image) (sym (btrfs_format image s is)) (s, is))
by_super image (Err r) is readable = absurd (readable r is)

pub has_format : InOrderHasFormat
has_format = record {
  reiser = by_front;
  accepted = λ image a. by_front image (accepted_front image a);
  btrfs = λ image readable. by_super image (super_on image) refl readable;
}
