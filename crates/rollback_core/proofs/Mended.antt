-- What is to stand in the blocks of copies, and how many of them are to change.
use Rattle.rollback_core.proofs.Imports.{◌≡◌, ◌≢◌, ◌∙◌, ℕ, ◌+◌, Bool, true, false, cond, not, ◌&&◌, nat_lt, List, [], ◌∷◌, length, Some, None, codes, refl, sym, ap, true≢false, ◌⊎◌, inl, inr, ⊎_elim, ◌<◌, ◌≤◌, bytes_eq, bytes_eq-Decides, FIRST_MIRROR, SECOND_MIRROR, SUPER_BLOCK, SUPER_MAGIC_OFFSET, Image, block_at, mirror_bytes, has, superblock, used_of, has_bytes_at, zeros, Block, Format, Reiser, Btrfs, Neither, Gives, blocks_of, copied, mended_by, wiped, copy_blocks, IsMirror, and_parts, cases_eq}
use Rattle.std.specs.Prelude.{filter}
use Rattle.reiser_volume.specs.reiser_super.Superblock.{superblock_fields}

-- ---- one of two lists
same_both : (t : Bool) (z : List ℕ) → cond t z z ≡ z
same_both true z = refl
same_both false z = refl

chosen_again : (test : List ℕ → Bool) (z bytes : List ℕ) → cond (test (cond (test bytes) z bytes)) z (cond (test bytes) z bytes) ≡ cond (test bytes) z bytes
chosen_again test z bytes =
    elim (test bytes) as (λ t. test bytes ≡ t → cond (test (cond t z bytes)) z (cond t z bytes) ≡ cond t z bytes) [
      | true ↦ λ is. same_both (test z) z
      | false ↦ λ is. ap (λ (t : Bool). cond t z bytes) is
    ] refl

taken_again : (t : Bool) (z bytes : List ℕ) → cond t z (cond t z bytes) ≡ cond t z bytes
taken_again true z bytes = refl
taken_again false z bytes = refl

-- ---- mending again
-- the block is to become zeros
abbrev pub is_stale : ℕ → List Bool → ℕ → List ℕ → Bool
is_stale blocks used b bytes = nat_lt (b + 1) blocks && (not (has used b) && has_bytes_at bytes SUPER_MAGIC_OFFSET (codes "_BHRfS_M"))

wipe_again : (blocks : ℕ) (used : List Bool) (b : ℕ) (bytes : List ℕ) → wiped blocks used b (wiped blocks used b bytes) ≡ wiped blocks used b bytes
unfolding wiped
wipe_again blocks used b bytes = chosen_again (is_stale blocks used b) zeros bytes

copy_again : (blocks : ℕ) (superblock : List ℕ) (b : ℕ) (bytes : List ℕ) → copied blocks superblock b (copied blocks superblock b bytes) ≡ copied blocks superblock b bytes
unfolding copied
copy_again blocks superblock b bytes = taken_again (nat_lt (b + 1) blocks) (mirror_bytes b superblock) bytes

pub mend_again : (f : Format) (image : Image) (b : ℕ) (bytes : List ℕ) → mended_by f image b (mended_by f image b bytes) ≡ mended_by f image b bytes
mend_again Reiser image b bytes = wipe_again (superblock image).blocks (used_of image) b bytes
mend_again Btrfs image b bytes = copy_again (blocks_of (block_at image SUPER_BLOCK)) (block_at image SUPER_BLOCK) b bytes
mend_again Neither image b bytes = refl

-- a disk with the same superblock, and of ReiserFS with the same used blocks, is mended alike
pub mend_same : (f : Format) (image other : Image) → block_at other SUPER_BLOCK ≡ block_at image SUPER_BLOCK → (f ≡ Reiser → used_of other ≡ used_of image) → (b : ℕ) (bytes : List ℕ) → mended_by f other b bytes ≡ mended_by f image b bytes
mend_same Reiser image other same used b bytes =
    ap (λ (sb : List ℕ). wiped (superblock_fields sb).blocks (used_of other) b bytes) same ∙ ap (λ (set : List Bool). wiped (superblock image).blocks set b bytes) (used refl)
mend_same Btrfs image other same used b bytes = ap (λ (sb : List ℕ). copied (blocks_of sb) sb b bytes) same
mend_same Neither image other same used b bytes = refl

-- a used block of a ReiserFS volume stays
used_chosen : (low had magic : Bool) (z bytes : List ℕ) → had ≡ true → cond (low && (not had && magic)) z bytes ≡ bytes
used_chosen true true magic z bytes is = refl
used_chosen false had magic z bytes is = refl
used_chosen true false magic z bytes is = absurd cc

pub used_stays : (blocks : ℕ) (used : List Bool) (b : ℕ) (bytes : List ℕ) → has used b ≡ true → wiped blocks used b bytes ≡ bytes
unfolding wiped
used_stays blocks used b bytes is = used_chosen (nat_lt (b + 1) blocks) (has used b) (has_bytes_at bytes SUPER_MAGIC_OFFSET (codes "_BHRfS_M")) zeros bytes is

not_zeros : (bytes : List ℕ) → has_bytes_at bytes SUPER_MAGIC_OFFSET (codes "_BHRfS_M") ≡ true → zeros ≢ bytes
not_zeros bytes is same = true≢false (sym is ∙ ap (λ (z : List ℕ). has_bytes_at z SUPER_MAGIC_OFFSET (codes "_BHRfS_M")) (sym same))

-- the copy stands where the volume has the block
low_chosen : (t : Bool) (z bytes : List ℕ) → t ≡ true → cond t z bytes ≡ z
low_chosen true z bytes is = refl
low_chosen false z bytes is = absurd cc

pub copy_wanted : (blocks : ℕ) (superblock : List ℕ) (b : ℕ) (bytes : List ℕ) → nat_lt (b + 1) blocks ≡ true → copied blocks superblock b bytes ≡ mirror_bytes b superblock
unfolding copied
copy_wanted blocks superblock b bytes low = low_chosen (nat_lt (b + 1) blocks) (mirror_bytes b superblock) bytes low

high_chosen : (t : Bool) (z bytes : List ℕ) → t ≡ false → cond t z bytes ≡ bytes
high_chosen true z bytes is = absurd cc
high_chosen false z bytes is = refl

pub copy_beyond : (blocks : ℕ) (superblock : List ℕ) (b : ℕ) (bytes : List ℕ) → nat_lt (b + 1) blocks ≡ false → copied blocks superblock b bytes ≡ bytes
unfolding copied
copy_beyond blocks superblock b bytes high = high_chosen (nat_lt (b + 1) blocks) (mirror_bytes b superblock) bytes high

-- ---- what differs
not_true : (t : Bool) → (t ≡ true → ⊥) → t ≡ false
not_true true never = absurd (never refl)
not_true false never = refl

pub same_bytes : (xs ys : List ℕ) → xs ≡ ys → not (bytes_eq xs ys) ≡ false
same_bytes xs ys is = ap not ((bytes_eq-Decides xs ys).1 is)

two_tests : (s t : Bool) → length {A = ℕ} (cond s (FIRST_MIRROR ∷ cond t (SECOND_MIRROR ∷ []) []) (cond t (SECOND_MIRROR ∷ []) [])) ≡ cond s 1 0 + cond t 1 0
two_tests true true = refl
two_tests true false = refl
two_tests false true = refl
two_tests false false = refl

-- how many of the two blocks of copies pass a test
pub two_of : (P : ℕ → Bool) (s t : Bool) → P FIRST_MIRROR ≡ s → P SECOND_MIRROR ≡ t → length (filter P copy_blocks) ≡ cond s 1 0 + cond t 1 0
two_of P s t first second =
    ap (λ (u : Bool). length {A = ℕ} (cond u (FIRST_MIRROR ∷ cond (P SECOND_MIRROR) (SECOND_MIRROR ∷ []) []) (cond (P SECOND_MIRROR) (SECOND_MIRROR ∷ []) []))) first
    ∙ (ap (λ (u : Bool). length {A = ℕ} (cond s (FIRST_MIRROR ∷ cond u (SECOND_MIRROR ∷ []) []) (cond u (SECOND_MIRROR ∷ []) []))) second ∙ two_tests s t)

-- no Btrfs superblock is left in a block without use
clean_chosen : (low had : Bool) (bytes : List ℕ) → low ≡ true → had ≡ false
    → has_bytes_at (cond (low && (not had && has_bytes_at bytes SUPER_MAGIC_OFFSET (codes "_BHRfS_M"))) zeros bytes) SUPER_MAGIC_OFFSET (codes "_BHRfS_M") ≡ false
clean_chosen true false bytes below free =
    elim (has_bytes_at bytes SUPER_MAGIC_OFFSET (codes "_BHRfS_M")) as (λ t. has_bytes_at bytes SUPER_MAGIC_OFFSET (codes "_BHRfS_M") ≡ t → has_bytes_at (cond t zeros bytes) SUPER_MAGIC_OFFSET (codes "_BHRfS_M") ≡ false) [
      | true ↦ λ is. refl
      | false ↦ λ is. is
    ] refl
clean_chosen true true bytes below free = absurd cc
clean_chosen false had bytes below free = absurd cc

pub wiped_clean : (blocks : ℕ) (used : List Bool) (b : ℕ) (bytes : List ℕ) → nat_lt (b + 1) blocks ≡ true → has used b ≡ false → has_bytes_at (wiped blocks used b bytes) SUPER_MAGIC_OFFSET (codes "_BHRfS_M") ≡ false
unfolding wiped
wiped_clean blocks used b bytes low free = clean_chosen (nat_lt (b + 1) blocks) (has used b) bytes low free

-- a block is written where something else is to stand than does
pub gives_same : (bytes wanted : List ℕ) → wanted ≡ bytes → Gives bytes wanted None
gives_same bytes wanted same = record { bytes_are = sym same; needed = sym (same_bytes wanted bytes same) }

pub gives_other : (bytes wanted : List ℕ) (block : Block) → block.bytes ≡ wanted → wanted ≢ bytes → Gives bytes wanted (Some block)
gives_other bytes wanted block is other = record { bytes_are = is; needed = sym (ap not (not_true (bytes_eq wanted bytes) (λ same. other ((bytes_eq-Decides wanted bytes).0 same)))) }

-- zeros exactly where it is stale
pub stale_gives : (blocks : ℕ) (used : List Bool) (b : ℕ) (bytes : List ℕ) (block : Block) → block.bytes ≡ zeros → is_stale blocks used b bytes ≡ true → Gives bytes (wiped blocks used b bytes) (Some block)
unfolding wiped
stale_gives blocks used b bytes block is stale =
    let wanted : wiped blocks used b bytes ≡ zeros = low_chosen (is_stale blocks used b bytes) zeros bytes stale in
    let magic = (and_parts _ _ (and_parts _ _ stale).1).1 in
    gives_other bytes _ block (is ∙ sym wanted) (λ same. not_zeros bytes magic (sym wanted ∙ same))

pub fresh_gives : (blocks : ℕ) (used : List Bool) (b : ℕ) (bytes : List ℕ) → is_stale blocks used b bytes ≡ false → Gives bytes (wiped blocks used b bytes) None
unfolding wiped
fresh_gives blocks used b bytes fresh = gives_same bytes _ (high_chosen (is_stale blocks used b bytes) zeros bytes fresh)

-- ---- the blocks of copies
pub mirror_or : (b : ℕ) → IsMirror b ⊎ (IsMirror b → ⊥)
mirror_or b =
    ⊎_elim (λ one. inl (inl one)) (λ not_one. ⊎_elim (λ two. inl (inr two)) (λ not_two. inr (λ mirror. ⊎_elim not_one not_two mirror)) (cases_eq b SECOND_MIRROR)) (cases_eq b FIRST_MIRROR)
