-- Which blocks are system blocks.
use Rattle.reiser_bitmap.proofs.Imports.{◌≡◌, ◌⊎◌, ℕ, zero, suc, ◌+◌, ◌*◌, ◌/◌, ◌<◌, ◌≤◌, ◌==◌, Bool, true, false, List, length, inl, inr, refl, sym, ap, arith, subst, ⊎_elim, filter, Contains, All, range_with_len, ne_eqb, eq-eqb, eqb-true, Contains-append_left, Contains-append_right, Contains-append_cases, BITS_IN_BLOCK, FIRST_BITMAP_BLOCK, SUPER_BLOCK, Damaged, SystemFree, has, bitmap_block, is_bitmap_block, system_blocks, NamesFreeBlock}
use Rattle.refusals.specs.declared.refusal.VolumeRefusal.{VolumeRefusal}
use Rattle.reiser_bitmap.proofs.Ranges.{contains_head, contains_tail, contains_cases, contains_range, range_contains, contains_filter, filter_contains, all_from_contains}

pub bitmap_block-zero : bitmap_block 0 ≡ FIRST_BITMAP_BLOCK
bitmap_block-zero = refl

pub bitmap_block-suc : (k : ℕ) → bitmap_block (suc k) ≡ BITS_IN_BLOCK * suc k
bitmap_block-suc k = let no : (suc k == 0) ≡ false = ne_eqb (suc k) 0 (λ e. absurd (omega (arith, e))) in rw no refl

-- a bitmap block holds its own bit
place_of : (k : ℕ) → bitmap_block k / BITS_IN_BLOCK ≡ k
place_of zero = refl
place_of (suc k) = rw (bitmap_block-suc k) (omega arith)

pub bitmap_block_is : (k : ℕ) → is_bitmap_block (bitmap_block k) ≡ true
bitmap_block_is k = let same : bitmap_block k ≡ bitmap_block (bitmap_block k / BITS_IN_BLOCK) = ap bitmap_block (sym (place_of k)) in eq-eqb _ _ same

pub superblock_in : (n first size : ℕ) → Contains (system_blocks n first size) SUPER_BLOCK
unfolding system_blocks
superblock_in n first size = contains_head SUPER_BLOCK _

pub bitmap_in : (n first size k : ℕ) → bitmap_block k < n → Contains (system_blocks n first size) (bitmap_block k)
unfolding system_blocks
bitmap_in n first size k h =
    contains_tail _ _ _ (Contains-append_left (filter is_bitmap_block (range_with_len 0 n)) (range_with_len first (size + 1)) (bitmap_block k)
    (contains_filter is_bitmap_block (range_with_len 0 n) (bitmap_block k) (bitmap_block_is k) (contains_range 0 n (bitmap_block k) (omega arith) (omega arith))))

pub journal_in : (n first size b : ℕ) → first ≤ b → b < first + size + 1 → Contains (system_blocks n first size) b
unfolding system_blocks
journal_in n first size b low high =
    contains_tail _ _ _ (Contains-append_right (filter is_bitmap_block (range_with_len 0 n)) (range_with_len first (size + 1)) b (contains_range first (size + 1) b low (omega arith)))

-- a system block is the superblock, a bitmap block of the volume, or one of the journal
pub system_cases : (n first size b : ℕ) → Contains (system_blocks n first size) b → (SUPER_BLOCK ≡ b) ⊎ (((b < n) × (is_bitmap_block b ≡ true)) ⊎ ((first ≤ b) × (b < first + (size + 1))))
unfolding system_blocks
system_cases n first size b h =
    ⊎_elim (λ same. inl same)
    (λ later. inr (⊎_elim
    (λ bitmap. let kept = filter_contains is_bitmap_block (range_with_len 0 n) b bitmap in
    let inside = range_contains 0 n b kept.0 in inl (omega (arith, inside.1), kept.1))
    (λ journal. inr (range_contains first (size + 1) b journal))
    (Contains-append_cases (filter is_bitmap_block (range_with_len 0 n)) (range_with_len first (size + 1)) b later)))
    (contains_cases b SUPER_BLOCK _ h)

-- what holds of the superblock, of each bitmap block and of the journal holds of all system blocks
pub all_system : (P : ℕ → Type 0) (n first size : ℕ) → P SUPER_BLOCK → ((k : ℕ) → k < n / BITS_IN_BLOCK + 1 → bitmap_block k < n → P (bitmap_block k)) → ((b : ℕ) → first ≤ b → b < first + size + 1 → P b)
    → All P (system_blocks n first size)
all_system P n first size superblock bitmap journal =
    all_from_contains P (system_blocks n first size) (λ b h.
    ⊎_elim (λ same. subst P same superblock)
    (λ other. ⊎_elim
    (λ is. let own : b ≡ bitmap_block (b / BITS_IN_BLOCK) = eqb-true _ _ is.1 in
    let inside : bitmap_block (b / BITS_IN_BLOCK) < n = omega (arith, own, is.0) in
    subst P (sym own) (bitmap (b / BITS_IN_BLOCK) (omega (arith, is.0)) inside))
    (λ is. journal b is.0 (omega (arith, is.1)))
    other)
    (system_cases n first size b h))

pub names_free : (used : List Bool) (first size b : ℕ) (e : VolumeRefusal) → e ≡ Damaged b SystemFree → Contains (system_blocks (length used) first size) b → false ≡ has used b → NamesFreeBlock used first size e
names_free used first size b e is inside free = (b, is, inside, sym free)
