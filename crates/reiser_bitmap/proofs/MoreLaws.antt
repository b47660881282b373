-- What lies in the lists of used blocks and of system blocks, and which blocks a bitmap depends on.
use Rattle.reiser_bitmap.proofs.Imports.{◌≡◌, ℕ, zero, suc, ◌+◌, ◌*◌, ◌/◌, ◌%◌, ◌<◌, ◌≤◌, ◌==◌, ◌&&◌, ◌||◌, leb, Bool, true, false, List, length, sym, ap, arith, subst, ⊎_elim, Contains, ◌↔◌, range_with_len, cases_lt, both_ways, eqb-true, eq-eqb, and_parts, and_from, or_cases, or_left, or_right, le-leb, leb-true, get_or_past, BITS_IN_BLOCK, FIRST_FREE_BLOCK, SUPER_BLOCK, Image, block_at, bit_of, has, used_blocks, bitmap_block, is_marked, bitmap_of, is_bitmap_block, is_system, system_blocks}
use Rattle.reiser_bitmap.proofs.Ranges.{contains_range, contains_filter, filter_contains}
use Rattle.reiser_bitmap.proofs.SystemBlocks.{superblock_in, bitmap_in, journal_in, system_cases, bitmap_block-zero, bitmap_block-suc}
use Rattle.reiser_bitmap.proofs.LoadLemmas.{same_tests}

pub used_had : (set : List Bool) (b : ℕ) → Contains (used_blocks set) b ↔ (has set b ≡ true)
unfolding used_blocks
used_had set b = (
  λ h. (filter_contains (has set) (range_with_len 0 (length set)) b h).1,
  λ t. let inside : b < length set = ⊎_elim (λ (h : b < length set). h) (λ (h : length set ≤ b). absurd (both_ways (has set b) (get_or_past set b false h) t)) (cases_lt b (length set)) in
      contains_filter (has set) (range_with_len 0 (length set)) b t (contains_range 0 (length set) b (omega arith) (omega arith)),
)

-- a bitmap block of the volume is before each block whose bit it holds, but for the first
below_its_blocks : (n k : ℕ) → FIRST_FREE_BLOCK ≤ n → BITS_IN_BLOCK * k < n → bitmap_block k < n
below_its_blocks n zero low h = omega (arith, bitmap_block-zero)
below_its_blocks n (suc k) low h = omega (arith, bitmap_block-suc k)

pub bitmap_decided : (n : ℕ) (a b : Image) → FIRST_FREE_BLOCK ≤ n → ((k : ℕ) → bitmap_block k < n → block_at a (bitmap_block k) ≡ block_at b (bitmap_block k)) → bitmap_of n a ≡ bitmap_of n b
bitmap_decided n a b low same =
    same_tests (is_marked a) (is_marked b) n (λ i h.
    ap (λ (bytes : List ℕ). bit_of bytes (i % BITS_IN_BLOCK)) (same (i / BITS_IN_BLOCK) (below_its_blocks n (i / BITS_IN_BLOCK) low (omega arith))))

pub system_pass : (n first size b : ℕ) → SUPER_BLOCK < n → first + size < n → Contains (system_blocks n first size) b ↔ ((b < n) × (is_system first size b ≡ true))
system_pass n first size b superblock journal = (
  λ h. ⊎_elim
      (λ (same : SUPER_BLOCK ≡ b). (omega (arith, same), or_left (b == SUPER_BLOCK) _ (eq-eqb b SUPER_BLOCK (sym same))))
      (λ other. ⊎_elim
      (λ bitmap. (omega (arith, bitmap.0), or_right (b == SUPER_BLOCK) _ (or_left (is_bitmap_block b) _ bitmap.1)))
      (λ log. (omega (arith, log.0, log.1), or_right (b == SUPER_BLOCK) _ (or_right (is_bitmap_block b) _ (and_from _ _ (le-leb first b log.0) (le-leb b (first + size) (omega (arith, log.1)))))))
      other)
      (system_cases n first size b h),
  λ h. ⊎_elim
      (λ (is : (b == SUPER_BLOCK) ≡ true). subst (Contains (system_blocks n first size)) (sym (eqb-true b SUPER_BLOCK is)) (superblock_in n first size))
      (λ (other : (is_bitmap_block b || (leb first b && leb b (first + size))) ≡ true). ⊎_elim
      (λ (bitmap : is_bitmap_block b ≡ true). let own : b ≡ bitmap_block (b / BITS_IN_BLOCK) = eqb-true _ _ bitmap in
      subst (Contains (system_blocks n first size)) (sym own) (bitmap_in n first size (b / BITS_IN_BLOCK) (omega (arith, own, h.0))))
      (λ (log : (leb first b && leb b (first + size)) ≡ true). let both = and_parts _ _ log in journal_in n first size b (leb-true first b both.0) (omega (arith, leb-true b (first + size) both.1)))
      (or_cases (is_bitmap_block b) _ other))
      (or_cases (b == SUPER_BLOCK) _ h.1),
)
