-- Lists of the bytes of a function.
use Rattle.fs_rows.proofs.Imports.{◌≡◌, ℕ, ◌+◌, ◌*◌, ◌<◌, ◌≤◌, List, length, get_or, replicate, sym, ◌∙◌, arith, same_number_lists, length-replicate, get_or-replicate, length-map-range_with_len, get_or-map-range_with_len, zeros, bytes_by, block_by}

pub length_bytes : (n : ℕ) (f : ℕ → ℕ) (at : ℕ) → length (bytes_by n f at) ≡ n
unfolding bytes_by
length_bytes n f at = length-map-range_with_len (λ j. f (at + j)) 0 n

pub byte_at : (n : ℕ) (f : ℕ → ℕ) (at j : ℕ) → j < n → get_or (bytes_by n f at) j 0 ≡ f (at + j)
unfolding bytes_by
byte_at n f at j h = get_or-map-range_with_len (λ i. f (at + i)) 0 n j j 0 h (omega arith)

-- a list is the bytes of a function where each byte is
pub bytes_are : (n : ℕ) (f : ℕ → ℕ) (at : ℕ) (xs : List ℕ) → length xs ≡ n → ((j : ℕ) → j < n → get_or xs j 0 ≡ f (at + j)) → xs ≡ bytes_by n f at
bytes_are n f at xs long each =
    same_number_lists xs (bytes_by n f at) (long ∙ sym (length_bytes n f at)) (λ j h. let low : j < n = omega (arith, h, long) in each j low ∙ sym (byte_at n f at j low))

pub same_bytes : (n : ℕ) (f g : ℕ → ℕ) (at : ℕ) → ((j : ℕ) → j < n → f (at + j) ≡ g (at + j)) → bytes_by n f at ≡ bytes_by n g at
same_bytes n f g at same = bytes_are n g at (bytes_by n f at) (length_bytes n f at) (λ j h. byte_at n f at j h ∙ same j h)

zeros_are : (n : ℕ) (f : ℕ → ℕ) (at : ℕ) → ((j : ℕ) → j < n → f (at + j) ≡ 0) → replicate n 0 ≡ bytes_by n f at
zeros_are n f at none = bytes_are n f at (replicate n 0) (length-replicate n 0) (λ j h. get_or-replicate n j 0 0 h ∙ sym (none j h))

pub zero_block : (f : ℕ → ℕ) (k : ℕ) → ((n : ℕ) → 4096 * k ≤ n → n < 4096 * k + 4096 → f n ≡ 0) → zeros ≡ block_by f k
zero_block f k none = zeros_are 4096 f (4096 * k) (λ j h. none (4096 * k + j) (omega arith) (omega arith))

pub same_block : (f g : ℕ → ℕ) (k : ℕ) → ((n : ℕ) → 4096 * k ≤ n → n < 4096 * k + 4096 → f n ≡ g n) → block_by f k ≡ block_by g k
same_block f g k same = same_bytes 4096 f g (4096 * k) (λ j h. same (4096 * k + j) (omega arith) (omega arith))
