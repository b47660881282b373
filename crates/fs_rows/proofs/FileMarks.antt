-- The mark of the bytes of a function.
use Rattle.fs_rows.proofs.Imports.{◌≡◌, ℕ, ◌+◌, ◌-◌, ◌*◌, ◌<◌, ◌≤◌, cond, ltb, List, [], ◌∷◌, ◌++◌, length, get_or, take, drop, map, replicate, refl, sym, ap, ◌∙◌, arith, inl, inr, range_with_len, cond-true, cond-false, lt-ltb, le-ltb, cases_lt, length-append, length-take, length-drop, length-replicate, get_or-replicate, get_or_append_left, get_or-append_right, get_or-take, get_or-drop, get_or_past, bytes_by, block_by, up_to, blocks_by, mark_of, block_of_bytes, blocks_of_bytes, mark_of_bytes}
use Rattle.std.specs.Int.{div_ceil}
use Rattle.fs_rows.proofs.Functions.{bytes_are, byte_at, length_bytes, same_block}
use Rattle.fs_rows.proofs.Messages.{same_mark}

pub below_size : (f : ℕ → ℕ) (n size : ℕ) → n < size → cond (ltb n size) (f n) 0 ≡ f n
below_size f n size h = cond-true (ltb n size) (f n) 0 (lt-ltb n size h)

pub past_size : (f : ℕ → ℕ) (n size : ℕ) → size ≤ n → cond (ltb n size) (f n) 0 ≡ 0
past_size f n size h = cond-false (ltb n size) (f n) 0 (le-ltb n size h)

-- n bytes of a list from a place on, filled up with zeros
padded : (n at : ℕ) (bytes : List ℕ) → take n (drop at bytes ++ replicate n 0) ≡ bytes_by n (λ i. get_or bytes i 0) at
padded n at bytes =
    let none : ℕ = 0 in
    let pad : length (replicate n none) ≡ n = length-replicate n none in
    let all : length (drop at bytes ++ replicate n none) ≡ length (drop at bytes) + length (replicate n none) = length-append (drop at bytes) (replicate n none) in
    bytes_are n (λ i. get_or bytes i 0) at (take n (drop at bytes ++ replicate n 0)) (length-take n (drop at bytes ++ replicate n 0) ∙ omega (arith, all, pad)) (λ j h.
    get_or-take n (drop at bytes ++ replicate n 0) j 0 h
    ∙ elim (cases_lt j (length (drop at bytes))) as (λ _. get_or (drop at bytes ++ replicate n 0) j 0 ≡ get_or bytes (at + j) 0) [
      | inl low ↦ get_or_append_left (drop at bytes) (replicate n 0) 0 j low ∙ get_or-drop at bytes j 0
      | inr high ↦
          get_or-append_right (drop at bytes) (replicate n 0) (length (drop at bytes)) j 0 refl high
          ∙ get_or-replicate n (j - length (drop at bytes)) 0 0 (omega (arith, h, high))
          ∙ sym (get_or_past bytes (at + j) 0 (omega (arith, high, length-drop at bytes)))
    ])

byte_of : (f : ℕ → ℕ) (size n : ℕ) → get_or (bytes_by size f 0) n 0 ≡ up_to f size n
byte_of f size n =
    elim (cases_lt n size) as (λ _. get_or (bytes_by size f 0) n 0 ≡ up_to f size n) [
      | inl h ↦ byte_at size f 0 n h ∙ ap f (omega arith) ∙ sym (below_size f n size h)
      | inr h ↦ get_or_past (bytes_by size f 0) n 0 (omega (arith, h, length_bytes size f 0)) ∙ sym (past_size f n size h)
    ]

pub block_of_file : (f : ℕ → ℕ) (size k : ℕ) → block_of_bytes (bytes_by size f 0) k ≡ block_by (up_to f size) k
unfolding block_of_bytes
block_of_file f size k =
    padded 4096 (4096 * k) (bytes_by size f 0) ∙ same_block (λ i. get_or (bytes_by size f 0) i 0) (up_to f size) k (λ n from to. byte_of f size n)

pub map_same : {X : Type 0} (f g : ℕ → X) → ((k : ℕ) → f k ≡ g k) → (xs : List ℕ) → map f xs ≡ map g xs
map_same f g same [] = refl
map_same f g same (x ∷ xs) = ap (λ y. y ∷ map f xs) (same x) ∙ ap (λ ys. g x ∷ ys) (map_same f g same xs)

blocks_of_file : (f : ℕ → ℕ) (size : ℕ) → blocks_of_bytes (bytes_by size f 0) ≡ blocks_by (up_to f size) (div_ceil size 4096)
unfolding blocks_of_bytes blocks_by
blocks_of_file f size =
    map_same (λ i. (i, block_of_bytes (bytes_by size f 0) i)) (λ i. (i, block_by (up_to f size) i))
    (λ k. ap (λ (b : List ℕ). (k, b)) (block_of_file f size k)) (range_with_len 0 (div_ceil (length (bytes_by size f 0)) 4096))
    ∙ ap (λ (n : ℕ). map (λ i. (i, block_by (up_to f size) i)) (range_with_len 0 (div_ceil n 4096))) (length_bytes size f 0)

-- the mark of the blocks, of which all that are not zeros are there
pub mark_is : (f : ℕ → ℕ) (size n : ℕ) → ((i : ℕ) → 4096 * n ≤ i → up_to f size i ≡ 0) → mark_of (blocks_by (up_to f size) n) ≡ mark_of_bytes (bytes_by size f 0)
unfolding mark_of_bytes
mark_is f size n none =
    same_mark (up_to f size) n (div_ceil size 4096) none (λ i h. past_size f i size (omega (arith, h)))
    ∙ ap mark_of (sym (blocks_of_file f size))

-- the first block, up to the size
pub short_is : (f : ℕ → ℕ) (size k : ℕ) (block : List ℕ) → block ≡ block_by (up_to f size) k → k ≡ 0 → size ≤ 4096 → take size block ≡ bytes_by size f 0
short_is f size k block is first small =
    let whole : block ≡ block_by (up_to f size) 0 = is ∙ ap (λ (j : ℕ). block_by (up_to f size) j) first in
    let long : length block ≡ 4096 = ap length whole ∙ length_bytes 4096 (up_to f size) (4096 * 0) in
    bytes_are size f 0 (take size block) (length-take size block ∙ omega (arith, long, small)) (λ j h.
    get_or-take size block j 0 h ∙ ap (λ (xs : List ℕ). get_or xs j 0) whole ∙ byte_at 4096 (up_to f size) (4096 * 0) j (omega (arith, h, small))
    ∙ ap (up_to f size) (omega arith) ∙ below_size f j size h ∙ ap f (omega arith))
