-- Parts of a block that were written.
use Rattle.fs_rows.proofs.Imports.{◌≡◌, ℕ, ◌+◌, ◌-◌, ◌*◌, ◌<◌, ◌≤◌, min, max, List, ◌++◌, length, get_or, take, drop, replicate, sym, ap, ◌∙◌, arith, inl, inr, cases_lt, length-append, length-take, length-drop, length-replicate, get_or-replicate, get_or_append_left, get_or-append_right, get_or-take, get_or-drop, block_by, Overlays, ReplacesBlock}
use Rattle.fs_rows.proofs.Functions.{bytes_are, byte_at}

-- the last bytes of a block were made zeros
pub cut_is : (bytes mid rest : List ℕ) (keep k size : ℕ) (f g : ℕ → ℕ) → length bytes ≡ 4096 → keep ≡ min (size - 4096 * k) 4096 → mid ≡ replicate (4096 - keep) 0
    → length rest ≡ 0 → ReplacesBlock size k bytes f g → take keep bytes ++ (mid ++ rest) ≡ block_by g k
cut_is bytes mid rest keep k size f g long kept zeros none replaces =
    let front : length (take keep bytes) ≡ keep = length-take keep bytes ∙ omega (arith, kept, long) in
    let middle : length mid ≡ 4096 - keep = ap length zeros ∙ length-replicate (4096 - keep) 0 in
    let back : length (mid ++ rest) ≡ length mid + length rest = length-append mid rest in
    let all : length (take keep bytes ++ (mid ++ rest)) ≡ length (take keep bytes) + length (mid ++ rest) = length-append (take keep bytes) (mid ++ rest) in
    bytes_are 4096 g (4096 * k) (take keep bytes ++ (mid ++ rest)) (omega (arith, front, middle, back, all, none, kept)) (λ j h.
    elim (cases_lt j keep) as (λ _. get_or (take keep bytes ++ (mid ++ rest)) j 0 ≡ g (4096 * k + j)) [
      | inl low ↦
          get_or_append_left (take keep bytes) (mid ++ rest) 0 j (omega (arith, front, low)) ∙ get_or-take keep bytes j 0 low
          ∙ sym (replaces.inside j h (omega (arith, low, kept)))
      | inr high ↦
          get_or-append_right (take keep bytes) (mid ++ rest) keep j 0 front high ∙ get_or_append_left mid rest 0 (j - keep) (omega (arith, middle, high, h))
          ∙ ap (λ (xs : List ℕ). get_or xs (j - keep) 0) zeros ∙ get_or-replicate (4096 - keep) (j - keep) 0 0 (omega (arith, high, h))
          ∙ sym (replaces.past j h (omega (arith, high, kept, h)))
    ])

-- a part of a block was written over
pub copy_is : (bytes part piece : List ℕ) (from n at k : ℕ) (f g : ℕ → ℕ) → length bytes ≡ 4096 → bytes ≡ block_by f k → Overlays at piece f g
    → length part ≡ n → from + n ≤ 4096 → 4096 * k + from ≡ max at (4096 * k) → ((j : ℕ) → j < n → get_or part j 0 ≡ get_or piece (4096 * k + from + j - at) 0)
    → 4096 * k + from + n ≡ min (4096 * k + 4096) (at + length piece)
    → take from bytes ++ (part ++ drop n (drop from bytes)) ≡ block_by g k
copy_is bytes part piece from n at k f g long is over size fits begin each end =
    let front : length (take from bytes) ≡ from = length-take from bytes ∙ omega (arith, fits, long) in
    let rest : List ℕ = drop n (drop from bytes) in
    let last : length (drop n (drop from bytes)) ≡ 4096 - from - n = length-drop n (drop from bytes) ∙ ap (λ (l : ℕ). l - n) (length-drop from bytes ∙ ap (λ (l : ℕ). l - from) long) in
    let back : length (part ++ drop n (drop from bytes)) ≡ length part + length (drop n (drop from bytes)) = length-append part (drop n (drop from bytes)) in
    let all : length (take from bytes ++ (part ++ drop n (drop from bytes))) ≡ length (take from bytes) + length (part ++ drop n (drop from bytes)) =
    length-append (take from bytes) (part ++ drop n (drop from bytes)) in
    let old : (j : ℕ) → j < 4096 → get_or bytes j 0 ≡ f (4096 * k + j) = λ j h. ap (λ (xs : List ℕ). get_or xs j 0) is ∙ byte_at 4096 f (4096 * k) j h in
    bytes_are 4096 g (4096 * k) (take from bytes ++ (part ++ drop n (drop from bytes))) (omega (arith, front, size, last, back, all, fits)) (λ j h.
    elim (cases_lt j from) as (λ _. get_or (take from bytes ++ (part ++ drop n (drop from bytes))) j 0 ≡ g (4096 * k + j)) [
      | inl low ↦
          get_or_append_left (take from bytes) (part ++ drop n (drop from bytes)) 0 j (omega (arith, front, low)) ∙ get_or-take from bytes j 0 low
          ∙ old j h ∙ sym (over.below (4096 * k + j) (omega (arith, low, begin)))
      | inr high ↦
          get_or-append_right (take from bytes) (part ++ drop n (drop from bytes)) from j 0 front high
          ∙ elim (cases_lt (j - from) n) as (λ _. get_or (part ++ drop n (drop from bytes)) (j - from) 0 ≡ g (4096 * k + j)) [
            | inl within ↦
                let place : 4096 * k + from + (j - from) - at ≡ 4096 * k + j - at = omega (arith, high) in
                get_or_append_left part (drop n (drop from bytes)) 0 (j - from) (omega (arith, size, within)) ∙ each (j - from) within
                ∙ ap (λ (p : ℕ). get_or piece p 0) place
                ∙ sym (over.inside (4096 * k + j) (omega (arith, high, begin)) (omega (arith, within, high, end)))
            | inr behind ↦
                let place : from + (n + (j - from - n)) ≡ j = omega (arith, high, behind) in
                get_or-append_right part (drop n (drop from bytes)) n (j - from) 0 size behind
                ∙ get_or-drop n (drop from bytes) (j - from - n) 0 ∙ get_or-drop from bytes (n + (j - from - n)) 0
                ∙ ap (λ (p : ℕ). get_or bytes p 0) place ∙ old j h
                ∙ sym (over.above (4096 * k + j) (omega (arith, behind, high, h, end)))
          ]
    ])

-- how long a part of a list is
pub part_length : (xs : List ℕ) (a n : ℕ) → a + n ≤ length xs → length (take n (drop a xs)) ≡ n
part_length xs a n fits = length-take n (drop a xs) ∙ ap (λ (l : ℕ). min n l) (length-drop a xs) ∙ omega (arith, fits)

-- an element of a part of a list
pub part_at : (xs : List ℕ) (a n j : ℕ) → j < n → get_or (take n (drop a xs)) j 0 ≡ get_or xs (a + j) 0
part_at xs a n j h = get_or-take n (drop a xs) j 0 h ∙ get_or-drop a xs j 0

pub rest_length : (xs : List ℕ) (a n : ℕ) → length xs ≤ a + n → length (drop n (drop a xs)) ≡ 0
rest_length xs a n all = length-drop n (drop a xs) ∙ ap (λ (l : ℕ). l - n) (length-drop a xs) ∙ omega (arith, all)
