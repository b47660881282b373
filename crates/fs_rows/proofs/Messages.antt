-- What a marker holds after blocks of a function.
use Rattle.fs_rows.proofs.Imports.{◌≡◌, ℕ, zero, suc, ◌+◌, ◌-◌, ◌*◌, ◌<◌, ◌≤◌, List, [], ◌∷◌, ◌++◌, refl, sym, ap, subst, ◌∙◌, arith, inl, inr, flat_map, cases_lt, append-nil, map-range_with_len_more, zeros, marked_block, mark_of, Marks, Marker, block_by, blocks_by}
use Rattle.fs_rows.proofs.MarkLemmas.{marks_zeros, message_more, skipped}
use Rattle.fs_rows.proofs.Functions.{same_block, zero_block}

pub blocks_more : (f : ℕ → ℕ) (n : ℕ) → blocks_by f (n + 1) ≡ blocks_by f n ++ (n, block_by f n) ∷ []
unfolding blocks_by
blocks_more f n = map-range_with_len_more (λ k. (k, block_by f k)) 0 n n (omega arith)

pub no_blocks : (f : ℕ → ℕ) → blocks_by f 0 ≡ []
unfolding blocks_by
no_blocks f = refl

pub same_blocks : (f g : ℕ → ℕ) → (n : ℕ) → ((i : ℕ) → i < 4096 * n → f i ≡ g i) → blocks_by f n ≡ blocks_by g n
same_blocks f g zero same = no_blocks f ∙ sym (no_blocks g)
same_blocks f g (suc n) same =
    let up : suc n ≡ n + 1 = omega arith in
    let before : blocks_by f n ≡ blocks_by g n = same_blocks f g n (λ i h. same i (omega arith)) in
    let here : block_by f n ≡ block_by g n = same_block f g n (λ i from to. same i (omega arith)) in
    let more : blocks_by f (n + 1) ≡ blocks_by g (n + 1) =
    blocks_more f n ∙ ap (λ (bs : List (ℕ × List ℕ)). bs ++ (n, block_by f n) ∷ []) before ∙ ap (λ (b : List ℕ). blocks_by g n ++ (n, b) ∷ []) here ∙ sym (blocks_more g n) in
    subst (λ (k : ℕ). blocks_by f k ≡ blocks_by g k) (sym up) more

-- a function is 0 from block a on
abbrev pub IsZeroFrom : (ℕ → ℕ) → ℕ → Type 0
IsZeroFrom f a = (i : ℕ) → 4096 * a ≤ i → f i ≡ 0

-- blocks of zeros are as good as none
pub marks_further : (m : Marker) (f : ℕ → ℕ) (a : ℕ) → (d : ℕ) → ((i : ℕ) → 4096 * a ≤ i → i < 4096 * (a + d) → f i ≡ 0) → Marks m (blocks_by f a) → Marks m (blocks_by f (a + d))
marks_further m f a zero none marks = subst (λ (k : ℕ). Marks m (blocks_by f k)) (omega arith) marks
marks_further m f a (suc d) none marks =
    let before : Marks m (blocks_by f (a + d)) = marks_further m f a d (λ i from to. none i from (omega arith)) marks in
    let is : zeros ≡ block_by f (a + d) = zero_block f (a + d) (λ i from to. none i (omega arith) (omega arith)) in
    let more : Marks m (blocks_by f (a + d) ++ (a + d, block_by f (a + d)) ∷ []) = marks_zeros m (blocks_by f (a + d)) (a + d) (block_by f (a + d)) (sym is) before in
    let up : a + d + 1 ≡ a + suc d = omega arith in
    subst (λ (k : ℕ). Marks m (blocks_by f k)) up (subst (λ (bs : List (ℕ × List ℕ)). Marks m bs) (sym (blocks_more f (a + d))) more)

message_further : (f : ℕ → ℕ) (a : ℕ) → (d : ℕ) → IsZeroFrom f a → flat_map marked_block (blocks_by f (a + d)) ≡ flat_map marked_block (blocks_by f a)
message_further f a zero none = ap (λ (k : ℕ). flat_map marked_block (blocks_by f k)) (omega arith)
message_further f a (suc d) none =
    let is : zeros ≡ block_by f (a + d) = zero_block f (a + d) (λ i from to. none i (omega arith)) in
    let up : a + suc d ≡ a + d + 1 = omega arith in
    ap (λ (k : ℕ). flat_map marked_block (blocks_by f k)) up ∙ ap (λ (bs : List (ℕ × List ℕ)). flat_map marked_block bs) (blocks_more f (a + d)) ∙ message_more (blocks_by f (a + d)) (a + d, block_by f (a + d))
    ∙ ap (λ (z : List ℕ). flat_map marked_block (blocks_by f (a + d)) ++ z) (skipped (a + d) (block_by f (a + d)) (sym is)) ∙ append-nil (flat_map marked_block (blocks_by f (a + d)))
    ∙ message_further f a d none

mark_by_message : (xs ys : List (ℕ × List ℕ)) → flat_map marked_block xs ≡ flat_map marked_block ys → mark_of xs ≡ mark_of ys
unfolding mark_of
mark_by_message xs ys same = rw same refl

-- the mark does not depend on how many blocks of zeros come last
pub same_mark : (f : ℕ → ℕ) (a b : ℕ) → IsZeroFrom f a → IsZeroFrom f b → mark_of (blocks_by f a) ≡ mark_of (blocks_by f b)
same_mark f a b none none_too =
    elim (cases_lt a b) as (λ _. mark_of (blocks_by f a) ≡ mark_of (blocks_by f b)) [
      | inl h ↦
          let is : b ≡ a + (b - a) = omega arith in
          mark_by_message _ _ (sym (ap (λ (k : ℕ). flat_map marked_block (blocks_by f k)) is ∙ message_further f a (b - a) none))
      | inr h ↦
          let is : a ≡ b + (a - b) = omega arith in
          mark_by_message _ _ (ap (λ (k : ℕ). flat_map marked_block (blocks_by f k)) is ∙ message_further f b (a - b) none_too)
    ]
