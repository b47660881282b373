-- The used blocks of a volume, each with its number.
use Rattle.trial_core.proofs.Imports.{◌≡◌, ℕ, ◌+◌, ◌<◌, Bool, true, false, List, [], ◌∷◌, ◌++◌, length, sym, ◌∙◌, ap, subst, arith, inl, inr, true≢false, filter, slice_index, range_with_len, cases_lt, map-append, Image, block_at, has, used_blocks, filter_more_yes, filter_more_no, numbered}

-- the used ones before a block
abbrev pub before : Image → List Bool → ℕ → List (ℕ × List ℕ)
before image used n = numbered image (filter (has used) (range_with_len 0 n))

pub more_marked : (image : Image) (used : List Bool) (n : ℕ) (bytes : List ℕ) → has used n ≡ true → bytes ≡ block_at image n → before image used n ++ (n, bytes) ∷ [] ≡ before image used (n + 1)
more_marked image used n bytes marked is =
    ap (λ (bs : List ℕ). before image used n ++ (n, bs) ∷ []) is
    ∙ (sym (map-append (λ (b : ℕ). (b, block_at image b)) (filter (has used) (range_with_len 0 n)) (n ∷ []))
    ∙ ap (λ (bs : List ℕ). numbered image bs) (sym (filter_more_yes (has used) n marked)))

pub none_marked : (image : Image) (used : List Bool) (n : ℕ) → has used n ≡ false → before image used n ≡ before image used (n + 1)
none_marked image used n free = ap (λ (bs : List ℕ). numbered image bs) (sym (filter_more_no (has used) n free))

pub all_marked : (image : Image) (used : List Bool) (n : ℕ) → n ≡ length used → before image used n ≡ numbered image (used_blocks used)
unfolding used_blocks
all_marked image used n is = ap (before image used) is

-- the used blocks before one hold bytes
abbrev pub AreBytes : Image → List Bool → ℕ → Type 0
AreBytes image used n = (b : ℕ) → b < n → has used b ≡ true → (i : ℕ) → slice_index (block_at image b) i < 256

pub more_bytes : (image : Image) (used : List Bool) (n : ℕ) → AreBytes image used n → (has used n ≡ true → (i : ℕ) → slice_index (block_at image n) i < 256) → AreBytes image used (n + 1)
more_bytes image used n bytes here b below marked i =
    elim (cases_lt b n) [
      | inl less ↦ bytes b less marked i
      | inr not ↦
          let same : b ≡ n = omega (arith, below, not) in
          subst (λ (m : ℕ). slice_index (block_at image m) i < 256) (sym same) (here (subst (λ (m : ℕ). has used m ≡ true) same marked) i)
    ]

pub is_free : (t : Bool) {A : Type 0} → t ≡ false → t ≡ true → A
is_free t free marked = absurd (true≢false (sym marked ∙ free))
