-- Sectors of a block: what is known of the block where each of them is known.
use Rattle.outside.proofs.Imports.{◌≡◌, ◌⊎◌, inl, inr, ⊎_elim, ℕ, zero, suc, ◌+◌, ◌*◌, ◌≤◌, List, [], ◌∷◌, ◌++◌, length, take, drop, refl, sym, ◌∙◌, ap, subst, arith, take-append-drop, length-drop, drop-drop, IsTorn, sector}

-- a list without elements
no_bytes : (xs : List ℕ) → length xs ≤ 0 → xs ≡ []
no_bytes [] few = refl
no_bytes (x ∷ xs) few = absurd (omega (arith, few))

-- the sectors behind the first
later : (xs : List ℕ) (s : ℕ) → sector (drop 512 xs) s ≡ sector xs (s + 1)
later xs s = ap (take 512) (drop-drop (s * 512) 512 xs ∙ ap (λ (n : ℕ). drop n xs) (omega arith))

-- so two lists that are the same behind the first one have the same
behind : (s : ℕ) (xs ys : List ℕ) → drop 512 xs ≡ drop 512 ys → sector xs (suc s) ≡ sector ys (suc s)
behind s xs ys same =
    let one : s + 1 ≡ suc s = omega arith in
    subst (λ (n : ℕ). sector xs n ≡ sector ys n) one (sym (later xs s) ∙ ap (λ (zs : List ℕ). sector zs s) same ∙ later ys s)

same_in : (n : ℕ) (xs ys : List ℕ) → length xs ≤ n * 512 → length ys ≤ n * 512 → ((s : ℕ) → sector xs s ≡ sector ys s) → xs ≡ ys
same_in zero xs ys few few' each = no_bytes xs few ∙ sym (no_bytes ys few')
same_in (suc n) xs ys few few' each =
    let front : take 512 xs ≡ take 512 ys = each 0 in
    let back : drop 512 xs ≡ drop 512 ys =
    same_in n (drop 512 xs) (drop 512 ys) (omega (arith, few, length-drop 512 xs)) (omega (arith, few', length-drop 512 ys))
    (λ s. later xs s ∙ each (s + 1) ∙ sym (later ys s)) in
    sym (take-append-drop 512 xs) ∙ ap (λ (bytes : List ℕ). bytes ++ drop 512 xs) front ∙ ap (λ (bytes : List ℕ). take 512 ys ++ bytes) back ∙ take-append-drop 512 ys

-- blocks with the same sectors are the same
pub sectors_same : (xs ys : List ℕ) → ((s : ℕ) → sector xs s ≡ sector ys s) → xs ≡ ys
sectors_same xs ys each = same_in (length xs + length ys) xs ys (omega arith) (omega arith) each

-- ---- torn blocks
-- where nothing has P, the block is as it was
pub torn_none : (P : List ℕ → Type 0) (old bytes : List ℕ) → ((value : List ℕ) → ¬ P value) → IsTorn P old bytes → bytes ≡ old
torn_none P old bytes none torn = sectors_same bytes old (λ s. ⊎_elim (λ same. same) (λ other. absurd (none other.0 other.1)) (torn s))

-- a block that is as it was, or has P, is torn nowhere
pub torn_whole : (P : List ℕ → Type 0) (old bytes : List ℕ) → (bytes ≡ old) ⊎ P bytes → IsTorn P old bytes
torn_whole P old bytes (inl same) s = inl (ap (λ (xs : List ℕ). sector xs s) same)
torn_whole P old bytes (inr has) s = inr (bytes, has, refl)

pub torn_weaker : (P Q : List ℕ → Type 0) (old bytes : List ℕ) → ((value : List ℕ) → P value → Q value) → IsTorn P old bytes → IsTorn Q old bytes
torn_weaker P Q old bytes turn torn s = ⊎_elim (λ same. inl same) (λ other. inr (other.0, turn other.0 other.1, other.2)) (torn s)

module _ (old new bytes : List ℕ) (torn : IsTorn (λ value. value ≡ new) old bytes) where
  each_either : (s : ℕ) → (sector bytes s ≡ sector old s) ⊎ (sector bytes s ≡ sector new s)
  each_either s = ⊎_elim (λ same. inl same) (λ other. inr (other.2 ∙ ap (λ (xs : List ℕ). sector xs s) other.1)) (torn s)

  -- where two values have the sector alike, so has the torn block
  pub torn_alike : (s : ℕ) → sector old s ≡ sector new s → sector bytes s ≡ sector old s
  torn_alike s alike = ⊎_elim (λ same. same) (λ is. is ∙ sym alike) (each_either s)

  -- where they differ in the first sector alone, the block is one of the two
  pub torn_first : drop 512 old ≡ drop 512 new → (bytes ≡ old) ⊎ (bytes ≡ new)
  torn_first alike = ⊎_elim
      (λ first. inl (sectors_same bytes old (at old first refl)))
      (λ first. inr (sectors_same bytes new (at new first alike)))
      (each_either 0)
    where
      at : (other : List ℕ) → sector bytes 0 ≡ sector other 0 → drop 512 old ≡ drop 512 other → (s : ℕ) → sector bytes s ≡ sector other s
      at other first rest zero = first
      at other first rest (suc s) = torn_alike (suc s) (behind s old new alike) ∙ behind s old other rest
