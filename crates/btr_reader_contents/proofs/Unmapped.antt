-- Blocks that lie in no chunk.
use Rattle.btr_reader_contents.proofs.Imports.{◌≡◌, ℕ, suc, ◌+◌, ◌-◌, ◌*◌, ◌%◌, ◌^◌, ◌<◌, Bool, true, false, not, List, [], ◌∷◌, ◌++◌, Option, Some, None, is_some, Contains, refl, sym, ◌∙◌, ap, subst, arith, BtrRefusal, BadBtrfs, Unmapped, MapRange, place, at_unmapped, unmapped_in}

unmapped_more : (ranges : List MapRange) (n i a : ℕ) → i < n
    → unmapped_in ranges (n - i) (a + 4096 * i) ≡ at_unmapped (place ranges (a + 4096 * i)) (a + 4096 * i) ++ unmapped_in ranges (n - (i + 1)) (a + 4096 * (i + 1))
unmapped_more ranges n i a lt =
    let count : n - i ≡ suc (n - (i + 1)) = omega arith in
    let next : a + 4096 * i + 4096 ≡ a + 4096 * (i + 1) = omega arith in
    ap (λ k. unmapped_in ranges k (a + 4096 * i)) count
    ∙ ap (λ b. at_unmapped (place ranges (a + 4096 * i)) (a + 4096 * i) ++ unmapped_in ranges (n - (i + 1)) b) next

none_at : (o : Option ℕ) (a : ℕ) → is_some o ≡ true → at_unmapped o a ≡ []
none_at None a some = absurd (cc some)
none_at (Some p) a some = refl

one_at : (o : Option ℕ) (a : ℕ) → is_some o ≡ false → at_unmapped o a ≡ BadBtrfs (a % 2 ^ 64) Unmapped ∷ []
one_at None a none = refl
one_at (Some p) a none = absurd (cc none)

-- a block that is mapped
pub mapped_on : (ranges : List MapRange) (n i a : ℕ) (o : Option ℕ) (test : Bool) → i < n → o ≡ place ranges (a + 4096 * i) → is_some o ≡ not test → test ≡ false
    → unmapped_in ranges n a ≡ unmapped_in ranges (n - i) (a + 4096 * i) → unmapped_in ranges n a ≡ unmapped_in ranges (n - (i + 1)) (a + 4096 * (i + 1))
mapped_on ranges n i a o test lt is says unset before =
    let some : is_some (place ranges (a + 4096 * i)) ≡ true = ap is_some (sym is) ∙ (says ∙ ap not unset) in
    before ∙ (unmapped_more ranges n i a lt ∙ ap (λ (z : List BtrRefusal). z ++ unmapped_in ranges (n - (i + 1)) (a + 4096 * (i + 1))) (none_at (place ranges (a + 4096 * i)) (a + 4096 * i) some))

-- a block that is not
pub unmapped_at : (ranges : List MapRange) (n i a : ℕ) (o : Option ℕ) (test : Bool) → i < n → o ≡ place ranges (a + 4096 * i) → is_some o ≡ not test → test ≡ true
    → unmapped_in ranges n a ≡ unmapped_in ranges (n - i) (a + 4096 * i) → Contains (unmapped_in ranges n a) (BadBtrfs ((a + 4096 * i) % 2 ^ 64) Unmapped)
unmapped_at ranges n i a o test lt is says set before =
    let none : is_some (place ranges (a + 4096 * i)) ≡ false = ap is_some (sym is) ∙ (says ∙ ap not set) in
    subst (λ (z : List BtrRefusal). Contains z (BadBtrfs ((a + 4096 * i) % 2 ^ 64) Unmapped))
    (sym (before ∙ (unmapped_more ranges n i a lt ∙ ap (λ (z : List BtrRefusal). z ++ unmapped_in ranges (n - (i + 1)) (a + 4096 * (i + 1))) (one_at (place ranges (a + 4096 * i)) (a + 4096 * i) none))))
    (0, omega arith, refl)
