-- Areas of data: that what descends lies apart, and that the tests say what the facts say.
use Rattle.btr_node.proofs.Imports.{◌≡◌, ◌≤◌, ℕ, suc, ◌+◌, ◌⊎◌, inl, inr, max, Bool, true, false, List, [], ◌∷◌, refl, arith, nat_le, Decides, All, AllPairs, list_all, nat_tests, Decides-and, Decides-or, Decides-eqb, Decides-like, not_from_Decides, Decides-by_and, BtrItemHead, IsWithin, AreBodiesApart, HasAreas, is_within, are_apart, all_apart, has_areas, descends}
use Rattle.std.proofs.lemmas.List.Kept.{AllPairs-cons}
use Rattle.btr_node.proofs.Rows.{both, joined}

within_tells : (low high : ℕ) (head : BtrItemHead) → is_within low high head ≡ true → (low ≤ head.offset) × (head.offset + head.size ≤ high)
within_tells low high head h =
    let parts = both (nat_le low head.offset) (nat_le (head.offset + head.size) high) h in
    (grind (arith, nat_tests), grind (arith, nat_tests))

pub within_test : (low high : ℕ) (head : BtrItemHead) → low ≤ head.offset → head.offset + head.size ≤ high → is_within low high head ≡ true
within_test low high head h k = joined (nat_le low head.offset) (nat_le (head.offset + head.size) high) (grind (arith, nat_tests)) (grind (arith, nat_tests))

-- the four ways in which two areas share no byte
abbrev pub LieApart : BtrItemHead → BtrItemHead → Type 0
LieApart a b = (a.size ≡ 0) ⊎ ((b.size ≡ 0) ⊎ ((a.offset + a.size ≤ b.offset) ⊎ (b.offset + b.size ≤ a.offset)))

pub le_decides : (m n : ℕ) → Decides (nat_le m n) (m ≤ n)
le_decides m n = (λ h. grind (arith, nat_tests), λ h. grind (arith, nat_tests))

lie_apart_decides : (a b : BtrItemHead) → Decides (are_apart a b) (LieApart a b)
lie_apart_decides a b =
    Decides-or _ _ (Decides-eqb a.size 0)
    (Decides-or _ _ (Decides-eqb b.size 0)
    (Decides-or _ _ (le_decides (a.offset + a.size) b.offset) (le_decides (b.offset + b.size) a.offset)))

below_is_apart : (a b : BtrItemHead) → b.offset + b.size ≤ a.offset → are_apart a b ≡ true
below_is_apart a b h = (lie_apart_decides a b).1 (inr (inr (inr h)))

descends-within : (low end high : ℕ) (heads : List BtrItemHead) → end ≤ high → descends low end heads ≡ true → list_all (is_within low high) heads ≡ true
descends-within low end high [] le h = refl
descends-within low end high (head ∷ heads) le h =
    let parts = both (is_within low end head) (descends low head.offset heads) h in
    let told = within_tells low end head parts.0 in
    joined _ _ (within_test low high head told.0 (omega (arith, told.1)))
    (descends-within low head.offset high heads (omega (arith, told.1)) parts.1)

descends-apart : (low end : ℕ) (above : BtrItemHead) (heads : List BtrItemHead) → end ≤ above.offset → descends low end heads ≡ true → list_all (are_apart above) heads ≡ true
descends-apart low end above [] le h = refl
descends-apart low end above (head ∷ heads) le h =
    let parts = both (is_within low end head) (descends low head.offset heads) h in
    let told = within_tells low end head parts.0 in
    joined _ _ (below_is_apart above head (omega (arith, told.1)))
    (descends-apart low head.offset above heads (omega (arith, told.1)) parts.1)

descends-all_apart : (low end : ℕ) (heads : List BtrItemHead) → descends low end heads ≡ true → all_apart heads ≡ true
descends-all_apart low end [] h = refl
descends-all_apart low end (head ∷ heads) h =
    let parts = both (is_within low end head) (descends low head.offset heads) h in
    joined _ _ (descends-apart low head.offset head heads (omega arith) parts.1) (descends-all_apart low head.offset heads parts.1)

pub descends-has_areas : (low high : ℕ) (heads : List BtrItemHead) → descends low high heads ≡ true → has_areas low high heads ≡ true
descends-has_areas low high heads h = joined _ _ (descends-within low high high heads (omega arith) h) (descends-all_apart low high heads h)

within_decides : (low high : ℕ) (head : BtrItemHead) → Decides (is_within low high head) (IsWithin low high head)
within_decides low high head =
    (λ h. let told = within_tells low high head h in record { begins = told.0; ends = told.1 }, λ w. within_test low high head w.begins w.ends)

apart_tells : (a b : BtrItemHead) → LieApart a b → AreBodiesApart a b
apart_tells a b (inl none) place p q = omega (arith, p.0, p.1)
apart_tells a b (inr (inl none)) place p q = omega (arith, q.0, q.1)
apart_tells a b (inr (inr (inl below))) place p q = omega (arith, p.1, q.0)
apart_tells a b (inr (inr (inr below))) place p q = omega (arith, p.0, q.1)

-- where none of the four holds, the place where the later one begins belongs to both
apart_test : (a b : BtrItemHead) (test : Bool) → Decides test (LieApart a b) → AreBodiesApart a b → test ≡ true
apart_test a b true decides apart = refl
apart_test a b false decides apart =
    let other : LieApart a b → ⊥ = not_from_Decides false decides refl in
    let first : a.size ≡ 0 → ⊥ = λ e. other (inl e) in
    let second : b.size ≡ 0 → ⊥ = λ e. other (inr (inl e)) in
    let third : a.offset + a.size ≤ b.offset → ⊥ = λ e. other (inr (inr (inl e))) in
    let fourth : b.offset + b.size ≤ a.offset → ⊥ = λ e. other (inr (inr (inr e))) in
    let place : ℕ = max a.offset b.offset in
    absurd (apart place (omega (arith, first, fourth), omega (arith, first, third, fourth)) (omega arith, omega (arith, second, third, fourth)))

apart_decides : (a b : BtrItemHead) → Decides (are_apart a b) (AreBodiesApart a b)
apart_decides a b =
    (λ h. apart_tells a b ((lie_apart_decides a b).0 h), apart_test a b (are_apart a b) (lie_apart_decides a b))

rest_apart : (head : BtrItemHead) (heads : List BtrItemHead) → AllPairs AreBodiesApart (head ∷ heads) → All (AreBodiesApart head) heads × AllPairs AreBodiesApart heads
rest_apart head heads apart =
    (λ k d lt. apart 0 (suc k) d (omega arith) (omega arith), λ i j d less lt. apart (suc i) (suc j) d (omega arith) (omega arith))

all_apart_decides : (heads : List BtrItemHead) → Decides (all_apart heads) (AllPairs AreBodiesApart heads)
all_apart_decides [] = (λ h i j d less lt. absurd (omega arith), λ apart. refl)
all_apart_decides (head ∷ heads) =
    Decides-like (all_apart (head ∷ heads)) (λ parts. AllPairs-cons AreBodiesApart head heads parts.0 parts.1) (rest_apart head heads)
    (Decides-and _ _ (Decides-by_and (are_apart head) (AreBodiesApart head) (list_all (are_apart head)) (apart_decides head) refl (λ _ _. refl) heads) (all_apart_decides heads))

pub areas_decide : (low high : ℕ) (heads : List BtrItemHead) → Decides (has_areas low high heads) (HasAreas low high heads)
areas_decide low high heads =
    Decides-like (has_areas low high heads) (λ parts. record { within = parts.0; apart = parts.1 }) (λ areas. (areas.within, areas.apart))
    (Decides-and _ _ (Decides-by_and (is_within low high) (IsWithin low high) (list_all (is_within low high)) (within_decides low high) refl (λ _ _. refl) heads) (all_apart_decides heads))
