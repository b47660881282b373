-- Addresses and the blocks that hold them.
use Rattle.btr_reader_walk.proofs.Imports.{◌≡◌, ℕ, zero, suc, ◌+◌, ◌-◌, ◌*◌, ◌/◌, ◌%◌, eqb, ◌≤◌, ◌<◌, Bool, true, false, ◌&&◌, List, [], ◌∷◌, ◌++◌, length, drop, take, get_or, Option, Some, not, if◌then◌else◌, is_some, refl, sym, ◌∙◌, ap, subst, arith, append_assoc, append-nil, drop_more, take_all, All-head, All-tail, nat_tests, Image, MapRange, holds, place, are_mapped, is_mapped, block_of_place, blocks_at, LieOn}

pub holds_bounds : (r : MapRange) (a : ℕ) → holds r a ≡ true → (r.logical ≤ a) × (a < r.logical + r.length)
holds_bounds r a h = (grind (arith, nat_tests, h), grind (arith, nat_tests, h))

first : (a b : Bool) → (a && b) ≡ true → a ≡ true
first true b h = refl
first false b h = h

second : (a b : Bool) → (a && b) ≡ true → b ≡ true
second true b h = h
second false b h = absurd (cc h)

-- what is_none says
pub none_some : (result other : Option ℕ) (test : Bool) → test ≡ false → is_some result ≡ not test → result ≡ other → is_some other ≡ true
none_some result other test unset is e = ap is_some (sym e) ∙ (is ∙ ap not unset)

-- one block more, of those that are left
pub mapped_more : (ranges : List MapRange) (n i a : ℕ) → i < n
    → are_mapped ranges (n - i) (a + 4096 * i) ≡ (is_some (place ranges (a + 4096 * i)) && are_mapped ranges (n - (i + 1)) (a + 4096 * (i + 1)))
mapped_more ranges n i a lt =
    let count : n - i ≡ suc (n - (i + 1)) = omega arith in
    let next : a + 4096 * i + 4096 ≡ a + 4096 * (i + 1) = omega arith in
    ap (λ k. are_mapped ranges k (a + 4096 * i)) count
    ∙ ap (λ b. is_some (place ranges (a + 4096 * i)) && are_mapped ranges (n - (i + 1)) b) next

-- each block of those that are in the map
pub mapped_at : (ranges : List MapRange) (n i a : ℕ) → i < n → are_mapped ranges n a ≡ true → is_some (place ranges (a + 4096 * i)) ≡ true
mapped_at ranges zero i a lt h = absurd (omega arith)
mapped_at ranges (suc n) zero a lt h =
    let here : a ≡ a + 4096 * 0 = omega arith in
    subst (λ b. is_some (place ranges b) ≡ true) here (first (is_some (place ranges a)) (are_mapped ranges n (a + 4096)) h)
mapped_at ranges (suc n) (suc i) a lt h =
    let there : a + 4096 + 4096 * i ≡ a + 4096 * suc i = omega arith in
    subst (λ b. is_some (place ranges b) ≡ true) there (mapped_at ranges n i (a + 4096) (omega arith) (second (is_some (place ranges a)) (are_mapped ranges n (a + 4096)) h))

-- one block more, behind those before
pub blocks_more : (image : Image) (ranges : List MapRange) (n a : ℕ) → blocks_at image ranges (n + 1) a ≡ blocks_at image ranges n a ++ block_of_place image (place ranges (a + 4096 * n))
blocks_more image ranges zero a =
    let one : 0 + 1 ≡ suc 0 = omega arith in
    let here : a ≡ a + 4096 * 0 = omega arith in
    ap (λ k. blocks_at image ranges k a) one
    ∙ (append-nil (block_of_place image (place ranges a)) ∙ ap (λ b. block_of_place image (place ranges b)) here)
blocks_more image ranges (suc n) a =
    let one : suc n + 1 ≡ suc (n + 1) = omega arith in
    let there : a + 4096 + 4096 * n ≡ a + 4096 * suc n = omega arith in
    let first : List ℕ = block_of_place image (place ranges a) in
    ap (λ k. blocks_at image ranges k a) one
    ∙ (ap (λ (z : List ℕ). first ++ z) (blocks_more image ranges n (a + 4096))
    ∙ (sym (append_assoc first (blocks_at image ranges n (a + 4096)) (block_of_place image (place ranges (a + 4096 + 4096 * n))))
    ∙ ap (λ b. (first ++ blocks_at image ranges n (a + 4096)) ++ block_of_place image (place ranges b)) there))

some_is : (x y : ℕ) → Some x ≡ Some y → x ≡ y
some_is x y e = cc e

by_test : (r : MapRange) (a p : ℕ) (blocks : ℕ) (others : Option ℕ) (t : Bool) → holds r a ≡ t → r.physical + r.length ≤ 4096 * blocks
    → (others ≡ Some p → p < 4096 * blocks) → (if t then Some (r.physical + (a - r.logical)) else others) ≡ Some p → p < 4096 * blocks
by_test r a p blocks others true held fits rest is =
    let bounds = holds_bounds r a held in
    omega (arith, some_is (r.physical + (a - r.logical)) p is, bounds.0, bounds.1, fits)
by_test r a p blocks others false held fits rest is = rest is

-- a place by the map is on the device
pub place_within : (blocks : ℕ) (ranges : List MapRange) (a p : ℕ) → LieOn blocks ranges → place ranges a ≡ Some p → p < 4096 * blocks
place_within blocks [] a p on is = absurd (cc is)
place_within blocks (r ∷ ranges) a p on is =
    by_test r a p blocks (place ranges a) (holds r a) refl (All-head (λ q. q.physical + q.length ≤ 4096 * blocks) r ranges on)
    (place_within blocks ranges a p (All-tail (λ q. q.physical + q.length ≤ 4096 * blocks) r ranges on)) is

pub all_taken : (n : ℕ) (xs : List ℕ) → n ≡ length xs → xs ≡ take n xs
all_taken n xs e = sym (take_all n xs (omega (arith, e)))

-- what is asked of the whole node is asked of its blocks
pub blocks_mapped : (ranges : List MapRange) (nodesize size address : ℕ) (test : Bool) → test ≡ true → test ≡ is_mapped ranges size address → size ≡ nodesize
    → are_mapped ranges (nodesize / 4096) address ≡ true
unfolding is_mapped
blocks_mapped ranges nodesize size address test set is e =
    second (eqb (address % 4096) 0) (are_mapped ranges (nodesize / 4096) address)
    (ap (λ k. is_mapped ranges k address) (sym e) ∙ (sym is ∙ set))
