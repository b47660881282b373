-- The leaves of a sample have room for their items.
use Rattle.reiser_make_laws.proofs.Imports.{◌≡◌, ℕ, zero, suc, ◌+◌, ◌-◌, ◌≤◌, ◌<◌, Bool, true, false, cond, List, [], ◌∷◌, ◌++◌, length, get_or, refl, arith, length-append, nat_le, nat_tests, sum_by-append, sum_by-cons, items, bytes_taken, taken_by, node_room, packed_behind, leaves_of, leaves, Shape, shape, SampleItem}
use Rattle.reiser_make_laws.proofs.Writable.{IsGood, AreGood, good-append, sample_good}

-- a leaf that can be written
pub record IsGoodLeaf (s : Shape) (xs : List SampleItem) : Type 0 where
  pub items : AreGood s xs
  pub some : 1 ≤ length xs
  pub room : bytes_taken xs ≤ 4072

abbrev pub AreGoodLeaves : Shape → List (List SampleItem) → Type 0
AreGoodLeaves s [] = Unit {0}
AreGoodLeaves s (leaf ∷ more) = IsGoodLeaf s leaf × AreGoodLeaves s more

pub good_leaf_at : (s : Shape) (all : List (List SampleItem)) (m : ℕ) (d : List SampleItem) → AreGoodLeaves s all → m < length all → IsGoodLeaf s (get_or all m d)
good_leaf_at s [] m d good lt = absurd (omega (arith, lt))
good_leaf_at s (leaf ∷ more) zero d good lt = good.0
good_leaf_at s (leaf ∷ more) (suc m) d good lt = good_leaf_at s more m d good.1 (omega (arith, lt))

single : (s : Shape) (x : SampleItem) → IsGood s x → IsGoodLeaf s (x ∷ [])
single s x good = record { items = (good, tt); some = omega arith; room = omega (arith, good.fits, sum_by-cons taken_by x []) }

one_more : (s : Shape) (leaf : List SampleItem) (x : SampleItem) → IsGoodLeaf s leaf → IsGood s x → taken_by x ≤ 4072 - bytes_taken leaf → IsGoodLeaf s (leaf ++ x ∷ [])
one_more s leaf x good item fits = record {
  items = good-append s leaf (x ∷ []) good.items (item, tt);
  some = omega (arith, length-append leaf (x ∷ []), good.some);
  room = omega (arith, sum_by-append taken_by leaf (x ∷ []), sum_by-cons taken_by x [], good.room, fits);
}

taken_one_more : (leaf : List SampleItem) (x : SampleItem) → bytes_taken (leaf ++ x ∷ []) ≡ bytes_taken leaf + taken_by x
taken_one_more leaf x = omega (arith, sum_by-append taken_by leaf (x ∷ []), sum_by-cons taken_by x [])

packed_by : (s : Shape) (leaf : List SampleItem) (room : ℕ) (x : SampleItem) (xs : List SampleItem) (b : Bool) → nat_le (taken_by x) room ≡ b
    → (taken_by x ≤ room → AreGoodLeaves s (packed_behind (leaf ++ x ∷ []) (room - taken_by x) xs)) → AreGoodLeaves s (leaf ∷ packed_behind (x ∷ []) (node_room - taken_by x) xs)
    → AreGoodLeaves s (cond b (packed_behind (leaf ++ x ∷ []) (room - taken_by x) xs) (leaf ∷ packed_behind (x ∷ []) (node_room - taken_by x) xs))
packed_by s leaf room x xs true is fits full = fits (grind (arith, nat_tests, is))
packed_by s leaf room x xs false is fits full = full

packed_good : (s : Shape) (leaf : List SampleItem) (room : ℕ) (xs : List SampleItem) → IsGoodLeaf s leaf → room ≡ 4072 - bytes_taken leaf → AreGood s xs → AreGoodLeaves s (packed_behind leaf room xs)
packed_good s leaf room [] good left items = (good, tt)
packed_good s leaf room (x ∷ xs) good left items =
    packed_by s leaf room x xs (nat_le (taken_by x) room) refl
    (λ fits. packed_good s (leaf ++ x ∷ []) (room - taken_by x) xs (one_more s leaf x good items.0 (omega (arith, fits, left))) (omega (arith, left, taken_one_more leaf x)) items.1)
    (good, packed_good s (x ∷ []) (node_room - taken_by x) xs (single s x items.0) (omega (arith, sum_by-cons taken_by x [])) items.1)

leaves_good : (s : Shape) (xs : List SampleItem) → AreGood s xs → AreGoodLeaves s (leaves_of xs)
leaves_good s [] good = tt
leaves_good s (x ∷ xs) good = packed_good s (x ∷ []) (node_room - taken_by x) xs (single s x good.0) (omega (arith, sum_by-cons taken_by x [])) good.1

pub sample_leaves_good : (number : ℕ) (old : Bool) → number ≤ 4000 → AreGoodLeaves (shape number old) (leaves (shape number old))
unfolding leaves
sample_leaves_good number old low = leaves_good (shape number old) (items (shape number old)) (sample_good number old low)
