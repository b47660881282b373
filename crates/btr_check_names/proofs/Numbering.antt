-- Inodes found by their numbers.
use Rattle.btr_check_names.proofs.Imports.{◌≡◌, ◌≢◌, ◌≤◌, ◌<◌, ℕ, true, false, List, length, get_or, All, Some, refl, sym, ap, ◌∙◌, subst, arith, ⊎_elim, Bool, ◌⊎◌, inl, inr, cases_lt, cases_eq, ltb-false, ltb-true, nat_tests, get_or_from_slice_get, slice_get-get_or, slice_get_within, slice_get, IsNonDecreasingBy, IsPartitionPoint, nat_lt, AscendByNumber, IsNumbered, InodeAt}
use Rattle.std.proofs.Common.{AllPairs, Contains}

pub rises : (inodes : List InodeAt) → AscendByNumber inodes → IsNonDecreasingBy (λ (i : InodeAt). i.ino) inodes
rises inodes ascend i j d before within = ⊎_elim (λ same. let is = ap (λ (k : ℕ). (get_or inodes k d).ino) same in omega arith) (λ apart. let less = ascend i j d (below i j before apart) within in omega arith) (cases_eq i j)
  where
    below : (i j : ℕ) → i ≤ j → (i ≡ j → ⊥) → i < j
    below i j le apart = omega arith

-- two places of one number are one
pub one_place : (inodes : List InodeAt) → AscendByNumber inodes → (i j : ℕ) (x y : InodeAt) → slice_get inodes i ≡ Some x → slice_get inodes j ≡ Some y → x.ino ≡ y.ino → i ≡ j
one_place inodes ascend i j x y at_i at_j same =
    let first = ap (λ (k : InodeAt). k.ino) (get_or_from_slice_get inodes i x x at_i) in
    let second = ap (λ (k : InodeAt). k.ino) (get_or_from_slice_get inodes j y x at_j) in
    let in_i = slice_get_within inodes i x at_i in
    let in_j = slice_get_within inodes j y at_j in
    ⊎_elim (λ less. let below = ascend i j x less in_j in absurd (omega arith))
    (λ not_less. ⊎_elim (λ is. is) (λ apart. let below = ascend j i x (more i j not_less apart) in_i in absurd (omega arith)) (cases_eq i j))
    (cases_lt i j)
  where
    more : (i j : ℕ) → j ≤ i → (i ≡ j → ⊥) → j < i
    more i j le apart = omega arith

module _ (inodes : List InodeAt) (ino at : ℕ) (ascend : AscendByNumber inodes)
    (parts : IsPartitionPoint (λ (i : InodeAt). nat_lt i.ino ino ≡ true) (λ (i : InodeAt). nat_lt i.ino ino ≡ false) inodes at) where
  -- behind the place that is found all are higher
  pub none_has : ((d : InodeAt) → at < length inodes → (get_or inodes at d).ino ≢ ino) → All (λ (i : InodeAt). i.ino ≢ ino) inodes
  none_has not_here k d within is =
      ⊎_elim (λ less. let below = ltb-true (get_or inodes k d).ino ino (parts.0 k d (omega arith) less) in absurd (omega arith))
      (λ not_less. ⊎_elim (λ same. not_here d (omega arith) (ap (λ (n : ℕ). (get_or inodes n d).ino) (sym same) ∙ is))
      (λ apart.
      let above = ltb-false (get_or inodes at d).ino ino (parts.1 at d (omega arith) (omega arith)) in
      let higher = ascend at k d (more k at not_less apart) within in
      absurd (omega arith))
      (cases_eq k at))
      (cases_lt k at)
    where
      more : (i j : ℕ) → j ≤ i → (i ≡ j → ⊥) → j < i
      more i j le apart = omega arith

pub numbered : (inodes : List InodeAt) (ino at : ℕ) (d : InodeAt) → at < length inodes → (get_or inodes at d).ino ≡ ino → IsNumbered inodes ino at
numbered inodes ino at d within is = (get_or inodes at d, slice_get-get_or inodes at d within, is)
