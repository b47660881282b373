-- One item more makes no fewer nodes.
use Rattle.btr_tree.proofs.Imports.{◌≡◌, ℕ, zero, suc, ◌+◌, ◌*◌, ◌<◌, ◌≤◌, List, [], ◌∷◌, ◌++◌, length, ap, arith, ⊎_elim, sum, sum_by, div_ceil, mul_comm, mul-suc, cases_lt, div_ceil_times, sum_by_push, mul-le, NodesNeverFall, capacity, weight, packed_from, level_sizes, fan_out, packed_leaves}
use Rattle.btr_tree.proofs.Climbing.{wide_fan}
use Rattle.btr_tree.proofs.Groups.{packed-fits, packed-next, packed-none}
use Rattle.btr_tree.proofs.Sizes.{sizes-none, sum-one, sum-more}

-- the groups, where one is begun
abbrev groups : ℕ → List ℕ → List ℕ → ℕ
groups room begun ns = length (packed_from weight room begun ns)

-- a group that is begun with more makes no fewer groups, and with less at most one more
record Bounds (room : ℕ) (ns : List ℕ) : Type 0 where
  fuller : (a b : List ℕ) → sum_by weight a ≤ sum_by weight b → groups room a ns ≤ groups room b ns
  any : (a b : List ℕ) → groups room a ns ≤ groups room b ns + 1

alone : (n : ℕ) → sum_by weight (n ∷ []) ≡ weight n
alone n = omega (arith, sum_by_push weight [] n)

fits_is : (room : ℕ) (a : List ℕ) (n : ℕ) (ns : List ℕ) → sum_by weight a + weight n ≤ room → groups room a (n ∷ ns) ≡ groups room (a ++ n ∷ []) ns
fits_is room a n ns fits = ap (λ gs. length gs) (packed-fits weight room a n ns fits)

next_is : (room : ℕ) (a : List ℕ) (n : ℕ) (ns : List ℕ) → room < sum_by weight a + weight n → groups room a (n ∷ ns) ≡ suc (groups room (n ∷ []) ns)
next_is room a n ns full = ap (λ gs. length gs) (packed-next weight room a n ns full)

bounds : (room : ℕ) (ns : List ℕ) → Bounds room ns
bounds room [] = record {
  fuller = λ a b h. omega (arith, ap (λ gs. length gs) (packed-none weight room a), ap (λ gs. length gs) (packed-none weight room b));
  any = λ a b. omega (arith, ap (λ gs. length gs) (packed-none weight room a), ap (λ gs. length gs) (packed-none weight room b));
}
bounds room (n ∷ ns) =
    let rest : Bounds room ns = bounds room ns in
    record {
      fuller = λ a b h.
          ⊎_elim
          (λ (full : room < sum_by weight b + weight n).
          ⊎_elim
          (λ (also : room < sum_by weight a + weight n). omega (arith, next_is room a n ns also, next_is room b n ns full))
          (λ (fits : sum_by weight a + weight n ≤ room). omega (arith, fits_is room a n ns fits, next_is room b n ns full, rest.any (a ++ n ∷ []) (n ∷ [])))
          (cases_lt room (sum_by weight a + weight n)))
          (λ (fits : sum_by weight b + weight n ≤ room).
          omega (arith, fits_is room a n ns (omega (arith, fits, h)), fits_is room b n ns fits, rest.fuller (a ++ n ∷ []) (b ++ n ∷ []) (omega (arith, h, sum_by_push weight a n, sum_by_push weight b n))))
          (cases_lt room (sum_by weight b + weight n));
      any = λ a b.
          ⊎_elim
          (λ (full : room < sum_by weight a + weight n).
          ⊎_elim
          (λ (also : room < sum_by weight b + weight n). omega (arith, next_is room a n ns full, next_is room b n ns also))
          (λ (fits : sum_by weight b + weight n ≤ room).
          omega (arith, next_is room a n ns full, fits_is room b n ns fits, rest.fuller (n ∷ []) (b ++ n ∷ []) (omega (arith, alone n, sum_by_push weight b n))))
          (cases_lt room (sum_by weight b + weight n)))
          (λ (fits : sum_by weight a + weight n ≤ room).
          ⊎_elim
          (λ (full : room < sum_by weight b + weight n). omega (arith, fits_is room a n ns fits, next_is room b n ns full, rest.any (a ++ n ∷ []) (n ∷ [])))
          (λ (also : sum_by weight b + weight n ≤ room). omega (arith, fits_is room a n ns fits, fits_is room b n ns also, rest.any (a ++ n ∷ []) (b ++ n ∷ [])))
          (cases_lt room (sum_by weight b + weight n)))
          (cases_lt room (sum_by weight a + weight n));
    }

-- one more, behind some first ones
inserted : (room : ℕ) (begun before after : List ℕ) (n : ℕ) → groups room begun (before ++ after) ≤ groups room begun (before ++ n ∷ after)
inserted room begun [] after n =
    ⊎_elim
    (λ (full : room < sum_by weight begun + weight n). omega (arith, next_is room begun n after full, (bounds room after).any begun (n ∷ [])))
    (λ (fits : sum_by weight begun + weight n ≤ room).
    omega (arith, fits_is room begun n after fits, (bounds room after).fuller begun (begun ++ n ∷ []) (omega (arith, sum_by_push weight begun n))))
    (cases_lt room (sum_by weight begun + weight n))
inserted room begun (m ∷ before) after n =
    ⊎_elim
    (λ (full : room < sum_by weight begun + weight m).
    omega (arith, next_is room begun m (before ++ after) full, next_is room begun m (before ++ n ∷ after) full, inserted room (m ∷ []) before after n))
    (λ (fits : sum_by weight begun + weight m ≤ room).
    omega (arith, fits_is room begun m (before ++ after) fits, fits_is room begun m (before ++ n ∷ after) fits, inserted room (begun ++ m ∷ []) before after n))
    (cases_lt room (sum_by weight begun + weight m))

-- more children make no fewer parents
div_ceil_up : (fan n m : ℕ) → 0 < fan → n ≤ m → div_ceil n fan ≤ div_ceil m fan
div_ceil_up fan n m some h =
    let low = div_ceil_times n fan some in
    let high = div_ceil_times m fan some in
    by_size (div_ceil n fan) (div_ceil m fan) low.1 high.0
  where
    by_size : (d e : ℕ) → d * fan < n + fan → m ≤ e * fan → d ≤ e
    by_size d e low high =
        ⊎_elim
        (λ (less : e < d).
        let step : suc e * fan ≤ d * fan = mul-le (suc e) fan d fan (omega arith) (omega arith) in
        absurd (omega (arith, step, mul_comm (suc e) fan, mul-suc fan e, mul_comm e fan, low, high, h)))
        (λ (rest : d ≤ e). rest)
        (cases_lt e d)

levels_up : (levels fan n m : ℕ) → 0 < fan → n ≤ m → sum (level_sizes levels fan n) ≤ sum (level_sizes levels fan m)
levels_up zero fan n m some h = omega (arith, ap sum (sizes-none fan n), ap sum (sizes-none fan m))
levels_up (suc levels) fan n m some h =
    ⊎_elim
    (λ (more : 1 < n). omega (arith, sum-more levels fan n more, sum-more levels fan m (omega (arith, more, h)), levels_up levels fan (div_ceil n fan) (div_ceil m fan) some (div_ceil_up fan n m some h)))
    (λ (one : n ≤ 1).
    ⊎_elim
    (λ (more : 1 < m). omega (arith, sum-one levels fan n one, sum-more levels fan m more, h))
    (λ (also : m ≤ 1). omega (arith, sum-one levels fan n one, sum-one levels fan m also, h))
    (cases_lt 1 m))
    (cases_lt 1 n)

pub never_fall : NodesNeverFall
never_fall = λ nodesize before after n size.
    levels_up 256 (fan_out nodesize) (length (packed_leaves nodesize (before ++ after))) (length (packed_leaves nodesize (before ++ n ∷ after))) (omega (arith, wide_fan nodesize size))
    (inserted (capacity nodesize) [] before after n)
