-- A tree of items that take few bytes has few nodes.
use Rattle.convert_trees_laws.proofs.Imports.{◌≡◌, ℕ, zero, suc, ◌+◌, ◌-◌, ◌*◌, ◌/◌, ◌^◌, ◌<◌, ◌≤◌, List, [], ◌∷◌, ◌++◌, length, ap, arith, ⊎_elim, div-mul-le_self, div_ceil, cases_lt, div_ceil_times, length_push, sum_by-cons, sum_by_push, IsNodeSize, bytes_of, leaf_bound, node_bound, tree_nodes, capacity, fan_out, packed_leaves, packed_from, weight, bound_up}
use Rattle.std.proofs.lemmas.Nat.{le-div, mul-le}
use Rattle.convert_steps.proofs.btr_tree.Groups.{ends_in, packed-fits, packed-next, packed-none}
use Rattle.convert_steps.proofs.btr_tree.Sizes.{all_few}

one_off : (n room : ℕ) → 1 ≤ n → (n - 1) * room + room ≡ n * room
one_off zero room h = absurd (omega arith)
one_off (suc n) room h = grind arith

some_groups : (room : ℕ) (begun es : List ℕ) → 1 ≤ length (packed_from weight room begun es)
some_groups room begun es = let found = ends_in weight room begun es in omega (arith, ap length found.2, length_push found.0 found.1)

-- Two neighbours hold more than a room together.
few_groups : (room : ℕ) (begun es : List ℕ) → (length (packed_from weight room begun es) - 1) * room ≤ bytes_of begun + 2 * bytes_of es
few_groups room begun [] = let one : length (packed_from weight room begun []) ≡ 1 = ap length (packed-none weight room begun) in rw one (omega arith)
few_groups room begun (e ∷ es) =
    ⊎_elim
    (λ (next : room < bytes_of begun + weight e).
    let others : ℕ = length (packed_from weight room (e ∷ []) es) in
    let rest : (others - 1) * room ≤ bytes_of (e ∷ []) + 2 * bytes_of es = few_groups room (e ∷ []) es in
    let longer : length (packed_from weight room begun (e ∷ es)) ≡ suc others = ap length (packed-next weight room begun e es next) in
    let off : (others - 1) * room + room ≡ others * room = one_off others room (some_groups room (e ∷ []) es) in
    let same : length (packed_from weight room begun (e ∷ es)) - 1 ≡ others = omega (arith, longer) in
    rw same (omega (arith, rest, off, next, sum_by-cons weight e es, sum_by-cons weight e [])))
    (λ (fits : bytes_of begun + weight e ≤ room).
    rw (packed-fits weight room begun e es fits) (omega (arith, few_groups room (begun ++ e ∷ []) es, sum_by_push weight begun e, sum_by-cons weight e es)))
    (cases_lt room (bytes_of begun + weight e))

-- what the size of nodes gives
record IsRoomy (n : ℕ) : Type 0 where
  room : 3995 ≤ capacity n
  wide : 121 ≤ fan_out n

roomy : (n : ℕ) → IsNodeSize n → IsRoomy n
roomy n size =
    let room : 3995 ≤ capacity n =
    ⊎_elim (λ (e : n ≡ 4096). omega arith) (λ rest. ⊎_elim (λ (e : n ≡ 8192). omega arith) (λ rest'. ⊎_elim (λ (e : n ≡ 16384). omega arith) (λ rest''. ⊎_elim (λ (e : n ≡ 32768). omega arith) (λ (e : n ≡ 65536). omega arith) rest'') rest') rest) size in
    record { room = room; wide = omega (arith, room) }

few_leaves : (nodesize : ℕ) (lengths : List ℕ) → IsNodeSize nodesize → length (packed_leaves nodesize lengths) ≤ leaf_bound (bytes_of lengths) nodesize
few_leaves nodesize lengths size =
    let n : ℕ = length (packed_leaves nodesize lengths) in
    let some : 1 ≤ n = some_groups (capacity nodesize) [] lengths in
    let few : (n - 1) * capacity nodesize ≤ 2 * bytes_of lengths = omega (arith, few_groups (capacity nodesize) [] lengths) in
    omega (arith, le-div (n - 1) (2 * bytes_of lengths) (capacity nodesize) (omega (arith, (roomy nodesize size).room)) few, some)

-- with less than 2^60 bytes there are less than 2^50 leaves
leaves_low : (nodesize bytes : ℕ) → IsNodeSize nodesize → bytes < 2 ^ 60 → leaf_bound bytes nodesize ≤ 2 ^ 50
leaves_low nodesize bytes size small = below (2 * bytes / capacity nodesize) (capacity nodesize) (roomy nodesize size).room (div-mul-le_self (2 * bytes) (capacity nodesize))
  where
    below : (q c : ℕ) → 3995 ≤ c → q * c ≤ 2 * bytes → q + 1 ≤ 2 ^ 50
    below q c wide low = let step : q * 3995 ≤ q * c = mul-le q 3995 q c (omega arith) wide in omega (arith, step, low, small)

-- what the tree takes is no more than the bound
exactly_few : (nodesize : ℕ) (lengths : List ℕ) → IsNodeSize nodesize → bytes_of lengths < 2 ^ 60 → tree_nodes nodesize lengths ≤ node_bound (bytes_of lengths) nodesize
exactly_few nodesize lengths size small =
    let n : ℕ = length (packed_leaves nodesize lengths) in
    let most : n ≤ leaf_bound (bytes_of lengths) nodesize = few_leaves nodesize lengths size in
    let low : leaf_bound (bytes_of lengths) nodesize ≤ 2 ^ 50 = leaves_low nodesize (bytes_of lengths) size small in
    let all : 120 * tree_nodes nodesize lengths ≤ 121 * n + 960 = all_few (fan_out nodesize) n (roomy nodesize size).wide (some_groups (capacity nodesize) [] lengths) (omega (arith, most, low)) in
    by_parts n (leaf_bound (bytes_of lengths) nodesize) (tree_nodes nodesize lengths) most all
  where
    by_parts : (n l x : ℕ) → n ≤ l → 120 * x ≤ 121 * n + 960 → x ≤ l + div_ceil l 64 + 8
    by_parts n l x most all = omega (arith, div_ceil_times l 64 (omega arith), most, all)

pub nodes_few : (nodesize bytes : ℕ) (lengths : List ℕ) → IsNodeSize nodesize → bytes_of lengths ≤ bytes → bytes < 2 ^ 60 → tree_nodes nodesize lengths ≤ node_bound bytes nodesize
nodes_few nodesize bytes lengths size few small =
    omega (arith, exactly_few nodesize lengths size (omega (arith, few, small)), bound_up (bytes_of lengths) bytes nodesize size few)
