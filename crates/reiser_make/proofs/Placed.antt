-- Where blocks go: below the end of what is used.
use Rattle.reiser_make.proofs.Imports.{◌≡◌, ◌≤◌, ◌<◌, ℕ, zero, suc, ◌+◌, ◌-◌, ◌*◌, ◌%◌, Bool, true, false, ◌&&◌, ◌||◌, ◌==◌, List, [], ◌∷◌, length, take, get_or, refl, sym, ap, subst, ◌∙◌, arith, eq-eqb, add-zero, nat_lt, BITS_IN_BLOCK, nat_tests, needed, total, node_place, level_nodes, nodes_below, root_level, IsUsage, IsUsed, leaves, place, least_size, sum_by, take_more, sum_by-append, sum_by-take-le, Shape, stored_in, stored_before, stored_blocks, SampleEntry, level_of, Usage, Level}
use Rattle.std.specs.Prelude.{IsTrue}
use Rattle.reiser_make.proofs.Counting.{leaves_some}
use Rattle.reiser_make.proofs.Rising.{root_low}

both_true : (a b c : Bool) → a ≡ true → b ≡ true → IsTrue (a && (b || c))
both_true true true c p q = refl
both_true true false c p q = (cc)
both_true false b c p q = (cc)

both_true_last : (a b c : Bool) → a ≡ true → c ≡ true → IsTrue (a && (b || c))
both_true_last true true c p q = refl
both_true_last true false true p q = refl
both_true_last true false false p q = (cc)
both_true_last false b c p q = (cc)

-- a block below the end of what is used
pub used_below : (s : Shape) (usage : Usage) (b : ℕ) → IsUsage s usage → b < needed s → IsUsed usage b
used_below s usage b is lt =
    let low : b < usage.needed = omega (arith, is.needed, lt) in
    let inside : b < usage.blocks = omega (arith, low, is.fits) in
    both_true (nat_lt b usage.blocks) (nat_lt b usage.needed) (b % BITS_IN_BLOCK == 0) (grind (arith, nat_tests)) (grind (arith, nat_tests))

-- a bitmap block
pub used_bitmap : (usage : Usage) (k : ℕ) → BITS_IN_BLOCK * k < usage.blocks → IsUsed usage (BITS_IN_BLOCK * k)
used_bitmap usage k lt =
    let whole : BITS_IN_BLOCK * k % BITS_IN_BLOCK ≡ 0 = omega arith in
    both_true_last (nat_lt (BITS_IN_BLOCK * k) usage.blocks) (nat_lt (BITS_IN_BLOCK * k) usage.needed) (BITS_IN_BLOCK * k % BITS_IN_BLOCK == 0) (grind (arith, nat_tests)) (eq-eqb _ _ whole)

pub place_below : (j total : ℕ) → j < total → place j < least_size total
unfolding place
place_below j total lt = omega arith

-- the blocks before the data
pub system_below : (total b : ℕ) → 1 ≤ total → b < 8211 → b < least_size total
unfolding place
system_below total b some lt = omega arith

-- nodes of levels
below_more : (leaves k : ℕ) → 1 ≤ k → nodes_below leaves (k + 1) ≡ nodes_below leaves k + level_nodes leaves k
below_more leaves zero low = absurd (omega arith)
below_more leaves (suc k) low = ap (nodes_below leaves) (let next : suc k + 1 ≡ suc (suc k) = omega arith in next)

below_rises : (leaves k n : ℕ) → 1 ≤ k → nodes_below leaves k ≤ nodes_below leaves (k + n)
below_rises leaves k zero low = omega (arith, ap (nodes_below leaves) (add-zero k))
below_rises leaves k (suc n) low =
    let next : k + suc n ≡ k + n + 1 = omega arith in
    omega (arith, ap (nodes_below leaves) next, below_more leaves (k + n) (omega arith), below_rises leaves k n low)

pub node_below : (s : Shape) (level m : ℕ) → 1 ≤ level → level ≤ root_level (length (leaves s)) → m < level_nodes (length (leaves s)) level → node_place s level m < needed s
node_below s level m low high lt =
    let count : ℕ = length (leaves s) in
    let root : ℕ = root_level count in
    let end : level + 1 + (root - level) ≡ root + 1 = omega (arith, high) in
    place_below (stored_in s.names + nodes_below count level + m) (total s)
    (omega (arith, below_more count level low, below_rises count (level + 1) (root - level) (omega arith), ap (nodes_below count) end, lt))

pub data_below : (s : Shape) (j : ℕ) → j < stored_in s.names → place j < needed s
data_below s j lt = place_below j (total s) (omega arith)

-- there is a leaf
pub total_some : (s : Shape) → 1 ≤ total s
total_some s =
    let count : ℕ = length (leaves s) in
    let root : ℕ = root_level count in
    let low : 1 ≤ root = root_low count in
    let end : 2 + (root - 1) ≡ root + 1 = omega (arith, low) in
    omega (arith, below_rises count 2 (root - 1) (omega arith), ap (nodes_below count) end, leaves_some s)

pub needed_some : (s : Shape) → 1 ≤ needed s
needed_some s = omega arith

-- data blocks: where the j-th stored one of a file goes
pub data_at : (s : Shape) (i j first b count stored : ℕ) → b ≡ place (first + j) → first ≡ stored_before s.names i → j < count → count ≡ stored
    → stored_before s.names i + stored ≤ stored_in s.names → (b ≡ place (stored_before s.names i + j)) × (b < needed s)
data_at s i j first b count stored is is-first lt is-count within =
    let at : b ≡ place (stored_before s.names i + j) = is ∙ ap (λ n. place (n + j)) is-first in
    (at, subst (λ (n : ℕ). n < needed s) (sym at) (data_below s (stored_before s.names i + j) (omega (arith, lt, is-count, within))))

-- nodes: where node m of a level goes
pub node_at : (s : Shape) (number level m b : ℕ) → b ≡ node_place s number m → number ≡ level → 1 ≤ level → level ≤ root_level (length (leaves s)) → m < level_nodes (length (leaves s)) level
    → (b ≡ node_place s level m) × (b < needed s)
node_at s number level m b is is-level low high lt =
    let at : b ≡ node_place s level m = is ∙ ap (λ n. node_place s n m) is-level in
    (at, subst (λ (n : ℕ). n < needed s) (sym at) (node_below s level m low high lt))

-- nodes above a level: where node m goes
pub level_at : (s : Shape) (count number m b : ℕ) (level : Level) → count ≡ length (leaves s) → level ≡ level_of count (number + 1) → number < root_level count
    → b ≡ node_place s level.number m → m < level.nodes → (b ≡ node_place s (number + 1) m) × (b < needed s)
level_at s count number m b level counted is root is-b lt =
    let nodes : level.nodes ≡ level_nodes (length (leaves s)) (number + 1) = ap (λ (l : Level). l.nodes) is ∙ ap (λ n. level_nodes n (number + 1)) counted in
    let high : number < root_level (length (leaves s)) = subst (λ n. number < root_level n) counted root in
    node_at s level.number (number + 1) m b is-b (ap (λ (l : Level). l.number) is) (omega arith) (omega (arith, high)) (omega (arith, nodes, lt))

-- the root is the last block
pub needed_is : (s : Shape) (count b : ℕ) (level : Level) → count ≡ length (leaves s) → level ≡ level_of count (root_level count) → level.nodes ≡ 1 → b ≡ node_place s level.number 0 → b + 1 ≡ needed s
needed_is s count b level counted is one is-b =
    let root : ℕ = root_level (length (leaves s)) in
    let number : level.number ≡ root = ap (λ (l : Level). l.number) is ∙ ap root_level counted in
    let single : level_nodes (length (leaves s)) root ≡ 1 = sym (ap (λ (l : Level). l.nodes) is ∙ ap (λ n. level_nodes n (root_level n)) counted) ∙ one in
    let last : stored_in s.names + nodes_below (length (leaves s)) root + 0 ≡ total s - 1 = omega (arith, below_more (length (leaves s)) root (root_low (length (leaves s))), single) in
    ap (λ n. n + 1) (is-b ∙ ap (λ n. node_place s n 0) number ∙ ap place last)
