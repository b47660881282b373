-- From level to level of a tree.
use Rattle.reiser_make.proofs.Imports.{◌≡◌, ◌≤◌, ◌<◌, ℕ, zero, suc, ◌+◌, ◌-◌, ◌*◌, Bool, true, false, refl, sym, ap, ◌∙◌, arith, nat_le, cond, nat_tests, nodes_above, level_nodes, nodes_below, root_from, root_level, level_of, Level}

nodes_step : (leaves k : ℕ) → 1 ≤ k → level_nodes leaves (k + 1) ≡ nodes_above (level_nodes leaves k)
nodes_step leaves zero low = absurd (omega arith)
nodes_step leaves (suc k) low = ap (level_nodes leaves) (let next : suc k + 1 ≡ suc (suc k) = omega arith in next)

below_step : (leaves k : ℕ) → 1 ≤ k → nodes_below leaves (k + 1) ≡ nodes_below leaves k + level_nodes leaves k
below_step leaves zero low = absurd (omega arith)
below_step leaves (suc k) low = ap (nodes_below leaves) (let next : suc k + 1 ≡ suc (suc k) = omega arith in next)

pub nodes_most : (leaves k : ℕ) → leaves ≤ 12123 → level_nodes leaves k ≤ 12123
nodes_most leaves zero few = few
nodes_most leaves (suc zero) few = few
nodes_most leaves (suc (suc k)) few = omega (arith, nodes_most leaves (suc k) few)

pub below_most : (leaves k : ℕ) → leaves ≤ 12123 → nodes_below leaves k ≤ 12123 * k
below_most leaves zero few = omega arith
below_most leaves (suc zero) few = omega arith
below_most leaves (suc (suc k)) few = omega (arith, below_most leaves (suc k) few, nodes_most leaves (suc k) few)

abbrev level_as : ℕ → ℕ → ℕ → Level
level_as n m b = record { number = n; nodes = m; below = b }

-- the level above a level
pub level_more : (leaves k : ℕ) (old new : Level) → 1 ≤ k → old ≡ level_of leaves k → new.number ≡ old.number + 1 → new.nodes ≡ nodes_above old.nodes → new.below ≡ old.below + old.nodes
    → new ≡ level_of leaves (k + 1)
level_more leaves k old new low is number nodes below =
    let number' : new.number ≡ k + 1 = number ∙ ap (λ (l : Level). l.number + 1) is in
    let nodes' : new.nodes ≡ level_nodes leaves (k + 1) = nodes ∙ ap (λ (l : Level). nodes_above l.nodes) is ∙ sym (nodes_step leaves k low) in
    let below' : new.below ≡ nodes_below leaves (k + 1) = below ∙ ap (λ (l : Level). l.below + l.nodes) is ∙ sym (below_step leaves k low) in
    ap (λ n. level_as n new.nodes new.below) number' ∙ ap (λ n. level_as (k + 1) n new.below) nodes' ∙ ap (level_as (k + 1) (level_nodes leaves (k + 1))) below'

low_either : (b : Bool) (k m : ℕ) → k + 1 ≤ m → k ≤ cond b k m
low_either true k m le = omega arith
low_either false k m le = omega arith

-- the root is not found up to a level
pub record Climbs (leaves : ℕ) (level : Level) : Type 0 where
  pub is : level ≡ level_of leaves level.number
  pub low : 1 ≤ level.number
  pub high : level.number ≤ 3
  pub root : root_from (6 - level.number) level.number level.nodes ≡ root_level leaves
  pub first : level.nodes ≤ 12123
  pub second : 1 < level.number → level.nodes ≤ 72
  pub third : 2 < level.number → level.nodes ≤ 1

pub climbs_first : (leaves : ℕ) (level : Level) → 1 ≤ leaves → leaves ≤ 12123 → level ≡ level_of leaves 1 → Climbs leaves level
unfolding root_level
climbs_first leaves level some few is =
    rw is (record { is = refl; low = omega arith; high = omega arith; root = refl; first = few; second = λ h. absurd (omega arith); third = λ h. absurd (omega arith) })

pub below_third : (k n : ℕ) → (2 < k → n ≤ 1) → 1 < n → k ≤ 2
below_third k n third many = grind (arith, third)

pub climbs_more : (leaves : ℕ) (level new : Level) → Climbs leaves level → 1 < level.nodes → new.number ≡ level.number + 1 → new.nodes ≡ nodes_above level.nodes → new.below ≡ level.below + level.nodes
    → Climbs leaves new
climbs_more leaves level new before many number nodes below =
    let is : new ≡ level_of leaves (level.number + 1) = level_more leaves level.number level new before.low before.is number nodes below in
    let left : 6 - level.number ≡ suc (6 - new.number) = omega (arith, number, before.high) in
    let past : nat_le level.nodes 1 ≡ false = grind (arith, nat_tests) in
    let next : root_from (suc (6 - new.number)) level.number level.nodes ≡ root_from (6 - new.number) (level.number + 1) (nodes_above level.nodes) =
    ap (λ b. cond b level.number (root_from (6 - new.number) (level.number + 1) (nodes_above level.nodes))) past in
    record {
      is = is ∙ ap (level_of leaves) (sym number);
      low = omega (arith, number);
      high = omega (arith, number, below_third level.number level.nodes before.third many);
      root = ap (λ n. root_from (6 - new.number) n new.nodes) number ∙ ap (root_from (6 - new.number) (level.number + 1)) nodes ∙ sym next
          ∙ sym (ap (λ n. root_from n level.number level.nodes) left) ∙ before.root;
      first = omega (arith, nodes, before.first);
      second = λ h. omega (arith, nodes, before.first);
      third = λ h. omega (arith, nodes, before.second (omega (arith, number)));
    }

pub climbed : (leaves : ℕ) (level : Level) → Climbs leaves level → level.nodes ≤ 1 → root_level leaves ≡ level.number
climbed leaves level climbs one =
    let left : 6 - level.number ≡ suc (5 - level.number) = omega (arith, climbs.high) in
    let here : nat_le level.nodes 1 ≡ true = grind (arith, nat_tests) in
    sym climbs.root ∙ ap (λ n. root_from n level.number level.nodes) left
    ∙ ap (λ b. cond b level.number (root_from (5 - level.number) (level.number + 1) (nodes_above level.nodes))) here

root_from_low : (levels level n : ℕ) → level ≤ root_from levels level n
root_from_low zero level n = omega arith
root_from_low (suc levels) level n = low_either (nat_le n 1) level (root_from levels (level + 1) (nodes_above n)) (root_from_low levels (level + 1) (nodes_above n))

pub root_low : (leaves : ℕ) → 1 ≤ root_level leaves
unfolding root_level
root_low leaves = root_from_low 5 1 leaves

-- a level of more than one node is below the root
pub climbs_below : (leaves : ℕ) (level : Level) → Climbs leaves level → 1 < level.nodes → level.number < root_level leaves
climbs_below leaves level climbs many =
    let left : 6 - level.number ≡ suc (5 - level.number) = omega (arith, climbs.high) in
    let past : nat_le level.nodes 1 ≡ false = grind (arith, nat_tests) in
    let up : ℕ = root_from (5 - level.number) (level.number + 1) (nodes_above level.nodes) in
    let is : root_level leaves ≡ up = sym climbs.root ∙ ap (λ n. root_from n level.number level.nodes) left ∙ ap (λ b. cond b level.number up) past in
    omega (arith, is, root_from_low (5 - level.number) (level.number + 1) (nodes_above level.nodes))

-- a low level has few nodes below it
pub below_few : (leaves : ℕ) (level : Level) → leaves ≤ 12123 → level ≡ level_of leaves level.number → level.number ≤ 2 → level.below ≤ 100000
below_few leaves level few is low =
    let below : level.below ≡ nodes_below leaves level.number = ap (λ (l : Level). l.below) is in
    omega (arith, below, below_most leaves level.number few, low)

pub nodes_some : (leaves k : ℕ) → 1 ≤ leaves → 1 ≤ level_nodes leaves k
nodes_some leaves zero some = some
nodes_some leaves (suc zero) some = some
nodes_some leaves (suc (suc k)) some = omega (arith, nodes_some leaves (suc k) some)

-- the root is one node
pub root_one : (leaves : ℕ) (level : Level) → 1 ≤ leaves → Climbs leaves level → level.nodes ≤ 1 → level.nodes ≡ 1
root_one leaves level some climbs one =
    let nodes : level.nodes ≡ level_nodes leaves level.number = ap (λ (l : Level). l.nodes) climbs.is in
    omega (arith, nodes, nodes_some leaves level.number some, one)
