-- The sizes of the levels of a tree.
use Rattle.btr_tree.proofs.Imports.{◌≡◌, ℕ, zero, suc, ◌+◌, ◌-◌, ◌*◌, ◌^◌, ◌<◌, ◌≤◌, [], ◌∷◌, get_or, refl, sym, ◌∙◌, ap, arith, zero-add, ⊎_elim, sum, div_ceil, cases_lt, le-leb, lt-leb, div_ceil_times, sum_by-cons, mul-le, pow-suc, level_sizes}

pub sizes-one : (d fan n : ℕ) → n ≤ 1 → level_sizes (suc d) fan n ≡ n ∷ []
unfolding level_sizes
sizes-one d fan n h = rw (le-leb n 1 h) refl

pub sizes-more : (d fan n : ℕ) → 1 < n → level_sizes (suc d) fan n ≡ n ∷ level_sizes d fan (div_ceil n fan)
unfolding level_sizes
sizes-more d fan n h = rw (lt-leb n 1 h) refl

pub sizes-none : (fan n : ℕ) → level_sizes 0 fan n ≡ []
unfolding level_sizes
sizes-none fan n = refl

pub sum-one : (d fan n : ℕ) → n ≤ 1 → sum (level_sizes (suc d) fan n) ≡ n
sum-one d fan n h = ap sum (sizes-one d fan n h) ∙ zero-add n

pub sum-more : (d fan n : ℕ) → 1 < n → sum (level_sizes (suc d) fan n) ≡ n + sum (level_sizes d fan (div_ceil n fan))
sum-more d fan n h = ap sum (sizes-more d fan n h) ∙ sum_by-cons (λ x. x) n (level_sizes d fan (div_ceil n fan))

-- a level is much smaller than the one below it
pub record IsSmaller (n above : ℕ) : Type 0 where
  pub few : 121 * above ≤ n + 120
  pub some : 1 ≤ above

one_off : (a fan : ℕ) → 1 ≤ a → (a - 1) * fan + fan ≡ a * fan
one_off zero fan h = absurd (omega arith)
one_off (suc a) fan h = grind arith

pub smaller : (n fan : ℕ) → 121 ≤ fan → 1 ≤ n → IsSmaller n (div_ceil n fan)
smaller n fan wide h =
    let above : ℕ = div_ceil n fan in
    let times : (n ≤ above * fan) × (above * fan < n + fan) = div_ceil_times n fan (omega arith) in
    let some : 1 ≤ above = not_none above times.0 in
    let split : (above - 1) * fan + fan ≡ above * fan = one_off above fan some in
    let less : (above - 1) * 121 ≤ (above - 1) * fan = mul-le (above - 1) 121 (above - 1) fan (omega arith) wide in
    record { few = omega arith; some = some }
  where
    not_none : (above : ℕ) → n ≤ above * fan → 1 ≤ above
    not_none zero low = absurd (omega arith)
    not_none (suc a) low = omega arith

-- the nodes of all levels are few
pub few_nodes : (e d fan n : ℕ) → 121 ≤ fan → 1 ≤ n → n ≤ 121 ^ d → 120 * sum (level_sizes e fan n) ≤ 121 * n + 120 * d
few_nodes zero d fan n wide some h = omega (arith, ap sum (sizes-none fan n))
few_nodes (suc e) zero fan n wide some h = omega (arith, sum-one e fan n h)
few_nodes (suc e) (suc d) fan n wide some h =
    ⊎_elim
    (λ (more : 1 < n).
    let less : IsSmaller n (div_ceil n fan) = smaller n fan wide some in
    let few : div_ceil n fan ≤ 121 ^ d = omega (arith, less.few, pow-suc 121 d) in
    let rest : 120 * sum (level_sizes e fan (div_ceil n fan)) ≤ 121 * div_ceil n fan + 120 * d = few_nodes e d fan (div_ceil n fan) wide less.some few in
    omega (arith, less.few, sum-more e fan n more))
    (λ (one : n ≤ 1). omega (arith, sum-one e fan n one))
    (cases_lt 1 n)

-- The count of all levels, where `nodes` are counted and the last of them are the level's own.
pub record IsUnderWay (fan leaves nodes level : ℕ) : Type 0 where
  pub depth : ℕ
  pub some : 1 ≤ level
  pub enough : level ≤ 2 ^ depth
  pub rest : nodes + sum (level_sizes (suc depth) fan level) ≡ sum (level_sizes 256 fan leaves) + level

pub way_begins : (fan leaves : ℕ) → 1 ≤ leaves → leaves ≤ 2 ^ 50 → IsUnderWay fan leaves leaves leaves
way_begins fan leaves some few = record { depth = 255; some = some; enough = omega arith; rest = omega arith }

pub way_goes_on : (fan leaves nodes level : ℕ) → 121 ≤ fan → IsUnderWay fan leaves nodes level → 1 < level
    → IsUnderWay fan leaves (nodes + div_ceil level fan) (div_ceil level fan)
way_goes_on fan leaves nodes level wide known more = deeper known.depth known.enough known.rest
  where
    deeper : (depth : ℕ) → level ≤ 2 ^ depth → nodes + sum (level_sizes (suc depth) fan level) ≡ sum (level_sizes 256 fan leaves) + level
        → IsUnderWay fan leaves (nodes + div_ceil level fan) (div_ceil level fan)
    deeper zero enough rest = absurd (omega arith)
    deeper (suc depth) enough rest =
        let less : IsSmaller level (div_ceil level fan) = smaller level fan wide (omega arith) in
        record {
          depth = depth;
          some = less.some;
          enough = omega (arith, less.few, pow-suc 2 depth);
          rest = omega (arith, sum-more (suc depth) fan level more);
        }

pub way_ends : (fan leaves nodes level : ℕ) → IsUnderWay fan leaves nodes level → level ≤ 1 → nodes ≡ sum (level_sizes 256 fan leaves)
way_ends fan leaves nodes level known one = omega (arith, known.rest, sum-one known.depth fan level one)

-- no more than all nodes are counted
pub way_within : (fan leaves nodes level : ℕ) → IsUnderWay fan leaves nodes level → nodes ≤ sum (level_sizes 256 fan leaves)
way_within fan leaves nodes level known =
    ⊎_elim
    (λ (more : 1 < level). omega (arith, known.rest, sum-more known.depth fan level more))
    (λ (one : level ≤ 1). omega (arith, known.rest, sum-one known.depth fan level one))
    (cases_lt 1 level)

-- all nodes are few
pub all_few : (fan leaves : ℕ) → 121 ≤ fan → 1 ≤ leaves → leaves ≤ 2 ^ 50 → 120 * sum (level_sizes 256 fan leaves) ≤ 121 * leaves + 960
all_few fan leaves wide some few = few_nodes 256 8 fan leaves wide some (omega arith)

-- level i of the tree has so many nodes
pub record IsLevel (fan leaves level i nodes : ℕ) : Type 0 where
  pub depth : ℕ
  pub deep : depth + i ≡ 255
  pub some : 1 ≤ nodes
  pub rest : get_or (level_sizes 256 fan leaves) level 0 ≡ get_or (level_sizes (suc depth) fan nodes) (level - i) 0

pub level_begins : (fan leaves level : ℕ) → 1 ≤ leaves → IsLevel fan leaves level 0 leaves
level_begins fan leaves level some = record { depth = 255; deep = refl; some = some; rest = let same : level ≡ level - 0 = omega arith in ap (λ k. get_or (level_sizes 256 fan leaves) k 0) same }

pub level_goes_on : (fan leaves level i nodes : ℕ) → 121 ≤ fan → IsLevel fan leaves level i nodes → 1 < nodes → i < level → level ≤ 255
    → IsLevel fan leaves level (i + 1) (div_ceil nodes fan)
level_goes_on fan leaves level i nodes wide known more below byte = deeper known.depth known.deep known.rest
  where
    deeper : (depth : ℕ) → depth + i ≡ 255 → get_or (level_sizes 256 fan leaves) level 0 ≡ get_or (level_sizes (suc depth) fan nodes) (level - i) 0
        → IsLevel fan leaves level (i + 1) (div_ceil nodes fan)
    deeper zero deep rest = absurd (omega arith)
    deeper (suc depth) deep rest =
        let at : level - i ≡ suc (level - (i + 1)) = omega arith in
        record {
          depth = depth;
          deep = omega arith;
          some = (smaller nodes fan wide (omega arith)).some;
          rest = rest ∙ (ap (λ (k : ℕ). get_or (level_sizes (suc (suc depth)) fan nodes) k 0) at ∙ ap (λ ns. get_or ns (suc (level - (i + 1))) 0) (sizes-more (suc depth) fan nodes more));
        }

pub level_ends : (fan leaves level nodes : ℕ) → IsLevel fan leaves level level nodes → nodes ≡ get_or (level_sizes 256 fan leaves) level 0
level_ends fan leaves level nodes known =
    ⊎_elim
    (λ (more : 1 < nodes). sym (known.rest ∙ (let at : level - level ≡ 0 = omega arith in rw (at, sizes-more known.depth fan nodes more) refl)))
    (λ (one : nodes ≤ 1). sym (known.rest ∙ (let at : level - level ≡ 0 = omega arith in rw (at, sizes-one known.depth fan nodes one) refl)))
    (cases_lt 1 nodes)

pub level_past : (fan leaves level i nodes : ℕ) → IsLevel fan leaves level i nodes → nodes ≤ 1 → i < level → 0 ≡ get_or (level_sizes 256 fan leaves) level 0
level_past fan leaves level i nodes known one below =
    let at : level - i ≡ suc (level - (i + 1)) = omega arith in sym (known.rest ∙ rw (sizes-one known.depth fan nodes one, at) refl)
