-- The blocks that a walk of a sample reaches: used ones, none of the volume's own, and each once.
use Rattle.reiser_make_laws.proofs.Imports.{◌≡◌, ◌≢◌, ◌⊎◌, inl, inr, ℕ, zero, suc, ◌+◌, ◌-◌, ◌≤◌, ◌<◌, Bool, List, [], ◌∷◌, ◌++◌, length, map, get_or, refl, sym, ◌∙◌, ap, subst, arith, append-nil, length-append, nat_lt, range_with_len, flat_map, Image, total, node_place, leaf_at, level_nodes, nodes_below, nodes_above, root_level, first_child, end_child, child_count, leaves, place, Shape, shape, stored_in, Event, pointer, item_events, held_by, reached_in, BlockPointer, reached_in-append, Each, Pairs, FitsSample, made, met_item, leaf_items, laid_events}
use Rattle.reiser_make.specs.Items as laid
use Rattle.reiser_make.specs.declared.sample_item.SampleItem as parts
use Rattle.reiser_make_laws.proofs.Ascending.{each_join, each_to, pairs_append}
use Rattle.reiser_make_laws.proofs.Data.{item_blocks, list_blocks, Runs, runs_split, runs_end, flat_split, sample_runs}
use Rattle.reiser_make_laws.proofs.Held.{many_nodes, HasChildren, has_children}
use Rattle.reiser_make_laws.proofs.Items.{edge, edge_in, end_edge_by, one_leaf_by, joined, leaves_joined, map_split}
use Rattle.reiser_make_laws.proofs.Places.{below_next}

-- how many blocks of data the first leaves name
abbrev pub data_edge : Shape → List (List parts.SampleItem) → ℕ → ℕ
data_edge s [] m = 0
data_edge s (l ∷ ls) zero = 0
data_edge s (l ∷ ls) (suc m) = length (list_blocks s l) + data_edge s ls m

data_first : (s : Shape) (ls : List (List parts.SampleItem)) → data_edge s ls 0 ≡ 0
data_first s [] = refl
data_first s (l ∷ ls) = refl

data_rises : (s : Shape) (ls : List (List parts.SampleItem)) (m k : ℕ) → m ≤ k → data_edge s ls m ≤ data_edge s ls k
data_rises s [] m k low = omega arith
data_rises s (l ∷ ls) zero k low = omega arith
data_rises s (l ∷ ls) (suc m) zero low = absurd (omega (arith, low))
data_rises s (l ∷ ls) (suc m) (suc k) low = omega (arith, data_rises s ls m k (omega (arith, low)))

data_most : (s : Shape) (ls : List (List parts.SampleItem)) (m : ℕ) → data_edge s ls m ≤ length (list_blocks s (joined ls))
data_most s [] m = omega arith
data_most s (l ∷ ls) zero = omega arith
data_most s (l ∷ ls) (suc m) =
    omega (arith, data_most s ls m, ap length (flat_split (item_blocks s) l (joined ls)), length-append (list_blocks s l) (list_blocks s (joined ls)))

leaf_runs : (s : Shape) (ls : List (List parts.SampleItem)) (a b : ℕ) → Runs a b (list_blocks s (joined ls)) → (m : ℕ) → m < length ls
    → Runs (a + data_edge s ls m) (a + data_edge s ls (suc m)) (list_blocks s (get_or ls m []))
leaf_runs s [] a b runs m lt = absurd (omega (arith, lt))
leaf_runs s (l ∷ ls) a b runs zero lt =
    let parted = runs_split a b (list_blocks s l) (list_blocks s (joined ls)) (subst (Runs a b) (flat_split (item_blocks s) l (joined ls)) runs) in
    let begin : a ≡ a + 0 = omega arith in
    let end : a + length (list_blocks s l) ≡ a + (length (list_blocks s l) + data_edge s ls 0) = omega (arith, data_first s ls) in
    subst (λ n. Runs n (a + (length (list_blocks s l) + data_edge s ls 0)) (list_blocks s l)) begin (subst (λ n. Runs a n (list_blocks s l)) end parted.0)
leaf_runs s (l ∷ ls) a b runs (suc m) lt =
    let parted = runs_split a b (list_blocks s l) (list_blocks s (joined ls)) (subst (Runs a b) (flat_split (item_blocks s) l (joined ls)) runs) in
    let size : ℕ = length (list_blocks s l) in
    let begin : a + size + data_edge s ls m ≡ a + (size + data_edge s ls m) = omega arith in
    let end : a + size + data_edge s ls (suc m) ≡ a + (size + data_edge s ls (suc m)) = omega arith in
    subst (λ n. Runs n (a + (size + data_edge s ls (suc m))) (list_blocks s (get_or ls m []))) begin
    (subst (λ n. Runs (a + size + data_edge s ls m) n (list_blocks s (get_or ls m []))) end (leaf_runs s ls (a + size) b parted.1 m (omega (arith, lt))))

-- the pointers to data that the items of a leaf hold
reached_pointers : (ps : List BlockPointer) → reached_in (map pointer ps) ≡ ps
reached_pointers [] = refl
reached_pointers (p ∷ ps) = ap (λ z. p ∷ z) (reached_pointers ps)

held : (s : Shape) (leaf : ℕ) (xs : List parts.SampleItem) → reached_in (flat_map item_events (map (met_item s leaf) xs)) ≡ held_by leaf (list_blocks s xs)
held s leaf [] = refl
held s leaf (x ∷ xs) =
    reached_in-append (item_events (met_item s leaf x)) (flat_map item_events (map (met_item s leaf) xs))
    ∙ ap (λ z. z ++ reached_in (flat_map item_events (map (met_item s leaf) xs))) (reached_pointers (held_by leaf (item_blocks s x)))
    ∙ ap (λ z. held_by leaf (item_blocks s x) ++ z) (held s leaf xs)
    ∙ sym (map_split (λ b. record { block = b; holder = leaf }) (item_blocks s x) (list_blocks s xs))

place_same : (i j : ℕ) → place i ≡ place j → i ≡ j
unfolding place
place_same i j same = omega (arith, same)

abbrev pub Differs : BlockPointer → BlockPointer → Type 0
Differs p q = p.block ≢ q.block

-- a pointer to the place of a number between two
pub record IsDatum (a b : ℕ) (p : BlockPointer) : Type 0 where
  pub at : ℕ
  pub low : a ≤ at
  pub high : at < b
  pub is : p.block ≡ place at

data_each : (leaf a b : ℕ) (bs : List ℕ) → Runs a b bs → Each (IsDatum a b) (held_by leaf bs)
data_each leaf a b [] runs = tt
data_each leaf a b (x ∷ xs) runs = (
  record { at = a; low = omega arith; high = omega (arith, runs_end (a + 1) b xs runs.1); is = runs.0 },
  each_to (IsDatum (a + 1) b) (IsDatum a b) (λ p d. record { at = d.at; low = omega (arith, d.low); high = d.high; is = d.is }) (held_by leaf xs) (data_each leaf (a + 1) b xs runs.1),
)

data_pairs : (leaf a b : ℕ) (bs : List ℕ) → Runs a b bs → Pairs Differs (held_by leaf bs)
data_pairs leaf a b [] runs = tt
data_pairs leaf a b (x ∷ xs) runs = (
  each_to (IsDatum (a + 1) b) (λ q. x ≢ q.block) (λ q d. λ same. omega (arith, d.low, place_same a d.at (sym runs.0 ∙ same ∙ d.is))) (held_by leaf xs) (data_each leaf (a + 1) b xs runs.1),
  data_pairs leaf (a + 1) b xs runs.1,
)

below_up : (leaves k n : ℕ) → 1 ≤ k → nodes_below leaves k ≤ nodes_below leaves (k + n)
below_up leaves k zero low = let same : k + 0 ≡ k = omega arith in omega (arith, ap (nodes_below leaves) same)
below_up leaves k (suc n) low =
    let next : k + suc n ≡ k + n + 1 = omega arith in
    omega (arith, ap (nodes_below leaves) next, below_next leaves (k + n) (omega (arith, low)), below_up leaves k n low)

-- the nodes of a level come before those of each higher one
levels_apart : (leaves k l : ℕ) → 1 ≤ k → k < l → nodes_below leaves k + level_nodes leaves k ≤ nodes_below leaves l
levels_apart leaves k l low lt =
    let rest : k + 1 + (l - (k + 1)) ≡ l = omega (arith, lt) in
    omega (arith, below_next leaves k low, below_up leaves (k + 1) (l - (k + 1)) (omega arith), ap (nodes_below leaves) rest)

runs_zero : (a b : ℕ) (bs : List ℕ) → Runs (0 + a) (0 + b) bs → Runs a b bs
runs_zero a b bs runs =
    let from : 0 + a ≡ a = omega arith in
    let to : 0 + b ≡ b = omega arith in
    subst (λ n. Runs n b bs) from (subst (λ n. Runs (0 + a) n bs) to runs)

module _ (number : ℕ) (old : Bool) (blocks : ℕ) (image : Image) (fits : FitsSample number old blocks image) where
  abbrev pub s : Shape
  s = shape number old

  abbrev pub count : ℕ
  count = length (leaves s)

  abbrev pub stored : ℕ
  stored = stored_in s.names

  abbrev pub D : ℕ → ℕ
  D m = data_edge s (leaves s) m

  all_runs : Runs 0 stored (list_blocks s (joined (leaves s)))
  unfolding leaves
  all_runs = subst (λ z. Runs 0 stored (list_blocks s z)) (sym (leaves_joined (laid.items s))) (sample_runs number old fits.number_low)

  D_most : (m : ℕ) → D m ≤ stored
  D_most m = omega (arith, data_most s (leaves s) m, runs_end 0 stored (list_blocks s (joined (leaves s))) all_runs)

  -- A pointer below nodes of a level, from one edge to another: to a node whose first leaf lies there, or to data of such a leaf.
  pub data Below (level a b : ℕ) (p : BlockPointer) : Type 0 where
    to_node : (k i : ℕ) → 1 ≤ k → k ≤ level → i < level_nodes count k → a ≤ edge count k i → edge count k i < b → p.block ≡ node_place s k i → Below level a b p
    to_data : IsDatum (D a) (D b) p → Below level a b p

  wider : (level more a b c d : ℕ) (p : BlockPointer) → level ≤ more → c ≤ a → b ≤ d → Below level a b p → Below more c d p
  wider level more a b c d p high low end (to_node k i some up lt from to is) = to_node k i some (omega (arith, up, high)) lt (omega (arith, low, from)) (omega (arith, to, end)) is
  wider level more a b c d p high low end (to_data x) =
      to_data (record { at = x.at; low = omega (arith, x.low, data_rises s (leaves s) c a low); high = omega (arith, x.high, data_rises s (leaves s) b d end); is = x.is })

  same_by : (k i l j : ℕ) → 1 ≤ k → 1 ≤ l → i < level_nodes count k → j < level_nodes count l → stored + nodes_below count k + i ≡ stored + nodes_below count l + j → (k < l) ⊎ (l < k) ⊎ (k ≡ l) → (k ≡ l) × (i ≡ j)
  same_by k i l j low lower lt less at (inl before) = absurd (omega (arith, at, lt, levels_apart count k l low before))
  same_by k i l j low lower lt less at (inr (inl behind)) = absurd (omega (arith, at, less, levels_apart count l k lower behind))
  same_by k i l j low lower lt less at (inr (inr level)) = (level, omega (arith, at, ap (nodes_below count) level))

  same_node : (k i l j : ℕ) → 1 ≤ k → 1 ≤ l → i < level_nodes count k → j < level_nodes count l → node_place s k i ≡ node_place s l j → (k ≡ l) × (i ≡ j)
  same_node k i l j low lower lt less same =
      let at : stored + nodes_below count k + i ≡ stored + nodes_below count l + j = place_same _ _ same in
      same_by k i l j low lower lt less at (grind arith)

  -- what lies below different nodes of a level differs
  apart : (level a b c d : ℕ) (p q : BlockPointer) → b ≤ c → Below level a b p → Below level c d q → p.block ≢ q.block
  apart level a b c d p q low (to_node k i some up lt from to is) (to_node l j any higher less begin end are) = λ same.
      let both = same_node k i l j some any lt less (sym is ∙ same ∙ are) in
      let edges : edge count k i ≡ edge count l j = ap (λ n. edge count n i) both.0 ∙ ap (edge count l) both.1 in
      omega (arith, to, begin, low, edges)
  apart level a b c d p q low (to_node k i some up lt from to is) (to_data y) = λ same.
      omega (arith, place_same _ _ (sym is ∙ same ∙ y.is), y.high, D_most d)
  apart level a b c d p q low (to_data x) (to_node l j any higher less begin end are) = λ same.
      omega (arith, place_same _ _ (sym x.is ∙ same ∙ are), x.high, D_most b)
  apart level a b c d p q low (to_data x) (to_data y) = λ same.
      omega (arith, place_same _ _ (sym x.is ∙ same ∙ y.is), x.high, y.low, data_rises s (leaves s) b c low)

  -- what events reach, from one edge to another
  pub record Reaches (level a b : ℕ) (events : List Event) : Type 0 where
    pub each : Each (Below level a b) (reached_in events)
    pub once : Pairs Differs (reached_in events)
    pub rises : a < b

  rows : (level : ℕ) (F : ℕ → List Event) (e : ℕ → ℕ) (a n : ℕ) → ((k : ℕ) → a ≤ k → k < a + suc n → Reaches level (e k) (e (k + 1)) (F k)) → Reaches level (e a) (e (a + suc n)) (flat_map F (range_with_len a (suc n)))
  rows level F e a zero each =
      let one : Reaches level (e a) (e (a + 1)) (F a) = each a (omega arith) (omega arith) in
      let whole : F a ++ [] ≡ F a = append-nil (F a) in
      subst (λ (es : List Event). Reaches level (e a) (e (a + 1)) es) (sym whole) one
  rows level F e a (suc n) each =
      let more : List Event = flat_map F (range_with_len (a + 1) (suc n)) in
      let one : Reaches level (e a) (e (a + 1)) (F a) = each a (omega arith) (omega arith) in
      let rest : Reaches level (e (a + 1)) (e (a + 1 + suc n)) more = rows level F e (a + 1) n (λ k low high. each k (omega (arith, low)) (omega (arith, high))) in
      let end : a + 1 + suc n ≡ a + suc (suc n) = omega arith in
      let all : reached_in (F a ++ more) ≡ reached_in (F a) ++ reached_in more = reached_in-append (F a) more in
      subst (λ (m : ℕ). Reaches level (e a) (e m) (F a ++ more)) end
      (record {
        each = subst (Each (Below level (e a) (e (a + 1 + suc n)))) (sym all)
            (each_join (Below level (e a) (e (a + 1 + suc n))) (reached_in (F a)) (reached_in more)
            (each_to (Below level (e a) (e (a + 1))) (Below level (e a) (e (a + 1 + suc n))) (λ p b. wider level level (e a) (e (a + 1)) (e a) (e (a + 1 + suc n)) p (omega arith) (omega arith) (omega (arith, rest.rises)) b) (reached_in (F a)) one.each)
            (each_to (Below level (e (a + 1)) (e (a + 1 + suc n))) (Below level (e a) (e (a + 1 + suc n))) (λ p b. wider level level (e (a + 1)) (e (a + 1 + suc n)) (e a) (e (a + 1 + suc n)) p (omega arith) (omega (arith, one.rises)) (omega arith) b) (reached_in more) rest.each));
        once = subst (Pairs Differs) (sym all)
            (pairs_append Differs (reached_in (F a)) (reached_in more) one.once rest.once
            (each_to (Below level (e a) (e (a + 1))) (λ p. Each (Differs p) (reached_in more))
            (λ p own. each_to (Below level (e (a + 1)) (e (a + 1 + suc n))) (Differs p) (λ q other. apart level (e a) (e (a + 1)) (e (a + 1)) (e (a + 1 + suc n)) p q (omega arith) own other) (reached_in more) rest.each) (reached_in (F a)) one.each));
        rises = omega (arith, one.rises, rest.rises);
      })

  -- a node differs from all below it
  node_apart : (level m a b : ℕ) (q : BlockPointer) → 1 ≤ level → Below level a b q → node_place s (suc level) m ≢ q.block
  node_apart level m a b q some (to_node k i low up lt from to is) = λ same.
      omega (arith, place_same _ _ (same ∙ is), levels_apart count k (suc level) low (omega (arith, up)), lt)
  node_apart level m a b q some (to_data x) = λ same. omega (arith, place_same _ _ (same ∙ x.is), x.high, D_most b)

  leaf_reaches : (m holder : ℕ) → m < count → Reaches 1 (edge count 1 m) (edge count 1 (m + 1)) (laid_events s 1 m holder)
  leaf_reaches m holder lt =
      let block : ℕ = node_place s 1 m in
      let here : edge count 1 m ≡ m = edge_in count 1 m lt in
      let next : edge count 1 (m + 1) ≡ m + 1 = one_leaf_by count m (nat_lt (m + 1) count) refl lt in
      let runs : Runs (D m) (D (m + 1)) (list_blocks s (leaf_at s m)) =
      subst (λ n. Runs (D m) (D n) (list_blocks s (leaf_at s m))) (let up : suc m ≡ m + 1 = omega arith in up) (runs_zero (D m) (D (suc m)) (list_blocks s (leaf_at s m)) (leaf_runs s (leaves s) 0 stored all_runs m lt)) in
      let ps : List BlockPointer = held_by block (list_blocks s (leaf_at s m)) in
      let is : reached_in (flat_map item_events (leaf_items s m)) ≡ ps = held s block (leaf_at s m) in
      let each : Each (IsDatum (D m) (D (m + 1))) ps = data_each block (D m) (D (m + 1)) (list_blocks s (leaf_at s m)) runs in
      subst (λ (e : ℕ). Reaches 1 (edge count 1 m) e (laid_events s 1 m holder)) (sym next)
      (subst (λ (e : ℕ). Reaches 1 e (m + 1) (laid_events s 1 m holder)) (sym here)
      (record {
        each = (
          to_node 1 m (omega arith) (omega arith) lt (omega (arith, here)) (omega (arith, here)) refl,
          subst (Each (Below 1 m (m + 1))) (sym is) (each_to (IsDatum (D m) (D (m + 1))) (Below 1 m (m + 1)) (λ p d. to_data d) ps each),
        );
        once = (
          subst (Each (λ q. block ≢ q.block)) (sym is)
              (each_to (IsDatum (D m) (D (m + 1))) (λ q. block ≢ q.block) (λ q d. λ same. omega (arith, place_same _ _ (same ∙ d.is), d.high, D_most (m + 1))) ps each),
          subst (Pairs Differs) (sym is) (data_pairs block (D m) (D (m + 1)) (list_blocks s (leaf_at s m)) runs),
        );
        rises = omega arith;
      }))

  pub level_reaches : (level m holder : ℕ) → 1 ≤ level → level ≤ root_level count → m < level_nodes count level → Reaches level (edge count level m) (edge count level (m + 1)) (laid_events s level m holder)
  level_reaches zero m holder low high lt = absurd (omega (arith, low))
  level_reaches (suc zero) m holder low high lt = leaf_reaches m holder lt
  level_reaches (suc (suc k)) m holder low high lt =
      let n : ℕ = level_nodes count (suc k) in
      let first : ℕ = first_child n m in
      let total_here : ℕ = child_count n m in
      let block : ℕ = node_place s (suc (suc k)) m in
      let F : ℕ → List Event = λ c. laid_events s (suc k) c block in
      let many : 1 < n = many_nodes count (suc k) (omega arith) (omega (arith, high)) in
      let has : HasChildren n m = has_children n m (omega (arith, many)) lt in
      let more : suc (total_here - 1) ≡ total_here = omega (arith, has.some) in
      let below : Reaches (suc k) (edge count (suc k) first) (edge count (suc k) (first + total_here)) (flat_map F (range_with_len first total_here)) =
      subst (λ (t : ℕ). Reaches (suc k) (edge count (suc k) first) (edge count (suc k) (first + t)) (flat_map F (range_with_len first t))) more
      (rows (suc k) F (edge count (suc k)) first (total_here - 1) (λ c low_c high_c. level_reaches (suc k) c block (omega arith) (omega (arith, high)) (omega (arith, high_c, has.within, more)))) in
      let here : edge count (suc (suc k)) m ≡ edge count (suc k) first = edge_in count (suc (suc k)) m lt ∙ sym (edge_in count (suc k) first (omega (arith, many))) in
      let end : first + total_here ≡ end_child n m = omega (arith, has.some) in
      let next : edge count (suc (suc k)) (m + 1) ≡ edge count (suc k) (first + total_here) =
      end_edge_by count k m (nat_lt (m + 1) (nodes_above n)) refl (omega (arith, many)) ∙ ap (edge count (suc k)) (sym end) in
      let a : ℕ = edge count (suc k) first in
      let b : ℕ = edge count (suc k) (first + total_here) in
      let ps : List BlockPointer = reached_in (flat_map F (range_with_len first total_here)) in
      subst (λ (e : ℕ). Reaches (suc (suc k)) (edge count (suc (suc k)) m) e (laid_events s (suc (suc k)) m holder)) (sym next)
      (subst (λ (e : ℕ). Reaches (suc (suc k)) e b (laid_events s (suc (suc k)) m holder)) (sym here)
      (record {
        each = (
          to_node (suc (suc k)) m (omega arith) (omega arith) lt (omega (arith, here)) (omega (arith, here, below.rises)) refl,
          each_to (Below (suc k) a b) (Below (suc (suc k)) a b) (λ p q. wider (suc k) (suc (suc k)) a b a b p (omega arith) (omega arith) (omega arith) q) ps below.each,
        );
        once = (each_to (Below (suc k) a b) (λ q. block ≢ q.block) (λ q is. node_apart (suc k) m a b q (omega arith) is) ps below.each, below.once);
        rises = below.rises;
      }))

  -- where what is reached lies
  pub record IsPlaced (b : ℕ) : Type 0 where
    pub at : ℕ
    pub is : b ≡ place at
    pub low : at < total s

  pub placed : (p : BlockPointer) → Below (root_level count) 0 count p → IsPlaced p.block
  placed p (to_node k i some up lt from to is) =
      record { at = stored + nodes_below count k + i; is = is; low = omega (arith, lt, levels_apart count k (root_level count + 1) some (omega (arith, up))) }
  placed p (to_data x) = record { at = x.at; is = x.is; low = omega (arith, x.high, D_most count) }
