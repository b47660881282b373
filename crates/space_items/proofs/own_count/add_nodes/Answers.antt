use Rattle.space_items.proofs.Imports.{◌≡◌, ⊎_elim, ℕ, List, ◌++◌, ◌+◌, ◌-◌, ◌<◌, ◌≤◌, get_or, length, take, drop, arith, subst₂, sym, ◌∙◌, ap, cases_lt, get_or_past, Tally, Counted, packed_leaves, tree_levels, fan_out, nodes_at, TreeNode}
use Rattle.space_items.proofs.Levels.{IsAdding, adding_goes_on, adding_ends, adding_stops, has_room, tree_full, few_levels, upper}
use Rattle.space_items.proofs.own_count.add_nodes.Goals as goal

abbrev levels : Tally → List ℕ
levels tally = tree_levels tally.nodesize tally.leaves

not_past : (sizes : List ℕ) (level count : ℕ) → count ≡ get_or sizes level 0 → 0 < count → level < length sizes
not_past sizes level count is some =
    ⊎_elim (λ (more : level < length sizes). more) (λ (past : length sizes ≤ level). absurd (omega (arith, get_or_past sizes level 0 past, is, some))) (cases_lt level (length sizes))

-- what the counter answers for a level
answer : (tally : Tally) (lengths : List ℕ) (level count : ℕ) → Counted tally lengths → count ≡ get_or (tree_levels tally.nodesize (length (packed_leaves tally.nodesize lengths))) level 0 → count ≡ get_or (levels tally) level 0
answer tally lengths level count counted is = is ∙ sym (ap (λ (n : ℕ). get_or (tree_levels tally.nodesize n) level 0) counted.count)

goes_on : (owner first : ℕ) (slots given sizes : List ℕ) (old nodes new : List TreeNode) (level at count : ℕ) → IsAdding owner first slots sizes old nodes level at → count ≡ get_or sizes level 0 → 0 < count → given ≡ slots
    → new ≡ nodes ++ nodes_at owner level (take (at + count - at) (drop at given)) → IsAdding owner first slots sizes old new (level + 1) (at + count)
goes_on owner first slots given sizes old nodes new level at count so_far is some same added =
    let on = adding_goes_on owner first slots sizes old nodes level at so_far (not_past sizes level count is some) in
    let many : at + count - at ≡ count = omega arith in
    let there : new ≡ nodes ++ nodes_at owner level (take (get_or sizes level 0) (drop at slots)) = added ∙ (ap (λ (n : ℕ). nodes ++ nodes_at owner level (take n (drop at given))) (many ∙ is) ∙ ap (λ xs. nodes ++ nodes_at owner level (take (get_or sizes level 0) (drop at xs))) same) in
    subst₂ (λ ns (n : ℕ). IsAdding owner first slots sizes old ns (level + 1) (at + n)) (sym there) (sym is) on

told : (tally : Tally) (owner : ℕ) (slots lengths : List ℕ) (old nodes : List TreeNode) → Counted tally lengths → nodes ≡ old ++ upper owner slots 0 0 (levels tally)
    → nodes ≡ old ++ upper owner slots 0 0 (tree_levels tally.nodesize (length (packed_leaves tally.nodesize lengths)))
told tally owner slots lengths old nodes counted is = is ∙ ap (λ (n : ℕ). old ++ upper owner slots 0 0 (tree_levels tally.nodesize n)) counted.count

pub slice_bounds-add_level-end : goal.slice_bounds-add_level-end
slice_bounds-add_level-end c =
    let tally = c.args.counter.now in
    let is = answer tally c.requires.lengths c.loop-level.level c.level_nodes-count.result c.requires.counted (c.level_nodes-count.ensures c.requires.lengths c.requires.counted) in
    let room = has_room c.args.owner c.args.first c.args.slots.now (levels tally) c.args.nodes.now c.loop-level.nodes c.loop-level.level c.loop-level.at c.loop-level.invariant (not_past (levels tally) c.loop-level.level c.level_nodes-count.result is (omega arith)) in
    omega (arith, room, is, ap (λ (xs : List ℕ). length xs) c.as_slice-slots.ensures)

pub loop-level-preserved : goal.loop-level-preserved
loop-level-preserved c =
    let tally = c.args.counter.now in
    let is = answer tally c.requires.lengths c.loop-level.level c.level_nodes-count.result c.requires.counted (c.level_nodes-count.ensures c.requires.lengths c.requires.counted) in
    goes_on c.args.owner c.args.first c.args.slots.now c.as_slice-slots.result.now (levels tally) c.args.nodes.now c.loop-level.nodes c.add_level.new.nodes c.loop-level.level c.loop-level.at c.level_nodes-count.result c.loop-level.invariant
    is (omega arith) c.as_slice-slots.ensures c.in_ok-add_level.ensures

pub returns-then-count-eq0 : goal.returns-then-count-eq0
returns-then-count-eq0 c =
    let tally = c.args.counter.now in
    let is = answer tally c.requires.lengths c.loop-level.level c.level_nodes-count.result c.requires.counted (c.level_nodes-count.ensures c.requires.lengths c.requires.counted) in
    λ lengths counted.
    told tally c.args.owner (drop c.args.first c.args.slots.now) lengths c.args.nodes.now c.loop-level.nodes counted
    (adding_stops c.args.owner c.args.first c.args.slots.now (levels tally) c.args.nodes.now c.loop-level.nodes c.loop-level.level c.loop-level.at c.loop-level.invariant
    (tree_full tally c.requires.lengths c.requires.size c.requires.counted) (omega (arith, is, c.if-count-eq0.true)))

pub returns-in_ok-add_level : goal.returns-in_ok-add_level
returns-in_ok-add_level c =
    let tally = c.args.counter.now in
    let is = answer tally c.requires.lengths c.loop-level.level c.level_nodes-count.result c.requires.counted (c.level_nodes-count.ensures c.requires.lengths c.requires.counted) in
    let on = goes_on c.args.owner c.args.first c.args.slots.now c.as_slice-slots.result.now (levels tally) c.args.nodes.now c.loop-level.nodes c.add_level.new.nodes c.loop-level.level c.loop-level.at c.level_nodes-count.result c.loop-level.invariant
    is (omega arith) c.as_slice-slots.ensures c.in_ok-add_level.ensures in
    let last : 255 ≤ c.loop-level.level = omega arith in
    λ lengths counted.
    told tally c.args.owner (drop c.args.first c.args.slots.now) lengths c.args.nodes.now c.add_level.new.nodes counted
    (adding_ends c.args.owner c.args.first c.args.slots.now (levels tally) c.args.nodes.now c.add_level.new.nodes (c.loop-level.level + 1) (c.loop-level.at + c.level_nodes-count.result) on
    (omega (arith, last, few_levels 256 (fan_out tally.nodesize) tally.leaves)))
