use Rattle.reiser_make.proofs.Imports.{◌≡◌, ◌≤◌, ◌+◌, ◌-◌, ◌*◌, ◌++◌, ℕ, List, length, take, drop, ap, ◌∙◌, arith, length-append, length-drop, flat_map, range_with_len, take_at, inner_bytes, children_from, child, child_key, child_count, first_child, level_nodes, leaves, node_head, node_room, Level}
use Rattle.reiser_make.proofs.Nesting.{inner_is}
use Rattle.reiser_make.proofs.sample_plan.SamplePlan.put_inner_bytes.Goals as goal

pub returns-clause-node : goal.returns-clause-node
returns-clause-node c =
    let level : ℕ = c.args.below.now.number in
    let first : ℕ = c.first_child-first.result in
    let count : ℕ = c.child_count-count.result in
    let at : ℕ = 24 + 16 * (count - 1) in
    let end : ℕ = at + 8 * count in
    let head : List ℕ = c.put_node_head.new.into in
    let post : List ℕ = drop 24 c.args.into.now in
    let K : List ℕ = flat_map (λ m. child_key (child c.args.self.now.sample level m)) (range_with_len (first + 1) (count - 1)) in
    let long : length head ≡ 24 = ap length c.put_node_head.ensures in
    let some : 1 ≤ count = omega (arith, c.child_count-count.ensures.least, c.requires.many) in
    let size : length c.put_pointers.new.into ≡ 4096 =
    c.put_pointers.auto.into ∙ c.put_keys.auto.into ∙ length-append head post ∙ omega (arith, long, length-drop 24 c.args.into.now, c.requires.room) in
    let nodes : c.args.below.now.nodes ≡ level_nodes (length (leaves c.args.self.now.sample)) level =
    ap (λ (l : Level). l.nodes) c.requires.level ∙ ap (λ n. level_nodes n level) c.args.self.now.counted in
    c.clear_from.ensures
    ∙ inner_is c.args.self.now.sample level first count (length c.put_pointers.new.into - end) head (take at c.put_keys.new.into) (take end c.put_pointers.new.into) some
    (omega (arith, size, some))
    (c.put_node_head.ensures ∙ ap (λ r. node_head (level + 1) (count - 1) (node_room - r)) c.inner_size.ensures.size)
    (c.put_keys.ensures.keys ∙ ap (λ z. z ++ K) (take_at head post 24 long))
    c.put_pointers.ensures.pointers
    ∙ ap (λ f. inner_bytes (level + 1) (children_from c.args.self.now.sample level f count)) (c.first_child-first.ensures ∙ ap (λ n. first_child n c.args.m) nodes)
    ∙ ap (λ k. inner_bytes (level + 1) (children_from c.args.self.now.sample level (first_child (level_nodes (length (leaves c.args.self.now.sample)) level) c.args.m) k))
    (c.child_count-count.ensures.count ∙ ap (λ n. child_count n c.args.m) nodes)
