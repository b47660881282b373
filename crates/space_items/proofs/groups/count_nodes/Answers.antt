use Rattle.space_items.proofs.Imports.{◌≡◌, ◌≤◌, ◌<◌, ℕ, ◌+◌, ◌*◌, ◌∙◌, List, Some, refl, sym, ap, arith, PlannedChunk, TreeNode, Group}
use Rattle.space_items.proofs.Counting.{counted_none, counted_in, counted_out, counted_stop, counted_within, lies_more, lies_weaker, node_place, nodes_fit, nodes_rise}
use Rattle.space_items.proofs.groups.count_nodes.Goals.{then-get-group, else-get-group}
use Rattle.space_items.proofs.groups.count_nodes.Goals as goal

node_same : (p q : TreeNode) → Some p ≡ Some q → p ≡ q
node_same p q is = cc

pub loop-next-init : goal.loop-next-init
loop-next-init c =
    let all : List TreeNode = c.args.nodes.now in
    let size : TreeNode → ℕ = λ n. c.args.nodesize in
    let low : ℕ = 4096 * c.args.group.now.chunk.start in
    let high : ℕ = 4096 * (c.args.group.now.chunk.start + c.args.group.now.chunk.length) in
    let none = counted_none node_place size low high all c.args.first c.requires.before in
    record {
      chunk = refl;
      used = omega (arith, none);
      before = lies_weaker node_place size low high all c.args.first c.requires.before (omega arith);
    }

pub overflow_add-group : goal.overflow_add-group
overflow_add-group c =
    let all : List TreeNode = c.args.nodes.now in
    let size : TreeNode → ℕ = λ n. c.args.nodesize in
    let p : TreeNode = c.get-in-loop-next.result in
    let low : ℕ = 4096 * c.args.group.now.chunk.start in
    let high : ℕ = 4096 * (c.args.group.now.chunk.start + c.args.group.now.chunk.length) in
    let part = counted_within node_place size low high all c.loop-next.next in
    let fit = nodes_fit all c.args.nodesize c.requires.size c.requires.nodes in
    let used = c.loop-next.invariant.used in
    omega (arith, part, fit, used)

pub loop-next-preserved : goal.loop-next-preserved
loop-next-preserved c =
    let all : List TreeNode = c.args.nodes.now in
    let size : TreeNode → ℕ = λ n. c.args.nodesize in
    let p : TreeNode = c.get-in-loop-next.result in
    let low : ℕ = 4096 * c.args.group.now.chunk.start in
    let high : ℕ = 4096 * (c.args.group.now.chunk.start + c.args.group.now.chunk.length) in
    let same : c.get.result ≡ p = node_same c.get.result p (sym c.get.ensures ∙ c.get-in-loop-next.ensures) in
    let chunk = c.loop-next.invariant.chunk in
    let end : c.end.result ≡ high = c.end.ensures ∙ ap (λ (k : PlannedChunk). 4096 * (k.start + k.length)) chunk in
    let place = ap node_place same in
    let below : node_place p < high = omega (arith, c.if-get-end.true, end, place) in
    let start = ap (λ (k : PlannedChunk). k.start) chunk in
    let lie = lies_more node_place size high all c.loop-next.next p c.loop-next.invariant.before c.get-in-loop-next.ensures below in
    elim c.if-get-group.branch [
      | then-get-group w ↦
          let in_it : low ≤ node_place p = omega (arith, w.if-get-group.true, start) in
          let more = counted_in node_place size low high all c.loop-next.next p c.get-in-loop-next.ensures in_it below in
          record {
            chunk = ap (λ (k : Group). k.chunk) w.group-is ∙ chunk;
            used = let is = ap (λ (k : Group). k.used) w.group-is in let was = c.loop-next.invariant.used in omega (arith, is, was, more);
            before = lie;
          }
      | else-get-group w ↦
          let out : node_place p < low = omega (arith, w.if-get-group.false, start) in
          let more = counted_out node_place size low high all c.loop-next.next p c.get-in-loop-next.ensures out in
          record {
            chunk = ap (λ (k : Group). k.chunk) w.group-is ∙ chunk;
            used = let is = ap (λ (k : Group). k.used) w.group-is in let was = c.loop-next.invariant.used in omega (arith, is, was, more);
            before = lie;
          }
    ]

pub returns-else-get-end-clause-used : goal.returns-else-get-end-clause-used
returns-else-get-end-clause-used c =
    let all : List TreeNode = c.args.nodes.now in
    let size : TreeNode → ℕ = λ n. c.args.nodesize in
    let low : ℕ = 4096 * c.args.group.now.chunk.start in
    let high : ℕ = 4096 * (c.args.group.now.chunk.start + c.args.group.now.chunk.length) in
    let end : c.end.result ≡ high = c.end.ensures ∙ ap (λ (k : PlannedChunk). 4096 * (k.start + k.length)) c.loop-next.invariant.chunk in
    let above : high ≤ node_place c.get.result = omega (arith, c.if-get-end.false, end) in
    let all_of = counted_stop node_place size low high all c.loop-next.next c.get.result c.get.ensures above (nodes_rise all c.requires.nodes) in
    let used = c.loop-next.invariant.used in
    omega (arith, used, all_of)
