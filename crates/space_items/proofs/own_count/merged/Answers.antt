use Rattle.space_items.proofs.Imports.{◌≡◌, ℕ, List, ◌+◌, ◌++◌, ◌-◌, length, take, drop, arith, subst, sym, ◌∙◌, ap, get_or_from_slice_get, take_rest, TreeNode, merged_nodes}
use Rattle.space_items.proofs.NodeMerge.{IsMerging, both_go_on, first_goes_on, second_goes_on, first_ends, second_ends}
use Rattle.space_items.proofs.own_count.merged.Goals as goal
use Rattle.space_items.proofs.own_count.merged.Goals.{then-loop-i-test+else-j-len, else-loop-i-test}

sliced : (xs ys all old : List TreeNode) (i : ℕ) → xs ≡ ys → all ≡ old ++ take (length xs - i) (drop i xs) → all ≡ old ++ drop i ys
sliced xs ys all old i same is = is ∙ (ap (λ zs. old ++ zs) (take_rest xs i) ∙ ap (λ zs. old ++ drop i zs) same)

pub loop-i-preserved-then-node-other-2 : goal.loop-i-preserved-then-node-other-2
loop-i-preserved-then-node-other-2 c =
    let x = c.get-node.result in
    let y = c.get-other.result in
    let at = get_or_from_slice_get c.args.nodes.now c.loop-i.i x x c.get-node.ensures in
    let other = get_or_from_slice_get c.args.others.now c.loop-i.j y y c.get-other.ensures in
    subst (λ all. IsMerging c.args.nodes.now c.args.others.now all (c.loop-i.i + 1) (c.loop-i.j + 1)) (sym c.in_ok-add.ensures.ok)
    (both_go_on c.args.nodes.now c.args.others.now c.loop-i.all c.loop-i.i c.loop-i.j c.loop-i.invariant x y (omega arith) (omega arith) at other c.if-node-other-2.true)

pub loop-i-preserved-else-node-other-2 : goal.loop-i-preserved-else-node-other-2
loop-i-preserved-else-node-other-2 c =
    let x = c.get-node.result in
    let y = c.get-other.result in
    let at = get_or_from_slice_get c.args.nodes.now c.loop-i.i x x c.get-node.ensures in
    let other = get_or_from_slice_get c.args.others.now c.loop-i.j y y c.get-other.ensures in
    subst (λ all. IsMerging c.args.nodes.now c.args.others.now all (c.loop-i.i + 1) c.loop-i.j) (sym c.in_ok-add.ensures.ok)
    (first_goes_on c.args.nodes.now c.args.others.now c.loop-i.all c.loop-i.i c.loop-i.j c.loop-i.invariant x y (omega arith) (omega arith) at other (omega arith))

pub loop-i-preserved : goal.loop-i-preserved
loop-i-preserved c =
    let x = c.get-node.result in
    let y = c.get-other.result in
    let at = get_or_from_slice_get c.args.nodes.now c.loop-i.i x x c.get-node.ensures in
    let other = get_or_from_slice_get c.args.others.now c.loop-i.j y y c.get-other.ensures in
    subst (λ all. IsMerging c.args.nodes.now c.args.others.now all c.loop-i.i (c.loop-i.j + 1)) (sym c.in_ok-add-2.ensures.ok)
    (second_goes_on c.args.nodes.now c.args.others.now c.loop-i.all c.loop-i.i c.loop-i.j c.loop-i.invariant x y (omega arith) (omega arith) at other (omega arith))

pub returns : goal.returns
returns c =
    let nodes = c.args.nodes.now in
    let others = c.args.others.now in
    let all = c.loop-i.all in
    let i = c.loop-i.i in
    let j = c.loop-i.j in
    let ends : (all ++ drop i nodes) ++ drop j others ≡ merged_nodes nodes others = elim c.loop-i-test.branch [
      | then-loop-i-test+else-j-len w ↦ second_ends nodes others all i j c.loop-i.invariant (omega arith)
      | else-loop-i-test w ↦ first_ends nodes others all i j c.loop-i.invariant (omega arith)
    ] in
    let first : c.add_all.new.all ≡ all ++ drop i nodes = sliced c.as_slice.result.now nodes c.add_all.new.all all i c.as_slice.ensures c.in_ok-add_all.ensures in
    let second : c.add_all-2.new.all ≡ c.add_all.new.all ++ drop j others = sliced c.as_slice-2.result.now others c.add_all-2.new.all c.add_all.new.all j c.as_slice-2.ensures c.in_ok-add_all-2.ensures in
    second ∙ (ap (λ zs. zs ++ drop j others) first ∙ ends)
