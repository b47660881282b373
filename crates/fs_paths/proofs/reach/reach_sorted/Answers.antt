use Rattle.fs_paths.proofs.Imports.{◌≡◌, ◌<◌, ◌≤◌, ◌+◌, ◌∙◌, List, length, get_or, sym, ap, subst, arith, get_or_default, insert_key, NodeId, same_node, followed}
use Rattle.fs_paths.proofs.Queues.{Queue, start, step, queue_is}
use Rattle.fs_paths.proofs.reach.reach_sorted.Goals as goal

pub loop-i-init : goal.loop-i-init
loop-i-init c =
    let is = c.in_ok-add.ensures ∙ ap (λ (l : List NodeId). insert_key same_node l c.args.root) c.new-queue.ensures.empty in
    subst (λ (l : List NodeId). Queue c.args.links.now c.args.root l 0) (sym is) start

pub loop-i-preserved : goal.loop-i-preserved
loop-i-preserved c =
    let old : List NodeId = c.loop-i.queue.keys in
    let within : c.loop-i.i < length old = omega (arith, c.loop-i-test.true, c.len.ensures.len) in
    let none : NodeId = record { space = 0; number = 0 } in
    let dir : NodeId = get_or old c.loop-i.i none in
    let at : get_or c.as_slice.result.now c.loop-i.i none ≡ dir = ap (λ (l : List NodeId). get_or l c.loop-i.i none) c.as_slice.ensures.keys in
    let is = c.in_ok-follow.ensures.followed ∙ ap (λ (d : NodeId). followed c.args.links.now old d) at in
    subst (λ (l : List NodeId). Queue c.args.links.now c.args.root l (c.loop-i.i + 1)) (sym is) (step old c.loop-i.i dir c.loop-i.invariant within (get_or_default old c.loop-i.i dir none within))

pub returns : goal.returns
returns c =
    let all : length c.loop-i.queue.keys ≤ c.loop-i.i = omega (arith, c.loop-i-test.false, c.len.ensures.len) in
    queue_is c.args.links.now c.args.root c.loop-i.queue.keys c.loop-i.i c.loop-i.invariant all
