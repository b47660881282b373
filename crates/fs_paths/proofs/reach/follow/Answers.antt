use Rattle.fs_paths.proofs.Imports.{◌≤◌, ◌+◌, ◌∙◌, List, length, map, sym, ap, subst, take_all, insert_all, NodeLink, NodeId, same_node, waiting}
use Rattle.fs_paths.proofs.Queues.{follow_fewer}
use Rattle.fs_paths.proofs.reach.follow.Goals as goal

pub returns-clause-fewer : goal.returns-clause-fewer
returns-clause-fewer c =
    let before : List NodeId = c.args.queue.now.keys in
    let all = c.loop-link.invariant
    ∙ ap (λ (l : List NodeLink). insert_all same_node before (map (λ link. link.target) l)) (take_all c.loop-link.link-index c.links_of-link-items.result.now c.loop-link-test.false ∙ c.links_of-link-items.ensures) in
    subst (λ (q : List NodeId). waiting c.args.links.now q + length q ≤ waiting c.args.links.now before + length before) (sym all) (follow_fewer c.args.links.now before c.args.dir)
