use Rattle.reiser_volume_objects.proofs.Imports.{◌≡◌, List, ap, subst, ◌∙◌, contains, NodeLink, NodeId, same_node, AreReached, root, same_key, namings, node_of, steps, IsReach}
use Rattle.reiser_volume_objects.proofs.Nodes.{nodes_tell}
use Rattle.reiser_volume_objects.proofs.Reaching.{any_root}
use Rattle.reiser_volume_objects.proofs.reach.reach.Goals as goal

pub returns-clause-reached : goal.returns-clause-reached
returns-clause-reached c = λ items noted.
    let links : c.in_ok-steps_of.field-0.items ≡ steps (namings items) = c.in_ok-steps_of.ensures ∙ ap steps noted.namings in
    let from : AreReached c.in_ok-steps_of.field-0.items (node_of root) (contains same_node c.in_ok-nodes.nodes) = subst (λ (n : NodeId). AreReached c.in_ok-steps_of.field-0.items n (contains same_node c.in_ok-nodes.nodes)) c.node_of.ensures.node c.in_ok-nodes.ensures in
    let reached = subst (λ (ls : List NodeLink). AreReached ls (node_of root) (contains same_node c.in_ok-nodes.nodes)) links from in
    any_root (λ named. IsReach items (contains same_key named)) items c.args.root_block c.named_by.result (c.named_by.ensures.named items noted (c.in_ok-check_root.ensures.checked items noted) (nodes_tell items (contains same_node c.in_ok-nodes.nodes) reached))
