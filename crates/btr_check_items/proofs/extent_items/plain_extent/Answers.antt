use Rattle.btr_check_items.proofs.Imports.{ℕ, List, None, Some, ap, ◌∙◌, slice_index, extent_by}
use Rattle.btr_check_items.proofs.ExtentItems.{data_is, node_is}
use Rattle.btr_check_items.proofs.extent_items.plain_extent.Goals as goal

pub returns-then-not-is_node_head : goal.returns-then-not-is_node_head
returns-then-not-is_node_head c =
    c.with_refs.ensures
    ∙ (ap (λ (l : List ℕ). extent_by c.args.key.now.objectid c.args.key.now.offset None l c.args.head) c.behind.ensures
    ∙ data_is (c.args.key.now, c.args.body.now) c.args.head c.if-not-is_node_head.ensures)

pub returns-else-body-level : goal.returns-else-body-level
returns-else-body-level c =
    c.with_refs-else-body-level.ensures
    ∙ (ap (λ (l : List ℕ). extent_by c.args.key.now.objectid c.args.key.now.offset (Some (slice_index c.args.body.now 41)) l c.args.head) c.behind-else-body-level.ensures
    ∙ node_is (c.args.key.now, c.args.body.now) c.args.head c.if-not-is_node_head.ensures c.if-body-level.false)
