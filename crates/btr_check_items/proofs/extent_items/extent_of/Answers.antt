use Rattle.btr_check_items.proofs.Imports.{◌≡◌, ℕ, ◌==◌, ◌∙◌, true, List, Some, ap, arith, nat_tests, METADATA_ITEM, extent_by}
use Rattle.btr_check_items.proofs.ExtentItems.{skinny_is}
use Rattle.btr_check_items.proofs.extent_items.extent_of.Goals as goal

pub returns-then-key : goal.returns-then-key
returns-then-key c =
    let kind : (c.args.key.now.kind == METADATA_ITEM) ≡ true = grind (arith, nat_tests, c.if-key.true) in
    c.with_refs.ensures
    ∙ (ap (λ (l : List ℕ). extent_by c.args.key.now.objectid c.args.nodesize (Some c.args.key.now.offset) l c.in-Some.head) c.behind.ensures
    ∙ skinny_is c.args.nodesize (c.args.key.now, c.args.body.now) c.in-Some.head c.in-Some.ensures kind)
