use Rattle.btr_check_fields.proofs.Imports.{◌≡◌, ◌==◌, true, false, arith, nat_tests, BLOCK_GROUP_ITEM}
use Rattle.btr_check_fields.proofs.NotedRules.{group_passed, group_refused, group_taken}
use Rattle.btr_check_fields.proofs.group_items.GroupsFoundNotes.note.Goals as goal

pub returns-then-key : goal.returns-then-key
returns-then-key c = λ begun items i key body leaf before.
    let kind : (c.args.key.now.kind == BLOCK_GROUP_ITEM) ≡ false = grind (arith, nat_tests, c.if-key.true) in
    group_passed items i c.args.key.now c.args.self.now.groups.items c.args.self.now.wrong key kind before

pub returns-in_ok-push_group-in-Some : goal.returns-in_ok-push_group-in-Some
returns-in_ok-push_group-in-Some c = λ begun items i key body leaf before.
    let kind : (c.args.key.now.kind == BLOCK_GROUP_ITEM) ≡ true = grind (arith, nat_tests, c.if-key.false) in
    group_taken items i c.args.key.now c.args.body.now c.args.self.now.groups.items _ _ c.args.self.now.wrong key body kind c.in-Some.ensures c.in_ok-push_group-in-Some.ensures before

pub returns-in-None : goal.returns-in-None
returns-in-None c = λ begun items i key body leaf before.
    let kind : (c.args.key.now.kind == BLOCK_GROUP_ITEM) ≡ true = grind (arith, nat_tests, c.if-key.false) in
    group_refused items i c.args.key.now c.args.body.now c.args.self.now.groups.items key body kind c.in-None.ensures
