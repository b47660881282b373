use Rattle.btr_check_fields.proofs.Imports.{◌≡◌, ◌==◌, true, false, arith, nat_tests, DEV_EXTENT}
use Rattle.btr_check_fields.proofs.NotedRules.{extent_passed, extent_refused, extent_taken}
use Rattle.btr_check_fields.proofs.device_tree.ExtentsFoundNotes.note.Goals as goal

pub returns-then-key : goal.returns-then-key
returns-then-key c = λ begun items i key body leaf before.
    let kind : (c.args.key.now.kind == DEV_EXTENT) ≡ false = grind (arith, nat_tests, c.if-key.true) in
    extent_passed items i c.args.key.now c.args.self.now.extents.items c.args.self.now.wrong key kind before

pub returns-in_ok-push_extent-in-Some : goal.returns-in_ok-push_extent-in-Some
returns-in_ok-push_extent-in-Some c = λ begun items i key body leaf before.
    let kind : (c.args.key.now.kind == DEV_EXTENT) ≡ true = grind (arith, nat_tests, c.if-key.false) in
    extent_taken items i c.args.key.now c.args.body.now c.args.self.now.extents.items _ _ c.args.self.now.wrong key body kind c.in-Some.ensures c.in_ok-push_extent-in-Some.ensures before

pub returns-in-None : goal.returns-in-None
returns-in-None c = λ begun items i key body leaf before.
    let kind : (c.args.key.now.kind == DEV_EXTENT) ≡ true = grind (arith, nat_tests, c.if-key.false) in
    extent_refused items i c.args.key.now c.args.body.now c.args.self.now.extents.items key body kind c.in-None.ensures
