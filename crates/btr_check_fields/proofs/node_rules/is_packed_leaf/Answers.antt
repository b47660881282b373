use Rattle.btr_check_fields.proofs.Imports.{◌≡◌, ◌∙◌, arith, nat_tests, HEADER_SIZE, take_rest}
use Rattle.btr_check_fields.proofs.NodeRules.{packed_leaf}
use Rattle.btr_check_fields.proofs.node_rules.is_packed_leaf.Goals as goal

pub returns : goal.returns
returns c =
    let leaf : c.args.level ≡ 0 = grind (arith, nat_tests, c.if-level-ne0.false) in
    c.is_packed.ensures ∙ packed_leaf c.args.level c.args.count c.args.bytes.now _ leaf c.requires.count (take_rest c.args.bytes.now HEADER_SIZE)
