use Rattle.btr_node.proofs.Imports.{ℕ, List, length, sym, ap, ◌∙◌, arith, KEY_PTR_SIZE, key_layout, nritems, ascends, records_in, Head}
use Rattle.btr_node.proofs.Inners.{children_fit, first_keys-children_in}
use Rattle.btr_node.proofs.inner.has_order.Goals as goal

pub keys_ascend-requires-clause-there : goal.keys_ascend-requires-clause-there
keys_ascend-requires-clause-there c =
    omega (arith, children_fit c.args.bytes.now c.requires, ap length c.behind_head.ensures, ap (λ (h : Head). h.count) c.of-count.ensures)

pub returns : goal.returns
returns c =
    c.keys_ascend.ensures
    ∙ ap (λ (n : ℕ). ascends (records_in KEY_PTR_SIZE key_layout n c.behind_head.result.now)) (ap (λ (h : Head). h.count) c.of-count.ensures)
    ∙ ap (λ (s : List ℕ). ascends (records_in KEY_PTR_SIZE key_layout (nritems c.args.bytes.now) s)) c.behind_head.ensures
    ∙ ap ascends (sym (first_keys-children_in c.args.bytes.now))
