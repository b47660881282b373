use Rattle.btr_node.proofs.Imports.{ℕ, List, length, sym, ap, ◌∙◌, arith, ITEM_SIZE, key_layout, nritems, ascends, records_in, Head}
use Rattle.btr_node.proofs.Leaves.{heads_there, keys_of-items_in}
use Rattle.btr_node.proofs.leaf.has_order.Goals as goal

pub keys_ascend-requires-clause-there : goal.keys_ascend-requires-clause-there
keys_ascend-requires-clause-there c =
    omega (arith, heads_there c.args.bytes.now c.requires, ap length c.behind_head.ensures, ap (λ (h : Head). h.count) c.of-count.ensures)

pub returns : goal.returns
returns c =
    c.keys_ascend.ensures
    ∙ ap (λ (n : ℕ). ascends (records_in ITEM_SIZE key_layout n c.behind_head.result.now)) (ap (λ (h : Head). h.count) c.of-count.ensures)
    ∙ ap (λ (s : List ℕ). ascends (records_in ITEM_SIZE key_layout (nritems c.args.bytes.now) s)) c.behind_head.ensures
    ∙ ap ascends (sym (keys_of-items_in c.args.bytes.now))
