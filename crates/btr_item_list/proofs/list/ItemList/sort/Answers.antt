use Rattle.btr_item_list.proofs.Imports.{map, sym, ap, ◌∙◌, rules, length, All-permutation, answers_always, ItemRange, ascending, item_by, IsBodyWithin, offset_of}
use Rattle.btr_item_list.proofs.Runs.{sort_is, ascending_map}
use Rattle.btr_item_list.proofs.list.ItemList.sort.Goals as goal

pub invariant_of-self-2 : goal.invariant_of-self-2
invariant_of-self-2 c = All-permutation (IsBodyWithin (length c.self.inside.bytes.items)) c.self.inside.heads.items c.sort_by_key.new.self.items c.sort_by_key.ensures.permutation c.self.invariant

pub returns : goal.returns
returns c =
    ap (map (item_by c.self.inside.bytes.items)) (sort_is (λ (h : ItemRange). h.key.offset) c.self.inside.heads.items c.sort_by_key.new.self.items
    (c.in_ok-sort_by_key.ensures.sorted (λ h. h.key.offset) (answers_always _ _ _ (λ f a r g h. search rules)))
    (c.sort_by_key.ensures.stable (λ h. h.key.offset) (answers_always _ _ _ (λ f a r g h. search rules))))
    ∙ (sym (ascending_map offset_of (item_by c.self.inside.bytes.items) c.self.inside.heads.items) ∙ ap (ascending offset_of) c.self.view_is)
