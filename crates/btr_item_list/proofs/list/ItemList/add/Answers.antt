use Rattle.btr_item_list.proofs.Imports.{rules, ◌++◌, ◌∷◌, [], List, ap, ◌∙◌, Item}
use Rattle.btr_item_list.proofs.Bodies.{item_added}
use Rattle.btr_item_list.proofs.list.ItemList.add.Goals as goal

pub returns : goal.returns
returns c = record {
  ok =
      item_added c.self.inside.bytes.items c.args.body.now c.extend_from_slice.new.self.items c.self.inside.heads.items c.push.new.self.items c.args.key c.len-start.result c.len.result
      (search rules) c.in_ok-extend_from_slice.ensures.items (search rules) (search rules) c.in_ok-push.ensures.items
      ∙ ap (λ (items : List Item). items ++ (c.args.key, c.args.body.now) ∷ []) c.self.view_is;
}
