use Rattle.btr_node.proofs.Imports.{◌≡◌, ℕ, ◌+◌, ◌-◌, ◌*◌, List, [], ◌∷◌, ◌++◌, length, refl, ap, ◌∙◌, ITEM_SIZE, fields_bytes, U32, spelling, item_layout, BtrItemHead}
use borrow.Rule.Slice.PartMut.{put_mid}
use Rattle.btr_node.proofs.Putting.{put_item_is}
use Rattle.btr_node.proofs.put.put_item.Goals as goal

pub returns : goal.returns
unfolding item_layout
returns c = λ items counted placed is.
    let begin : ℕ = c.args.low - length c.args.body.now in
    let at : ℕ = ITEM_SIZE * c.args.count in
    let head : BtrItemHead = record { key = c.args.key; offset = begin; size = length c.args.body.now } in
    let spelled : c.put_fields.new.into ≡ spelling item_layout head =
    c.put_fields.ensures ∙ ap (λ (key : List ℕ). key ++ fields_bytes (U32 begin ∷ U32 (length c.args.body.now) ∷ [])) c.to_bytes.ensures in
    ap (λ (middle : List ℕ). put_mid at (at + ITEM_SIZE - at) (put_mid begin (c.args.low - begin) c.args.behind.now middle) c.put_fields.new.into) c.copy_from_slice.ensures.after
    ∙ put_item_is _ c.args.count c.args.low begin c.args.behind.now c.args.body.now c.put_fields.new.into c.args.key head items
    c.requires.heads counted placed refl is refl spelled
