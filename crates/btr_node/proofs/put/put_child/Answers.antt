use Rattle.btr_node.proofs.Imports.{◌≡◌, ℕ, List, [], ◌∷◌, ◌++◌, ap, ◌∙◌, fields_bytes, U64, spelling, child_layout}
use Rattle.btr_node.proofs.Putting.{put_child_is}
use Rattle.btr_node.proofs.put.put_child.Goals as goal

pub returns : goal.returns
unfolding child_layout
returns c = λ children counted is.
    let child = c.args.child.now in
    let spelled : c.put_fields.new.into ≡ spelling child_layout child =
    c.put_fields.ensures ∙ ap (λ (key : List ℕ). key ++ fields_bytes (U64 child.address ∷ U64 child.generation ∷ [])) c.to_bytes.ensures in
    put_child_is _ c.args.count _ _ child children c.requires counted is spelled
