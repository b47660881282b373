use Rattle.btr_space_items.proofs.Imports.{◌∙◌, refl, root_item_layout}
use Rattle.btr_space_items.proofs.root_item.RootItem.write.Goals as goal

pub returns : goal.returns
unfolding root_item_layout
returns c = c.put_fields.ensures ∙ rw (c.to_bytes.ensures, c.to_bytes-2.ensures, c.to_bytes-3.ensures, c.to_bytes-4.ensures, c.to_bytes-5.ensures, c.to_bytes-6.ensures) refl
