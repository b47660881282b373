use Rattle.space_items.proofs.Imports.{refl}
use Rattle.space_items.proofs.root_list.other_items.Goals as goal

pub returns : goal.returns
returns c =
    rw (c.in_ok-add-2.ensures.ok, c.in_ok-add_default.ensures, c.in_ok-add_ref.ensures, c.in_ok-add_inode.ensures, c.in_ok-add.ensures.ok, c.new-items.ensures, c.key_of.ensures, c.key_of-2.ensures, c.inode_made.ensures, c.saved_ref-saved.ensures)
    refl
