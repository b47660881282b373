use Rattle.btr_super.proofs.Imports.{◌∙◌, refl, super_layout}
use Rattle.btr_super.proofs.superblock.Super.put.Goals as goal

pub returns : goal.returns
unfolding super_layout
returns c = c.put_fields.ensures ∙ rw (c.requires.device) refl
