use Rattle.vol_block.proofs.Imports.{refl}
use Rattle.vol_block.proofs.Fronts.{front_of_field}
use Rattle.vol_block.proofs.field.put_field.Goals as goal

pub returns-in-U16-clause-front : goal.returns-in-U16-clause-front
returns-in-U16-clause-front c = front_of_field _ _ _ 2 _ _ _ c.in-U16.is c.put_u16.ensures refl c.requires

pub returns-in-U32-clause-front : goal.returns-in-U32-clause-front
returns-in-U32-clause-front c = front_of_field _ _ _ 4 _ _ _ c.in-U32.is c.put_u32.ensures refl c.requires

pub returns-in-U64-clause-front : goal.returns-in-U64-clause-front
returns-in-U64-clause-front c = front_of_field _ _ _ 8 _ _ _ c.in-U64.is c.put_u64.ensures refl c.requires
