use Rattle.vol_block.proofs.Imports.{arith}
use Rattle.vol_block.specs.declared.field.Field.TheVariants.{U8}
use Rattle.vol_block.proofs.Fronts.{fields_bytes_more, fields_width_more, room_for_field}
use Rattle.vol_block.proofs.field.put_fields.Goals as goal

pub put_field-at-requires : goal.put_field-at-requires
put_field-at-requires c = omega (arith, room_for_field c.args.fields.now c.loop-field.field-index (U8 0) c.loop-field-test.true)

pub loop-field-preserved : goal.loop-field-preserved
loop-field-preserved c = record {
  place = omega (arith, fields_width_more c.args.fields.now c.loop-field.field-index (U8 0) c.loop-field-test.true);
  front = let more = fields_bytes_more c.args.fields.now c.loop-field.field-index (U8 0) c.loop-field-test.true in cc (c.put_field-at.ensures.front);
}
