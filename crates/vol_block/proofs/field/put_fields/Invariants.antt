use Rattle.vol_block.proofs.Imports.{◌≡◌, take, fields_width, fields_bytes}
use Rattle.vol_block.proofs.field.put_fields.Given as goal

abbrev pub invariant-loop-field : goal.invariant-loop-field
invariant-loop-field l =
    record { place : l.at ≡ fields_width (take l.field-index l.fields); front : take l.at l.into ≡ fields_bytes (take l.field-index l.fields) }
