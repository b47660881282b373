-- What fields to be written are, byte for byte.
use Rattle.std.specs.Prelude.{ℕ, ◌+◌, List, [], ◌∷◌, ◌++◌, length, replicate}
use Rattle.byteorder.specs.Endian.{little_bytes}
use Rattle.vol_block.specs.declared.field.Field.{Field}
use Rattle.vol_block.specs.declared.field.Field.TheVariants.{U8, U16, U32, U64, Bytes, Zeros}

abbrev pub field_width : Field → ℕ
field_width (U8 x) = 1
field_width (U16 x) = 2
field_width (U32 x) = 4
field_width (U64 x) = 8
field_width (Bytes bytes) = length bytes.now
field_width (Zeros n) = n

abbrev pub field_bytes : Field → List ℕ
field_bytes (U8 x) = x ∷ []
field_bytes (U16 x) = little_bytes 2 x
field_bytes (U32 x) = little_bytes 4 x
field_bytes (U64 x) = little_bytes 8 x
field_bytes (Bytes bytes) = bytes.now
field_bytes (Zeros n) = replicate n 0

abbrev pub fields_width : List Field → ℕ
fields_width [] = 0
fields_width (field ∷ fields) = field_width field + fields_width fields

-- one after the other
abbrev pub fields_bytes : List Field → List ℕ
fields_bytes [] = []
fields_bytes (field ∷ fields) = field_bytes field ++ fields_bytes fields
