-- The text of pieces.
use Rattle.std.specs.Prelude.{ℕ, List, decimal}
use Rattle.std.specs.Fmt.{signed_decimal}
use Rattle.std.specs.List.{flat_map}
use Rattle.uuid.specs.Text.{hyphenated_text, lower}
use Rattle.sink_text.specs.Digits.{fraction, hex_text, octal_four}
use Rattle.sink_text.specs.Escape.{escaped}
use Rattle.sink_text.specs.declared.text_part.TextPart.{TextPart}
use Rattle.sink_text.specs.declared.text_part.TextPart.TheVariants.{Plain, Decimal, Signed, Octal, Fraction, Hyphenated, Escaped, Hex}

abbrev pub piece_text : TextPart → List ℕ
piece_text (Plain bytes) = bytes.now
piece_text (Decimal n) = decimal n
piece_text (Signed n) = signed_decimal n
piece_text (Octal n) = octal_four n
piece_text (Fraction n) = fraction n
piece_text (Hyphenated id) = hyphenated_text lower id
piece_text (Escaped bytes) = escaped bytes.now
piece_text (Hex bytes) = hex_text bytes.now

abbrev pub text_of : List TextPart → List ℕ
text_of pieces = flat_map piece_text pieces
