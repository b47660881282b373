use Rattle.reiser_bitmap.proofs.Imports.{ℕ, List, ◌∙◌, ap, bits}
use Rattle.reiser_bitmap.proofs.BitLemmas.{no_bits}
use Rattle.reiser_bitmap.proofs.bitmap.Bitmap.new.Goals as goal

pub returns : goal.returns
returns c = ap (λ (bytes : List ℕ). bits c.args.blocks bytes) c.in_ok-bytes.ensures ∙ no_bits c.args.blocks c.div_ceil.result
