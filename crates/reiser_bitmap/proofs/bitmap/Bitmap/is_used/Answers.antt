use Rattle.reiser_bitmap.proofs.Imports.{◌<◌, ◌≤◌, ◌/◌, ◌%◌, ◌==◌, false, length, sym, ◌∙◌, ap, arith, bit_at, le-ltb, get_or_past, has}
use Rattle.reiser_bitmap.proofs.BitLemmas.{length-bits, has-bits, has_bit, read}
use Rattle.reiser_bitmap.proofs.bitmap.Bitmap.is_used.Goals as goal

pub returns-then-b-self : goal.returns-then-b-self
returns-then-b-self c =
    let within : c.args.b < c.self.inside.blocks = c.if-b-self.true in
    let room : c.args.b / 8 < length c.self.inside.bytes.items = omega (arith, c.self.invariant.room) in
    has_bit c.index.result.now (c.args.b % 8) (omega arith)
    ∙ (ap (λ x. bit_at x (c.args.b % 8) == 1) (read c.self.inside.bytes.items (c.args.b / 8) c.index.result.now room c.index.ensures)
    ∙ (sym (has-bits c.self.inside.blocks c.self.inside.bytes.items c.args.b within) ∙ ap (λ s. has s c.args.b) c.self.view_is))

pub returns-else-b-self : goal.returns-else-b-self
returns-else-b-self c =
    let past : length c.args.self.now ≤ c.args.b = omega (arith, length-bits c.self.inside.blocks c.self.inside.bytes.items, ap length c.self.view_is, c.if-b-self.false) in
    le-ltb c.args.b c.self.inside.blocks c.if-b-self.false ∙ sym (get_or_past c.args.self.now c.args.b false past)
