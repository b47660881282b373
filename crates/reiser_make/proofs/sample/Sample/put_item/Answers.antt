use Rattle.reiser_make.proofs.Imports.{◌≡◌, ◌≤◌, ℕ, ◌+◌, ◌-◌, ◌*◌, List, length, take, drop, refl, sym, ap, ◌∙◌, arith, length-append, length-take, length-drop, body_bytes, bodies}
use Rattle.reiser_make.proofs.Storing.{put_item_is, bodies-append}
use Rattle.reiser_make.proofs.sample.Sample.put_item.Goals as goal

part_size : (low len : ℕ) (s : List ℕ) → length s ≡ 4072 → len ≤ low → low ≤ 4072 → length (take (low - (low - len)) (drop (low - len) s)) ≡ len
part_size low len s size fits within = omega (arith, length-take (low - (low - len)) (drop (low - len) s), length-drop (low - len) s, size)

within_low : (i len low : ℕ) → 24 * i + 24 + len ≤ low → len ≤ low
within_low i len low fits = omega arith

pub returns-clause-bytes : goal.returns-clause-bytes
returns-clause-bytes c = λ items counted placed room is.
    let begin : ℕ = c.args.low - c.args.item.now.head.length in
    let at : ℕ = 24 * c.args.i in
    let fits : c.args.item.now.head.length ≤ c.args.low = within_low c.args.i _ _ c.requires.heads in
    let sized : length c.put_body.new.into ≡ c.args.item.now.head.length =
    c.put_body.auto.into ∙ part_size c.args.low c.args.item.now.head.length c.args.behind.now c.requires.room fits c.requires.within in
    put_item_is c.args.self.now c.args.i c.args.low begin (c.args.low - begin) (at + 24 - at) c.args.behind.now c.put_body.new.into c.put_head.new.into c.args.item.now items
    c.requires.heads c.requires.within counted placed room refl (omega (arith, fits)) (omega arith) sized is c.put_body.ensures c.put_head.ensures

pub returns-clause-bodies : goal.returns-clause-bodies
returns-clause-bodies c = λ items placed.
    let item = c.args.item.now in
    let fits : c.args.item.now.head.length ≤ c.args.low = within_low c.args.i _ _ c.requires.heads in
    let sized : length (body_bytes c.args.self.now item.head.old item.body) ≡ item.head.length =
    sym (ap length c.put_body.ensures) ∙ c.put_body.auto.into ∙ part_size c.args.low c.args.item.now.head.length c.args.behind.now c.requires.room fits c.requires.within in
    omega (arith, placed, ap length (bodies-append c.args.self.now items item), length-append (body_bytes c.args.self.now item.head.old item.body) (bodies c.args.self.now items), sized, fits)
