use Rattle.convert_core.proofs.Imports.{◌≤◌, ◌+◌, ◌∙◌, Bool, List, length, sym, ap, subst, arith, All, Super, Piece}
use Rattle.convert_core.proofs.Wholeness.{are_pieces, places_inside, told_whole}
use Rattle.convert_core.proofs.whole.is_whole.Goals as goal

pub returns-then-blocks-le16-clause-told : goal.returns-then-blocks-le16-clause-told
returns-then-blocks-le16-clause-told c = λ image o ids size long is.
    let whole = told_whole image o ids c.args.prepared.now c.args.device size long is in
    let blocks = ap (λ (s : Super). s.blocks) c.sup.ensures in
    absurd (omega (arith, blocks, c.if-blocks-le16.true, whole.some))

pub returns-then-blocks-gt-MOST_BLOCKS-clause-told : goal.returns-then-blocks-gt-MOST_BLOCKS-clause-told
returns-then-blocks-gt-MOST_BLOCKS-clause-told c = λ image o ids size long is.
    let whole = told_whole image o ids c.args.prepared.now c.args.device size long is in
    let blocks = ap (λ (s : Super). s.blocks) c.sup.ensures in
    absurd (omega (arith, blocks, c.if-blocks-gt-MOST_BLOCKS.true, whole.small))

pub returns-then-blocks-device-clause-told : goal.returns-then-blocks-device-clause-told
returns-then-blocks-device-clause-told c = λ image o ids size long is.
    let whole = told_whole image o ids c.args.prepared.now c.args.device size long is in
    let blocks = ap (λ (s : Super). s.blocks) c.sup.ensures in
    absurd (omega (arith, blocks, c.if-blocks-device.true, whole.inside))

pub returns-then-len-blocks-clause-told : goal.returns-then-len-blocks-clause-told
returns-then-len-blocks-clause-told c = λ image o ids size long is.
    let whole = told_whole image o ids c.args.prepared.now c.args.device size long is in
    let blocks = ap (λ (s : Super). s.blocks) c.sup.ensures in
    let bits = c.len.ensures ∙ (ap (λ (l : List Bool). length l) c.bitmap.ensures ∙ whole.bitmap) in
    absurd (omega (arith, blocks, bits, c.if-len-blocks.true))

pub returns-then-prepared-gt-MOST_SYSTEM-clause-told : goal.returns-then-prepared-gt-MOST_SYSTEM-clause-told
returns-then-prepared-gt-MOST_SYSTEM-clause-told c = λ image o ids size long is.
    let whole = told_whole image o ids c.args.prepared.now c.args.device size long is in
    absurd (omega (arith, whole.system, c.if-prepared-gt-MOST_SYSTEM.true))

pub returns-clause-told : goal.returns-clause-told
returns-clause-told c = λ image o ids size long is.
    let p = c.args.prepared.now in
    c.are_placed.ensures.told (are_pieces p.volume image o p.plan p.pieces.items.items is.has_pieces)
    (subst (λ (s : Super). All (λ (q : Piece). q.place + q.count ≤ s.blocks) p.pieces.items.items) (sym c.sup.ensures) (places_inside p.volume image o p.plan p.pieces.items.items is.has_pieces))
