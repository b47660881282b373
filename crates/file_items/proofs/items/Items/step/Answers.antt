use Rattle.file_items.proofs.Imports.{◌++◌, List, ap, refl, arith, Item, Volume, Piece, rest_ahead, Items}
use Rattle.file_items.proofs.Stepping.{comes_none, comes_some}
use Rattle.file_items.proofs.Streaming.{next_of}
use Rattle.file_items.proofs.items.Items.step.Goals as goal

pub returns-then-self-len-clause-next : goal.returns-then-self-len-clause-next
returns-then-self-len-clause-next g c = λ tells image is accepted opened placed fits.
    let next = next_of c.args.self.now.list c.args.self.now.given (omega (arith, c.if-self-len.true, c.len.ensures)) in
    (next.first, (c.args.self.now.given, refl, next.stands), ap (λ (l : List Item). l ++ rest_ahead c.args.self.now.rest c.args.volume.now (g.P.PieceList.pieces c.args.pieces.now) image) next.rest, record { rest_fits = fits.rest_fits })

pub returns-then-len-eq0-clause-next : goal.returns-then-len-eq0-clause-next
returns-then-len-eq0-clause-next g c = λ tells image is accepted opened placed fits.
    let volume : Volume = c.args.volume.now in
    let all : List Piece = g.P.PieceList.pieces c.args.pieces.now in
    let old : Items = c.args.self.now in
    let new : Items = record { list = c.add_next.new.items; given = 0; rest = c.add_next.new.self; spent = old.spent } in
    let adds = c.in_ok-add_next.ensures.next tells image is accepted opened placed fits.rest_fits in
    comes_none c.in_ok-add_next.field-0 old new volume all image (rest_ahead old.rest volume all image) (rest_ahead c.add_next.new.self volume all image) c.clear.new.self (omega (arith, c.if-self-len.false, c.len.ensures)) refl c.clear.ensures (omega (arith, c.len-2.ensures, c.if-len-eq0.true)) refl refl adds.0 adds.1

pub returns-clause-next : goal.returns-clause-next
returns-clause-next g c = λ tells image is accepted opened placed fits.
    let volume : Volume = c.args.volume.now in
    let all : List Piece = g.P.PieceList.pieces c.args.pieces.now in
    let old : Items = c.args.self.now in
    let new : Items = record { list = c.add_next.new.items; given = 1; rest = c.add_next.new.self; spent = old.spent } in
    let adds = c.in_ok-add_next.ensures.next tells image is accepted opened placed fits.rest_fits in
    comes_some c.in_ok-add_next.field-0 old new volume all image (rest_ahead old.rest volume all image) (rest_ahead c.add_next.new.self volume all image) c.clear.new.self (omega (arith, c.if-self-len.false, c.len.ensures)) refl c.clear.ensures (omega (arith, c.len-2.ensures, c.if-len-eq0.false)) refl refl adds.0 adds.1
