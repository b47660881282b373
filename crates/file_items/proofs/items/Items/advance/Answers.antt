use Rattle.file_items.proofs.Stepping.{comes_still}
use Rattle.file_items.proofs.items.Items.advance.Goals as goal

pub returns-clause-next : goal.returns-clause-next
returns-clause-next g c = λ tells image is accepted opened placed fits.
    comes_still c.step-answer.result c.args.self.now c.step-answer.new.self c.is_err-self.result c.args.volume.now (g.P.PieceList.pieces c.args.pieces.now) image (c.step-answer.ensures.next tells image is accepted opened placed fits)
