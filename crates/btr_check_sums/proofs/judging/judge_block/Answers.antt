use Rattle.btr_check_sums.proofs.Imports.{ap, ◌∙◌, Image, block_at}
use Rattle.btr_check_sums.proofs.Data.{block_asked}
use Rattle.btr_check_sums.proofs.judging.judge_block.Goals as goal

pub returns-clause-right : goal.returns-clause-right
returns-clause-right g c = λ tells image is.
    block_asked image c.args.kind c.args.due.now c.read.new.into.bytes c.is_right.result c.ask.result
    (c.in_ok-read.ensures.block tells ∙ ap (λ (i : Image). block_at i c.args.due.now.block) is) c.is_right.ensures c.ask.ensures.ok c.ask.ensures.err
