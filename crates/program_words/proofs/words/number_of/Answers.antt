use Rattle.program_words.proofs.Imports.{sym, ◌∙◌}
use Rattle.program_words.proofs.Numbers.{read_is, unread_is}
use Rattle.program_words.proofs.words.number_of.Goals as goal

pub returns-in-Ok : goal.returns-in-Ok
returns-in-Ok c =
    let read = c.in-Ok.ensures.value.0 in
    c.at_most.ensures ∙ read_is c.args.most c.args.word.now c.in-Ok.number (sym c.if-begins_with_plus.ensures) read.0.0 read.1

pub returns-in-Err : goal.returns-in-Err
returns-in-Err c = unread_is c.args.most c.args.word.now c.ranges.most.fits (sym c.if-begins_with_plus.ensures) c.in-Err.ensures.value.0
