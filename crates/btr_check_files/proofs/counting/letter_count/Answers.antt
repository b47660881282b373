use Rattle.btr_check_files.proofs.Imports.{sym, ap, ◌∙◌, capped}
use Rattle.btr_check_files.proofs.Tallying.{index_letters, no_letters}
use Rattle.btr_check_files.proofs.counting.letter_count.Goals as goal

pub returns-then-key-eq-DIR_INDEX : goal.returns-then-key-eq-DIR_INDEX
returns-then-key-eq-DIR_INDEX c = c.letters_in.ensures ∙ ap capped (sym (index_letters (c.args.key.now, c.args.body.now) c.if-key-eq-DIR_INDEX.true))

pub returns-else-key-eq-DIR_INDEX : goal.returns-else-key-eq-DIR_INDEX
returns-else-key-eq-DIR_INDEX c = ap capped (sym (no_letters (c.args.key.now, c.args.body.now) c.if-key-eq-DIR_INDEX.false))
