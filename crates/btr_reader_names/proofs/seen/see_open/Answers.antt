use Rattle.btr_reader_names.proofs.Imports.{◌∙◌, sym, contains, same_node, is_open}
use Rattle.btr_reader_names.proofs.Seeing.{closed_more}
use Rattle.btr_reader_names.proofs.seen.see_open.Goals as goal

pub returns-then-is_open : goal.returns-then-is_open
returns-then-is_open c = λ before has. c.see_name.ensures.seen (is_open c.args.names.now (contains same_node c.args.named.now)) before (sym c.is_open.ensures ∙ c.if-is_open.true) has

pub returns-else-is_open : goal.returns-else-is_open
returns-else-is_open c = λ before has.
    closed_more (is_open c.args.names.now (contains same_node c.args.named.now)) c.args.seen.now c.args.seen.now before c.args.naming.now has (sym c.is_open.ensures ∙ c.if-is_open.false)
