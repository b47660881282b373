use Rattle.btr_reader_names.proofs.Imports.{◌++◌, ◌∷◌, [], ◌∙◌, sym, subst, Refused, BtrRefusal, BlamesAgain, contains, same_node}
use Rattle.btr_reader_names.proofs.Seeing.{other_more, directory_more, directory_again, was_absent, was_there}
use Rattle.btr_reader_names.proofs.seen.see_target.Goals as goal

pub returns-then-not-leads_down : goal.returns-then-not-leads_down
returns-then-not-leads_down c = λ before has.
    other_more c.args.names.now (contains same_node c.args.named.now) c.args.seen.now c.args.seen.now before c.args.naming.now has (sym c.leads_down.ensures ∙ c.if-not-leads_down.true)

pub returns-then-branch : goal.returns-then-branch
returns-then-branch c = λ before has.
    directory_more c.args.names.now (contains same_node c.args.named.now) c.args.seen.now c.add.new.numbers before c.args.naming.now has (sym c.leads_down.ensures ∙ c.if-not-leads_down.false) c.in_ok-add.ensures.has (was_absent _ _ c.in_ok-add.ensures.added c.if-branch.true)

pub returns-else-branch : goal.returns-else-branch
returns-else-branch c = λ before has.
    subst (λ (r : BtrRefusal). BlamesAgain c.args.names.now (contains same_node c.args.named.now) (before ++ c.args.naming.now ∷ []) (Refused r)) (sym c.bad.ensures)
    (directory_again c.args.names.now (contains same_node c.args.named.now) c.args.seen.now c.add.new.numbers before c.args.naming.now has (sym c.leads_down.ensures ∙ c.if-not-leads_down.false) (was_there _ _ c.in_ok-add.ensures.added c.if-branch.false))
