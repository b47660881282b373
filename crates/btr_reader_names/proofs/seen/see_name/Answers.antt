use Rattle.btr_reader_names.proofs.Imports.{◌++◌, ◌∷◌, [], sym, subst, Refused, BtrRefusal, BlamesTwice}
use Rattle.btr_reader_names.proofs.Seeing.{seen_more, seen_twice, was_absent, was_there}
use Rattle.btr_reader_names.proofs.seen.see_name.Goals as goal

pub returns-then-branch-clause-seen : goal.returns-then-branch-clause-seen
returns-then-branch-clause-seen c = λ opened before is has.
    seen_more opened c.args.seen.now c.add_name.new.names before c.args.naming.now has c.in_ok-name.name is c.in_ok-name.ensures.dir c.in_ok-name.ensures.name c.in_ok-add_name.ensures.has (was_absent _ _ c.in_ok-add_name.ensures.added c.if-branch.true)

pub returns-else-branch-clause-seen : goal.returns-else-branch-clause-seen
returns-else-branch-clause-seen c = λ opened before is has.
    subst (λ (r : BtrRefusal). BlamesTwice opened (before ++ c.args.naming.now ∷ []) (Refused r)) (sym c.bad.ensures)
    (seen_twice opened c.args.seen.now c.add_name.new.names before c.args.naming.now has c.in_ok-name.name is c.in_ok-name.ensures.dir c.in_ok-name.ensures.name (was_there _ _ c.in_ok-add_name.ensures.added c.if-branch.false))
