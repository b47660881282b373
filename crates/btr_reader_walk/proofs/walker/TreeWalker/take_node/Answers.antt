use Rattle.btr_reader_walk.proofs.Imports.{refl, sym, ◌∙◌, append-nil}
use Rattle.btr_reader_walk.proofs.Walking.{taken, ended}
use Rattle.btr_reader_walk.proofs.walker.TreeWalker.take_node.Goals as goal

pub returns-in_err-entry-clause-takes : goal.returns-in_err-entry-clause-takes
returns-in_err-entry-clause-takes c = λ image ranges given k.
    let left = c.take.new.self.pending.items in
    rw c.from_residual.ensures (ended c.args.self.now _ image ranges given k c.requires.done c.in_err-entry.ensures.over refl refl c.requires.done
    (sym (append-nil left) ∙ (sym c.in_err-entry.ensures.pops ∙ c.in_err-entry.ensures.over)))

pub returns-clause-takes : goal.returns-clause-takes
returns-clause-takes c = λ image ranges given k.
    taken c.args.self.now _ image ranges given c.take.new.self.pending.items c.in_ok-entry.entry k c.requires.done c.in_ok-entry.ensures.pops refl refl refl
