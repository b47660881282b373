use Rattle.btr_reader_contents.proofs.Imports.{List, sym, subst, TreeItem, MarksExtents}
use Rattle.btr_reader_contents.proofs.hand.Hand.new.Goals as goal

pub returns-clause-holds : goal.returns-clause-holds
returns-clause-holds c = λ plan image ranges given planned none. record {
  planned = planned;
  size = c.new.ensures.size;
  marks = subst (λ (z : List TreeItem). MarksExtents c.new.result image ranges z) (sym none) (c.new.ensures.none image ranges);
}
