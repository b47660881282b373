use Rattle.btr_reader_contents.proofs.Imports.{List, [], ◌∷◌, ◌++◌, ap, sym, subst, ◌∙◌, err_from_is_err_and, Key, TreeItem, extents_of, MarksExtents, RefusesExtents}
use Rattle.btr_reader_contents.proofs.ExtentLists.{extents_of-one}
use Rattle.btr_reader_contents.proofs.Gathered.{hand_refuses}
use Rattle.btr_reader_contents.proofs.hand.Hand.add.Goals as goal

pub returns-in_err-add_extent-clause-adds : goal.returns-in_err-add_extent-clause-adds
returns-in_err-add_extent-clause-adds g c = λ tells image is blocks plan given i key body leaf own held.
    let bad = c.in_err-add_extent.ensures.refused (extents_of given c.args.self.now.ino) i leaf (ap (λ (k : Key). k.offset) key) body held.marks.reaches in
    let err = err_from_is_err_and c.from_residual.result c.from_residual.ensures.1 in
    rw err.1 (subst (RefusesExtents plan c.args.ranges.now (given ++ i ∷ [])) (sym err.2)
    (hand_refuses plan c.args.ranges.now given i c.args.self.now.ino c.args.self.now.wanted _ held.planned own bad))

pub returns-clause-adds : goal.returns-clause-adds
returns-clause-adds g c = λ tells image is blocks plan given i key body leaf own held. record {
  planned = held.planned;
  size = c.add_extent.ensures.size ∙ held.size;
  marks =
      subst (λ (z : List TreeItem). MarksExtents c.add_extent.new.self image c.args.ranges.now z) (sym (extents_of-one given i c.args.self.now.ino own))
      (c.in_ok-add_extent.ensures.marks tells image is blocks (extents_of given c.args.self.now.ino) i leaf (ap (λ (k : Key). k.offset) key) body held.marks);
}
