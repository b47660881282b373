use Rattle.btr_tree_writer.proofs.Imports.{◌≤◌, ℕ, List, length, sym, ◌∙◌, subst, taken}
use Rattle.btr_tree_writer.proofs.Pushing.{only_all}
use Rattle.btr_tree_writer.proofs.Steps.{maps_of, stands_by, whole_by}
use Rattle.btr_tree_writer.proofs.writer.TreeWriter.finish.Goals as goal

pub returns-in_err-root-clause-only : goal.returns-in_err-root-clause-only
returns-in_err-root-clause-only g c = λ tells. only_all _ (taken c.finish.new.self.made) _ _ _ (c.finish.ensures.only tells)

pub returns-clause-tree : goal.returns-clause-tree
returns-clause-tree g c = λ form generation owner slots items ranges maps tells w s.
    let made = c.args.self.builder.made in
    let root = c.in_ok-root.root in
    let is = c.in_ok-root.ensures.finished items w.holds in
    let here = maps_of ranges made form slots w.form_is w.slots_are w.offsets_are maps in
    stands_by _ ranges made form generation owner slots.addresses _ items root w.form_is w.owner_is w.generation_is w.slots_are s.pushed_are (c.in_ok-root.ensures.tree ranges here tells) (c.in_ok-root.ensures.nodes ranges here tells) (c.in_ok-root.ensures.whole ranges here tells)
    (is.nodes_are ∙ is.count) (subst (λ (s : List ℕ). root.nodes ≤ length s) is.same.slots (subst (λ (n : ℕ). n ≤ length c.finish.new.self.made.slots) (sym is.nodes_are) is.few))

pub returns-clause-only : goal.returns-clause-only
returns-clause-only g c = λ tells. only_all _ (taken c.finish.new.self.made) _ _ _ (c.finish.ensures.only tells)

pub returns-clause-whole : goal.returns-clause-whole
returns-clause-whole g c = λ form generation owner slots items ranges maps tells w.
    let made = c.args.self.builder.made in
    whole_by _ ranges made form generation owner c.in_ok-root.root w.form_is w.owner_is w.generation_is
    (c.in_ok-root.ensures.whole ranges (maps_of ranges made form slots w.form_is w.slots_are w.offsets_are maps) tells)
