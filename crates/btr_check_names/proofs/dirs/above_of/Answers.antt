use Rattle.btr_check_names.proofs.Imports.{◌≡◌, ◌≢◌, ℕ, List, Option, Vec, Global, take, ◌+◌, ap, sym, ◌∙◌, subst, arith, All, true≢false, All-contains, AreAbove, InodeAt}
use Rattle.btr_check_names.proofs.Standing.{step_names, step_over}
use Rattle.btr_check_names.proofs.dirs.above_of.Goals as goal
use Rattle.btr_check_names.proofs.dirs.above_of.Goals.{then-names_inode+in-Some, then-names_inode+in_default, else-names_inode}

pub loop-i-preserved : goal.loop-i-preserved
loop-i-preserved c = elim c.if-names_inode.branch [
  | then-names_inode+in-Some w ↦
      subst (λ (v : Vec (Option ℕ) Global). AreAbove c.args.dirs.now (take (c.loop-i.i + 1) c.args.list.now) v.items) (sym w.above-is)
      (step_names c.args.dirs.now c.requires c.args.list.now c.loop-i.i c.loop-i.above.items c.loop-i.invariant (omega arith) c.head-head.result.location c.head-head.ensures.location c.head-head.result.dir c.head-head.ensures.dir
      w.in-Some.to w.place_of-in-Some.result (sym c.names_inode.ensures ∙ w.if-names_inode.true) w.in-Some.ensures w.place_of-in-Some.ensures)
  | then-names_inode+in_default w ↦
      subst (λ (v : Vec (Option ℕ) Global). AreAbove c.args.dirs.now (take (c.loop-i.i + 1) c.args.list.now) v.items) (sym w.above-is)
      (step_over c.args.dirs.now c.requires c.args.list.now c.loop-i.i c.loop-i.above.items c.loop-i.invariant (omega arith) c.head-head.result.location c.head-head.ensures.location
      (λ d has names is. All-contains (λ (i : InodeAt). i.ino ≢ c.head-head.result.location.objectid) c.args.dirs.now d w.in_default.ensures has (sym is)))
  | else-names_inode w ↦
      subst (λ (v : Vec (Option ℕ) Global). AreAbove c.args.dirs.now (take (c.loop-i.i + 1) c.args.list.now) v.items) (sym w.above-is)
      (step_over c.args.dirs.now c.requires c.args.list.now c.loop-i.i c.loop-i.above.items c.loop-i.invariant (omega arith) c.head-head.result.location c.head-head.ensures.location
      (λ d has names is. true≢false (sym names ∙ (sym c.names_inode.ensures ∙ w.if-names_inode.false))))
]
