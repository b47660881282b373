use Rattle.btr_check_names.proofs.Imports.{ap, ◌∙◌, arith, InodeAt}
use Rattle.btr_check_names.proofs.Numbering.{none_has}
use Rattle.btr_check_names.proofs.Permuting.{get_or_any}
use Rattle.btr_check_names.proofs.inodes.place_of.Goals as goal
use Rattle.btr_check_names.proofs.inodes.place_of.Goals.{else-at-inodes-via-then-at-inodes+else-inodes-at, else-at-inodes-via-else-at-inodes}

pub returns-else-at-inodes : goal.returns-else-at-inodes
returns-else-at-inodes c = none_has c.args.inodes.now c.args.ino c.first_from-at.result c.requires c.first_from-at.ensures.parts
    (elim c.else-at-inodes.branch [
      | else-at-inodes-via-then-at-inodes+else-inodes-at w ↦ (λ d within is. w.if-inodes-at.false (ap (λ (i : InodeAt). i.ino) (get_or_any c.args.inodes.now c.first_from-at.result d _ within) ∙ is))
      | else-at-inodes-via-else-at-inodes w ↦ (λ d within is. absurd (omega (arith, w.if-at-inodes.false)))
    ])
