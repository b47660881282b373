use Rattle.reiser_walk.proofs.Imports.{Contains, refl, ◌∙◌, ap, subst, Image, block_at, BlockPointer, ReiserTree, Walker, tree_damages, IsAt}
use Rattle.reiser_walk.proofs.Walking.{node_blamed, at_same}
use Rattle.reiser_walk.proofs.walker.Walker.descend.Goals as goal

pub returns-in-Ok-None-clause-moves : goal.returns-in-Ok-None-clause-moves
returns-in-Ok-None-clause-moves g c = λ tells image is given k. rw c.in-Ok-None.field-0-is at (c.in-Ok-None.ensures.takes image given k)

pub returns-in-Err-clause-moves : goal.returns-in-Err-clause-moves
returns-in-Err-clause-moves g c = λ tells image is given k. c.in-Err.ensures.takes image given k

pub returns-in-Ok-open-clause-moves : goal.returns-in-Ok-open-clause-moves
returns-in-Ok-open-clause-moves g c = λ tells image is given k.
    let p : BlockPointer = c.in-Ok-Some.pointer in
    let same = c.await_block.ensures in
    let taken = rw c.in-Ok-Some.field-0-is at (c.in-Ok-Some.ensures.takes image given k) in
    c.in-Ok-open.ensures.opens image c.args.map.now given p (at_same c.take_pointer.new.self _ image c.args.map.now given p same.tree same.reached same.start same.path same.last taken) same.no (c.in-Ok.ensures.block tells ∙ ap (λ (m : Image). block_at m p.block) is)

pub returns-in-Err-open-clause-moves : goal.returns-in-Err-open-clause-moves
returns-in-Err-open-clause-moves g c = λ tells image is given k.
    let p : BlockPointer = c.in-Ok-Some.pointer in
    let w : Walker = c.await_block.new.self in
    let same = c.await_block.ensures in
    let taken = rw c.in-Ok-Some.field-0-is at (c.in-Ok-Some.ensures.takes image given k) in
    let at : IsAt p w image c.args.map.now given = at_same c.take_pointer.new.self w image c.args.map.now given p same.tree same.reached same.start same.path same.last taken in
    let off = c.in-Err-open.ensures.opens image c.args.map.now given p (at_same w _ image c.args.map.now given p refl refl refl refl refl at) same.no (c.in-Ok.ensures.block tells ∙ ap (λ (m : Image). block_at m p.block) is) in
    subst (λ (t : ReiserTree). Contains (tree_damages t image c.args.map.now) c.in-Err-open.e) (same.tree ∙ c.take_pointer.ensures.tree) (node_blamed w image c.args.map.now given p c.in-Err-open.e at off)
