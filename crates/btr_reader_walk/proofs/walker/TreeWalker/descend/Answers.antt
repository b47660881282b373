use Rattle.btr_reader_walk.proofs.Imports.{List, sym, subst, refl, err_from_is_err_and, Image, MapRange, Tree, TreeWalker, wrong, Blames}
use Rattle.btr_reader_walk.proofs.Opening.{node_opened, node_refused, descended}
use Rattle.btr_reader_walk.proofs.walker.TreeWalker.descend.Goals as goal

pub returns-in-None-clause-moves : goal.returns-in-None-clause-moves
returns-in-None-clause-moves g c = λ tells given k. c.in-None.ensures.takes _ _ given k

pub returns-in_err-open-clause-moves : goal.returns-in_err-open-clause-moves
returns-in_err-open-clause-moves g c = λ tells given k.
    let image : Image = g.S.BlockSource.blocks c.args.src.now in
    let ranges : List MapRange = c.args.ranges.now in
    let w : TreeWalker = c.take_node.new.self in
    let err = err_from_is_err_and c.from_residual.result c.from_residual.ensures.1 in
    rw err.1 (subst (λ (tree : Tree). Blames (wrong image ranges tree) err.0) c.take_node.ensures.tree
    (subst (Blames (wrong image ranges w.tree)) (sym err.2)
    (node_refused w c.open.new.self image ranges given c.in-Some.entry c.in_err-open.field-0.0 (c.in-Some.ensures.takes image ranges given k) (c.in_err-open.ensures.opens tells image refl))))

pub returns-clause-moves : goal.returns-clause-moves
returns-clause-moves g c = λ tells given k.
    let image : Image = g.S.BlockSource.blocks c.args.src.now in
    let ranges : List MapRange = c.args.ranges.now in
    c.enter.ensures.enters image ranges given
    (node_opened c.take_node.new.self _ image ranges given c.in-Some.entry (c.in-Some.ensures.takes image ranges given k) refl refl
    (c.in_ok-open.ensures.opens tells image refl) c.in_ok-open.ensures.pushes)

pub returns-clause-ends : goal.returns-clause-ends
returns-clause-ends g c = λ more.
    descended c.args.self.now c.take_node.new.self c.open.new.self c.enter.new.self c.in-Some.entry c.open.new.self.bytes.items c.in-Some.ensures.weight c.in-Some.ensures.emptied.1
    c.open.ensures.tree c.in_ok-open.ensures.pushes c.in_ok-open.ensures.ends c.enter.ensures.nodes c.enter.ensures.few c.enter.ensures.none
