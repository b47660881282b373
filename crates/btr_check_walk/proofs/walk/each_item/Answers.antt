use Rattle.btr_check_walk.proofs.Imports.{◌≡◌, ℕ, List, None, map, ◌++◌, sym, ◌∙◌, subst, err_from_is_err_and, Image, items_in, TreeItem, in_leaf, order_damages, NodeWalker, NodePointer, Tree, if_leaf, walk_refusals, walked_items, EndsWalk, Stands}
use Rattle.btr_check_walk.proofs.Visiting.{IsOf, items_end, node_ends, node_visited, own_items}
use Rattle.btr_check_walk.proofs.walk.each_item.Goals as goal

-- still a walker of the tree
still : (tree : Tree) (w v : NodeWalker) → IsOf tree w → v.tree ≡ w.tree → v.owners ≡ w.owners → IsOf tree v
still tree w v of tree_is owners_are = record { tree_is = tree_is ∙ of.tree_is; owners_are = owners_are ∙ of.owners_are }

-- the items of a node by its bytes
abbrev items_by : List TreeItem → NodePointer → List ℕ → List TreeItem
items_by items p bytes = items ++ if_leaf p.level (map (in_leaf p.address) (items_in bytes))

pub returns-in_err-open_node-clause-err : goal.returns-in_err-open_node-clause-err
returns-in_err-open_node-clause-err g c = λ tells image is.
    let here : Image = g.S.BlockSource.blocks c.args.src.now in
    let told = c.loop-entry.invariant.walks tells in
    let same = g.met.S.BlockSource.kept_blocks c.args.src.now c.loop-entry.src tells c.loop-entry.invariant.kept in
    let before = still c.args.tree c.loop-entry.walker c.take.new.self c.loop-entry.invariant.of c.take.ensures.tree c.take.ensures.owners in
    let refuses = g.V.ItemVisitor.refuses c.args.visitor.now in
    let err = err_from_is_err_and c.from_residual-in_err-open_node.result c.from_residual-in_err-open_node.ensures.1 in
    rw err.1 (subst (λ (m : Image). EndsWalk (walk_refusals m c.args.ranges.now c.args.tree) refuses (walked_items m c.args.ranges.now c.args.tree) err.0) is
    (subst (EndsWalk (walk_refusals here c.args.ranges.now c.args.tree) refuses (walked_items here c.args.ranges.now c.args.tree)) (sym err.2)
    (node_ends here c.args.ranges.now c.args.tree c.loop-entry.walker c.take.new.self c.in-Some.entry told.0 refuses c.in_err-open_node.field-0.0 told.1
    c.loop-entry.invariant.of before (c.in-Some.ensures.takes here c.args.ranges.now) (c.in_err-open_node.ensures.opens tells here same))))

pub loop-entry-preserved : goal.loop-entry-preserved
loop-entry-preserved g c =
    let inv = c.loop-entry.invariant in
    let before = still c.args.tree c.loop-entry.walker c.take.new.self inv.of c.take.ensures.tree c.take.ensures.owners in
    record {
      kept = g.met.S.BlockSource.kept_trans _ _ _ inv.kept c.open_node.ensures.kept;
      same = c.in_ok-open_node.ensures.cause.kept (λ e. absurd cc) ∙ inv.same;
      of = still c.args.tree c.take.new.self c.open_node.new.walker before c.open_node.ensures.tree c.open_node.ensures.owners;
      walks = λ tells.
          let here : Image = g.S.BlockSource.blocks c.args.src.now in
          let told = inv.walks tells in
          let same = g.met.S.BlockSource.kept_blocks c.args.src.now c.loop-entry.src tells inv.kept in (
            told.0 ++ own_items c.in-Some.entry c.open_node.new.walker,
            node_visited here c.args.ranges.now c.args.tree c.loop-entry.walker c.take.new.self c.open_node.new.walker c.in-Some.entry told.0 told.1 inv.of before
                (c.in-Some.ensures.takes here c.args.ranges.now) (c.in_ok-open_node.ensures.opens tells here same),
            subst (λ (b : List ℕ). Stands (g.V.ItemVisitor.holds c.args.visitor.now c.give_node.new.visitor) c.give_node.new.last (items_by told.0 c.in-Some.entry.pointer b)) c.bytes.ensures
                (c.in_ok-give_node.ensures.given c.args.visitor.now told.0 told.2),
          );
    }

pub returns-in_err-give_node-clause-err : goal.returns-in_err-give_node-clause-err
returns-in_err-give_node-clause-err g c = λ tells image is.
    let here : Image = g.S.BlockSource.blocks c.args.src.now in
    let inv = c.loop-entry.invariant in
    let told = inv.walks tells in
    let same = g.met.S.BlockSource.kept_blocks c.args.src.now c.loop-entry.src tells inv.kept in
    let before = still c.args.tree c.loop-entry.walker c.take.new.self inv.of c.take.ensures.tree c.take.ensures.owners in
    let refuses = g.V.ItemVisitor.refuses c.args.visitor.now in
    let visited = node_visited here c.args.ranges.now c.args.tree c.loop-entry.walker c.take.new.self c.open_node.new.walker c.in-Some.entry told.0 told.1 inv.of before
    (c.in-Some.ensures.takes here c.args.ranges.now) (c.in_ok-open_node.ensures.opens tells here same) in
    let err = err_from_is_err_and c.from_residual-in_err-give_node.result c.from_residual-in_err-give_node.ensures.1 in
    rw err.1 (subst (λ (m : Image). EndsWalk (walk_refusals m c.args.ranges.now c.args.tree) refuses (walked_items m c.args.ranges.now c.args.tree) err.0) is
    (subst (EndsWalk (walk_refusals here c.args.ranges.now c.args.tree) refuses (walked_items here c.args.ranges.now c.args.tree)) (sym err.2)
    (items_end here c.args.ranges.now c.args.tree c.open_node.new.walker (told.0 ++ own_items c.in-Some.entry c.open_node.new.walker) refuses c.in_err-give_node.field-0.0 visited
    (subst (λ (b : List ℕ). EndsWalk (order_damages None (items_by told.0 c.in-Some.entry.pointer b)) refuses (items_by told.0 c.in-Some.entry.pointer b) c.in_err-give_node.field-0.0) c.bytes.ensures
    (c.in_err-give_node.ensures.given c.args.visitor.now told.0 told.2)))))
