use Rattle.btr_check_walk.proofs.Imports.{◌≡◌, ◌<◌, List, length, map, ◌++◌, None, sym, ap, subst, arith, err_from_is_err_and, Item, items_in, TreeItem, in_leaf, order_damages, EndsWalk, Stands}
use Rattle.btr_check_walk.proofs.Steps.{first_more, leaf_ends, leaf_item, with_first}
use Rattle.btr_check_walk.proofs.walk.give_leaf.Goals as goal

pub returns-in_err-give-clause-given : goal.returns-in_err-give-clause-given
returns-in_err-give-clause-given g c = λ begun items stands.
    let xs : List Item = items_in c.args.bytes.now in
    let x : Item = (c.key.result, c.body.result.now) in
    let seen : length c.of-leaf.result ≡ length xs = ap (λ (z : List Item). length z) c.of-leaf.ensures in
    let lt : c.loop-i.i < length xs = omega arith in
    let is = leaf_item c.of-leaf.result xs c.loop-i.i c.key.result c.body.result.now c.of-leaf.ensures c.key.ensures c.body.ensures in
    let before = c.loop-i.invariant begun items stands in
    let all : List TreeItem = items ++ map (in_leaf c.args.address) xs in
    let err = err_from_is_err_and c.from_residual.result c.from_residual.ensures.1 in
    rw err.1 (subst (EndsWalk (order_damages None all) (g.V.ItemVisitor.refuses begun) all) (sym err.2)
    (leaf_ends (g.V.ItemVisitor.refuses begun) c.args.address xs items c.loop-i.i x lt is c.in_err-give.field-0.0
    (c.in_err-give.ensures.given begun (with_first c.args.address xs items c.loop-i.i) before)))

pub loop-i-preserved : goal.loop-i-preserved
loop-i-preserved g c = λ begun items stands.
    let xs : List Item = items_in c.args.bytes.now in
    let x : Item = (c.key.result, c.body.result.now) in
    let seen : length c.of-leaf.result ≡ length xs = ap (λ (z : List Item). length z) c.of-leaf.ensures in
    let lt : c.loop-i.i < length xs = omega arith in
    let is = leaf_item c.of-leaf.result xs c.loop-i.i c.key.result c.body.result.now c.of-leaf.ensures c.key.ensures c.body.ensures in
    subst (Stands (g.V.ItemVisitor.holds begun c.give.new.visitor) c.give.new.last) (first_more c.args.address xs items c.loop-i.i x lt is)
    (c.in_ok-give.ensures.given begun (with_first c.args.address xs items c.loop-i.i) (c.loop-i.invariant begun items stands))
