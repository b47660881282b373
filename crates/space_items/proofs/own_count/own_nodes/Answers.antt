use Rattle.space_items.proofs.Imports.{ℕ, ◌-◌, ◌<◌, ◌≤◌, arith, subst, sym, AreNodes, IsOwnCount, own_bound}
use Rattle.space_items.proofs.Ascending.{with_leaves}
use Rattle.space_items.proofs.ChunksExist.{the_chunks, are_the_chunks}
use Rattle.space_items.proofs.Describing.{counted_next, counting_ends, counting_goes_on, counting_rises}
use Rattle.space_items.proofs.OneList.{chunks_one}
use Rattle.space_items.proofs.own_count.own_nodes.Goals as goal

falls : (bound count next : ℕ) → count < next → next ≤ bound → bound - next < bound - count
falls bound count next more low = omega arith

pub with_leaves-requires : goal.with_leaves-requires
with_leaves-requires g c = omega (arith, c.requires.enough (the_chunks c.args.plan.now c.args.blocks) (are_the_chunks c.args.plan.now c.args.blocks), c.loop-nodes.invariant.bounded)

pub counted-requires-clause-nodes : goal.counted-requires-clause-nodes
counted-requires-clause-nodes g c = subst AreNodes (sym c.in_ok-nodes.ensures) (with_leaves c.args.others.now c.args.rest.now c.requires.nodes c.requires.slots c.requires.few c.loop-nodes.count)

pub returns-then-next-count-clause-count : goal.returns-then-next-count-clause-count
returns-then-next-count-clause-count g c =
    let pieces = g.P.PieceList.pieces c.args.pieces.now in
    let others = c.args.others.now in
    let rest = c.args.rest.now in
    let nodesize = c.args.nodesize in
    let count = c.loop-nodes.count in
    let own = the_chunks c.args.plan.now c.args.blocks in
    let are = are_the_chunks c.args.plan.now c.args.blocks in
    let next = counted_next own pieces others c.in_ok-nodes.nodes rest nodesize count c.finish-next.result c.in_ok-counter.counter c.in_ok-nodes.ensures c.in_ok-counter.ensures.size (c.in_ok-counter.ensures.lengths own are) c.finish-next.ensures.exact c.finish-next.ensures.bound in
    λ chunks theirs.
    subst (λ cs. IsOwnCount cs pieces others rest nodesize count) (chunks_one c.args.plan.now c.args.blocks own chunks are theirs)
    (counting_ends own pieces others rest nodesize c.requires.size count c.finish-next.result c.loop-nodes.invariant next.is c.if-next-count.true)

pub returns-then-next-count-clause-room : goal.returns-then-next-count-clause-room
returns-then-next-count-clause-room g c = omega (arith, c.requires.enough (the_chunks c.args.plan.now c.args.blocks) (are_the_chunks c.args.plan.now c.args.blocks), c.loop-nodes.invariant.bounded)

pub returns-then-next-count-clause-bound : goal.returns-then-next-count-clause-bound
returns-then-next-count-clause-bound g c =
    let pieces = g.P.PieceList.pieces c.args.pieces.now in
    let own = the_chunks c.args.plan.now c.args.blocks in
    λ chunks theirs.
    subst (λ cs. c.loop-nodes.count ≤ own_bound cs pieces c.args.others.now c.args.nodesize) (chunks_one c.args.plan.now c.args.blocks own chunks (are_the_chunks c.args.plan.now c.args.blocks) theirs) c.loop-nodes.invariant.bounded

pub loop-nodes-smaller : goal.loop-nodes-smaller
loop-nodes-smaller g c =
    let pieces = g.P.PieceList.pieces c.args.pieces.now in
    let others = c.args.others.now in
    let rest = c.args.rest.now in
    let nodesize = c.args.nodesize in
    let count = c.loop-nodes.count in
    let own = the_chunks c.args.plan.now c.args.blocks in
    let next = counted_next own pieces others c.in_ok-nodes.nodes rest nodesize count c.finish-next.result c.in_ok-counter.counter c.in_ok-nodes.ensures c.in_ok-counter.ensures.size
    (c.in_ok-counter.ensures.lengths own (are_the_chunks c.args.plan.now c.args.blocks)) c.finish-next.ensures.exact c.finish-next.ensures.bound in
    let on = counting_goes_on own pieces others rest nodesize c.requires.size count c.finish-next.result c.loop-nodes.invariant next.is next.low in
    let more = counting_rises own pieces others rest nodesize c.requires.size count c.finish-next.result c.loop-nodes.invariant next.is c.if-next-count.false in
    falls (own_bound own pieces others nodesize) count c.finish-next.result more on.bounded

pub loop-nodes-preserved : goal.loop-nodes-preserved
loop-nodes-preserved g c =
    let pieces = g.P.PieceList.pieces c.args.pieces.now in
    let others = c.args.others.now in
    let rest = c.args.rest.now in
    let nodesize = c.args.nodesize in
    let count = c.loop-nodes.count in
    let own = the_chunks c.args.plan.now c.args.blocks in
    let next = counted_next own pieces others c.in_ok-nodes.nodes rest nodesize count c.finish-next.result c.in_ok-counter.counter c.in_ok-nodes.ensures c.in_ok-counter.ensures.size
    (c.in_ok-counter.ensures.lengths own (are_the_chunks c.args.plan.now c.args.blocks)) c.finish-next.ensures.exact c.finish-next.ensures.bound in
    counting_goes_on own pieces others rest nodesize c.requires.size count c.finish-next.result c.loop-nodes.invariant next.is next.low
