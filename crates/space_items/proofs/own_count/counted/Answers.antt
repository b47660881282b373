use Rattle.space_items.proofs.Imports.{◌≡◌, ℕ, List, ◌++◌, ◌∷◌, [], length, arith, subst, ap, Counted, lengths_of, extent_items, extents_ahead, extent_standing}
use Rattle.space_items.proofs.ChunksExist.{the_chunks, are_the_chunks}
use Rattle.space_items.proofs.OneList.{chunks_one}
use Rattle.space_items.proofs.OwnBound.{roomy}
use Rattle.space_items.proofs.Tallying.{are_short, next_light, next_short, tally_begins, tally_ends, tally_goes_on}
use Rattle.space_items.proofs.own_count.counted.Goals as goal

pub loop-counter-init : goal.loop-counter-init
loop-counter-init g c =
    let pieces = g.P.PieceList.pieces c.args.pieces.now in
    let chunks = the_chunks c.args.plan.now c.args.blocks in
    let are = are_the_chunks c.args.plan.now c.args.blocks in
    record {
      fits = c.in_ok-stream.ensures.fits;
      tallied = tally_begins c.args.nodesize (extent_items chunks pieces c.args.nodes.now c.args.nodesize) (are_short c.args.plan.now c.args.blocks c.args.nodesize chunks pieces c.args.nodes.now c.requires.small are c.requires.pieces c.requires.nodes)
          (extents_ahead c.in_ok-stream.stream pieces c.args.nodes.now) c.new-counter.result (c.in_ok-stream.ensures.all chunks are) c.new-counter.ensures.size c.new-counter.ensures.counted;
    }

pub add-requires-clause-fits : goal.add-requires-clause-fits
add-requires-clause-fits g c =
    let pieces = g.P.PieceList.pieces c.args.pieces.now in
    let nodes = c.args.nodes.now in
    let chunks = the_chunks c.args.plan.now c.args.blocks in
    let short = are_short c.args.plan.now c.args.blocks c.args.nodesize chunks pieces nodes c.requires.small (are_the_chunks c.args.plan.now c.args.blocks) c.requires.pieces c.requires.nodes in
    let here = next_short c.args.nodesize (extent_items chunks pieces nodes c.args.nodesize) short (extents_ahead c.loop-counter.stream pieces nodes) (extents_ahead c.advance.new.self pieces nodes) c.loop-counter.counter (extent_standing c.advance.new.self) c.loop-counter.invariant.tallied c.loop-counter-test.ensures.next in
    omega (arith, here, ap (λ (bytes : List ℕ). length bytes) c.body.ensures, roomy c.args.nodesize c.requires.size, c.loop-counter.invariant.tallied.size)

pub add-requires-clause-small : goal.add-requires-clause-small
add-requires-clause-small g c =
    let pieces = g.P.PieceList.pieces c.args.pieces.now in
    let nodes = c.args.nodes.now in
    let chunks = the_chunks c.args.plan.now c.args.blocks in
    let short = are_short c.args.plan.now c.args.blocks c.args.nodesize chunks pieces nodes c.requires.small (are_the_chunks c.args.plan.now c.args.blocks) c.requires.pieces c.requires.nodes in
    let here = next_light c.args.nodesize (extent_items chunks pieces nodes c.args.nodesize) short (extents_ahead c.loop-counter.stream pieces nodes) (extents_ahead c.advance.new.self pieces nodes) c.loop-counter.counter (extent_standing c.advance.new.self) c.loop-counter.invariant.tallied c.loop-counter-test.ensures.next in
    omega (arith, here, ap (λ (bytes : List ℕ). length bytes) c.body.ensures)

pub loop-counter-preserved : goal.loop-counter-preserved
loop-counter-preserved g c =
    let pieces = g.P.PieceList.pieces c.args.pieces.now in
    let nodes = c.args.nodes.now in
    let chunks = the_chunks c.args.plan.now c.args.blocks in
    let short = are_short c.args.plan.now c.args.blocks c.args.nodesize chunks pieces nodes c.requires.small (are_the_chunks c.args.plan.now c.args.blocks) c.requires.pieces c.requires.nodes in
    let body : length c.body.result.now ≡ length (extent_standing c.advance.new.self).1 = ap (λ (bytes : List ℕ). length bytes) c.body.ensures in
    let on = λ (lengths : List ℕ) (counted : Counted c.loop-counter.counter lengths). subst (λ (n : ℕ). Counted c.add.new.self (lengths ++ n ∷ [])) body (c.add.ensures.counted lengths counted) in
    record {
      fits = c.loop-counter-test.ensures.fits;
      tallied = tally_goes_on c.args.nodesize (extent_items chunks pieces nodes c.args.nodesize) short (extents_ahead c.loop-counter.stream pieces nodes) (extents_ahead c.advance.new.self pieces nodes) c.loop-counter.counter (extent_standing c.advance.new.self)
          c.loop-counter.invariant.tallied c.loop-counter-test.ensures.next c.add.new.self c.add.ensures.size on;
    }

pub returns-clause-lengths : goal.returns-clause-lengths
returns-clause-lengths g c =
    let pieces = g.P.PieceList.pieces c.args.pieces.now in
    let nodes = c.args.nodes.now in
    let own = the_chunks c.args.plan.now c.args.blocks in
    let are = are_the_chunks c.args.plan.now c.args.blocks in
    let short = are_short c.args.plan.now c.args.blocks c.args.nodesize own pieces nodes c.requires.small are c.requires.pieces c.requires.nodes in
    λ chunks theirs.
    subst (λ cs. Counted c.loop-counter.counter (lengths_of (extent_items cs pieces nodes c.args.nodesize))) (chunks_one c.args.plan.now c.args.blocks own chunks are theirs)
    (tally_ends c.args.nodesize (extent_items own pieces nodes c.args.nodesize) short (extents_ahead c.loop-counter.stream pieces nodes) c.loop-counter.counter c.loop-counter.invariant.tallied c.loop-counter-test.ensures.next.0)
