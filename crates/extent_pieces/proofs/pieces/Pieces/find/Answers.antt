use Rattle.extent_pieces.proofs.Imports.{both_ways}
use Rattle.extent_pieces.proofs.Making.{found_small}
use Rattle.extent_pieces.proofs.pieces.Pieces.find.Goals as goal

pub returns-then-not-are_small-clause-found : goal.returns-then-not-are_small-clause-found
returns-then-not-are_small-clause-found g c = λ tells image is accepted opened.
    let parts = c.in_ok-parts.ensures.parts tells image is accepted opened in
    let found = c.in_ok-pieces.ensures.found c.args.options.now.inline image accepted opened parts in
    let small = found_small c.args.options.now.inline image c.args.volume.now accepted opened c.in_ok-parts.parts parts c.in_ok-pieces.pieces found in
    absurd (both_ways c.are_small.result c.if-not-are_small.true (c.are_small.ensures.1 small))

pub returns-clause-found : goal.returns-clause-found
returns-clause-found g c = λ tells image is accepted opened.
    c.in_ok-pieces.ensures.found c.args.options.now.inline image accepted opened (c.in_ok-parts.ensures.parts tells image is accepted opened)
