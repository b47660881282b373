use Rattle.convert_steps.proofs.Imports.{◌≡◌, length, set, ap, subst, arith, MatchResult, IsFault, Image, block_at, reads}
use Rattle.convert_steps.proofs.Holding.{copy_holds, tail_holds}
use Rattle.convert_steps.proofs.Moving.{piece_only, tail_moves, copy_moves}
use Rattle.convert_steps.proofs.pieces.write_piece.Goals as goal

pub returns-in-None-Some-clause-only : goal.returns-in-None-Some-clause-only
returns-in-None-Some-clause-only g c = λ tells. piece_only c.args.piece.now _ _ (tail_moves c.args.piece.now c.in-None-Some.is-0) (c.write_tail.ensures.only tells)

pub returns-in-Some-default-2-clause-only : goal.returns-in-Some-default-2-clause-only
returns-in-Some-default-2-clause-only g c = λ tells.
    piece_only c.args.piece.now _ _ (copy_moves c.args.piece.now c.in-Some-default.block c.in-Some-default.is-0 c.if-block-piece.false) (c.copy_block.ensures.only tells)

pub returns-in-None-Some-clause-written : goal.returns-in-None-Some-clause-written
returns-in-None-Some-clause-written g c = λ tells image is accepted opened can.
    let size : g.D.BlockSource.size c.args.disk.now ≡ length (reads (g.D.Disk.history c.args.disk.now)) = g.met.D.Disk.open_size c.args.disk.now _ tells c.requires.«open» in
    let fits = can.inside (tail_moves c.args.piece.now c.in-None-Some.is-0) in
    tail_holds c.args.volume.now image _ c.args.piece.now c.write_tail.result _ _ c.in-None-Some.is-0 c.in-None-Some.is-1 (omega (arith, fits, size, ap length is)) can.owner
    (λ low key among number. c.write_tail.ensures.written tells image is accepted opened fits low key among number)

pub returns-in-Some-default-2-clause-written : goal.returns-in-Some-default-2-clause-written
returns-in-Some-default-2-clause-written g c = λ tells image is accepted opened can.
    let size : g.D.BlockSource.size c.args.disk.now ≡ length (reads (g.D.Disk.history c.args.disk.now)) = g.met.D.Disk.open_size c.args.disk.now _ tells c.requires.«open» in
    let moved = copy_moves c.args.piece.now c.in-Some-default.block c.in-Some-default.is-0 c.if-block-piece.false in
    let fits = can.inside moved in
    let there = can.source c.in-Some-default.block c.in-Some-default.is-0 moved in
    copy_holds c.args.volume.now image _ c.args.piece.now c.copy_block.result c.in-Some-default.block c.in-Some-default.is-0 (can.single moved) (omega (arith, fits, size, ap length is))
    (subst (λ (old : Image). MatchResult c.copy_block.result (λ _. reads (g.D.Disk.history c.copy_block.new.disk) ≡ set old c.args.piece.now.place (block_at old c.in-Some-default.block)) IsFault) is
    (c.copy_block.ensures.written tells there fits))
