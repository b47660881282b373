use Rattle.convert_steps.proofs.Imports.{◌≡◌, length, refl, sym, ap, subst, ◌∙◌, arith, err_from_is_err_and, IsFault, reads, reads_outside, writes_then, IsMovedTo, IsMovedPlace}
use Rattle.convert_steps.proofs.Moving.{place_only}
use Rattle.convert_steps.proofs.Turning.{can_write, held_all, held_more, kept_by, opened_at, same_at}
use Rattle.convert_steps.proofs.pieces.write_moved.Goals as goal

pub returns-in_err-write_piece-clause-only : goal.returns-in_err-write_piece-clause-only
returns-in_err-write_piece-clause-only g c = λ tells.
    writes_then (λ b _. IsMovedPlace (g.P.PieceList.pieces c.args.pieces.now) b) _ _ _ (c.loop-i.invariant.only tells)
    (place_only (g.P.PieceList.pieces c.args.pieces.now) c.loop-i.i c.get.result.now _ _ c.get.ensures (c.write_piece.ensures.only tells))

pub returns-in_err-write_piece-clause-written : goal.returns-in_err-write_piece-clause-written
returns-in_err-write_piece-clause-written g c = λ tells image is can.
    let kept = kept_by (g.P.PieceList.pieces c.args.pieces.now) image _ _ is (c.loop-i.invariant.only tells) in
    let sizes : g.D.BlockSource.size c.args.disk.now ≡ length (reads (g.D.Disk.history c.args.disk.now)) = g.met.D.Disk.open_size c.args.disk.now _ tells c.requires.«open» in
    let size : g.D.BlockSource.size c.loop-i.disk ≡ length image = omega (arith, c.loop-i.invariant.size, sizes, ap length is) in
    let same = same_at c.args.volume.now image (g.P.PieceList.pieces c.args.pieces.now) can _ kept in
    let opened = opened_at c.args.volume.now image (g.P.PieceList.pieces c.args.pieces.now) can _ kept in
    let may = can_write c.args.volume.now image (g.P.PieceList.pieces c.args.pieces.now) can _ c.loop-i.i c.get.result.now size c.get.ensures in
    let err = err_from_is_err_and c.from_residual.result c.from_residual.ensures.1 in
    rw err.1 (subst IsFault (sym err.2) (c.in_err-write_piece.ensures.written tells _ refl same.accepted opened may))

pub loop-i-preserved : goal.loop-i-preserved
loop-i-preserved g c = record {
  open_ = c.write_piece.ensures.«open» ∙ c.loop-i.invariant.open_;
  size = c.write_piece.ensures.size ∙ c.loop-i.invariant.size;
  borrow = c.write_piece.ensures.borrow ∙ c.loop-i.invariant.borrow;
  same = c.in_ok-write_piece.ensures.cause.kept (λ e. absurd cc) ∙ c.loop-i.invariant.same;
  only = λ tells.
      writes_then (λ b _. IsMovedPlace (g.P.PieceList.pieces c.args.pieces.now) b) _ _ _ (c.loop-i.invariant.only tells)
      (place_only (g.P.PieceList.pieces c.args.pieces.now) c.loop-i.i c.get.result.now _ _ c.get.ensures (c.write_piece.ensures.only tells));
  held = λ tells image is can.
      let kept = kept_by (g.P.PieceList.pieces c.args.pieces.now) image _ _ is (c.loop-i.invariant.only tells) in
      let sizes : g.D.BlockSource.size c.args.disk.now ≡ length (reads (g.D.Disk.history c.args.disk.now)) = g.met.D.Disk.open_size c.args.disk.now _ tells c.requires.«open» in
      let size : g.D.BlockSource.size c.loop-i.disk ≡ length image = omega (arith, c.loop-i.invariant.size, sizes, ap length is) in
      let same = same_at c.args.volume.now image (g.P.PieceList.pieces c.args.pieces.now) can _ kept in
      let opened = opened_at c.args.volume.now image (g.P.PieceList.pieces c.args.pieces.now) can _ kept in
      let may = can_write c.args.volume.now image (g.P.PieceList.pieces c.args.pieces.now) can _ c.loop-i.i c.get.result.now size c.get.ensures in
      held_more c.args.volume.now image (g.P.PieceList.pieces c.args.pieces.now) can c.loop-i.i c.get.result.now c.get.ensures _ _ kept
      (reads_outside (λ b. IsMovedTo b c.get.result.now) _ _ (c.write_piece.ensures.only tells))
      (c.in_ok-write_piece.ensures.written tells _ refl same.accepted opened may)
      (c.loop-i.invariant.held tells image is can);
}

pub returns-clause-written : goal.returns-clause-written
returns-clause-written g c = λ tells image is can.
    held_all c.args.volume.now image (g.P.PieceList.pieces c.args.pieces.now) can c.loop-i.i _ (omega (arith, c.loop-i-test.false, c.len-i-end.ensures, c.loop-i.auto)) (c.loop-i.invariant.held tells image is can)
