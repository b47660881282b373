-- The trees but the file tree take no more than was counted for them.
use Rattle.convert_trees_laws.proofs.Imports.{◌≡◌, ◌≤◌, ℕ, List, length, sym, ap, subst, arith, sum_by, Image, IsMaking, Making, Pieces, free_runs, used_of, chunk_bound, need, Counts, Piece}
use Rattle.convert_steps.proofs.unit_plan.Counted.{chunks_few}
use Rattle.convert_trees_laws.proofs.Booting.{chunks_of}
use Rattle.convert_trees_laws.proofs.PlacedSums.{placed_blocks, placed_number}

module _ (image : Image) (m : Making) (made : IsMaking image m) where
  abbrev found : Pieces
  found = made.has_pieces.found

  abbrev counts : Counts
  counts = found.counts

  pub pieces_few : length m.pieces ≤ counts.pieces
  pieces_few =
      let number = placed_number found.kept m.plan.data_ found.items.items m.pieces made.has_pieces.placed in
      let are = ap (λ (ps : List Piece). length ps) made.has_pieces.plan_.found_.pieces_are in
      let is = ap (λ (c : Counts). c.pieces) made.has_pieces.plan_.found_.counts_are in
      omega (arith, number, are, is)

  pub blocks_few : sum_by (λ p. p.count) m.pieces ≤ counts.piece_blocks
  blocks_few =
      let number = placed_blocks found.kept m.plan.data_ found.items.items m.pieces made.has_pieces.placed in
      let are = ap (λ (ps : List Piece). sum_by (λ (p : Piece). p.count) ps) made.has_pieces.plan_.found_.pieces_are in
      let is = ap (λ (c : Counts). c.piece_blocks) made.has_pieces.plan_.found_.counts_are in
      omega (arith, number, are, is)

  pub bound_is : chunk_bound counts.runs counts.blocks ≡ chunk_bound (length (free_runs (used_of image))) (length (used_of image))
  bound_is = ap (λ (c : Counts). chunk_bound c.runs c.blocks) made.has_pieces.plan_.found_.counts_are

  pub few_chunks : length m.chunks ≤ chunk_bound counts.runs counts.blocks
  few_chunks =
      subst (λ (n : ℕ). length m.chunks ≤ n) (sym bound_is)
      (chunks_few (used_of image) (need counts m.options) m.plan m.chunks made.has_pieces.plan_.enough made.has_pieces.plan_.plan_ (chunks_of image m made))
