use Rattle.convert_trees.proofs.Imports.{◌≡◌, ◌∙◌, ◌+◌, ◌*◌, ℕ, List, length, ap, subst, arith, node_bound, Super, extent_bytes, AreChunks, PlannedChunk}
use Rattle.unit_plan.specs.declared.item_bytes.TheConstants.{BLOCK_GROUP_BYTES, EXTENT_BYTES, NODE_BYTES}
use Rattle.space_items.proofs.OneList.{chunks_one}
use Rattle.space_items.proofs.Tallying.{few_chunks}
use Rattle.convert_trees.proofs.Few.{few_pieces}
use Rattle.convert_trees.proofs.last.extent_bound.Goals as goal

pub overflow_mul-bytes : goal.overflow_mul-bytes
overflow_mul-bytes g c = omega (arith, c.len.ensures, few_pieces _ c.requires.pieces)

pub overflow_mul-bytes-2 : goal.overflow_mul-bytes-2
overflow_mul-bytes-2 g c = omega (arith, c.len-2.ensures, ap (λ (s : Super). s.blocks) c.sup.ensures, c.requires.small, few_chunks _ _ _ c.in_ok-chunks.ensures)

pub overflow_add-bytes : goal.overflow_add-bytes
overflow_add-bytes g c = omega (arith, c.len.ensures, few_pieces _ c.requires.pieces, c.len-2.ensures, ap (λ (s : Super). s.blocks) c.sup.ensures, c.requires.small, few_chunks _ _ _ c.in_ok-chunks.ensures)

pub overflow_add-bytes-2 : goal.overflow_add-bytes-2
overflow_add-bytes-2 g c = omega (arith, c.len.ensures, few_pieces _ c.requires.pieces, c.len-2.ensures, ap (λ (s : Super). s.blocks) c.sup.ensures, c.requires.small, few_chunks _ _ _ c.in_ok-chunks.ensures, c.requires.few)

pub node_bound-requires-clause-bytes : goal.node_bound-requires-clause-bytes
node_bound-requires-clause-bytes g c = omega (arith, c.len.ensures, few_pieces _ c.requires.pieces, c.len-2.ensures, ap (λ (s : Super). s.blocks) c.sup.ensures, c.requires.small, few_chunks _ _ _ c.in_ok-chunks.ensures, c.requires.few)

pub returns : goal.returns
returns g c = λ chunks are nodes long.
    let own = subst (λ (s : Super). AreChunks c.args.w.now.plan.now s.blocks c.in_ok-chunks.chunks) c.sup.ensures c.in_ok-chunks.ensures in
    let one : c.in_ok-chunks.chunks ≡ chunks = chunks_one _ _ c.in_ok-chunks.chunks chunks own are in
    let bytes : EXTENT_BYTES * c.len.result + BLOCK_GROUP_BYTES * c.len-2.result + NODE_BYTES * c.args.others ≡ extent_bytes (length (g.P.PieceList.pieces c.args.w.now.pieces.now)) (length chunks) (length nodes) = omega (arith, c.len.ensures, c.len-2.ensures, ap (λ (cs : List PlannedChunk). length cs) one, long) in
    ap (λ (n : ℕ). 2 * n + 16) (c.node_bound.ensures ∙ ap (λ (b : ℕ). node_bound b c.args.w.now.form.nodesize) bytes)
