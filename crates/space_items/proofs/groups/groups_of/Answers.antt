use Rattle.space_items.proofs.Imports.{◌≡◌, ◌≤◌, ℕ, ◌+◌, ◌*◌, ◌∙◌, List, ap, arith, PlannedChunk, Piece, bytes_of_pieces, bytes_of_nodes, used_in, group_of, Group, TreeNode}
use Rattle.space_items.proofs.Counting.{groups_more, lies_weaker, node_place, pairs_next, piece_place}
use Rattle.space_items.proofs.groups.groups_of.Goals as goal

group_is : (g : Group) (c : PlannedChunk) (used : ℕ) → g.chunk ≡ c → g.used ≡ used → g ≡ record { chunk = c; used = used }
group_is g c used chunk is = ap (λ (d : PlannedChunk). record { chunk = d; used = g.used }) chunk ∙ ap (λ (n : ℕ). record { chunk = c; used = n }) is

pub loop-i-preserved : goal.loop-i-preserved
loop-i-preserved g c =
    let pieces : List Piece = g.P.PieceList.pieces c.args.pieces.now in
    let nodes : List TreeNode = c.args.nodes.now in
    let chunk : PlannedChunk = c.get-chunk.result in
    let group : Group = c.count_nodes-node.new.group in
    let mid : Group = c.count_pieces-piece.new.group in
    let with_pieces : mid.chunk ≡ chunk = c.count_pieces-piece.ensures.chunk in
    let with_nodes : group.chunk ≡ chunk = c.count_nodes-node.ensures.chunk ∙ with_pieces in
    let used : group.used ≡ used_in pieces nodes c.args.nodesize chunk =
    c.count_nodes-node.ensures.used
    ∙ (ap (λ (n : ℕ). n + bytes_of_nodes nodes c.args.nodesize mid.chunk) c.count_pieces-piece.ensures.used
    ∙ ap (λ (d : PlannedChunk). bytes_of_pieces pieces chunk + bytes_of_nodes nodes c.args.nodesize d) with_pieces) in
    let is : group ≡ group_of pieces nodes c.args.nodesize chunk = group_is group chunk (used_in pieces nodes c.args.nodesize chunk) with_nodes used in
    record {
      groups = groups_more (group_of pieces nodes c.args.nodesize) c.args.chunks.now c.loop-i.i chunk group c.loop-i.groups c.add.new.self c.get-chunk.ensures is c.loop-i.invariant.groups c.in_ok-add.ensures.ok;
      piece = λ d there.
          let up = pairs_next (λ a b. a.start + a.length ≤ b.start) c.args.chunks.now c.loop-i.i chunk d c.requires.chunks c.get-chunk.ensures there in
          lies_weaker piece_place piece_place (4096 * (chunk.start + chunk.length)) (4096 * d.start) pieces c.count_pieces-piece.result c.count_pieces-piece.ensures.before (omega (arith, up));
      node = λ d there.
          let up = pairs_next (λ a b. a.start + a.length ≤ b.start) c.args.chunks.now c.loop-i.i chunk d c.requires.chunks c.get-chunk.ensures there in
          let start = ap (λ (k : PlannedChunk). k.start) with_pieces in
          let long = ap (λ (k : PlannedChunk). k.length) with_pieces in
          lies_weaker node_place node_place (4096 * (mid.chunk.start + mid.chunk.length)) (4096 * d.start) nodes c.count_nodes-node.result c.count_nodes-node.ensures.before (omega (arith, up, start, long));
    }
