use Rattle.space_items.proofs.Imports.{◌≡◌, ◌<◌, ◌≤◌, ◌∙◌, ℕ, ◌+◌, ◌^◌, List, [], ◌∷◌, map, refl, sym, ap, subst, sum_by, arith, All, All-map, AreChunks, PlannedChunk, Piece, Plan, Item, group_item, node_item, piece_item, used_in, merged, IsSmallGroup, group_of, item_of_group, Group, TreeNode}
use Rattle.btr_tree.proofs.btr_node.NodeBack.{size_within}
use Rattle.space_items.proofs.Counting.{used_within}
use Rattle.space_items.proofs.OneList.{chunks_one}
use Rattle.space_items.proofs.extent_stream.extents.Goals as goal

groups_small : (plan : Plan) (blocks : ℕ) (chunks : List PlannedChunk) (f : PlannedChunk → Group) → ((c : PlannedChunk) → (f c).chunk ≡ c) → blocks ≤ 2 ^ 29 → AreChunks plan blocks chunks → All IsSmallGroup (map f chunks)
groups_small plan blocks chunks f same small are =
    All-map IsSmallGroup f chunks
    (λ k d inside.
    let c = are.each k d inside in
    let ends = c.ends in
    record { small = subst (λ (x : PlannedChunk). x.start + x.length ≤ 2 ^ 29) (sym (same _)) (omega (arith, ends, small)) })

items_of_groups : (pieces : List Piece) (nodes : List TreeNode) (nodesize : ℕ) (chunks : List PlannedChunk) → map item_of_group (map (group_of pieces nodes nodesize) chunks) ≡ map (λ c. group_item (used_in pieces nodes nodesize c) c) chunks
items_of_groups pieces nodes nodesize chunks = twice chunks
  where
    twice : (cs : List PlannedChunk) → map item_of_group (map (group_of pieces nodes nodesize) cs) ≡ map (λ c. group_item (used_in pieces nodes nodesize c) c) cs
    twice [] = refl
    twice (c ∷ cs) = ap (λ (l : List Item). group_item (used_in pieces nodes nodesize c) c ∷ l) (twice cs)

pub returns-clause-fits : goal.returns-clause-fits
returns-clause-fits g c =
    let pieces : List Piece = g.P.PieceList.pieces c.args.pieces.now in
    record {
      pieces_small = c.requires.pieces.small;
      groups_small = subst (All IsSmallGroup) (sym c.in_ok-groups.ensures)
          (groups_small c.args.plan.now c.args.blocks c.in_ok-chunks.chunks (group_of pieces c.args.nodes.now c.args.nodesize) (λ x. refl) c.requires.small c.in_ok-chunks.ensures);
      group_within = omega arith;
      node_within = omega arith;
      piece_within = omega arith;
    }

pub returns-clause-groups : goal.returns-clause-groups
returns-clause-groups g c = λ chunks are.
    let pieces : List Piece = g.P.PieceList.pieces c.args.pieces.now in
    c.in_ok-groups.ensures ∙ ap (map (group_of pieces c.args.nodes.now c.args.nodesize)) (chunks_one c.args.plan.now c.args.blocks c.in_ok-chunks.chunks chunks c.in_ok-chunks.ensures are)

pub returns-clause-all : goal.returns-clause-all
returns-clause-all g c = λ chunks are.
    let pieces : List Piece = g.P.PieceList.pieces c.args.pieces.now in
    let nodes : List TreeNode = c.args.nodes.now in
    let others : List Item = merged (map node_item nodes) (map piece_item pieces) in
    ap (λ (l : List Group). merged (map item_of_group l) others)
    (c.in_ok-groups.ensures ∙ ap (map (group_of pieces nodes c.args.nodesize)) (chunks_one c.args.plan.now c.args.blocks c.in_ok-chunks.chunks chunks c.in_ok-chunks.ensures are))
    ∙ ap (λ (l : List Item). merged l others) (items_of_groups pieces nodes c.args.nodesize chunks)

pub returns-clause-used : goal.returns-clause-used
returns-clause-used g c =
    let pieces : List Piece = g.P.PieceList.pieces c.args.pieces.now in
    subst (λ (l : List Group). sum_by (λ h. h.used) l < 2 ^ 64) (sym c.in_ok-groups.ensures)
    (used_within pieces c.args.nodes.now c.args.nodesize c.in_ok-chunks.chunks (size_within c.args.nodesize c.requires.size).1 c.requires.pieces c.requires.nodes c.in_ok-chunks.ensures.ascending)
