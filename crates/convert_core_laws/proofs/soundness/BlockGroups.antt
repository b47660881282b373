-- The block groups of a converted volume tell what its chunks hold.
use Rattle.convert_core_laws.proofs.Imports.{filter, ◌≡◌, ◌≤◌, ℕ, ◌+◌, ◌*◌, ◌&&◌, Bool, cond, List, [], ◌∷◌, map, get_or, Some, refl, sym, ap, subst, ◌∙◌, ⊎_elim, arith, nat_le, nat_lt, All, AllPairs, Contains, flat_map, sum_by, All-map, sum_by-cons, FIRST_CHUNK_TREE_OBJECTID, from_map, in_map, Image, Ids, Item, IsNodeSize, AreRanges, IsGroupOf, chunk_span, data_bytes_in, groups, node_bytes_in, bytes_used_in, KeepsBlockGroups, IsData, object_of, Recount, TreeOn, all_trees, is_within, Span, ChunkAt, BlockGroup, NodePointer, IsMaking, Making, new_ids, TreeRoots, well, NewIdsFit, IsNewVolume, chunk_at, pairs_map, FilesAreHeld, sum_alike, sum_kept, sum_mapped, all_from_contains, contains_cases, chunk_kind, bytes_of_nodes, bytes_of_pieces, group_item, is_in_chunk, used_in as used_of_chunk, TreeNode, PlannedChunk, Options, Piece, ConvertedBlockGroupsAreSound, recount_for, each_at}
use Rattle.convert_core_laws.proofs.reading.Numbers.{used_small}
use Rattle.convert_core_laws.proofs.soundness.AllUses.{data_is, span_of}
use Rattle.convert_core_laws.proofs.soundness.MetOnce.{met_is}
use Rattle.convert_core_laws.proofs.soundness.Recounting.{nodesize_is, volume_for}
use Rattle.convert_core_laws.proofs.soundness.Row.{nodes_sum}
use Rattle.convert_core_laws.proofs.soundness.Stripes.{chunk_from, chunk_there}
use Rattle.convert_core_laws.proofs.soundness.Totals.{group_reads, groups_are}
use Rattle.convert_core_laws.proofs.soundness.Unreserved.{fit_size}
use Rattle.convert_core_laws.proofs.soundness.Used.{is_data}

part_of_sum : {X : Type 0} (f : X → ℕ) (xs : List X) (x : X) → Contains xs x → f x ≤ sum_by f xs
part_of_sum f [] x h = absurd (omega (arith, h.1))
part_of_sum {X} f (y ∷ ys) x h =
    let whole = sum_by-cons f y ys in
    ⊎_elim (λ (same : y ≡ x). let is : f y ≡ f x = ap f same in omega (arith, whole, is)) (λ (later : Contains ys x). let rest = part_of_sum f ys x later in omega (arith, whole, rest)) (contains_cases x y ys h)

-- the same test of an address
same_test : (ids : Ids) (c : PlannedChunk) (a : ℕ) → is_within (chunk_span (chunk_at ids c)) a ≡ is_in_chunk c a
same_test ids c a = let end : 4096 * c.start + 4096 * c.length ≡ 4096 * (c.start + c.length) = omega arith in ap (λ (n : ℕ). nat_le (4096 * c.start) a && nat_lt a n) end

module _ (o : Options) (ids : Ids) (now : ℕ) (image other : Image) (m : Making) (r : TreeRoots) (nodes : List TreeNode) (v : IsNewVolume o ids now image other m r nodes) (held : FilesAreHeld) where
  abbrev making : IsMaking image m
  making = v.new.conversion.making

  abbrev k : Recount
  k = recount_for image other m r nodes

  abbrev size : IsNodeSize m.options.nodesize
  size = fit_size o ids now image other m r nodes v

  abbrev spans : List Span
  spans = map span_of m.pieces

  pub spans_are : AreRanges k spans
  spans_are = (
    pairs_map (λ (a b : Span). a ≡ b → ⊥) span_of m.pieces once,
    λ span. (
      λ h. let at = from_map span_of m.pieces span h in subst (IsData k) at.2 (is_data image m making size held other r nodes at.0 at.1),
      λ d. let of = data_is image m making size other r nodes span d in subst (λ (x : Span). Contains spans x) (sym of.2) (in_map span_of m.pieces of.0 of.1),
    ),
  )
    where
      once : AllPairs (λ p q. span_of p ≡ span_of q → ⊥) m.pieces
      once = λ i j d l h e.
          let lie = (well m.volume image m.options m.plan m.pieces making.has_pieces).apart in
          let some : 1 ≤ (get_or m.pieces i d).count = lie.some i d (omega (arith, l, h)) in
          let up : (get_or m.pieces i d).place + (get_or m.pieces i d).count ≤ (get_or m.pieces j d).place = lie.ascending i j d l h in
          let same : 4096 * (get_or m.pieces i d).place ≡ 4096 * (get_or m.pieces j d).place = ap (λ (x : Span). x.start) e in
          omega (arith, some, up, same)

  -- ---- the bytes in a chunk

  abbrev span : PlannedChunk → Span
  span c = chunk_span (chunk_at (new_ids m) c)

  of_nodes : (c : PlannedChunk) → node_bytes_in k (span c) ≡ bytes_of_nodes nodes m.options.nodesize c
  of_nodes c =
      ap (λ (l : List ℕ). sum_by (λ (n : ℕ). k.super.nodesize) (filter (is_within (span c)) l)) (met_is o ids now image other m r nodes v)
      ∙ (sum_kept (is_within (span c)) (λ (n : ℕ). k.super.nodesize) (map (λ (p : NodePointer). p.address) (flat_map (λ (t : TreeOn). t.nodes) (all_trees k)))
      ∙ (sum_mapped (λ (p : NodePointer). p.address) (λ (a : ℕ). cond (is_within (span c) a) k.super.nodesize 0) (flat_map (λ (t : TreeOn). t.nodes) (all_trees k))
      ∙ (nodes_sum o ids now image other m r nodes v (λ (a : ℕ). cond (is_within (span c) a) k.super.nodesize 0)
      ∙ (sum_alike (λ (t : TreeNode). cond (is_within (span c) t.address) k.super.nodesize 0) (λ (t : TreeNode). cond (is_in_chunk c t.address) m.options.nodesize 0) nodes
      (λ t. ap (λ (b : Bool). cond b k.super.nodesize 0) (same_test (new_ids m) c t.address) ∙ ap (λ (n : ℕ). cond (is_in_chunk c t.address) n 0) (nodesize_is m r nodes))
      ∙ sym (sum_kept (λ (t : TreeNode). is_in_chunk c t.address) (λ (t : TreeNode). m.options.nodesize) nodes)))))

  of_data : (c : PlannedChunk) → data_bytes_in spans (span c) ≡ bytes_of_pieces m.pieces c
  of_data c =
      sum_kept (λ (s : Span). is_within (span c) s.start) (λ (s : Span). s.length) spans
      ∙ (sum_mapped span_of (λ (s : Span). cond (is_within (span c) s.start) s.length 0) m.pieces
      ∙ (sum_alike (λ (p : Piece). cond (is_within (span c) (4096 * p.place)) (4096 * p.count) 0) (λ (p : Piece). cond (is_in_chunk c (4096 * p.place)) (4096 * p.count) 0) m.pieces
      (λ p. ap (λ (b : Bool). cond b (4096 * p.count) 0) (same_test (new_ids m) c (4096 * p.place)))
      ∙ sym (sum_kept (λ (p : Piece). is_in_chunk c (4096 * p.place)) (λ (p : Piece). 4096 * p.count) m.pieces)))

  used_is : (c : PlannedChunk) → bytes_used_in k spans (chunk_at (new_ids m) c) ≡ used_of_chunk m.pieces nodes m.options.nodesize c
  used_is c = let one = of_nodes c in let two = of_data c in omega (arith, one, two)

  abbrev group_of : PlannedChunk → Item
  group_of c = group_item (used_of_chunk m.pieces nodes m.options.nodesize c) c

  is_group : (c : PlannedChunk) → Contains m.chunks c → IsGroupOf (bytes_used_in k spans (chunk_at (new_ids m) c)) (chunk_at (new_ids m) c) (group_of c)
  is_group c h =
      let part = part_of_sum (used_of_chunk m.pieces nodes m.options.nodesize) m.chunks c h in
      let whole = used_small image m making size other r nodes v.new.stands.trees in
      record {
        key = refl;
        body = group_reads (used_of_chunk m.pieces nodes m.options.nodesize c) c (omega (arith, part, whole))
            ∙ ap (λ (n : ℕ). let g : BlockGroup = record { used = n; chunk_objectid = FIRST_CHUNK_TREE_OBJECTID; flags = chunk_kind c.role } in Some g) (sym (used_is c));
      }

  -- an item is the block group of a chunk, and a chunk has its block group
  abbrev IsSomeGroup : Item → Type 0
  IsSomeGroup i = (c : ChunkAt) × Contains k.chunks c × IsGroupOf (bytes_used_in k spans c) c i

  abbrev HasGroup : ChunkAt → Type 0
  HasGroup c = (i : Item) × Contains (groups k) i × IsGroupOf (bytes_used_in k spans c) c i

  pub keeps : (a : ℕ) → KeepsBlockGroups k a
  keeps a = record {
    spans = spans;
    ranges = spans_are;
    groups_are = record {
      each = each_at object_of a IsSomeGroup (groups k)
          (subst (All IsSomeGroup) (sym (groups_are image other m r nodes))
          (All-map IsSomeGroup group_of m.chunks
          (all_from_contains (λ (c : PlannedChunk). IsSomeGroup (group_of c)) m.chunks (λ c h. (chunk_at (new_ids m) c, chunk_there o ids now image other m r nodes v c h, is_group c h)))));
      whole = each_at (λ (c : ChunkAt). c.logical) a HasGroup k.chunks (all_from_contains HasGroup k.chunks (λ c h.
          let at = chunk_from o ids now image other m r nodes v c h in
          subst HasGroup at.2
          (group_of at.0, subst (λ (l : List Item). Contains l (group_of at.0)) (sym (groups_are image other m r nodes)) (in_map group_of m.chunks at.0 at.1), is_group at.0 at.1)));
    };
  }

pub converted_block_groups_are_sound : NewIdsFit → FilesAreHeld → ConvertedBlockGroupsAreSound
converted_block_groups_are_sound fit held = λ o ids now image other m r nodes is size low are has bytes.
    λ a. keeps o ids now image other m r nodes (volume_for fit o ids now image other m r nodes is size are has) held a
