-- No part of a converted volume lies in a reserved block.
use Rattle.convert_core_laws.proofs.Imports.{◌≡◌, ◌≤◌, ◌<◌, ℕ, ◌+◌, ◌-◌, ◌*◌, ◌/◌, eqb, Bool, true, false, List, [], ◌∷◌, ◌++◌, length, map, Option, None, Some, refl, sym, ap, subst, ◌∙◌, ⊎_elim, arith, Contains, if◌then◌else◌, map-append, Contains-permutation, IsPermutation-sym, map-map, IsPermutation, EXTENT_DATA, CHUNK_TREE, CONV_IMAGE_SUBVOL, FS_TREE, ROOT_TREE, in_map, Image, IsReserved, Ids, DiskRange, Item, IsNodeSize, range_of, boot_list, chunk_map, chunk_tree, form_of, root_tree, tree_of, own_map, own_super, ChunkAt, KeepsReserved, IsExtent, a_node, node_kind, Recount, TreeOn, all_trees, Span, Super, GivesItself, Root, TreeItem, nodes_in, walk_events, holds, place, second_place, bare_item, found, MapRange, Form, NodePointer, Tree, IsMaking, Making, chunk_slots, new_ids, TreesStand, file_tree_items, form, image_tree_items, root_tree_items, TreeRoots, piece_apart, new_super, IsReadableWithTrees, MapsChunks, IsNewVolume, boot_part, chunk_at, map_for, other_part, range_for, super_for, boot_map, all_from_contains, contains_cases, used_of, HasPlace, HoldsExtent, HoldsNodeOf, HoldsPartOf, IsInUse, chunk_node, file_part, root_node, recount_for, tree_for, chunk_items, TreeNode, blocks_are, pointer_to_root, Options, PlannedChunk, Piece, Files, SavedImage}
use Rattle.volume_state.specs.Using.{file_trees}
use Rattle.convert_core_laws.proofs.reading.Mapped.{boot_nodes}
use Rattle.convert_core_laws.proofs.reading.Superblock.{size}
use Rattle.convert_core_laws.proofs.soundness.Nodes.{chunk_at as chunk_nodes_at, met as met_by, packed_at}
use Rattle.convert_core_laws.proofs.soundness.Recounting.{form_is, total_is}
use Rattle.convert_core_laws.proofs.going_back.Extents.{IsOfPiece, body_range, file_range, saved_range}
use Rattle.convert_core_laws.proofs.going_back.Options.{no_some, some_is, when_true}
use Rattle.convert_core_laws.proofs.reading.Named.{tree_read}
use Rattle.convert_core_laws.proofs.soundness.Among.{tree_there}

-- more ranges behind a map change no place
place_before : (xs ys : List MapRange) (a p : ℕ) → place xs a ≡ Some p → place (xs ++ ys) a ≡ Some p
place_before [] ys a p is = absurd (no_some p is)
place_before (x ∷ xs) ys a p is = by (place_before xs ys a p) (holds x a) is
  where
    by : (place xs a ≡ Some p → place (xs ++ ys) a ≡ Some p) → (t : Bool) → (if t then Some (x.physical + (a - x.logical)) else place xs a) ≡ Some p → (if t then Some (x.physical + (a - x.logical)) else place (xs ++ ys) a) ≡ Some p
    by rest true told = told
    by rest false told = rest told

-- a chunk of a conversion has one copy
no_second : (cs : List PlannedChunk) (a : ℕ) → second_place (map range_for cs) a ≡ None
no_second [] a = refl
no_second (c ∷ cs) a = by (holds (range_for c) a) (no_second cs a)
  where
    by : (t : Bool) → second_place (map range_for cs) a ≡ None → (if t then None else second_place (map range_for cs) a) ≡ None
    by true rest = refl
    by false rest = rest

only_first : (cs : List PlannedChunk) (a p : ℕ) → HasPlace (map range_for cs) a p → place (map range_for cs) a ≡ Some p
only_first cs a p placed = ⊎_elim (λ is. is) (λ is. absurd (no_some p (sym (no_second cs a) ∙ is))) placed

module _ (m : Making) (r : TreeRoots) (nodes : List TreeNode) where
  chunk_tree_is : chunk_tree (super_for m r nodes) ≡ tree_of (super_for m r nodes) CHUNK_TREE (pointer_to_root r.chunk)
  unfolding new_super
  chunk_tree_is = refl

  root_tree_is : root_tree (super_for m r nodes) ≡ tree_of (super_for m r nodes) ROOT_TREE (pointer_to_root r.root)
  unfolding new_super
  root_tree_is = refl

module _ (o : Options) (ids : Ids) (now : ℕ) (image other : Image) (m : Making) (r : TreeRoots) (nodes : List TreeNode) (v : IsNewVolume o ids now image other m r nodes) (maps : MapsChunks other m r nodes)
    (is : IsReadableWithTrees image other m r nodes) (sound : (at : ℕ) → KeepsReserved (recount_for image other m r nodes) at) where
  abbrev making : IsMaking image m
  making = v.new.conversion.making

  abbrev stand : TreesStand image other other m r nodes
  stand = v.new.stands.trees

  abbrev k : Recount
  k = recount_for image other m r nodes

  abbrev volume : ℕ
  volume = length (used_of image)

  fit_size : IsNodeSize m.options.nodesize
  fit_size = size o ids now image other m r nodes v

  -- ---- nodes

  map_is : map range_of k.chunks ≡ map_for m.chunks
  map_is = map-map range_of (chunk_at (new_ids m)) (boot_part m.chunks ++ other_part m.chunks)

  volume_is : (super_for m r nodes).total_bytes / 4096 ≡ volume
  volume_is = let total = total_is m r nodes in let same = blocks_are image m making in omega (arith, total, same)

  extent_free : (span : Span) (kind a p : ℕ) → IsExtent k span kind → span.start ≤ a → a < span.start + span.length → place (map_for m.chunks) a ≡ Some p → ¬ IsReserved (p / 4096) volume
  extent_free span kind a p extent low high there reserved =
      (sound span.start).first span kind a p refl extent low high (ap (λ (rs : List MapRange). place rs a) map_is ∙ there) (subst (λ (n : ℕ). IsReserved (p / 4096) n) (sym volume_is) reserved)

  -- by either copy: there is one alone
  only_own : (a p : ℕ) → HasPlace (own_map other) a p → place (own_map other) a ≡ Some p
  only_own a p placed =
      let whole : own_map other ≡ map_for m.chunks = ap (chunk_map other) is.super_is ∙ maps.map_is in
      ap (λ (rs : List MapRange). place rs a) whole ∙ only_first (boot_part m.chunks ++ other_part m.chunks) a p (subst (λ (rs : List MapRange). HasPlace rs a p) whole placed)

  -- a byte of a node of one of the trees
  node_free : (t : TreeOn) (p : NodePointer) (j at : ℕ) → Contains (all_trees k) t → Contains t.nodes p → j < (super_for m r nodes).nodesize → place (map_for m.chunks) (p.address + j) ≡ Some at → ¬ IsReserved (at / 4096) volume
  node_free t p j at of_tree among within there =
      extent_free (record { start = p.address; length = k.super.nodesize }) (node_kind t.number) (p.address + j) at (a_node t of_tree (p, among, refl) refl) (omega arith) (omega (arith, within)) there

  tree_free : (number : ℕ) (root : Root) (items : List Item) (b : ℕ) → Contains (all_trees k) (tree_for other (super_for m r nodes) number root items)
      → HoldsNodeOf other (chunk_map other (super_for m r nodes)) (tree_of (super_for m r nodes) number (pointer_to_root root)) b → ¬ IsReserved b volume
  tree_free number root items b of_tree held =
      let lies = held.lies in
      subst (λ (n : ℕ). ¬ IsReserved n volume) lies.block
      (node_free (tree_for other (super_for m r nodes) number root items) held.node lies.k lies.at of_tree held.among lies.within
      (only_first (boot_part m.chunks ++ other_part m.chunks) (held.node.address + lies.k) lies.at (subst (λ (rs : List MapRange). HasPlace rs (held.node.address + lies.k) lies.at) maps.map_is lies.place_is)))

  -- by its own superblock
  own_tree_free : (number : ℕ) (root : Root) (items : List Item) (b : ℕ) → Contains (all_trees k) (tree_for other (super_for m r nodes) number root items)
      → HoldsNodeOf other (own_map other) (tree_of (own_super other) number (pointer_to_root root)) b → ¬ IsReserved b volume
  own_tree_free number root items b of_tree held =
      tree_free number root items b of_tree (subst (λ (t : Super). HoldsNodeOf other (chunk_map other t) (tree_of t number (pointer_to_root root)) b) is.super_is held)

  roots_free : (b : ℕ) → HoldsNodeOf other (own_map other) (root_tree (own_super other)) b → ¬ IsReserved b volume
  roots_free b held =
      tree_free ROOT_TREE r.root (root_tree_items m r) b (1, omega arith, refl)
      (subst (λ (t : Tree). HoldsNodeOf other (chunk_map other (super_for m r nodes)) t b) (root_tree_is m r nodes)
      (subst (λ (t : Super). HoldsNodeOf other (chunk_map other t) (root_tree t) b) is.super_is held))

  -- ---- the chunk tree, by the chunks of the superblock

  boot_is : boot_map (super_for m r nodes) ≡ map range_for (boot_part m.chunks)
  boot_is = ap (λ (o : Option (List ChunkAt)). map range_of (boot_list o)) maps.boot ∙ map-map range_of (chunk_at (new_ids m)) (boot_part m.chunks)

  -- its nodes are those that the whole map gives
  boot_nodes_are : IsPermutation (nodes_in (walk_events other (map range_for (boot_part m.chunks)) (form_of (super_for m r nodes)) (pointer_to_root r.chunk) CHUNK_TREE)) (packed_at m.options.nodesize (chunk_slots m) (chunk_items (new_ids m) m.volume.sup.blocks m.chunks))
  boot_nodes_are =
      subst (λ (f : Form). IsPermutation (nodes_in (walk_events other (map range_for (boot_part m.chunks)) f (pointer_to_root r.chunk) CHUNK_TREE)) (packed_at m.options.nodesize (chunk_slots m) (chunk_items (new_ids m) m.volume.sup.blocks m.chunks))) (sym (form_is m r nodes))
      (met_by other (form m) 3 (chunk_slots m) (chunk_items (new_ids m) m.volume.sup.blocks m.chunks) r.chunk (map range_for (boot_part m.chunks)) stand.chunk
      (all_from_contains (GivesItself (map range_for (boot_part m.chunks)) m.options.nodesize) (chunk_slots m) (boot_nodes image m making fit_size)))

  boot_node : (p : NodePointer) → Contains (nodes_in (walk_events other (map range_for (boot_part m.chunks)) (form_of (super_for m r nodes)) (pointer_to_root r.chunk) CHUNK_TREE)) p → Contains k.chunk_tree.nodes p
  boot_node p h =
      let list : List NodePointer = packed_at m.options.nodesize (chunk_slots m) (chunk_items (new_ids m) m.volume.sup.blocks m.chunks) in
      Contains-permutation list k.chunk_tree.nodes p (IsPermutation-sym k.chunk_tree.nodes list (chunk_nodes_at o ids now image other m r nodes v))
      (Contains-permutation (nodes_in (walk_events other (map range_for (boot_part m.chunks)) (form_of (super_for m r nodes)) (pointer_to_root r.chunk) CHUNK_TREE)) list p boot_nodes_are h)

  boot_free : (b : ℕ) → HoldsNodeOf other (map range_for (boot_part m.chunks)) (tree_of (super_for m r nodes) CHUNK_TREE (pointer_to_root r.chunk)) b → ¬ IsReserved b volume
  boot_free b held =
      let lies = held.lies in
      let a : ℕ = held.node.address + lies.k in
      let there : place (map_for m.chunks) a ≡ Some lies.at =
      ap (λ (rs : List MapRange). place rs a) (map-append range_for (boot_part m.chunks) (other_part m.chunks))
      ∙ place_before (map range_for (boot_part m.chunks)) (map range_for (other_part m.chunks)) a lies.at (only_first (boot_part m.chunks) a lies.at lies.place_is) in
      subst (λ (n : ℕ). ¬ IsReserved n volume) lies.block (node_free k.chunk_tree held.node lies.k lies.at (0, omega arith, refl) (boot_node held.node held.among) lies.within there)

  chunks_free : (b : ℕ) → HoldsNodeOf other (boot_map (own_super other)) (chunk_tree (own_super other)) b → ¬ IsReserved b volume
  chunks_free b held =
      boot_free b
      (subst (λ (rs : List MapRange). HoldsNodeOf other rs (tree_of (super_for m r nodes) CHUNK_TREE (pointer_to_root r.chunk)) b) boot_is
      (subst (λ (t : Tree). HoldsNodeOf other (boot_map (super_for m r nodes)) t b) (chunk_tree_is m r nodes)
      (subst (λ (t : Super). HoldsNodeOf other (boot_map t) (chunk_tree t) b) is.super_is held)))

  -- ---- file extents

  -- a byte of a piece
  piece_free : (p : Piece) (j at : ℕ) → Contains m.pieces p → j < 4096 * p.count → place (own_map other) (4096 * p.place + j) ≡ Some at → ¬ IsReserved (at / 4096) volume
  piece_free p j at among within there =
      let same : 4096 * p.place + j ≡ at = some_is (4096 * p.place + j) at (sym (is.own.pieces p (4096 * p.place + j) among (omega arith) (omega (arith, within))) ∙ there) in
      piece_apart m.volume image m.options m.plan m.pieces making.has_pieces p among (at / 4096) (omega (arith, same)) (omega (arith, same, within))

  range_free : (range : DiskRange) (j at : ℕ) → IsOfPiece m range → j < range.disk_num_bytes → place (own_map other) (range.disk_bytenr + j) ≡ Some at → ¬ IsReserved (at / 4096) volume
  range_free range j at of within there =
      let first : range.disk_bytenr ≡ 4096 * of.piece.place = ap (λ (x : DiskRange). x.disk_bytenr) of.range_is in
      let long : range.disk_num_bytes ≡ 4096 * of.piece.count = ap (λ (x : DiskRange). x.disk_num_bytes) of.range_is in
      let address : range.disk_bytenr + j ≡ 4096 * of.piece.place + j = omega (arith, first) in
      piece_free of.piece j at of.among (omega (arith, within, long)) (ap (λ (a : ℕ). place (own_map other) a) (sym address) ∙ there)

  -- of a tree whose file extents are those of pieces
  extents_free : (items : List TreeItem) (b : ℕ) → ((i : TreeItem) (range : DiskRange) → Contains items i → eqb i.key.kind EXTENT_DATA ≡ true → body_range i.body ≡ Some range → IsOfPiece m range)
      → HoldsExtent items (own_map other) b → ¬ IsReserved b volume
  extents_free items b each held =
      let lies = held.lies in
      let told : (eqb held.item.key.kind EXTENT_DATA ≡ true) × (body_range held.item.body ≡ Some held.range) = when_true (eqb held.item.key.kind EXTENT_DATA) (body_range held.item.body) held.range held.range_is in
      subst (λ (n : ℕ). ¬ IsReserved n volume) lies.block (range_free held.range lies.k lies.at (each held.item held.range held.among told.0 told.1) lies.within (only_own (held.range.disk_bytenr + lies.k) lies.at lies.place_is))

  bare_in : (items : List TreeItem) (list : List Item) (i : TreeItem) → map bare_item items ≡ list → Contains items i → Contains list (bare_item i)
  bare_in items list i are h = subst (λ (l : List Item). Contains l (bare_item i)) are (in_map bare_item items i h)

  abbrev file_tree : Tree
  file_tree = tree_of (own_super other) FS_TREE (pointer_to_root (r.tree Files))

  abbrev saved_tree : Tree
  saved_tree = tree_of (own_super other) CONV_IMAGE_SUBVOL (pointer_to_root (r.tree SavedImage))

  files_free : (b : ℕ) → HoldsPartOf other (own_map other) file_tree b → ¬ IsReserved b volume
  files_free b held =
      ⊎_elim (λ node. own_tree_free FS_TREE (r.tree Files) (file_tree_items image m) b (tree_there image other m r nodes Files) node)
      (λ extent. extents_free (found other (own_map other) file_tree) b (λ i range h kind told. file_range image m making (bare_item i) range (bare_in (found other (own_map other) file_tree) (file_tree_items image m) i (tree_read image other (own_super other) (own_map other) m r nodes is.trees Files).items_are h) kind told) extent) held

  saved_free : (b : ℕ) → HoldsPartOf other (own_map other) saved_tree b → ¬ IsReserved b volume
  saved_free b held =
      ⊎_elim (λ node. own_tree_free CONV_IMAGE_SUBVOL (r.tree SavedImage) (image_tree_items m) b (tree_there image other m r nodes SavedImage) node)
      (λ extent. extents_free (found other (own_map other) saved_tree) b (λ i range h kind told. saved_range image m making (bare_item i) range (bare_in (found other (own_map other) saved_tree) (image_tree_items m) i (tree_read image other (own_super other) (own_map other) m r nodes is.trees SavedImage).items_are h) kind told) extent) held

  -- ---- all of them

  module _ (trees_are : file_trees other (own_super other) (own_map other) ≡ file_tree ∷ (saved_tree ∷ [])) where
    part_free : (t : Tree) (b : ℕ) → Contains (file_trees other (own_super other) (own_map other)) t → HoldsPartOf other (own_map other) t b → ¬ IsReserved b volume
    part_free t b among =
        ⊎_elim (λ (same : file_tree ≡ t). subst (λ (x : Tree). HoldsPartOf other (own_map other) x b → ¬ IsReserved b volume) same (files_free b))
        (λ (later : Contains (saved_tree ∷ []) t).
        ⊎_elim (λ (same : saved_tree ≡ t). subst (λ (x : Tree). HoldsPartOf other (own_map other) x b → ¬ IsReserved b volume) same (saved_free b))
        (λ (none : Contains [] t). absurd (omega (arith, none.1))) (contains_cases t saved_tree [] later))
        (contains_cases t file_tree (saved_tree ∷ []) (subst (λ (l : List Tree). Contains l t) trees_are among))

    -- no block in use is reserved
    pub in_use_free : (b : ℕ) → IsInUse other b → ¬ IsReserved b volume
    in_use_free b (chunk_node held) = chunks_free b held
    in_use_free b (root_node held) = roots_free b held
    in_use_free b (file_part f) = part_free f.tree b f.among f.holds
