-- The uses of data by all trees.
use Rattle.convert_core_laws.proofs.Imports.{◌≡◌, ◌≤◌, ℕ, ◌+◌, ◌*◌, ◌^◌, eqb, Bool, true, false, List, [], ◌∷◌, map, filter, Option, Some, None, refl, sym, ap, subst, ◌∙◌, ⊎_elim, arith, All, Contains, MatchOption, if◌then◌else◌, is_some, option_map_or, All-contains, All-cons, All-map, Contains-append_cases, DEV_ITEM, EXTENT_DATA, CONV_IMAGE_SUBVOL, DEV_ITEMS_OBJECTID, from_flat_map, from_map, in_filter, Image, file_extent_of, make_key, Item, IsNodeSize, DataUse, IsData, Recount, TreeOn, all_trees, data_uses, use_in, uses_in, Span, device_bytes, IsMaking, Making, new_ids, image_tree_items, root_tree_items, sum_tree_items, TreeRoots, well, all_at, extents_at, piece_bytes, pieces_of_volume, source_block, image_head, image_items, relocation_items, extent_item, regular_extent, all_from_contains, contains_cases, used_of, chunk_item, chunk_items, dev_extent_item, device_body, device_items, extent_items, group_item, node_item, piece_item, used_in, item_cmp, merged, run_items, sum_items, TreeNode, all-merge, used_few, PlannedChunk, Piece, recount_for, NewTree, Files, SavedImage, Relocation, Checksums, Devices}
use Rattle.std.specs.Prelude.{length}
use Rattle.convert_core.specs.convert_steps.Standing.{items_of}
use Rattle.convert_core_laws.proofs.reading.SavedPieces.{member}
use Rattle.convert_core_laws.proofs.soundness.Lists.{filter_none}
use Rattle.convert_core_laws.proofs.soundness.Among.{extents_in, tree_in, trees_all}
use Rattle.convert_core_laws.proofs.soundness.Uses.{IsUse, by_file, by_image, file_uses, piece_use, use_at, uses_from}

abbrev pub is_file_extent : Item → Bool
is_file_extent i = eqb i.0.kind EXTENT_DATA

-- the range of a piece
abbrev pub span_of : Piece → Span
span_of p = record { start = 4096 * p.place; length = 4096 * p.count }

-- ---- the tree of the saved image

head_kinds : (blocks nbytes now : ℕ) (datasum : Bool) → filter is_file_extent (image_head blocks nbytes datasum now) ≡ []
unfolding image_head
head_kinds blocks nbytes now datasum = refl

no_head : (i : Item) (items : List Item) → filter is_file_extent items ≡ [] → Contains items i → is_file_extent i ≡ true → ⊥
no_head i items none h is = let empty : Contains [] i = subst (λ (l : List Item). Contains l i) none (in_filter is_file_extent items i h is) in omega (arith, empty.1)

image_parts : (blocks : ℕ) (pieces : List Piece) (datasum : Bool) (now : ℕ) (i : Item) → Contains (image_items blocks pieces datasum now) i → is_file_extent i ≡ true → Contains (extents_at 257 source_block (pieces_of_volume pieces)) i
unfolding image_items
image_parts blocks pieces datasum now i h is =
    let head : List Item = image_head blocks (piece_bytes (pieces_of_volume pieces)) datasum now in
    ⊎_elim (λ (first : Contains head i). absurd (no_head i head (head_kinds blocks (piece_bytes (pieces_of_volume pieces)) now datasum) first is)) (λ second. second)
    (Contains-append_cases head (extents_at 257 source_block (pieces_of_volume pieces)) i h)

module _ (image : Image) (m : Making) (made : IsMaking image m) (size : IsNodeSize m.options.nodesize) where
  pub from_is : (p : Piece) → is_some p.from ≡ true → p.from ≡ Some (source_block p)
  from_is p t = by p.from refl t
    where
      by : (o : Option ℕ) → p.from ≡ o → is_some o ≡ true → o ≡ Some (option_map_or (λ (b : ℕ). b) o 0)
      by None is t = absurd (cc t)
      by (Some b) is t = refl

  pub source_low : (p : Piece) → Contains m.pieces p → p.from ≡ Some (source_block p) → source_block p + p.count ≤ 2 ^ 29
  source_low p h is =
      let bound : MatchOption p.from (Unit {0}) (λ b. b + p.count ≤ length (used_of image)) =
      all_at (λ (q : Piece). MatchOption q.from (Unit {0}) (λ b. b + q.count ≤ length (used_of image))) m.pieces p (well m.volume image m.options m.plan m.pieces made.has_pieces).apart.sources h in
      let low : source_block p + p.count ≤ length (used_of image) = subst (λ (o : Option ℕ). MatchOption o (Unit {0}) (λ b. b + p.count ≤ length (used_of image))) is bound in
      let few = used_few image m made in
      omega (arith, low, few)

  image_uses : (i : Item) (u : DataUse) → Contains (image_tree_items m) i → is_file_extent i ≡ true → Contains (use_in CONV_IMAGE_SUBVOL i (file_extent_of i.1)) u → IsUse m u
  image_uses i u h is k =
      let at = from_map (λ (p : Piece). extent_item 257 (source_block p) (regular_extent p.place p.count)) (pieces_of_volume m.pieces) i (image_parts m.volume.sup.blocks m.pieces m.options.datasum m.now i h is) in
      let p : Piece = at.0 in
      let of_all = member image m made size p at.1 in
      let from : p.from ≡ Some (source_block p) = from_is p of_all.1 in
      let low = source_low p of_all.0 from in
      let told = piece_use image m made 256 257 (source_block p) p of_all.0 (omega (arith, low)) in
      let one : Contains (use_at CONV_IMAGE_SUBVOL 257 (source_block p) p ∷ []) u =
      subst (λ (l : List DataUse). Contains l u) told (subst (λ (j : Item). Contains (use_in CONV_IMAGE_SUBVOL j (file_extent_of j.1)) u) (sym at.2) k) in
      ⊎_elim (λ (e : use_at CONV_IMAGE_SUBVOL 257 (source_block p) p ≡ u). by_image p (source_block p) of_all.0 from (sym e)) (λ (none : Contains [] u). absurd (omega (arith, none.1)))
      (contains_cases u (use_at CONV_IMAGE_SUBVOL 257 (source_block p) p) [] one)

  -- ---- no other tree has file extents

  abbrev OnlyUses : TreeOn → Type 0
  OnlyUses t = (u : DataUse) → Contains (uses_in t) u → IsUse m u

  no_uses : (t : TreeOn) → filter is_file_extent t.items ≡ [] → OnlyUses t
  no_uses t none u h = let at = uses_from t u h in absurd (no_head at.0 t.items none at.1 at.2)

  module _ (other : Image) (r : TreeRoots) (nodes : List TreeNode) where
    abbrev k : Recount
    k = recount_for image other m r nodes

    chunk_none : filter is_file_extent (chunk_items (new_ids m) m.volume.sup.blocks m.chunks) ≡ []
    chunk_none =
        filter_none is_file_extent (chunk_items (new_ids m) m.volume.sup.blocks m.chunks)
        (All-cons (λ i. is_file_extent i ≡ false) (make_key DEV_ITEMS_OBJECTID DEV_ITEM 1, device_bytes (device_body (new_ids m) m.volume.sup.blocks m.chunks)) (map (chunk_item (new_ids m)) m.chunks) refl
        (All-map (λ i. is_file_extent i ≡ false) (chunk_item (new_ids m)) m.chunks (λ n d h. refl)))

    root_none : filter is_file_extent (root_tree_items m r) ≡ []
    root_none = refl

    extents_none : filter is_file_extent (extent_items m.chunks m.pieces nodes m.options.nodesize) ≡ []
    extents_none =
        let group : PlannedChunk → Item = λ c. group_item (used_in m.pieces nodes m.options.nodesize c) c in
        filter_none is_file_extent (extent_items m.chunks m.pieces nodes m.options.nodesize)
        (all-merge item_cmp (λ (i : Item). is_file_extent i ≡ false) (map group m.chunks) (merged (map node_item nodes) (map piece_item m.pieces)) (All-map (λ (i : Item). is_file_extent i ≡ false) group m.chunks (λ n d h. refl))
        (all-merge item_cmp (λ (i : Item). is_file_extent i ≡ false) (map node_item nodes) (map piece_item m.pieces)
        (All-map (λ (i : Item). is_file_extent i ≡ false) node_item nodes (λ n d h. refl)) (All-map (λ (i : Item). is_file_extent i ≡ false) piece_item m.pieces (λ n d h. refl))))

    device_none : filter is_file_extent (device_items (new_ids m) m.chunks) ≡ []
    device_none = filter_none is_file_extent (device_items (new_ids m) m.chunks) (All-map (λ i. is_file_extent i ≡ false) (dev_extent_item (new_ids m)) m.chunks (λ n d h. refl))

    sums_none : filter is_file_extent (sum_tree_items other m) ≡ []
    sums_none = by m.options.datasum
      where
        kinds : All (λ i. is_file_extent i ≡ false) (sum_items m.options.sums other m.pieces)
        kinds = all_from_contains (λ i. is_file_extent i ≡ false) (sum_items m.options.sums other m.pieces) (λ i h.
            let run = from_flat_map (λ (p : Piece). run_items m.options.sums other p.place p.count) m.pieces i h in
            let at = from_map _ _ i run.2 in
            subst (λ (j : Item). is_file_extent j ≡ false) at.2 refl)

        by : (b : Bool) → filter is_file_extent (if b then sum_items m.options.sums other m.pieces else []) ≡ []
        by true = filter_none is_file_extent (sum_items m.options.sums other m.pieces) kinds
        by false = refl

    relocation_none : filter is_file_extent (relocation_items m.now) ≡ []
    unfolding relocation_items
    relocation_none = refl

    -- which trees of the list have file extents
    pub data HasUses (t : NewTree) : Type 0 where
      of_files : t ≡ Files → HasUses t
      of_image : t ≡ SavedImage → HasUses t
      of_none : filter is_file_extent (items_of image other m t) ≡ [] → HasUses t

    pub has_uses : (t : NewTree) → HasUses t
    has_uses Files = of_files refl
    has_uses SavedImage = of_image refl
    has_uses Relocation = of_none relocation_none
    has_uses Checksums = of_none sums_none
    has_uses Devices = of_none device_none

    -- where there are none there is no use
    pub none_used : (t : NewTree) → filter is_file_extent (items_of image other m t) ≡ [] → (u : DataUse) → Contains (uses_in (tree_in image other m r nodes t)) u → ⊥
    none_used t none u h = let at = uses_from (tree_in image other m r nodes t) u h in no_head at.0 (items_of image other m t) none at.1 at.2

    file_tree_uses : OnlyUses (tree_in image other m r nodes Files)
    file_tree_uses = λ u h. let at = uses_from (tree_in image other m r nodes Files) u h in file_uses image m made at.0 u at.1 at.2 at.3

    image_tree_uses : OnlyUses (tree_in image other m r nodes SavedImage)
    image_tree_uses = λ u h. let at = uses_from (tree_in image other m r nodes SavedImage) u h in image_uses at.0 u at.1 at.2 at.3

    tree_uses : (t : NewTree) → OnlyUses (tree_in image other m r nodes t)
    tree_uses t = by (has_uses t)
      where
        by : HasUses t → OnlyUses (tree_in image other m r nodes t)
        by (of_files is) = subst (λ (x : NewTree). OnlyUses (tree_in image other m r nodes x)) (sym is) file_tree_uses
        by (of_image is) = subst (λ (x : NewTree). OnlyUses (tree_in image other m r nodes x)) (sym is) image_tree_uses
        by (of_none none) = λ u h. absurd (none_used t none u h)

    all_uses : All OnlyUses (all_trees k)
    all_uses = trees_all image other m r nodes OnlyUses (no_uses k.chunk_tree chunk_none) (no_uses k.root_tree root_none) (no_uses (extents_in image other m r nodes) extents_none) tree_uses

    -- each use of data is that of a piece
    pub uses_are : (u : DataUse) → Contains (data_uses k) u → IsUse m u
    uses_are u h =
        let at = from_flat_map uses_in (all_trees k) u h in
        All-contains OnlyUses (all_trees k) at.0 all_uses at.1 u at.2

    -- so each range of data is that of a piece
    pub data_is : (span : Span) → IsData k span → (p : Piece) × Contains m.pieces p × (span ≡ span_of p)
    data_is span d = by d.0 (uses_are d.0 d.1) d.2
      where
        by : (u : DataUse) → IsUse m u → span ≡ record { start = u.start; length = u.length } → (p : Piece) × Contains m.pieces p × (span ≡ span_of p)
        by u (by_file p inode block h own is) e = (p, h, e ∙ ap (λ (x : DataUse). let y : Span = record { start = x.start; length = x.length } in y) is)
        by u (by_image p block h from is) e = (p, h, e ∙ ap (λ (x : DataUse). let y : Span = record { start = x.start; length = x.length } in y) is)
