-- The items of a converted volume stand in the trees that have such items.
use Rattle.convert_core_laws.proofs.Imports.{◌≡◌, ℕ, ◌==◌, ◌||◌, not, Bool, true, false, List, [], ◌∷◌, map, get_or, refl, sym, ap, subst, ◌∙◌, ⊎_elim, arith, ◌<◌, ◌^◌, All, Contains, if◌then◌else◌, AllByRecursion, flat_map, list_all, list_any, All-cons, All-contains, All-map, All-nil, All-from_recursion, eqb-true, and_parts, CHUNK_ITEM, DEV_ITEM, CHUNK_TREE, CSUM_TREE, DEV_TREE, EXTENT_TREE, FIRST_CHUNK_TREE_OBJECTID, ROOT_TREE, Image, Ids, Item, IsOnForm, file_kinds, TreeOn, all_trees, Recount, file_trees, from_flat_map, from_map, all_from_contains, all-merge, item_cmp, merged, Making, new_ids, Piece, PlannedChunk, TreeRoots, root_tree_items, TreeNode, Options, IsNewVolume, recount_for, FilesAreHeld, ImageKeysAscend, InodesAreThere, HasBytes, chunk_item, dev_extent_item, extent_items, node_item, piece_item, group_item, used_in, SumKind, sum_items, NewTree, Files, SavedImage, Relocation, Checksums, Devices, AreTreeNames, all_at, has_own_tree, own_kinds}
use Rattle.convert_core_laws.proofs.soundness.Among.{extents_in, tree_in, trees_all}
use Rattle.convert_core_laws.proofs.soundness.Entered.{roots_all}
use Rattle.convert_core_laws.proofs.soundness.HavingNames.{have_names}

-- an item of this kind may stand in the tree with this number
abbrev fits : ℕ → ℕ → Bool
fits number kind = list_all (λ own. not (kind == own.0) || (number == own.1)) own_kinds

-- what holds of each of some numbers holds of one that is among them
among : (P : ℕ → Type 0) (n : ℕ) (ns : List ℕ) → AllByRecursion P ns → list_any (λ m. m == n) ns ≡ true → P n
among P n [] all t = absurd (cc t)
among P n (m ∷ ns) all t = by (m == n) refl t (among P n ns all.1)
  where
    by : (b : Bool) → (m == n) ≡ b → b || list_any (λ k. k == n) ns ≡ true → (list_any (λ k. k == n) ns ≡ true → P n) → P n
    by true is t_ rest = subst P (eqb-true m n is) all.0
    by false is t_ rest = rest t_

-- those of file trees are in none of the other trees
of_files : (number : ℕ) (i : Item) → IsOnForm i → has_own_tree number i ≡ true
of_files number i form =
    among (λ kind. fits number kind ≡ true) i.0.kind file_kinds (refl, (refl, (refl, (refl, (refl, (refl, (refl, (refl, tt)))))))) form.kind

abbrev pub AreKept : TreeOn → Type 0
AreKept t = All (λ i. has_own_tree t.number i ≡ true) t.items

of_sums : (sums : SumKind) (image : Image) (pieces : List Piece) → All (λ i. has_own_tree CSUM_TREE i ≡ true) (sum_items sums image pieces)
of_sums sums image pieces = all_from_contains (λ i. has_own_tree CSUM_TREE i ≡ true) (sum_items sums image pieces) (λ i h.
    let piece = from_flat_map _ pieces i h in
    let at = from_map _ _ i piece.2 in
    subst (λ j. has_own_tree CSUM_TREE j ≡ true) at.2 refl)

module _ (o : Options) (ids : Ids) (now : ℕ) (image other : Image) (m : Making) (r : TreeRoots) (nodes : List TreeNode) (v : IsNewVolume o ids now image other m r nodes) (held : FilesAreHeld) (rising : ImageKeysAscend) (are_there : InodesAreThere) (low : now < 2 ^ 63) (bytes : HasBytes image) where
  abbrev k : Recount
  k = recount_for image other m r nodes

  file_tree : (t : TreeOn) → Contains (file_trees k) t → AreKept t
  file_tree t h =
      let names = all_at (AreTreeNames (root_tree_items m r)) (file_trees k) t (have_names o ids now image other m r nodes v held rising are_there low bytes) h in
      λ i d l. of_files t.number (get_or t.items i d) (names.forms i d l)

  abbrev Fits : ℕ → Item → Type 0
  Fits number i = has_own_tree number i ≡ true

  extents : All (Fits EXTENT_TREE) (extent_items m.chunks m.pieces nodes m.options.nodesize)
  extents =
      all-merge item_cmp (Fits EXTENT_TREE) (map (λ (c : PlannedChunk). group_item (used_in m.pieces nodes m.options.nodesize c) c) m.chunks) (merged (map node_item nodes) (map piece_item m.pieces))
      (All-map (Fits EXTENT_TREE) (λ (c : PlannedChunk). group_item (used_in m.pieces nodes m.options.nodesize c) c) m.chunks (λ i d h. refl))
      (all-merge item_cmp (Fits EXTENT_TREE) (map node_item nodes) (map piece_item m.pieces) (All-map (Fits EXTENT_TREE) node_item nodes (λ i d h. refl)) (All-map (Fits EXTENT_TREE) piece_item m.pieces (λ i d h. refl)))

  each_tree : (t : NewTree) → AreKept (tree_in image other m r nodes t)
  each_tree Files = file_tree (tree_in image other m r nodes Files) (0, omega arith, refl)
  each_tree SavedImage = file_tree (tree_in image other m r nodes SavedImage) (1, omega arith, refl)
  each_tree Relocation = file_tree (tree_in image other m r nodes Relocation) (2, omega arith, refl)
  each_tree Checksums = by m.options.datasum
    where
      by : (b : Bool) → All (Fits CSUM_TREE) (if b then sum_items m.options.sums other m.pieces else [])
      by true = of_sums m.options.sums other m.pieces
      by false = All-nil (Fits CSUM_TREE)
  each_tree Devices = All-map (Fits DEV_TREE) (dev_extent_item (new_ids m)) m.chunks (λ i d h. refl)

  pub all_kept : All AreKept (all_trees k)
  all_kept =
      trees_all image other m r nodes AreKept (All-cons (Fits CHUNK_TREE) _ (map (chunk_item (new_ids m)) m.chunks) refl (All-map (Fits CHUNK_TREE) (chunk_item (new_ids m)) m.chunks (λ i d h. refl)))
      (roots_all m r (Fits ROOT_TREE) (λ x. refl) (refl, (refl, (refl, (refl, (refl, tt)))))) extents each_tree
