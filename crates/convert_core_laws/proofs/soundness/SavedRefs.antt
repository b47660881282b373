-- What the root tree refers to from one tree to another, an entry of the first one tells.
use Rattle.convert_core_laws.proofs.Imports.{◌≡◌, ◌≤◌, ℕ, eqb, Bool, true, false, List, [], ◌∷◌, map, filter, refl, sym, subst, ◌∙◌, true≢false, arith, All, Contains, if◌then◌else◌, Contains-append_right, flat_map, at_head, in_map, in_flat_map, from_filter, CONV_IMAGE_SUBVOL, FIRST_FREE_OBJECTID, FS_TREE, ROOT_BACKREF, Image, Item, make_key, HasItem, Recount, TreeOn, IndexEntry, index_entries, IsToldBy, KeepsRootRefs, dir_told, tells_tree, told_by_tree, NodePointer, IsMaking, Making, saved_index, HasPieces, TreeRoots, root_tree_items, TreeNode, all_at, all_from_contains, saved_ref, saved_entry, indexed, names_in, next_index, Indexed, root_known, root_number, same_key, root, same_key-self, ino_of, kind_in, Source, Kind, Directory, recount_for, Walked, each_at, root_ref_of}
use Rattle.btr_reader.specs.btr_reader_walk.Nodes.{is_file_tree as is_subvolume}
use Rattle.convert_core_laws.proofs.soundness.Assembling.{entries_are}
use Rattle.convert_core_laws.proofs.soundness.Entered.{in_roots, ref_reads, roots_all}
use Rattle.convert_core_laws.proofs.soundness.Inodes.{root_kind, tree}
use Rattle.convert_core_laws.proofs.soundness.Names.{in_order, objects, tells_tree as tells_names}
use Rattle.convert_core_laws.proofs.soundness.Objects.{indexes, listed, names, s}
use Rattle.convert_core_laws.proofs.soundness.Telling.{index_by}

module _ (image other : Image) (m : Making) (made : IsMaking image m) (r : TreeRoots) (nodes : List TreeNode) where
  abbrev of : HasPieces m.volume image m.options m.plan m.pieces
  of = made.has_pieces

  abbrev src : Source
  src = s image m made

  abbrev k : Recount
  k = recount_for image other m r nodes

  abbrev roots : List Item
  roots = root_tree_items m r

  abbrev Forth : TreeOn → Item → Type 0
  Forth t i = IsToldBy t i.0.offset (root_ref_of i.1)

  abbrev Back : TreeOn → Item → Type 0
  Back t i = IsToldBy t i.0.objectid (root_ref_of i.1)

  -- what holds of each that passes holds of those that are kept
  kept : (test : Item → Bool) (P : Item → Type 0) → All (λ i. test i ≡ true → P i) roots → All P (filter test roots)
  kept test P all = all_from_contains P (filter test roots) (λ i h. let at = from_filter test roots i h in all_at (λ (j : Item). test j ≡ true → P j) roots i all at.0 at.1)

  refs_of : (t : TreeOn) → All (λ i. tells_tree t.number i ≡ true → Forth t i) roots → All (λ i. told_by_tree t.number i ≡ true → Back t i) roots
      → (is_subvolume t.number ≡ true → FIRST_FREE_OBJECTID ≤ t.number → (parent : ℕ) × HasItem roots t.number ROOT_BACKREF parent) → (a : ℕ) → KeepsRootRefs k t a
  refs_of t forth back named a = record {
    forth = each_at dir_told a (Forth t) (filter (tells_tree t.number) roots) (kept (tells_tree t.number) (Forth t) forth);
    back = each_at dir_told a (Back t) (filter (told_by_tree t.number) roots) (kept (told_by_tree t.number) (Back t) back);
    named = λ at sub high. named sub high;
  }

  -- ---- a tree that is not the first one

  pub other_refs : (t : TreeOn) → eqb FS_TREE t.number ≡ false → (is_subvolume t.number ≡ true → FIRST_FREE_OBJECTID ≤ t.number → (parent : ℕ) × HasItem roots t.number ROOT_BACKREF parent) → (a : ℕ) → KeepsRootRefs k t a
  other_refs t off =
      refs_of t
      (roots_all m r (λ i. tells_tree t.number i ≡ true → Forth t i) (λ x is. absurd (cc is))
      ((λ is. absurd (true≢false (sym is ∙ off))), ((λ is. absurd (cc is)), ((λ is. absurd (cc is)), ((λ is. absurd (cc is)), ((λ is. absurd (cc is)), tt))))))
      (roots_all m r (λ i. told_by_tree t.number i ≡ true → Back t i) (λ x is. absurd (cc is))
      ((λ is. absurd (cc is)), ((λ is. absurd (cc is)), ((λ is. absurd (cc is)), ((λ is. absurd (cc is)), ((λ is. absurd (true≢false (sym is ∙ off))), tt))))))

  -- the saved image's tree is named by the first one
  pub image_named : (parent : ℕ) × HasItem roots CONV_IMAGE_SUBVOL ROOT_BACKREF parent
  image_named = (FS_TREE, (saved_ref (saved_index m), in_roots m r (make_key CONV_IMAGE_SUBVOL ROOT_BACKREF FS_TREE, saved_ref (saved_index m)) (λ is. omega (arith, is)) (4, omega arith, refl)))

  -- ---- the first one

  module _ (met : Walked) where
    abbrev t : TreeOn
    t = tree image m made met

    -- the last entry of the root directory
    abbrev last : Indexed
    last = (next_index src.links root, saved_entry)

    abbrev entry : IndexEntry
    entry = index_by FIRST_FREE_OBJECTID last

    among : Contains (listed image m made root Directory) last
    among =
        Contains-append_right (map (indexed (kind_in src) src.keys) (names_in src.links root)) (if same_key root root then last ∷ [] else []) last
        (subst (λ (b : Bool). Contains {X = Indexed} (if b then last ∷ [] else []) last) (sym (same_key-self root)) (at_head last []))

    in_own : Contains (indexes image m made root) (index_by (ino_of src root) last)
    in_own = in_map (index_by (ino_of src root)) (listed image m made root (kind_in src root)) last (subst (λ (kind : Kind). Contains (listed image m made root kind) last) (sym (root_kind image m made)) among)

    in_tree : Contains (index_entries (tree image m made met)) entry
    in_tree =
        subst (λ (l : List IndexEntry). Contains l entry) (sym (entries_are (tree image m made met) (flat_map (indexes image m made) (objects image m made)) (flat_map (names image m made) (objects image m made)) (tells_names image m made)))
        (in_flat_map (indexes image m made) (objects image m made) root entry (in_order image m made root (root_known m.volume image of.accepted of.opened))
        (subst (λ (n : ℕ). Contains (indexes image m made root) (index_by n last)) (root_number m.volume image m.options m.plan m.pieces of) in_own))

    told : IsToldBy (tree image m made met) CONV_IMAGE_SUBVOL (root_ref_of (saved_ref (saved_index m)))
    told = (entry, in_tree, refl, refl, ref_reads image m made)

    pub file_refs : (a : ℕ) → KeepsRootRefs k (tree image m made met) a
    file_refs =
        refs_of (tree image m made met)
        (roots_all m r (λ i. tells_tree FS_TREE i ≡ true → Forth (tree image m made met) i) (λ x is. absurd (cc is))
        ((λ is. told), ((λ is. absurd (cc is)), ((λ is. absurd (cc is)), ((λ is. absurd (cc is)), ((λ is. absurd (cc is)), tt))))))
        (roots_all m r (λ i. told_by_tree FS_TREE i ≡ true → Back (tree image m made met) i) (λ x is. absurd (cc is))
        ((λ is. absurd (cc is)), ((λ is. absurd (cc is)), ((λ is. absurd (cc is)), ((λ is. absurd (cc is)), ((λ is. told), tt))))))
        (λ sub high. absurd (omega (arith, high)))
