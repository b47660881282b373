-- What the entries of the file tree lead to is there, and so is what the root tree tells of the saved image's tree.
use Rattle.convert_core_laws.proofs.Imports.{◌≡◌, ◌<◌, ℕ, ◌^◌, Bool, true, false, List, [], ◌∷◌, map, Some, refl, sym, ap, subst, ◌∙◌, ⊎_elim, true≢false, arith, get_or, Contains-append_cases, All-map, All-from_recursion, ROOT_BACKREF, ROOT_ITEM, ROOT_REF, CONV_IMAGE_SUBVOL, FIRST_FREE_OBJECTID, FS_TREE, keys, Image, inode_bytes, make_key, Item, AreTreeNames, IsTreeEntry, IndexEntry, IsThere, names_inode_item, root_refs_read_back, NodePointer, IsMaking, Making, new_ids, saved_index, HasPieces, root_tree_items, TreeRoots, rooted_trees as trees_listed, rooted_trees, IndexedLink as Link, Indexed, indexed, names_in, next_index, saved_entry, Source, inode_in, kind_in, ino_of, index_small, FilesAreHeld, InodesAreThere, Kind, Directory, File, Symlink, Character, Block, Fifo, Socket, Subvolume, from_flat_map, from_map, head_or_tail, saved_name, root, same_key, ObjectKey, same_key-true, HasBytes, good_link, root_number, item_cmp, other_root_items, tree_root_item, saved_ref, RootRefValue, root_ref_head, root_ref_of, All, AllByRecursion, all-merge, TreeRoot, Walked}
use Rattle.std.proofs.Common.{flat_map, Contains, if◌then◌else◌}
use Rattle.convert_core_laws.proofs.soundness.Flags.{inode_there}
use Rattle.convert_core_laws.proofs.soundness.InMerged.{in_second}
use Rattle.convert_core_laws.proofs.soundness.Numbers.{kinds_apart}
use Rattle.convert_core_laws.proofs.soundness.Assembling.{have_names}
use Rattle.convert_core_laws.proofs.soundness.Inodes.{inodes_told, tree}
use Rattle.convert_core_laws.proofs.soundness.Names.{from_order, is_in, objects, same_names, tells_tree}
use Rattle.convert_core_laws.proofs.soundness.Objects.{indexes, link_among, listed, names, s}
use Rattle.convert_core_laws.proofs.soundness.Telling.{index_by}

-- ---- the root tree

saved_fits : (index : ℕ) → index < 2 ^ 63 → root_ref_head.fits (record { dirid = FIRST_FREE_OBJECTID; sequence = index; name = saved_name })
unfolding root_ref_head
saved_fits index low = (((tt, omega arith), omega (arith, low)), omega arith)

-- an item of the others is one of the root tree's
pub in_roots : (m : Making) (r : TreeRoots) (t : Item) → (t.0.kind ≡ ROOT_ITEM → ⊥) → Contains (other_root_items (saved_index m) m.now) t → Contains (root_tree_items m r) t
in_roots m r t apart h =
    in_second item_cmp t (map (tree_root_item (new_ids m) m.options.nodesize) (trees_listed r)) (other_root_items (saved_index m) m.now)
    (λ x l e. let at = from_map (tree_root_item (new_ids m) m.options.nodesize) (trees_listed r) x l in kinds_apart x.0 t.0 (λ same. apart (sym same ∙ sym (ap (λ (i : Item). i.0.kind) at.2))) e) h

-- what holds of root items and of the others holds of all
pub roots_all : (m : Making) (r : TreeRoots) (P : Item → Type 0) → ((x : TreeRoot) → P (tree_root_item (new_ids m) m.options.nodesize x)) → AllByRecursion P (other_root_items (saved_index m) m.now) → All P (root_tree_items m r)
roots_all m r P roots others =
    all-merge item_cmp P (map (tree_root_item (new_ids m) m.options.nodesize) (rooted_trees r)) (other_root_items (saved_index m) m.now)
    (All-map P (tree_root_item (new_ids m) m.options.nodesize) (rooted_trees r) (λ i d h. roots (get_or (rooted_trees r) i d))) (All-from_recursion P (other_root_items (saved_index m) m.now) others)

module _ (image : Image) (m : Making) (made : IsMaking image m) where
  abbrev of : HasPieces m.volume image m.options m.plan m.pieces
  of = made.has_pieces

  abbrev src : Source
  src = s image m made

  -- what the root tree tells of the saved image's tree is read
  abbrev image_told : RootRefValue
  image_told = record { dirid = FIRST_FREE_OBJECTID; sequence = saved_index m; name = saved_name }

  pub ref_reads : root_ref_of (saved_ref (saved_index m)) ≡ Some image_told
  ref_reads = root_refs_read_back image_told (saved_fits (saved_index m) (index_small m.volume image root of.accepted of.opened))

  -- an entry of a directory is a link, or the root's last one
  pub data IsEntry (key : ObjectKey) (x : Indexed) : Type 0 where
    by_link : (f : Link) → Contains (names_in src.links key) f → indexed (kind_in src) src.keys f ≡ x → IsEntry key x
    by_image : key ≡ root → (next_index src.links key, saved_entry) ≡ x → IsEntry key x

  entry_at : (key : ObjectKey) (kind : Kind) (x : Indexed) → Contains (listed image m made key kind) x → IsEntry key x
  entry_at key Directory x h =
      ⊎_elim
      (λ (first : Contains (map (indexed (kind_in src) src.keys) (names_in src.links key)) x). let f = from_map (indexed (kind_in src) src.keys) (names_in src.links key) x first in by_link f.0 f.1 f.2)
      (λ (second : Contains (if same_key key root then (next_index src.links key, saved_entry) ∷ [] else []) x). last (same_key key root) refl second)
      (Contains-append_cases (map (indexed (kind_in src) src.keys) (names_in src.links key)) (if same_key key root then (next_index src.links key, saved_entry) ∷ [] else []) x h)
    where
      last : (b : Bool) → same_key key root ≡ b → Contains {X = Indexed} (if b then (next_index src.links key, saved_entry) ∷ [] else []) x → IsEntry key x
      last true is l =
          by_image (same_key-true key root is)
          (⊎_elim (λ (same : (next_index src.links key, saved_entry) ≡ x). same) (λ (later : Contains [] x). absurd (omega (arith, later.1))) (head_or_tail (next_index src.links key, saved_entry) [] x l))
      last false is l = absurd (omega (arith, l.1))
  entry_at key File x h = absurd (omega (arith, h.1))
  entry_at key Symlink x h = absurd (omega (arith, h.1))
  entry_at key Character x h = absurd (omega (arith, h.1))
  entry_at key Block x h = absurd (omega (arith, h.1))
  entry_at key Fifo x h = absurd (omega (arith, h.1))
  entry_at key Socket x h = absurd (omega (arith, h.1))
  entry_at key Subvolume x h = absurd (omega (arith, h.1))

  -- an entry of the tree
  pub record IsOfDirectory (e : IndexEntry) : Type 0 where
    pub key : ObjectKey
    pub among : Contains (keys m.volume.named) key
    pub x : Indexed
    pub is : index_by (ino_of src key) x ≡ e
    pub entry : IsEntry key x

  pub of_directory : (e : IndexEntry) → Contains (flat_map (indexes image m made) (objects image m made)) e → IsOfDirectory e
  of_directory e h =
      let at = from_flat_map (indexes image m made) (objects image m made) e h in
      let x = from_map (index_by (ino_of src at.0)) (listed image m made at.0 (kind_in src at.0)) e at.2 in
      record { key = at.0; among = from_order image m made at.0 at.1; x = x.0; is = x.2; entry = entry_at at.0 (kind_in src at.0) x.0 x.1 }

  module _ (nodes : Walked) (r : TreeRoots) where
    key_there : (key : ObjectKey) → Contains (keys m.volume.named) key → IsThere (tree image m made nodes) (ino_of src key)
    key_there key h = (inode_bytes (inode_in src key), inode_there src key h)

    target_there : (e : IndexEntry) (o : IsOfDirectory e) → names_inode_item e ≡ true → IsThere (tree image m made nodes) e.entry.location.objectid
    target_there e o t = by o.entry
      where
        by : IsEntry o.key o.x → IsThere (tree image m made nodes) e.entry.location.objectid
        by (by_link f h is) =
            let number : ino_of src f.link.target ≡ e.entry.location.objectid = ap (λ (y : Indexed). y.1.location.objectid) is ∙ ap (λ (y : IndexEntry). y.entry.location.objectid) o.is in
            subst (IsThere (tree image m made nodes)) number
            (key_there f.link.target (good_link m.volume image m.options m.plan m.pieces of f.link (link_among src.links f (is_in image m made o.key f h).entry)).target_known)
        by (by_image at is) =
            absurd (true≢false (sym t ∙ (sym (ap names_inode_item o.is) ∙ sym (ap (λ (y : Indexed). names_inode_item (index_by (ino_of src o.key) y)) is))))

    -- the saved image's tree
    saved_told : (e : IndexEntry) → e ≡ index_by FIRST_FREE_OBJECTID (next_index src.links root, saved_entry) → IsTreeEntry (root_tree_items m r) FS_TREE e
    saved_told e is =
        subst (IsTreeEntry (root_tree_items m r) FS_TREE) (sym is) (record {
          location = refl;
          ref = image_told;
          ref_is = refl;
          forth = (saved_ref (saved_index m), in_roots m r (make_key FS_TREE ROOT_REF CONV_IMAGE_SUBVOL, saved_ref (saved_index m)) (λ k. omega (arith, k)) (0, omega arith, refl), ref_reads);
          back = (saved_ref (saved_index m), in_roots m r (make_key CONV_IMAGE_SUBVOL ROOT_BACKREF FS_TREE, saved_ref (saved_index m)) (λ k. omega (arith, k)) (4, omega arith, refl), ref_reads);
        })

    trees_told : (e : IndexEntry) (o : IsOfDirectory e) → names_inode_item e ≡ false → IsTreeEntry (root_tree_items m r) FS_TREE e
    trees_told e o t = by o.entry
      where
        by : IsEntry o.key o.x → IsTreeEntry (root_tree_items m r) FS_TREE e
        by (by_link f h is) =
            absurd (true≢false (ap (λ (y : Indexed). names_inode_item (index_by (ino_of src o.key) y)) is ∙ (ap names_inode_item o.is ∙ t)))
        by (by_image at is) =
            let number : ino_of src o.key ≡ 256 = ap (ino_of src) at ∙ root_number m.volume image m.options m.plan m.pieces of in
            let same : (next_index src.links root, saved_entry) ≡ o.x = ap (λ (k : ObjectKey). let y : Indexed = (next_index src.links k, saved_entry) in y) (sym at) ∙ is in
            saved_told e (sym o.is ∙ (ap (λ (n : ℕ). index_by n o.x) number ∙ ap (index_by FIRST_FREE_OBJECTID) (sym same)))

    pub file_names : FilesAreHeld → InodesAreThere → HasBytes image → AreTreeNames (root_tree_items m r) (tree image m made nodes)
    file_names held there bytes =
        have_names (tree image m made nodes) (flat_map (indexes image m made) (objects image m made)) (flat_map (names image m made) (objects image m made)) (tells_tree image m made) (root_tree_items m r)
        (same_names image m made)
        (λ e h t. trees_told e (of_directory e h) t)
        (λ e h. let o = of_directory e h in (subst (IsThere (tree image m made nodes)) (ap (λ (y : IndexEntry). y.entry.dir) o.is) (key_there o.key o.among), λ t. target_there e o t))
        (inodes_told image m made nodes held there bytes)
