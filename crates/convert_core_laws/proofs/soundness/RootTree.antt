-- What the root tree of a converted volume has of files: its directory, with the entry `default`.
use Rattle.convert_core_laws.proofs.Imports.{◌≡◌, ◌<◌, ℕ, ◌^◌, inl, eqb, true, List, [], ◌∷◌, map, filter, Option, Some, refl, sym, ap, subst, ◌∙◌, ⊎_elim, arith, inr, false, ◌⊎◌, All, Contains, append-nil, eqb-true, All-cons, All-nil, DIR_ITEM, EXTENT_DATA, INODE_ITEM, ROOT_TREE_DIR_OBJECTID, from_filter, from_flat_map, Image, Inode, Item, inode_bytes, inode_of, make_key, DirEntryValue, dir_entry_bytes, dir_items_of, dir_items_read_back, HasInode, KeepsFields, NamedEntry, entry_of, hashed_entries, or_none, IsEntry, IsInodeNumber, IsOnForm, Recount, of_kind, has_tree, Making, TreeRoots, root_tree_items, TreeNode, all_at, all_from_contains, contains_cases, default_item, inode_item, recount_for, super_for}
use Rattle.btr_check_rules.specs.RootFiles.{AreRootFiles, NamesTree, is_root_file}
use Rattle.btr_reader.specs.castagnoli.Castagnoli.{name_hash}
use Rattle.convert_core_laws.proofs.soundness.Entered.{in_roots, roots_all}
use Rattle.convert_core_laws.proofs.soundness.FileExtents.{no_extents}
use Rattle.convert_core_laws.proofs.soundness.Fits.{default_fits, default_value}
use Rattle.convert_core_laws.proofs.soundness.KeptFiles.{extents_kept}
use Rattle.convert_core_laws.proofs.soundness.Lists.{filter_none}
use Rattle.convert_core_laws.proofs.soundness.Objects.{own_fits, own_ref}
use Rattle.convert_core_laws.proofs.soundness.Recounting.{without_holes}
use Rattle.convert_core_laws.proofs.soundness.Small.{root_inode, root_reads, some_inode}
use Rattle.convert_core_laws.proofs.soundness.Telling.{told_inode, told_ref}

module _ (image other : Image) (m : Making) (r : TreeRoots) (nodes : List TreeNode) (low : m.now < 2 ^ 63) where
  abbrev k : Recount
  k = recount_for image other m r nodes

  abbrev items : List Item
  items = root_tree_items m r

  -- ---- the directory

  abbrev own : Inode
  own = root_inode m.now []

  abbrev own_item : Item
  own_item = inode_item ROOT_TREE_DIR_OBJECTID (root_inode m.now [])

  own_reads : inode_of (inode_bytes own) ≡ Some own
  own_reads = root_reads m.now [] low (omega arith)

  own_keeps : KeepsFields (super_for m r nodes) own
  own_keeps = record {
    kind = refl;
    bits = omega arith;
    generation = (omega arith, omega arith);
    flags = refl;
    sums = λ is. absurd (cc is);
    symlink = λ is. refl;
    directory = λ is. omega arith;
  }

  abbrev IsOwn : Item → Type 0
  IsOwn i = i.0.kind ≡ INODE_ITEM → own_item ≡ i

  only_own : All IsOwn items
  only_own = roots_all m r IsOwn (λ x e. absurd (omega (arith, e))) ((λ e. absurd (omega (arith, e))), ((λ e. refl), ((λ e. absurd (omega (arith, e))), ((λ e. absurd (omega (arith, e))), ((λ e. absurd (omega (arith, e))), tt)))))

  inodes : (ino : ℕ) (inode : Inode) → HasInode k.root_tree ino inode → ((ino ≡ ROOT_TREE_DIR_OBJECTID) ⊎ IsInodeNumber ino) × KeepsFields k.super inode
  inodes ino inode has =
      let is : own_item ≡ (make_key ino INODE_ITEM 0, has.body) = all_at IsOwn items (make_key ino INODE_ITEM 0, has.body) only_own has.there refl in
      let number : 6 ≡ ino = ap (λ (i : Item). i.0.objectid) is in
      let same : own ≡ inode = some_inode own inode (sym own_reads ∙ (ap (λ (i : Item). inode_of i.1) is ∙ has.reads)) in
      (inl (sym number), subst (KeepsFields (super_for m r nodes)) same own_keeps)

  -- ---- the entry `default`

  default_reads : dir_items_of default_item.1 ≡ Some (default_value ∷ [])
  default_reads = ap dir_items_of (sym (append-nil (dir_entry_bytes default_value))) ∙ dir_items_read_back default_value [] (default_fits, tt)

  abbrev StandsThere : DirEntryValue → Type 0
  StandsThere v = (name_hash v.name ≡ default_item.0.offset) × IsEntry v

  default_form : IsOnForm default_item
  default_form = record {
    kind = refl;
    inode = λ e. absurd (omega (arith, e));
    refs = λ e. absurd (omega (arith, e));
    extrefs = λ e. absurd (omega (arith, e));
    attributes = λ e. absurd (omega (arith, e));
    hashed = λ e. (default_value ∷ [], default_reads, All-cons StandsThere default_value [] (refl, record { data_ = refl; kind = (omega arith, omega arith); target = inr (refl, refl) }) (All-nil StandsThere));
    indexed = λ e. absurd (omega (arith, e));
    extent = λ e. absurd (omega (arith, e));
  }

  abbrev IsDefault : Item → Type 0
  IsDefault i = i.0.kind ≡ DIR_ITEM → default_item ≡ i

  only_default : All IsDefault items
  only_default = roots_all m r IsDefault (λ x e. absurd (omega (arith, e))) ((λ e. absurd (omega (arith, e))), ((λ e. absurd (omega (arith, e))), ((λ e. absurd (omega (arith, e))), ((λ e. refl), ((λ e. absurd (omega (arith, e))), tt)))))

  default_named : All (NamesTree k) (hashed_entries k.root_tree)
  default_named =
      all_from_contains (NamesTree k) (hashed_entries k.root_tree) (λ e h named.
      let at = from_flat_map (λ (i : Item). map (entry_of i) (or_none (dir_items_of i.1))) (of_kind DIR_ITEM items) e h in
      let kept = from_filter (λ (i : Item). eqb i.0.kind DIR_ITEM) items at.0 at.1 in
      let is : default_item ≡ at.0 = all_at IsDefault items at.0 only_default kept.0 (eqb-true at.0.0.kind DIR_ITEM kept.1) in
      let one : Contains (map (entry_of default_item) (default_value ∷ [])) e =
      subst (λ (o : Option (List DirEntryValue)). Contains (map (entry_of default_item) (or_none o)) e) default_reads
      (subst (λ (i : Item). Contains (map (entry_of i) (or_none (dir_items_of i.1))) e) (sym is) at.2) in
      let same : entry_of default_item default_value ≡ e =
      ⊎_elim (λ (s : entry_of default_item default_value ≡ e). s) (λ (none : Contains [] e). absurd (omega (arith, none.1))) (contains_cases e (entry_of default_item default_value) [] one) in
      subst (λ (x : NamedEntry). has_tree k x.location.objectid ≡ true) same refl)

  -- ---- all of it

  abbrev FileOnForm : Item → Type 0
  FileOnForm i = is_root_file i ≡ true → IsOnForm i

  on_form : All FileOnForm items
  on_form =
      roots_all m r FileOnForm (λ x is. absurd (cc is))
      ((λ is. absurd (cc is)), ((λ is. (told_inode ROOT_TREE_DIR_OBJECTID own).forms.0), ((λ is. (told_ref ROOT_TREE_DIR_OBJECTID ROOT_TREE_DIR_OBJECTID own_ref own_fits).forms.0), ((λ is. default_form), ((λ is. absurd (cc is)), tt)))))

  none_kept : of_kind EXTENT_DATA items ≡ []
  none_kept = filter_none (λ (i : Item). eqb i.0.kind EXTENT_DATA) items (roots_all m r (λ i. eqb i.0.kind EXTENT_DATA ≡ false) (λ x. refl) (refl, (refl, (refl, (refl, (refl, tt))))))

  pub root_files : AreRootFiles k
  root_files = record {
    directory = (inode_bytes own, in_roots m r own_item (λ e. omega (arith, e)) (1, omega arith, refl));
    forms = all_from_contains IsOnForm (filter is_root_file items) (λ i h. let kept = from_filter is_root_file items i h in all_at FileOnForm items i on_form kept.0 kept.1);
    inodes = inodes;
    extents = extents_kept k k.root_tree (no_extents (super_for m r nodes) (without_holes m r nodes) k.root_tree none_kept);
    default = default_named;
  }
