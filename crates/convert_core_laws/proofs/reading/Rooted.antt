-- Each tree is found by its root item.
use Rattle.convert_core_laws.proofs.Imports.{◌≡◌, ◌≤◌, ◌<◌, ℕ, ◌*◌, ◌^◌, eqb, Bool, true, false, ◌&&◌, ◌||◌, List, [], ◌∷◌, length, map, replicate, Option, Some, None, refl, ap, ◌∙◌, arith, if◌then◌else◌, codes, pos, list_any, option_and_then, option_map, le-ltb, or_left, or_right, w64, fits_signed_from_abs, mul-le, length-replicate, ROOT_BACKREF, ROOT_ITEM, ROOT_REF, CONV_IMAGE_SUBVOL, CSUM_TREE, DATA_RELOC_TREE, DEV_TREE, EXTENT_TREE, FS_TREE, ROOT_TREE_DIR_OBJECTID, DIRECTORY_MODE, Ids, inode_layout, key_layout, make_key, stamp_layout, has_root, is_root_of, Item, last_or, pointer_of, root_item, root_pointer as read_pointer, root_items_read_back, TreeItem, bare_item, TreeRoots, rooted_trees, AreIds, default_item, root_body, root_dirid, root_items, tree_root_item as item_of_root, saved_ref, tree_uuid, TreeRoot, pointer_to_root, inode_item, inode_made, ref_item, Files, SavedImage, Relocation, Checksums, Devices, NewTree, tree_number, root_item_bytes, root_item_layout, root_item_of, RootItem}
use Rattle.convert_core.specs.space_items.Roots.{is_file_tree}

-- ---- what a root item leads to

-- the root item of a tree fits
body_fits : (ids : Ids) (nodesize : ℕ) (r : TreeRoot) → AreIds ids → nodesize ≤ 65536 → r.root.address < 2 ^ 64 → r.root.level ≤ 7 → r.root.nodes ≤ 2 ^ 40 → root_item_layout.fits (root_body ids nodesize r)
unfolding root_item_layout inode_layout stamp_layout key_layout
body_fits ids nodesize r are small address low few =
    let inode : inode_layout.fits (root_body ids nodesize r).inode =
    ((((((((((((((((tt, omega arith), omega arith), omega arith), omega (arith, small)), omega arith), omega arith), omega arith), omega arith), omega arith), omega arith), omega arith), omega arith), time), time), time), time) in
    ((((((((((((((((((((((((tt, inode), omega arith), dirid r.tree), omega (arith, address)), omega arith), bytes nodesize r.root.nodes small few), omega arith), omega arith), omega arith), (((tt, omega arith), omega arith), omega arith)), omega arith), omega (arith, low)), omega arith), uuid r.tree), length-replicate {A = ℕ} 16 0), length-replicate {A = ℕ} 16 0), omega arith), omega arith), omega arith), omega arith), time), time), time), time)
  where
    time : stamp_layout.fits (record { sec = pos 0; nsec = 0 })
    time = ((tt, fits_signed_from_abs w64 (pos 0) (omega arith)), omega arith)

    dirid : (tree : ℕ) → root_dirid tree < 256 ^ 8
    dirid tree = by (is_file_tree tree)
      where
        by : (b : Bool) → (if b then 256 else 0) < 256 ^ 8
        by true = omega arith
        by false = omega arith

    bytes : (n k : ℕ) → n ≤ 65536 → k ≤ 2 ^ 40 → n * k < 256 ^ 8
    bytes n k a b = let most = mul-le n k 65536 (2 ^ 40) a b in omega (arith, most)

    uuid : (tree : ℕ) → length (tree_uuid ids tree) ≡ 16
    uuid tree = by (eqb tree 256)
      where
        by : (b : Bool) → length (if b then ids.subvolume else replicate 16 0) ≡ 16
        by true = are.subvolume
        by false = length-replicate {A = ℕ} 16 0

pub low_pointer : (r : RootItem) → r.level ≤ 7 → read_pointer r ≡ Some (record { address = r.bytenr; level = r.level; generation = r.generation })
low_pointer r low = ap (λ (b : Bool). if b then None else Some (record { address = r.bytenr; level = r.level; generation = r.generation })) (le-ltb 7 r.level low)

pub root_reads : (ids : Ids) (nodesize : ℕ) (r : TreeRoot) → AreIds ids → nodesize ≤ 65536 → r.root.address < 2 ^ 64 → r.root.level ≤ 7 → r.root.nodes ≤ 2 ^ 40
    → root_item_of (root_item_bytes (root_body ids nodesize r)) ≡ Some (root_body ids nodesize r)
root_reads ids nodesize r are small address low few = root_items_read_back (root_body ids nodesize r) (body_fits ids nodesize r are small address low few)

-- ---- the items of the root tree, one after the other

abbrev in_order : TreeRoots → ℕ → Ids → ℕ → ℕ → List Item
in_order r index ids now nodesize =
    item_of_root ids nodesize (record { tree = EXTENT_TREE; root = r.extents })
    ∷ (item_of_root ids nodesize (record { tree = DEV_TREE; root = (r.tree Devices) })
    ∷ (item_of_root ids nodesize (record { tree = FS_TREE; root = r.tree Files })
    ∷ ((make_key FS_TREE ROOT_REF CONV_IMAGE_SUBVOL, saved_ref index)
    ∷ (inode_item ROOT_TREE_DIR_OBJECTID (inode_made now DIRECTORY_MODE 0 0 0)
    ∷ (ref_item ROOT_TREE_DIR_OBJECTID ROOT_TREE_DIR_OBJECTID 0 (codes "..")
    ∷ (default_item
    ∷ (item_of_root ids nodesize (record { tree = CSUM_TREE; root = (r.tree Checksums) })
    ∷ (item_of_root ids nodesize (record { tree = CONV_IMAGE_SUBVOL; root = (r.tree SavedImage) })
    ∷ ((make_key CONV_IMAGE_SUBVOL ROOT_BACKREF FS_TREE, saved_ref index)
    ∷ (item_of_root ids nodesize (record { tree = DATA_RELOC_TREE; root = (r.tree Relocation) }) ∷ []))))))))))

pub order_is : (r : TreeRoots) (index : ℕ) (ids : Ids) (now nodesize : ℕ) → root_items (rooted_trees r) index ids now nodesize ≡ in_order r index ids now nodesize
order_is r index ids now nodesize = refl

-- the root item of a tree among items without their leaves
abbrev is_root : ℕ → Item → Bool
is_root number i = eqb i.0.objectid number && eqb i.0.kind ROOT_ITEM

abbrev last_of : Option Item → Option Item → Option Item
last_of None first = first
last_of (Some i) first = Some i

abbrev bare_root : ℕ → List Item → Option Item
bare_root number [] = None
bare_root number (i ∷ items) = last_of (bare_root number items) (if is_root number i then Some i else None)

bare_is : (number : ℕ) (items : List TreeItem) → option_map bare_item (root_item number items) ≡ bare_root number (map bare_item items)
bare_is number [] = refl
bare_is number (i ∷ items) = by (root_item number items) (is_root_of number i) ∙ ap (λ (o : Option Item). last_of o (if is_root_of number i then Some (bare_item i) else None)) (bare_is number items)
  where
    by : (o : Option TreeItem) (b : Bool) → option_map bare_item (last_or o (if b then Some i else None)) ≡ last_of (option_map bare_item o) (if b then Some (bare_item i) else None)
    by None true = refl
    by None false = refl
    by (Some j) b = refl

-- the item that is found
pub record IsFoundRoot (number : ℕ) (items : List TreeItem) (x : Item) : Type 0 where
  pub item : TreeItem
  pub has : root_item number items ≡ Some item
  pub is : bare_item item ≡ x

found_by : (o : Option TreeItem) (x : Item) → option_map bare_item o ≡ Some x → (i : TreeItem) × (o ≡ Some i) × (bare_item i ≡ x)
found_by None x e = absurd (cc e)
found_by (Some i) x e = (i, refl, cc e)

find : (number : ℕ) (items : List TreeItem) (x : Item) → bare_root number (map bare_item items) ≡ Some x → IsFoundRoot number items x
find number items x e = let at = found_by (root_item number items) x (bare_is number items ∙ e) in record { item = at.0; has = at.1; is = at.2 }

-- a tree that has a root item is one of those that are named
pub named : (number : ℕ) (items : List TreeItem) (i : TreeItem) → root_item number items ≡ Some i → has_root items number ≡ true
named number [] i e = absurd (cc e)
named number (j ∷ items) i e = by (root_item number items) (named number items) refl (is_root_of number j) refl e
  where
    by : (o : Option TreeItem) → ((k : TreeItem) → root_item number items ≡ Some k → has_root items number ≡ true) → root_item number items ≡ o → (b : Bool) → is_root_of number j ≡ b → last_or o (if b then Some j else None) ≡ Some i
        → (is_root_of number j || list_any (is_root_of number) items) ≡ true
    by o later is true t e = or_left (is_root_of number j) _ t
    by None later is false t e = absurd (cc e)
    by (Some k) later is false t e = or_right (is_root_of number j) _ (later k is)

module _ (r : TreeRoots) (index : ℕ) (ids : Ids) (now nodesize : ℕ) (items : List TreeItem) (are : map bare_item items ≡ root_items (rooted_trees r) index ids now nodesize) where
  found_in : (number : ℕ) (x : Item) → bare_root number (in_order r index ids now nodesize) ≡ Some x → IsFoundRoot number items x
  found_in number x e = find number items x (ap (bare_root number) (are ∙ order_is r index ids now nodesize) ∙ e)

  pub extents_found : IsFoundRoot EXTENT_TREE items (item_of_root ids nodesize (record { tree = EXTENT_TREE; root = r.extents }))
  extents_found = found_in EXTENT_TREE _ refl

  -- each tree of the list
  pub tree_found : (t : NewTree) → IsFoundRoot (tree_number t) items (item_of_root ids nodesize (record { tree = tree_number t; root = r.tree t }))
  tree_found Files = found_in FS_TREE _ refl
  tree_found SavedImage = found_in CONV_IMAGE_SUBVOL _ refl
  tree_found Relocation = found_in DATA_RELOC_TREE _ refl
  tree_found Checksums = found_in CSUM_TREE _ refl
  tree_found Devices = found_in DEV_TREE _ refl
