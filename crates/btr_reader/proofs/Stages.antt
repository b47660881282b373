-- The steps on the way to the saved image.
use Rattle.btr_reader.proofs.Imports.{◌≡◌, ⊎_elim, ℕ, true, List, [], ◌∷◌, ◌++◌, length, codes, if◌then◌else◌, Option, Some, None, Result, Ok, Err, refl, sym, ◌∙◌, ap, subst, arith, option_and_then, FS_TREE, Image, BtrAnswer, Refused, Fault, Memory, BtrRefusal, BadBtrfs, Body, inode_of, Inode, Key, Super, MapRange, NodePointer, Tree, TreeItem, found, wrong, extents_of, extents_refusals, ImageFile, is_file_mode, is_called, entry_named, image_entry, saved_location, pointer_in, tree_number, inode_number, file_if_image, image_at, image_in, items_at, image_below, saved_image, entry_refusals, after_pointer, after_root, if_there, own_refusals, file_refusals, image_refusals_in, refusals_below, saved_refusals, image_refusals, find_inode_item, dir_indexes, ChunkAt, tree_of, root_tree, boot_chunks, boot_list, boot_refusals, map_from, or_later, trees_refusals, IsBtrfsOpened, IsAmong, MapsImage, FindsTree, FindsNumbered, FindsSaved, FindsFile, ReadsImage, root_item, pointer_of, roots_on}
use Rattle.btr_reader.specs.declared.image_map.ImageMap.{ImageMap}
use Rattle.btr_reader.proofs.Among.{among_first, among_later}
use Rattle.btr_reader.proofs.Opens.{opening_is}

-- the same answer, of the same image and refusals
reads_as : (ranges : List MapRange) (file other : Option ImageFile) (refusals others : List BtrRefusal) (result : Result (Option ImageMap) BtrAnswer) → file ≡ other → refusals ≡ others
    → ReadsImage ranges file refusals result → ReadsImage ranges other others result
reads_as ranges file other refusals others result is same reads =
    subst (λ (z : List BtrRefusal). ReadsImage ranges other z result) same (subst (λ (f : Option ImageFile). ReadsImage ranges f refusals result) is reads)

-- an inode item that is off its grammar
pub inode_off : (ranges : List MapRange) (items : List TreeItem) (ino : ℕ) (item : Option TreeItem) (e : BtrAnswer) → FindsFile item (Err e) → IsAmong (file_refusals ranges items ino item) e
inode_off ranges items ino None (Refused r) finds = absurd finds
inode_off ranges items ino None Fault finds = tt
inode_off ranges items ino None Memory finds = tt
inode_off ranges items ino (Some i) (Refused r) (none, is) =
    subst (λ (o : Option Inode). IsAmong (own_refusals ranges (extents_of items ino) i.leaf o) (Refused r)) (sym none)
    (subst (λ (x : BtrRefusal). IsAmong (BadBtrfs i.leaf Body ∷ []) (Refused x)) (sym is) (0, omega arith, refl))
inode_off ranges items ino (Some i) Fault finds = tt
inode_off ranges items ino (Some i) Memory finds = tt

-- a root item that is off its grammar
pub root_item_refused : (s : Super) (number : ℕ) (next : NodePointer → List BtrRefusal) (root : Option TreeItem) (e : BtrAnswer) → FindsTree s number root (Err e) → IsAmong (after_root next root) e
root_item_refused s number next root (Refused r) (i, is, none, off) =
    subst (λ (z : List BtrRefusal). IsAmong z (Refused r)) (sym (ap (after_root next) is ∙ ap (after_pointer next i.leaf) none))
    (subst (λ (x : BtrRefusal). IsAmong (BadBtrfs i.leaf Body ∷ []) (Refused x)) (sym off) (0, omega arith, refl))
root_item_refused s number next root Fault finds = tt
root_item_refused s number next root Memory finds = tt

-- a tree that is there
after_there : (next : NodePointer → List BtrRefusal) (root : Option TreeItem) (i : TreeItem) (p : NodePointer) → root ≡ Some i → pointer_of i.body ≡ Some p → after_root next root ≡ next p
after_there next root i p is read = ap (after_root next) is ∙ ap (after_pointer next i.leaf) read

image_there : (next : NodePointer → Option ImageFile) (root : Option TreeItem) (i : TreeItem) (p : NodePointer) → root ≡ Some i → pointer_of i.body ≡ Some p → option_and_then next (pointer_in root) ≡ next p
image_there next root i p is read = ap (λ (o : Option TreeItem). option_and_then next (pointer_in o)) is ∙ ap (option_and_then next) read

none_first : (xs ys : List BtrRefusal) → xs ++ ys ≡ [] → xs ≡ []
none_first [] ys h = refl
none_first (x ∷ xs) ys h = absurd (cc h)

-- the image in a tree
pub saved_read : (image : Image) (ranges slice : List MapRange) (tree : Tree) (key : Option Key) (name : List ℕ) (ino : ℕ) (result : Result (Option ImageMap) BtrAnswer) → slice ≡ ranges → name ≡ codes "image"
    → key ≡ entry_named (is_called name) (dir_indexes (found image slice tree)) → entry_refusals image slice tree ≡ [] → option_and_then inode_number key ≡ Some ino
    → ((items : List TreeItem) → found image ranges tree ≡ items → wrong image ranges tree ≡ []
    → ReadsImage ranges (image_at items ino (find_inode_item items ino)) (file_refusals ranges items ino (find_inode_item items ino)) result)
    → ReadsImage ranges (image_in (found image ranges tree)) (saved_refusals image ranges tree) result
saved_read image ranges slice tree key name ino result same name_is key_is none number_is reads =
    let items : List TreeItem = found image ranges tree in
    let right : entry_refusals image ranges tree ≡ [] = subst (λ (r : List MapRange). entry_refusals image r tree ≡ []) same none in
    let key_at : key ≡ image_entry items =
    key_is
    ∙ (ap (λ (n : List ℕ). entry_named (is_called n) (dir_indexes (found image slice tree))) name_is
    ∙ ap (λ (r : List MapRange). image_entry (found image r tree)) same) in
    let named : option_and_then inode_number (image_entry items) ≡ Some ino = ap (option_and_then inode_number) (sym key_at) ∙ number_is in
    reads_as ranges (image_at items ino (find_inode_item items ino)) (image_in items) (file_refusals ranges items ino (find_inode_item items ino)) (saved_refusals image ranges tree) result
    (sym (ap (option_and_then (λ n. image_at items n (find_inode_item items n))) named))
    (sym (ap (λ (z : List BtrRefusal). or_later z (image_refusals_in ranges items)) right ∙ ap (if_there (λ n. file_refusals ranges items n (find_inode_item items n))) named))
    (reads items refl (none_first (wrong image ranges tree) _ right))

-- the same, of what is wrong with its entries
pub saved_entry_refused : (image : Image) (ranges slice : List MapRange) (tree : Tree) (e : BtrAnswer) → slice ≡ ranges → IsAmong (entry_refusals image slice tree) e → IsAmong (saved_refusals image ranges tree) e
saved_entry_refused image ranges slice tree e same bad =
    among_first (entry_refusals image ranges tree) (image_refusals_in ranges (found image ranges tree)) e (subst (λ (r : List MapRange). IsAmong (entry_refusals image r tree) e) same bad)

-- ---- from the file tree to the tree of the saved image
module _ (image : Image) (s : Super) (ranges : List MapRange) where
  abbrev roots : List TreeItem
  roots = roots_on image s ranges

  abbrev below : ℕ → List BtrRefusal
  below number = refusals_below image s ranges number (root_item number roots)

  abbrev image_of : ℕ → Option ImageFile
  image_of number = image_below image s ranges number (root_item number roots)

  abbrev number_in : List TreeItem → Option ℕ
  number_in items = option_and_then tree_number (saved_location items)

  -- what comes after the pointer to a tree: the file tree, and the tree of the saved image
  abbrev after_file : NodePointer → List BtrRefusal
  after_file p = or_later (entry_refusals image ranges (tree_of s FS_TREE p)) (if_there below (number_in (items_at image s ranges FS_TREE p)))

  abbrev after_saved : ℕ → NodePointer → List BtrRefusal
  after_saved number p = saved_refusals image ranges (tree_of s number p)

  -- the root item of the file tree is off its grammar
  pub file_tree_refused : (e : BtrAnswer) → FindsTree s FS_TREE (root_item FS_TREE roots) (Err e) → IsAmong (image_refusals image s ranges) e
  file_tree_refused e finds = root_item_refused s FS_TREE after_file (root_item FS_TREE roots) e finds

  number_refused : (o : Option ℕ) (e : BtrAnswer) → FindsNumbered s roots o (Err e) → IsAmong (if_there below o) e
  number_refused None e finds = absurd (cc finds)
  number_refused (Some number) e finds = root_item_refused s number (after_saved number) (root_item number roots) e finds

  none_numbered : (o : Option ℕ) → FindsNumbered s roots o (Ok None) → (option_and_then image_of o ≡ None) × (if_there below o ≡ [])
  none_numbered None finds = (refl, refl)
  none_numbered (Some number) finds = (ap (λ (root : Option TreeItem). image_below image s ranges number root) finds, ap (λ (root : Option TreeItem). refusals_below image s ranges number root) finds)

  number_read : (o : Option ℕ) (saved : Tree) (result : Result (Option ImageMap) BtrAnswer) → FindsNumbered s roots o (Ok (Some saved))
      → ReadsImage ranges (image_in (found image ranges saved)) (saved_refusals image ranges saved) result → ReadsImage ranges (option_and_then image_of o) (if_there below o) result
  number_read None saved result finds reads = absurd (cc finds)
  number_read (Some number) saved result (i, p, is, read, tree_is) reads =
      reads_as ranges (image_in (found image ranges saved)) (image_of number) (saved_refusals image ranges saved) (below number) result
      (ap (λ (t : Tree). image_in (found image ranges t)) tree_is ∙ sym (image_there (λ q. image_in (items_at image s ranges number q)) (root_item number roots) i p is read))
      (ap (λ (t : Tree). saved_refusals image ranges t) tree_is ∙ sym (after_there (after_saved number) (root_item number roots) i p is read)) reads

  module _ (file : Tree) (there : FindsTree s FS_TREE (root_item FS_TREE roots) (Ok (Some file))) where
    -- what is wrong with the file tree or behind it
    in_way : (e : BtrAnswer) → IsAmong (or_later (entry_refusals image ranges file) (if_there below (number_in (found image ranges file)))) e → IsAmong (image_refusals image s ranges) e
    in_way e among =
        subst (λ (z : List BtrRefusal). IsAmong z e) (sym (after_there after_file (root_item FS_TREE roots) there.0 there.1 there.2 there.3))
        (subst (λ (t : Tree). IsAmong (or_later (entry_refusals image ranges t) (if_there below (number_in (found image ranges t)))) e) there.4 among)

    pub saved_refused : (e : BtrAnswer) → FindsSaved s roots (entry_refusals image ranges file) (found image ranges file) (Err e) → IsAmong (image_refusals image s ranges) e
    saved_refused e finds =
        let own : List BtrRefusal = entry_refusals image ranges file in
        let later : List BtrRefusal = if_there below (number_in (found image ranges file)) in
        in_way e
        (⊎_elim (λ early. among_first own later e (subst (IsAmong own) (sym (err_is e early.0 early.1)) early.2)) (λ late. among_later own later e late.0 (number_refused (number_in (found image ranges file)) e late.1)) finds)
      where
        err_is : (x y : BtrAnswer) → (let told : Result (Option Tree) BtrAnswer = Err x in told) ≡ Err y → x ≡ y
        err_is x y h = cc h

    -- nothing is wrong with the entries of the file tree
    behind_file : (result : Result (Option ImageMap) BtrAnswer) → entry_refusals image ranges file ≡ []
        → ReadsImage ranges (option_and_then image_of (number_in (found image ranges file))) (if_there below (number_in (found image ranges file))) result
        → ReadsImage ranges (saved_image image s ranges) (image_refusals image s ranges) result
    behind_file result clear reads =
        let later : List BtrRefusal = if_there below (number_in (found image ranges file)) in
        reads_as ranges (option_and_then image_of (number_in (found image ranges file))) (saved_image image s ranges) later (image_refusals image s ranges) result
        (ap (λ (t : Tree). option_and_then image_of (number_in (found image ranges t))) there.4
        ∙ sym (image_there (λ q. option_and_then image_of (number_in (items_at image s ranges FS_TREE q))) (root_item FS_TREE roots) there.0 there.1 there.2 there.3))
        (sym (ap (λ (z : List BtrRefusal). or_later z later) clear)
        ∙ (ap (λ (t : Tree). or_later (entry_refusals image ranges t) (if_there below (number_in (found image ranges t)))) there.4 ∙ sym (after_there after_file (root_item FS_TREE roots) there.0 there.1 there.2 there.3))) reads

    -- the tree of the saved image is not there
    pub none_saved : FindsSaved s roots (entry_refusals image ranges file) (found image ranges file) (Ok None) → ReadsImage ranges (saved_image image s ranges) (image_refusals image s ranges) (Ok None)
    none_saved finds =
        ⊎_elim (λ early. absurd (cc (early.1)))
        (λ late. (let none = none_numbered (number_in (found image ranges file)) late.1 in
        behind_file (Ok None) late.0 (reads_as ranges None (option_and_then image_of (number_in (found image ranges file))) [] (if_there below (number_in (found image ranges file))) (Ok None) (sym none.0) (sym none.1) (tt, refl)))) finds

    -- it is
    pub top_read : (saved : Tree) (result : Result (Option ImageMap) BtrAnswer) → FindsSaved s roots (entry_refusals image ranges file) (found image ranges file) (Ok (Some saved))
        → ReadsImage ranges (image_in (found image ranges saved)) (saved_refusals image ranges saved) result → ReadsImage ranges (saved_image image s ranges) (image_refusals image s ranges) result
    top_read saved result finds reads =
        ⊎_elim (λ early. absurd (cc (early.1))) (λ late. behind_file result late.0 (number_read (number_in (found image ranges file)) saved result late.1 reads)) finds

pub later_none : (xs ys : List BtrRefusal) → or_later xs ys ≡ [] → ys ≡ []
later_none [] ys h = h
later_none (x ∷ xs) ys h = absurd (cc h)
