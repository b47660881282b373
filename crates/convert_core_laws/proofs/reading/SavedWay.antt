-- The way to the saved image of a converted volume.
use Rattle.convert_core_laws.proofs.Imports.{◌≡◌, ◌<◌, ℕ, ◌-◌, ◌^◌, eqb, true, List, [], ◌∷◌, ◌++◌, map, Option, Some, refl, sym, ap, subst, ◌∙◌, ⊎_elim, arith, Contains, codes, if◌then◌else◌, unwrap_or, flat_map, option_and_then, Contains-append_left, Contains-append_right, ROOT_ITEM, CONV_IMAGE_SUBVOL, FIRST_FREE_OBJECTID, FS_TREE, from_map, in_map, Image, BtrRefusal, Ids, make_key, Key, names_tree, dir_indexes, has_root, DirIndex, after_pointer, after_root, entry_refusals, if_there, image_below, image_in, image_refusals_in, items_at, pointer_in, refusals_below, root_refusals, saved_location as entry_of_saved, image_from, or_later, tree_of, own_map, own_super, way_refusals, root_item, roots_on, Super, Root, Item, TreeItem, bare_item, found, MapRange, NodePointer, IsMaking, Making, made_from, file_tree_items, image_tree_items, TreeRoots, Indexed, entry_to, indexed_in, names_in, next_index, saved_entry, Source, kind_in, ino_of, stat_in, EntriesAreThere, naming_by, namings_by, unplaced, ImageKeysAscend, root_first, Kind, Directory, File, ino_of_key, root, same_key, IsDirectory, ObjectStat, kind_by, no_stat, by_inode, volume_items, TreeNode, pointer_to_root, Options, IsReadableWithTrees, IsNewVolume, ReadsTree, HasSavedImage, KeepsFileNames, ReadsSavedImage, SavedImageIsReadable, Files, SavedImage}
use Rattle.btr_reader.specs.Image.{tree_number}
use Rattle.convert_core_laws.proofs.reading.Reading.{none_of, readable}
use Rattle.convert_core_laws.proofs.reading.RootKept.{root_sound, saved_found}
use Rattle.convert_core_laws.proofs.reading.Saved.{has_image}
use Rattle.convert_core_laws.proofs.reading.Named.{tree_read}

-- the root directory's entry for the tree of the saved image
pub record HasSavedEntry (items : List TreeItem) : Type 0 where
  pub entry : DirIndex
  pub among : Contains (dir_indexes items) entry
  pub dir : entry.dir ≡ FIRST_FREE_OBJECTID
  pub name : entry.name ≡ codes "reiserfs_saved"
  pub location : entry.location ≡ make_key CONV_IMAGE_SUBVOL ROOT_ITEM (2 ^ 64 - 1)

module _ (image : Image) (m : Making) (made : IsMaking image m) (entries : EntriesAreThere) (items : List TreeItem) (are : map bare_item items ≡ file_tree_items image m) where
  abbrev s : Source
  s = made_from m.volume image m.options m.pieces

  root_kind : kind_in s root ≡ Directory
  root_kind =
      let is : IsDirectory (volume_items image) root = made.has_pieces.accepted.objects.root_directory in
      let stat : stat_in s root ≡ is.stat = ap (λ (o : Option ObjectStat). unwrap_or o no_stat) is.has_stat in
      ap kind_by stat ∙ ap (λ (o : Option Kind). unwrap_or o File) is.known

  -- the last entry of the root directory
  abbrev last : Indexed
  last = (next_index s.links root, saved_entry)

  last_in : Contains (indexed_in (kind_in s) s.keys s.links root) last
  last_in =
      Contains-append_right (map (λ e. (e.index, entry_to (ino_of_key s.keys e.link.target) (kind_in s e.link.target) e.link.name)) (names_in s.links root))
      (if same_key root root then (next_index s.links root, saved_entry) ∷ [] else []) last (0, omega arith, refl)

  pub saved_there : HasSavedEntry items
  saved_there =
      let own : DirIndex = naming_by (ino_of s root) last in
      let first : Contains (map (naming_by (ino_of s root)) (indexed_in (kind_in s) s.keys s.links root)) own = in_map (naming_by (ino_of s root)) (indexed_in (kind_in s) s.keys s.links root) last last_in in
      let of_root : Contains (namings_by s root (kind_in s root)) own = subst (λ (k : Kind). Contains (namings_by s root k) own) (sym root_kind) first in
      let all : Contains (flat_map (λ key. namings_by s key (kind_in s key)) (by_inode s.keys)) own = Contains-append_left (namings_by s root (kind_in s root)) _ own of_root in
      let told : Contains (map unplaced (dir_indexes items)) own = subst (λ (l : List DirIndex). Contains l own) (sym (entries m.volume image m.options m.plan m.pieces items made.has_pieces are)) all in
      let at = from_map unplaced (dir_indexes items) own told in
      record {
        entry = at.0;
        among = at.1;
        dir = ap (λ (n : DirIndex). n.dir) at.2 ∙ root_first s.keys root refl;
        name = ap (λ (n : DirIndex). n.name) at.2;
        location = ap (λ (n : DirIndex). n.location) at.2;
      }

-- ---- the way, where each tree on it is read

module _ (image : Image) (s : Super) (ranges : List MapRange) where
  -- a tree whose root item is found
  below_by : (number : ℕ) (next : NodePointer → List BtrRefusal) (at : Root) (items : List Item) → ReadsTree image s ranges number at items → after_root next (root_item number (roots_on image s ranges)) ≡ next (pointer_to_root at)
  below_by number next at items tree =
      ap (after_root next) tree.has_item ∙ ap (after_pointer next tree.item.leaf) tree.leads

  pub pointer_by : (number : ℕ) (at : Root) (items : List Item) → ReadsTree image s ranges number at items → pointer_in (root_item number (roots_on image s ranges)) ≡ Some (pointer_to_root at)
  pointer_by number at items tree = ap pointer_in tree.has_item ∙ tree.leads

  entries_none : (number : ℕ) (at : Root) (items : List Item) → ReadsTree image s ranges number at items → root_refusals (found image ranges (tree_of s number (pointer_to_root at))) ≡ [] → entry_refusals image ranges (tree_of s number (pointer_to_root at)) ≡ []
  entries_none number at items tree names = ap (λ (rs : List BtrRefusal). rs ++ root_refusals (found image ranges (tree_of s number (pointer_to_root at)))) tree.sound ∙ names

module _ (entries : EntriesAreThere) (rising : ImageKeysAscend) (o : Options) (ids : Ids) (now : ℕ) (image other : Image) (m : Making) (r : TreeRoots) (nodes : List TreeNode) (v : IsNewVolume o ids now image other m r nodes) (low : now < 2 ^ 63) (keeps : KeepsFileNames other r) where
  abbrev is : IsReadableWithTrees image other m r nodes
  is = readable o ids now image other m r nodes v

  abbrev t : Super
  t = own_super other

  abbrev ranges : List MapRange
  ranges = own_map other

  abbrev files : List TreeItem
  files = found other (own_map other) (tree_of (own_super other) FS_TREE (pointer_to_root (r.tree Files)))

  abbrev saved_items : List TreeItem
  saved_items = found other (own_map other) (tree_of (own_super other) CONV_IMAGE_SUBVOL (pointer_to_root (r.tree SavedImage)))

  tree5 : ReadsTree other (own_super other) (own_map other) FS_TREE (r.tree Files) (file_tree_items image m)
  tree5 = tree_read image other (own_super other) (own_map other) m r nodes is.trees Files

  tree256 : ReadsTree other (own_super other) (own_map other) CONV_IMAGE_SUBVOL (r.tree SavedImage) (image_tree_items m)
  tree256 = tree_read image other (own_super other) (own_map other) m r nodes is.trees SavedImage

  there : HasSavedEntry files
  there = saved_there image m v.new.conversion.making entries files tree5.items_are

  leads : names_tree there.entry ≡ true
  leads = ap (λ (k : Key). eqb k.kind ROOT_ITEM) there.location

  names : root_refusals files ≡ []
  names = root_sound (has_root (roots_on other (own_super other) (own_map other))) files (r.tree Files).address keeps there.entry there.among there.dir there.name leads

  number_is : option_and_then tree_number (entry_of_saved files) ≡ Some 256
  number_is =
      ap (λ (k : Option Key). option_and_then tree_number k) (saved_found (has_root (roots_on other (own_super other) (own_map other))) files (r.tree Files).address keeps there.entry there.among there.dir there.name leads)
      ∙ ap tree_number there.location

  has : HasSavedImage image other (own_map other) m.volume.sup.blocks saved_items
  has =
      subst (λ (rs : List MapRange). HasSavedImage image other rs m.volume.sup.blocks saved_items) (sym is.map_is)
      (has_image rising o ids now image other m r nodes saved_items v low tree256.items_are)

  below_none : refusals_below other (own_super other) (own_map other) CONV_IMAGE_SUBVOL (root_item CONV_IMAGE_SUBVOL (roots_on other (own_super other) (own_map other))) ≡ []
  below_none =
      below_by other t ranges CONV_IMAGE_SUBVOL (λ p. or_later (entry_refusals other ranges (tree_of t CONV_IMAGE_SUBVOL p)) (image_refusals_in ranges (items_at other t ranges CONV_IMAGE_SUBVOL p))) (r.tree SavedImage) (image_tree_items m) tree256
      ∙ (ap (λ (rs : List BtrRefusal). or_later rs (image_refusals_in ranges saved_items)) (entries_none other t ranges CONV_IMAGE_SUBVOL (r.tree SavedImage) (image_tree_items m) tree256 has.names) ∙ has.extents)

  way_none : way_refusals other ≡ []
  way_none =
      below_by other t ranges FS_TREE
      (λ p. or_later (entry_refusals other ranges (tree_of t FS_TREE p)) (if_there (λ number. refusals_below other t ranges number (root_item number (roots_on other t ranges))) (option_and_then tree_number (entry_of_saved (items_at other t ranges FS_TREE p)))))
      (r.tree Files) (file_tree_items image m) tree5
      ∙ (ap (λ (rs : List BtrRefusal). or_later rs (if_there (λ number. refusals_below other t ranges number (root_item number (roots_on other t ranges))) (option_and_then tree_number (entry_of_saved files)))) (entries_none other t ranges FS_TREE (r.tree Files) (file_tree_items image m) tree5 names)
      ∙ (ap (λ (n : Option ℕ). if_there (λ number. refusals_below other t ranges number (root_item number (roots_on other t ranges))) n) number_is ∙ below_none))

  below_is : image_below other (own_super other) (own_map other) CONV_IMAGE_SUBVOL (root_item CONV_IMAGE_SUBVOL (roots_on other (own_super other) (own_map other))) ≡ Some has.file
  below_is =
      ap (λ (p : Option NodePointer). option_and_then (λ q. image_in (items_at other t ranges CONV_IMAGE_SUBVOL q)) p) (pointer_by other t ranges CONV_IMAGE_SUBVOL (r.tree SavedImage) (image_tree_items m) tree256) ∙ has.found_

  saved_is : image_from other (own_super other) (own_map other) (root_item FS_TREE (roots_on other (own_super other) (own_map other))) ≡ Some has.file
  saved_is =
      ap (λ (p : Option NodePointer). option_and_then (λ q. option_and_then (λ number. image_below other t ranges number (root_item number (roots_on other t ranges))) (option_and_then tree_number (entry_of_saved (items_at other t ranges FS_TREE q)))) p) (pointer_by other t ranges FS_TREE (r.tree Files) (file_tree_items image m) tree5)
      ∙ (ap (λ (n : Option ℕ). option_and_then (λ number. image_below other t ranges number (root_item number (roots_on other t ranges))) n) number_is ∙ below_is)

  pub reads_saved : ReadsSavedImage image other m.volume.sup.blocks
  reads_saved = record {
    readable = λ refusal after. ⊎_elim (λ early. is.opening refusal early) (λ late. none_of (way_refusals other) refusal way_none late.1) after;
    file = has.file;
    saved = saved_is;
    is = has.is;
  }

pub saved_image_is_readable : EntriesAreThere → ImageKeysAscend → SavedImageIsReadable
saved_image_is_readable entries rising = λ o ids now image other m r nodes v low keeps. reads_saved entries rising o ids now image other m r nodes v low keeps
