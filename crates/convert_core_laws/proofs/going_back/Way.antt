-- The two file trees of a converted volume.
use Rattle.convert_core_laws.proofs.Imports.{◌≡◌, ℕ, eqb, true, List, [], ◌∷◌, ◌++◌, Option, Some, ap, ◌∙◌, option_and_then, ROOT_ITEM, CONV_IMAGE_SUBVOL, FS_TREE, Image, Key, names_tree, has_root, image_below, image_in, items_at, pointer_in, saved_location as entry_of_saved, saved_image, tree_of, own_map, own_super, root_item, roots_on, Super, TreeItem, found, MapRange, NodePointer, Tree, IsMaking, Making, file_tree_items, image_tree_items, TreeRoots, IsReadableWithTrees, ReadsTree, KeepsFileNames, EntriesAreThere, NamesKeepRules, file_pointer, named_by, tree_if, TreeNode, pointer_to_root, Files, SavedImage}
use Rattle.btr_reader.specs.Image.{tree_number}
use Rattle.volume_state.specs.Using.{file_trees, numbered}
use Rattle.convert_core_laws.proofs.reading.SavedWay.{HasSavedEntry, pointer_by, saved_there}
use Rattle.convert_core_laws.proofs.reading.RootKept.{saved_found}
use Rattle.convert_core_laws.proofs.reading.Named.{tree_read}

module _ (entries : EntriesAreThere) (names : NamesKeepRules) (image other : Image) (m : Making) (r : TreeRoots) (nodes : List TreeNode) (made : IsMaking image m) (is : IsReadableWithTrees image other m r nodes) where
  abbrev t : Super
  t = own_super other

  abbrev ranges : List MapRange
  ranges = own_map other

  abbrev files : List TreeItem
  files = found other (own_map other) (tree_of (own_super other) FS_TREE (pointer_to_root (r.tree Files)))

  tree5 : ReadsTree other (own_super other) (own_map other) FS_TREE (r.tree Files) (file_tree_items image m)
  tree5 = tree_read image other (own_super other) (own_map other) m r nodes is.trees Files

  keeps : KeepsFileNames other r
  keeps = names m.volume image m.options m.plan m.pieces files (has_root (roots_on other (own_super other) (own_map other))) (r.tree Files).address made.has_pieces tree5.items_are

  there : HasSavedEntry files
  there = saved_there image m made entries files tree5.items_are

  leads : names_tree there.entry ≡ true
  leads = ap (λ (k : Key). eqb k.kind ROOT_ITEM) there.location

  number_is : option_and_then tree_number (entry_of_saved files) ≡ Some 256
  number_is =
      ap (λ (k : Option Key). option_and_then tree_number k) (saved_found (has_root (roots_on other (own_super other) (own_map other))) files (r.tree Files).address keeps there.entry there.among there.dir there.name leads)
      ∙ ap tree_number there.location

  file_root : file_pointer other (own_super other) (own_map other) ≡ Some (pointer_to_root (r.tree Files))
  file_root = pointer_by other t ranges FS_TREE (r.tree Files) (file_tree_items image m) tree5

  saved_root : pointer_in (root_item CONV_IMAGE_SUBVOL (roots_on other (own_super other) (own_map other))) ≡ Some (pointer_to_root (r.tree SavedImage))
  saved_root = pointer_by other t ranges CONV_IMAGE_SUBVOL (r.tree SavedImage) (image_tree_items m) (tree_read image other (own_super other) (own_map other) m r nodes is.trees SavedImage)

  abbrev pub file_tree : Tree
  file_tree = tree_of (own_super other) FS_TREE (pointer_to_root (r.tree Files))

  abbrev pub saved_tree : Tree
  saved_tree = tree_of (own_super other) CONV_IMAGE_SUBVOL (pointer_to_root (r.tree SavedImage))

  -- the file tree names tree 256 as that of the saved image
  pub trees_are : file_trees other (own_super other) (own_map other) ≡ file_tree ∷ (saved_tree ∷ [])
  trees_are =
      ap (λ (o : Option NodePointer). tree_if t FS_TREE o ++ named_by other t ranges o) file_root
      ∙ (ap (λ (n : Option ℕ). file_tree ∷ numbered other t ranges n) number_is ∙ ap (λ (o : Option NodePointer). file_tree ∷ tree_if t CONV_IMAGE_SUBVOL o) saved_root)

  -- so the saved image is that of this tree
  pub image_is : saved_image other (own_super other) (own_map other) ≡ image_in (found other (own_map other) saved_tree)
  image_is =
      ap (λ (p : Option NodePointer). option_and_then (λ q. option_and_then (λ number. image_below other t ranges number (root_item number (roots_on other t ranges))) (option_and_then tree_number (entry_of_saved (items_at other t ranges FS_TREE q)))) p) file_root
      ∙ (ap (λ (n : Option ℕ). option_and_then (λ number. image_below other t ranges number (root_item number (roots_on other t ranges))) n) number_is
      ∙ ap (λ (p : Option NodePointer). option_and_then (λ q. image_in (items_at other t ranges CONV_IMAGE_SUBVOL q)) p) saved_root)
