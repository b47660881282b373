-- The data of files stays where it is.
use Rattle.convert_core_laws.proofs.Imports.{ℕ, ◌+◌, ◌<◌, List, subst, FS_TREE, Image, Ids, items_at, own_map, own_super, TreeItem, IsMaking, Making, HasPieces, made_from, file_tree_items, TreeRoots, taken_free, NewIdsFit, ConvertedIsReadable, IsReadableWithTrees, IsNewVolume, ReadsTree, Source, ino_of, FilesAreHeld, root, ObjectKey, Naming, LeadsToObject, volume_items, HasSamePaths, NamesAreKept, TreeNode, pointer_to_root, Options, ConvertedDataStays, IsInPlace, StaysInPlace, Files}
use Rattle.reiser_volume.specs.reiser_super.declared.superblock.Super.{Super}
use Rattle.convert_core.specs.convert_steps.Switch.{IsMirrorOf}
use Rattle.convert_core.proofs.Putting.{used_not_free}
use Rattle.reiser_volume.proofs.reiser_volume_names.Uniqueness.{links_one}
use Rattle.reiser_volume.specs.Opened.{links_in}
use Rattle.convert_core_laws.proofs.reading.SavedWay.{pointer_by}
use Rattle.convert_core_laws.proofs.soundness.Recounting.{volume_for}
use Rattle.convert_core_laws.proofs.placement.Files.{blocks_in_place}
use Rattle.convert_core_laws.proofs.reading.Named.{tree_read}

module _ (readable : ConvertedIsReadable) (held : FilesAreHeld) (names : NamesAreKept)
    (o : Options) (ids : Ids) (now : ℕ) (image other : Image) (m : Making) (r : TreeRoots) (nodes : List TreeNode) (v : IsNewVolume o ids now image other m r nodes) where
  abbrev made : IsMaking image m
  made = v.new.conversion.making

  abbrev of : HasPieces m.volume image m.options m.plan m.pieces
  of = made.has_pieces

  abbrev s : Source
  s = made_from m.volume image m.options m.pieces

  is : IsReadableWithTrees image other m r nodes
  is = readable o ids now image other m r nodes v

  abbrev items : List TreeItem
  items = items_at other (own_super other) (own_map other) FS_TREE (pointer_to_root (r.tree Files))

  tree : ReadsTree other (own_super other) (own_map other) FS_TREE (r.tree Files) (file_tree_items image m)
  tree = tree_read image other (own_super other) (own_map other) m r nodes is.trees Files

  paths : HasSamePaths s items
  paths = names m.volume image m.options m.plan m.pieces items of tree.items_are

  file_stays : (key : ObjectKey) → StaysInPlace image (own_map other) items key
  file_stays key = record {
    ino = ino_of s key;
    paths = λ visible links path are leads.
        let same = links_one (volume_items image) visible links of.opened.visible (links_in m.volume) are of.opened.are_links in
        paths.kept path key (subst (λ (ls : List Naming). LeadsToObject ls root path key) same leads);
    blocks = blocks_in_place held image m made (own_map other) is.own items tree.items_are paths key;
  }

  pub in_place : IsInPlace image other
  in_place = record {
    used = λ b used super mirror. v.new.others b super (λ (is : IsMirrorOf m.volume.sup.blocks b). mirror (is.0, subst (λ (s : Super). b + 1 < s.blocks) of.opened.sup is.1)) (λ taken. used_not_free image b used (taken_free m.volume image m.options m.plan m.pieces of b taken));
    at = pointer_to_root (r.tree Files);
    has_root = pointer_by other (own_super other) (own_map other) FS_TREE (r.tree Files) (file_tree_items image m) tree;
    files = λ key named. file_stays key;
  }

pub converted_data_stays : NewIdsFit → ConvertedIsReadable → FilesAreHeld → NamesAreKept → ConvertedDataStays
converted_data_stays fit readable held names = λ o ids now image other new size low are has bytes.
    in_place readable held names o ids now image other new.0 new.1 new.2 (volume_for fit o ids now image other new.0 new.1 new.2 new.3 size are has)
