-- A volume with an object whose items can be read again.
use Rattle.std.specs.Prelude.{◌≡◌, ◌≤◌, ℕ, true, false, Bool, List, [], length, All}
use Rattle.std.specs.List.{list_any}
use Rattle.reiser_volume_objects.specs.outside.History.{Image}
use Rattle.fs_rows.specs.declared.row.Kind.TheVariants.{Symlink}
use Rattle.reiser_volume_objects.specs.reiser_walk.declared.reiser_tree.ReiserTree.{ReiserTree}
use Rattle.reiser_volume_objects.specs.reiser_walk.Bodies.{is_save_link}
use Rattle.reiser_volume_objects.specs.reiser_walk.Items.{ReiserItem}
use Rattle.reiser_volume_objects.specs.reiser_walk.Rules.{tree_damages}
use Rattle.reiser_volume_objects.specs.reiser_walk.Tree.{items_of_tree}
use Rattle.reiser_volume_files.specs.Bytes.{IsAligned}
use Rattle.reiser_volume_files.specs.Laws.{AreInOrder, AreItemsApart}
use Rattle.reiser_volume_files.specs.Pieces.{are_inside}
use Rattle.reiser_volume_objects.specs.declared.key.ObjectKey.{ObjectKey}
use Rattle.reiser_volume_objects.specs.declared.table.Objects.{Objects}
use Rattle.reiser_volume_objects.specs.Items.{fits_kind}
use Rattle.reiser_volume_objects.specs.Keys.{items_of}
use Rattle.reiser_volume_objects.specs.Table.{HasNoted}

-- the items of an object of the tree in these blocks, of which that list tells the used ones
abbrev pub object_items : ReiserTree → Image → List Bool → ObjectKey → List ReiserItem
object_items tree image used key = items_of key (items_of_tree tree image (length used))

-- The tree in these blocks keeps its rules and has no save link, its items are those that were noted, and no two items of
-- the object hold one byte. So it is of each object of a volume that was accepted.
pub record HoldsObject (objects : Objects) (key : ObjectKey) (tree : ReiserTree) (image : Image) (used : List Bool) : Type 0 where
  pub sound : tree_damages tree image used ≡ []
  pub within : length used ≤ length image
  pub noted : HasNoted objects (items_of_tree tree image (length used))
  pub no_save_link : list_any (λ i. is_save_link i.head) (items_of_tree tree image (length used)) ≡ false
  pub apart : AreItemsApart (object_items tree image used key)

-- the same of a symlink: it has no item of pointers
pub record HoldsLink (objects : Objects) (key : ObjectKey) (tree : ReiserTree) (image : Image) (used : List Bool) : Type 0 where
  pub object : HoldsObject objects key tree image used
  pub fits : fits_kind Symlink (object_items tree image used key) ≡ true

-- Items of one object, of which the bytes of a file can be made: they begin in order and are apart, an item of pointers
-- begins with a block of the file, and each block that is named is one of the first n.
pub record AreFileItems (n : ℕ) (items : List ReiserItem) : Type 0 where
  pub order : AreInOrder items
  pub apart : AreItemsApart items
  pub aligned : All IsAligned items
  pub inside : All (λ i. are_inside i.head.kind i.body n ≡ true) items
