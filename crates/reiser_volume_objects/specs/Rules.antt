-- The rules that the objects of a ReiserFS volume keep, and how each is refused where it fails.
use Rattle.std.specs.Prelude.{◌≡◌, ◌≢◌, ℕ, true, false, List, Some, None, Contains}
use Rattle.std.specs.List.{list_any}
use Rattle.reiser_bitmap.specs.refusals.declared.refusal.VolumeRefusal.{VolumeRefusal}
use Rattle.reiser_bitmap.specs.refusals.declared.refusal.VolumeRefusal.TheVariants.{Damaged, PendingLinks}
use Rattle.reiser_bitmap.specs.refusals.declared.rule.Rule.TheVariants.{ObjectForm, Overlap, SizeRange}
use Rattle.reiser_walk.specs.Items.{ReiserItem}
use Rattle.reiser_walk.specs.Bodies.{is_save_link}
use Rattle.fs_paths.specs.fs_rows.declared.row.Kind.{Kind}
use Rattle.fs_paths.specs.fs_rows.declared.row.Kind.TheVariants.{Directory}
use Rattle.reiser_volume_objects.specs.declared.key.ObjectKey.{ObjectKey}
use Rattle.reiser_volume_objects.specs.declared.stat.ObjectStat.{ObjectStat}
use Rattle.reiser_volume_objects.specs.declared.naming.Naming.{Naming}
use Rattle.reiser_volume_objects.specs.Keys.{root, items_of}
use Rattle.reiser_volume_objects.specs.Kinds.{kind_of_mode, fits_size}
use Rattle.reiser_volume_files.specs.Laws.{AreItemsApart}
use Rattle.reiser_volume_objects.specs.Items.{stat_of_object, fits_kind, IsOverlap}
use Rattle.reiser_volume_objects.specs.Names.{followed, IsNamed}

-- An object has stat data of a known kind, and beside it only items of that kind; no two of them hold one byte; and its
-- size is in the range of the kind.
pub record IsObject (items : List ReiserItem) (key : ObjectKey) : Type 0 where
  pub stat : ObjectStat
  pub has_stat : stat_of_object items key ≡ Some stat
  pub kind : Kind
  pub known : kind_of_mode stat.fields.mode ≡ Some kind
  pub fits : fits_kind kind (items_of key items) ≡ true
  pub apart : AreItemsApart (items_of key items)
  pub size : fits_size kind stat.fields.size ≡ true

pub record IsDirectory (items : List ReiserItem) (key : ObjectKey) : Type 0 where
  pub stat : ObjectStat
  pub has_stat : stat_of_object items key ≡ Some stat
  pub known : kind_of_mode stat.fields.mode ≡ Some Directory

-- No file waits to be removed or cut short, the root is a directory, and each named object is in order. What no name
-- reaches is not looked at.
pub record AreObjects (items : List ReiserItem) : Type 0 where
  pub no_save_link : list_any (λ i. is_save_link i.head) items ≡ false
  pub root_directory : IsDirectory items root
  pub each : (key : ObjectKey) → IsNamed items key → IsObject items key

-- Stat data of a named object, with its kind.
pub record IsKnownObject (items : List ReiserItem) (key : ObjectKey) (stat : ObjectStat) (kind : Kind) : Type 0 where
  pub named : IsNamed items key
  pub has_stat : stat_of_object items key ≡ Some stat
  pub known : kind_of_mode stat.fields.mode ≡ Some kind

-- A refusal is that of a rule that fails, with what it keeps: the number of the save link's object, or the block of a leaf,
-- for a root without stat data the root of the tree.
pub data IsObjectsRefusal (root_block : ℕ) (items : List ReiserItem) (r : VolumeRefusal) : Type 0 where
  save_link : (i : ReiserItem) → Contains items i → is_save_link i.head ≡ true → r ≡ PendingLinks i.head.object → IsObjectsRefusal root_block items r
  no_root : stat_of_object items root ≡ None → r ≡ Damaged root_block ObjectForm → IsObjectsRefusal root_block items r
  other_root : (stat : ObjectStat) → stat_of_object items root ≡ Some stat → kind_of_mode stat.fields.mode ≢ Some Directory → r ≡ Damaged stat.leaf ObjectForm → IsObjectsRefusal root_block items r
  no_stat : (n : Naming) → Contains (followed items) n → IsNamed items n.dir → stat_of_object items n.target ≡ None → r ≡ Damaged n.leaf ObjectForm → IsObjectsRefusal root_block items r
  unknown_kind : (key : ObjectKey) (stat : ObjectStat) → IsNamed items key → stat_of_object items key ≡ Some stat → kind_of_mode stat.fields.mode ≡ None → r ≡ Damaged stat.leaf ObjectForm → IsObjectsRefusal root_block items r
  other_items : (key : ObjectKey) (stat : ObjectStat) (kind : Kind) → IsKnownObject items key stat kind → fits_kind kind (items_of key items) ≡ false → r ≡ Damaged stat.leaf ObjectForm → IsObjectsRefusal root_block items r
  overlap : (key : ObjectKey) (leaf : ℕ) → IsNamed items key → IsOverlap (items_of key items) leaf → r ≡ Damaged leaf Overlap → IsObjectsRefusal root_block items r
  size_range : (key : ObjectKey) (stat : ObjectStat) (kind : Kind) → IsKnownObject items key stat kind → fits_size kind stat.fields.size ≡ false → r ≡ Damaged stat.leaf SizeRange → IsObjectsRefusal root_block items r
