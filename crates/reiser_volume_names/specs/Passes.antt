-- What each look at the names finds, for the test of the named directories.
use Rattle.std.specs.Prelude.{◌≡◌, ◌≢◌, ◌≤◌, ◌<◌, ◌/◌, ◌==◌, ℕ, Some, Bool, true, false, ◌&&◌, List, length, filter, Contains}
use Rattle.reiser_volume_objects.specs.refusals.declared.refusal.VolumeRefusal.{VolumeRefusal}
use Rattle.reiser_volume_objects.specs.refusals.declared.refusal.VolumeRefusal.TheVariants.{Damaged, NameTaken, NameTooLong}
use Rattle.reiser_volume_objects.specs.refusals.declared.rule.Rule.TheVariants.{EntryForm, DirTwice}
use Rattle.reiser_volume_objects.specs.declared.naming.Naming.{Naming}
use Rattle.reiser_volume_objects.specs.reiser_walk.Items.{ReiserItem}
use Rattle.reiser_volume_objects.specs.declared.key.ObjectKey.{ObjectKey}
use Rattle.reiser_volume_objects.specs.declared.stat.ObjectStat.{ObjectStat}
use Rattle.reiser_volume_objects.specs.Items.{stat_of_object}
use Rattle.reiser_volume_objects.specs.Summary.{has_entry_form}
use Rattle.reiser_volume_objects.specs.Keys.{root, items_of}
use Rattle.reiser_volume_objects.specs.Names.{is_followed}
use Rattle.reiser_volume_objects.specs.Reach.{Keys}
use Rattle.reiser_volume_names.specs.Names.{is_name, saved_name}

pub record IsGoodLink (n : Naming) : Type 0 where
  pub short : length n.name ≤ 255
  pub below : n.target ≢ root
  pub free : n.dir ≡ root → n.name ≢ saved_name

-- in a named directory it is a name, and if it is a link a good one
pub record IsGoodName (has : Keys) (n : Naming) : Type 0 where
  pub name : has n.dir ≡ true → is_name n.name ≡ true
  pub link : has n.dir ≡ true → is_followed n ≡ true → IsGoodLink n

pub data BlamesLink (n : Naming) (r : VolumeRefusal) : Type 0 where
  long : 255 < length n.name → r ≡ NameTooLong n.target.dir n.target.object (length n.name) → BlamesLink n r
  to_root : n.target ≡ root → r ≡ Damaged n.leaf DirTwice → BlamesLink n r
  taken : n.dir ≡ root → n.name ≡ saved_name → r ≡ NameTaken n.target.dir n.target.object → BlamesLink n r

pub data BlamesName (has : Keys) (n : Naming) (r : VolumeRefusal) : Type 0 where
  bad : has n.dir ≡ true → is_name n.name ≡ false → r ≡ Damaged n.leaf EntryForm → BlamesName has n r
  link : has n.dir ≡ true → is_followed n ≡ true → BlamesLink n r → BlamesName has n r

abbrev pub is_link : Keys → Naming → Bool
is_link has n = is_followed n && has n.dir

-- the links, where that is the test of the named directories
abbrev pub link_list : Keys → List Naming → List Naming
link_list has ns = filter (is_link has) ns

abbrev pub is_symlink_mode : ℕ → Bool
is_symlink_mode mode = mode / 4096 == 10

-- the directory items of an object are on the grammar of entries, and the target of a symlink is short
pub record HasForms (items : List ReiserItem) (key : ObjectKey) : Type 0 where
  pub forms : (i : ReiserItem) → Contains (items_of key items) i → has_entry_form i ≡ true
  pub target : (stat : ObjectStat) → stat_of_object items key ≡ Some stat → is_symlink_mode stat.fields.mode ≡ true → stat.fields.size ≤ 3900

pub record BlamesTarget (key : ObjectKey) (stat : ObjectStat) (r : VolumeRefusal) : Type 0 where
  pub symlink : is_symlink_mode stat.fields.mode ≡ true
  pub long : 3900 < stat.fields.size
  pub is : r ≡ NameTooLong key.dir key.object stat.fields.size

pub data BlamesObject (items : List ReiserItem) (key : ObjectKey) (r : VolumeRefusal) : Type 0 where
  off_form : (i : ReiserItem) → Contains (items_of key items) i → has_entry_form i ≡ false → r ≡ Damaged i.leaf EntryForm → BlamesObject items key r
  long_target : (stat : ObjectStat) → stat_of_object items key ≡ Some stat → BlamesTarget key stat r → BlamesObject items key r
