-- The rules that the names of a volume keep, and how each is refused where it fails.
use Rattle.std.specs.Prelude.{◌≡◌, ◌≢◌, ◌≤◌, ◌<◌, ◌+◌, ◌^◌, ◌==◌, ℕ, Some, nat_lt, nat_eq, Bool, true, false, not, ◌&&◌, ◌||◌, List, [], ◌∷◌, ◌++◌, length, filter, sum_by, count_by, codes, Contains, AllPairs, if◌then◌else◌}
use Rattle.std.specs.List.{list_any}
use Rattle.std.specs.Ordering.{is_lt}
use Rattle.std.specs.Cmp.Lexicographic.{pointwise}
use Rattle.reiser_volume_objects.specs.refusals.declared.refusal.VolumeRefusal.{VolumeRefusal}
use Rattle.reiser_volume_objects.specs.refusals.declared.refusal.VolumeRefusal.TheVariants.{Damaged, HasAttributes, NameTaken, NameTooLong, HashCrowd}
use Rattle.reiser_volume_objects.specs.refusals.declared.rule.Rule.TheVariants.{EntryForm, NameTwice, DirTwice, SizeRange}
use Rattle.castagnoli.specs.Castagnoli.{name_hash, extref_hash}
use Rattle.reiser_volume_objects.specs.reiser_items.Entries.{are_entries}
use Rattle.reiser_volume_objects.specs.reiser_walk.Items.{ReiserItem}
use Rattle.reiser_volume_objects.specs.fs_rows.declared.row.Kind.TheVariants.{Symlink}
use Rattle.reiser_volume_objects.specs.declared.key.ObjectKey.{ObjectKey}
use Rattle.reiser_volume_objects.specs.declared.naming.Naming.{Naming}
use Rattle.reiser_volume_objects.specs.declared.stat.ObjectStat.{ObjectStat}
use Rattle.reiser_volume_objects.specs.Items.{stat_of_object}
use Rattle.reiser_volume_objects.specs.Keys.{same_key, object_key_of, root}
use Rattle.reiser_volume_objects.specs.Kinds.{kind_of_mode}
use Rattle.reiser_volume_objects.specs.Names.{namings, is_followed, IsNamed}
use Rattle.reiser_volume_objects.specs.Rules.{IsDirectory}
use Rattle.reiser_volume_objects.specs.Summary.{has_entries}
use Rattle.reiser_volume_names.specs.Links.{AreLinks, AreNamedKeys, object_cmp}
use Rattle.reiser_volume_names.specs.Private.{HasNoAttributes, IsBelow}

-- not empty, without a slash, and neither `.` nor `..`
abbrev pub is_name : List ℕ → Bool
is_name name = nat_lt 0 (length name) && (not (list_any (λ b. b == 47) name) && not (pointwise nat_eq name (codes ".") || pointwise nat_eq name (codes "..")))

-- the root's entry that the converted volume keeps for itself
abbrev pub saved_name : List ℕ
saved_name = codes "reiserfs_saved"

-- What the names of a directory with one hash take in one item of Btrfs; the root has one name more.
abbrev pub crowd_of : List Naming → ObjectKey → ℕ → ℕ
crowd_of links dir hash =
    sum_by (λ n. 30 + length n.name) (filter (λ n. same_key n.dir dir && (name_hash n.name == hash)) links)
    + (if same_key root dir && (name_hash saved_name == hash) then 30 + length saved_name else 0)

-- what these names of one object in one directory take in one reference
abbrev pub reference_size : List Naming → ObjectKey → ObjectKey → ℕ
reference_size links dir object = sum_by (λ n. 10 + length n.name) (filter (λ n. same_key n.dir dir && same_key n.target object) links)

-- The names that go into extended references: those with which the names of their object in their directory take more
-- than 3900 bytes.
abbrev pub extended : List Naming → List Naming → List Naming
extended seen [] = []
extended seen (n ∷ ns) =
    (if nat_lt 3900 (reference_size (seen ++ n ∷ []) n.dir n.target) then n ∷ [] else []) ++ extended (seen ++ n ∷ []) ns

-- the number that a directory gets in Btrfs: 256 for the root, and 257 and up for the others in the order of their keys
abbrev pub ino_of_key : List ObjectKey → ObjectKey → ℕ
ino_of_key keys key = if same_key key root then 256 else 257 + count_by (λ k. is_lt (object_cmp k key) && not (same_key k root)) keys

-- what names of an object with one hash, that go into extended references, take in one item of Btrfs
abbrev pub extended_sum : List ObjectKey → List Naming → ObjectKey → ℕ → ℕ
extended_sum keys ns object hash = sum_by (λ n. 18 + length n.name) (filter (λ n. same_key n.target object && (extref_hash (ino_of_key keys n.dir) n.name == hash)) ns)

abbrev pub extended_crowd_of : List Naming → List ObjectKey → ObjectKey → ℕ → ℕ
extended_crowd_of links keys object hash = extended_sum keys (extended [] links) object hash

-- the rules, for the links and the keys of the named objects
pub record KeepsNameRules (items : List ReiserItem) (visible links : List Naming) (keys : List ObjectKey) : Type 0 where
  pub forms : (i : ReiserItem) → Contains items i → has_entries i.head.kind ≡ true → IsNamed items (object_key_of i.head) → are_entries i.head.count i.body ≡ true
  pub names : (n : Naming) → Contains visible n → is_name n.name ≡ true
  pub private : (n : Naming) → Contains (namings items) n → is_followed n ≡ false → HasNoAttributes items n.target
  pub short : (n : Naming) → Contains links n → length n.name ≤ 255
  pub targets : (key : ObjectKey) (stat : ObjectStat) → IsNamed items key → stat_of_object items key ≡ Some stat → kind_of_mode stat.fields.mode ≡ Some Symlink → stat.fields.size ≤ 3900
  pub once : AllPairs (λ m n. m.dir ≡ n.dir → m.name ≢ n.name) visible
  pub directories_once : AllPairs (λ m n. IsDirectory items n.target → m.target ≢ n.target) links
  pub root_once : (n : Naming) → Contains links n → n.target ≢ root
  pub not_taken : (n : Naming) → Contains links n → n.dir ≡ root → n.name ≢ saved_name
  pub counts : (key : ObjectKey) → IsNamed items key → ¬ IsDirectory items key → count_by (λ n. same_key n.target key) links < 2 ^ 32
  pub crowds : (dir : ObjectKey) (hash : ℕ) → crowd_of links dir hash ≤ 3900
  pub extended_crowds : (object : ObjectKey) (hash : ℕ) → extended_crowd_of links keys object hash ≤ 3900

pub record AreNames (items : List ReiserItem) : Type 0 where
  pub visible : List Naming
  pub links : List Naming
  pub are_links : AreLinks items visible links
  pub keys : List ObjectKey
  pub are_keys : AreNamedKeys items keys
  pub keeps : KeepsNameRules items visible links keys

-- two elements of a list, the earlier one first
pub record AreIn {X : Type 0} (xs : List X) (x y : X) : Type 0 where
  pub before : List X
  pub after : List X
  pub split : xs ≡ before ++ (y ∷ after)
  pub earlier : Contains before x

-- A refusal is that of a rule that fails, with what it keeps.
pub data BreaksNameRules (items : List ReiserItem) (visible links : List Naming) (keys : List ObjectKey) (r : VolumeRefusal) : Type 0 where
  off_form : (i : ReiserItem) → Contains items i → has_entries i.head.kind ≡ true → IsNamed items (object_key_of i.head) → are_entries i.head.count i.body ≡ false → r ≡ Damaged i.leaf EntryForm → BreaksNameRules items visible links keys r
  bad_name : (n : Naming) → Contains visible n → is_name n.name ≡ false → r ≡ Damaged n.leaf EntryForm → BreaksNameRules items visible links keys r
  attributes : (n : Naming) (steps : ℕ) (key : ObjectKey) → Contains (namings items) n → is_followed n ≡ false → ¬ HasNoAttributes items n.target → IsBelow items steps n.target key → r ≡ HasAttributes key.dir key.object → BreaksNameRules items visible links keys r
  long_name : (n : Naming) → Contains links n → 255 < length n.name → r ≡ NameTooLong n.target.dir n.target.object (length n.name) → BreaksNameRules items visible links keys r
  long_target : (key : ObjectKey) (stat : ObjectStat) → IsNamed items key → stat_of_object items key ≡ Some stat → kind_of_mode stat.fields.mode ≡ Some Symlink → 3900 < stat.fields.size → r ≡ NameTooLong key.dir key.object stat.fields.size → BreaksNameRules items visible links keys r
  twice : (m n : Naming) → AreIn visible m n → m.dir ≡ n.dir → m.name ≡ n.name → r ≡ Damaged n.leaf NameTwice → BreaksNameRules items visible links keys r
  directory_twice : (m n : Naming) → AreIn links m n → IsDirectory items n.target → m.target ≡ n.target → r ≡ Damaged n.leaf DirTwice → BreaksNameRules items visible links keys r
  root_named : (n : Naming) → Contains links n → n.target ≡ root → r ≡ Damaged n.leaf DirTwice → BreaksNameRules items visible links keys r
  taken : (n : Naming) → Contains links n → n.dir ≡ root → n.name ≡ saved_name → r ≡ NameTaken n.target.dir n.target.object → BreaksNameRules items visible links keys r
  too_many : (key : ObjectKey) (stat : ObjectStat) → IsNamed items key → stat_of_object items key ≡ Some stat → ¬ IsDirectory items key → 2 ^ 32 ≤ count_by (λ n. same_key n.target key) links → r ≡ Damaged stat.leaf SizeRange → BreaksNameRules items visible links keys r
  crowd : (dir : ObjectKey) (hash : ℕ) → 3900 < crowd_of links dir hash → r ≡ HashCrowd dir.dir dir.object hash → BreaksNameRules items visible links keys r
  extended_crowd : (object : ObjectKey) (hash : ℕ) → 3900 < extended_crowd_of links keys object hash → r ≡ HashCrowd object.dir object.object hash → BreaksNameRules items visible links keys r

pub record IsNamesRefusal (items : List ReiserItem) (r : VolumeRefusal) : Type 0 where
  pub visible : List Naming
  pub links : List Naming
  pub are_links : AreLinks items visible links
  pub keys : List ObjectKey
  pub are_keys : AreNamedKeys items keys
  pub breaks : BreaksNameRules items visible links keys r
