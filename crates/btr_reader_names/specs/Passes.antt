-- What each look at the table finds: of an inode by its item, of an entry by itself, and of two entries.
use Rattle.std.specs.Prelude.{◌≡◌, ℕ, ◌==◌, nat_lt, nat_eq, Bool, true, false, not, ◌&&◌, List, Contains, AllPairs, Option, Some, None, if◌then◌else◌}
use Rattle.std.specs.List.{list_any}
use Rattle.std.specs.Option.{option_map_or}
use Rattle.std.specs.Cmp.Lexicographic.{pointwise}
use Rattle.btr_reader_walk.specs.btrfs_format.declared.object.TheConstants.{FIRST_FREE_OBJECTID}
use Rattle.indexmap.specs.IndexSet.{IndexSet, contains}
use Rattle.btr_reader_walk.specs.refusals.declared.answer.BtrAnswer.{BtrAnswer}
use Rattle.btr_reader_walk.specs.refusals.declared.answer.BtrAnswer.TheVariants.{Refused, Fault, Memory}
use Rattle.btr_reader_walk.specs.refusals.declared.refusal.BtrRefusal.{BtrRefusal}
use Rattle.btr_reader_walk.specs.refusals.declared.refusal.BtrRefusal.TheVariants.{BadBtrfs}
use Rattle.btr_reader_walk.specs.refusals.declared.rule.BtrRule.{BtrRule}
use Rattle.btr_reader_walk.specs.refusals.declared.rule.BtrRule.TheVariants.{Body, NoInode, NameForm, DirTwice}
use Rattle.btr_reader_walk.specs.btr_keys.declared.inode.Inode.{Inode}
use Rattle.fs_paths.specs.fs_rows.declared.row.Kind.{Kind}
use Rattle.fs_paths.specs.declared.node.NodeId.{NodeId}
use Rattle.btr_reader_names.specs.declared.inodes.InodeFound.{InodeFound}
use Rattle.btr_reader_names.specs.declared.dir_index.DirIndex.{DirIndex}
use Rattle.btr_reader_names.specs.declared.dir_index.OffForm.{OffForm}
use Rattle.btr_reader_names.specs.declared.seen.NameIn.{NameIn}
use Rattle.btr_reader_names.specs.declared.table.NameTable.{NameTable}
use Rattle.btr_reader_names.specs.Inodes.{kind_of_mode}
use Rattle.fs_paths.specs.fs_rows.Kinds.{is_directory, is_symlink}
use Rattle.btr_reader_names.specs.Links.{is_name, is_followed, names_inode, names_tree}
use Rattle.btr_reader_names.specs.Rules.{AreIn}
use Rattle.btr_reader_names.specs.Steps.{is_open, is_link}
use Rattle.btr_reader_names.specs.Table.{told, has_item, is_dir, kind_found}

-- the root directory is not there, is off its grammar, or is no directory
pub data BlamesRoot (t : NameTable) (root : ℕ) (r : BtrRefusal) : Type 0 where
  root_absent : told t FIRST_FREE_OBJECTID ≡ None → r ≡ BadBtrfs root NoInode → BlamesRoot t root r
  root_off : (f : InodeFound) → told t FIRST_FREE_OBJECTID ≡ Some f → kind_found f ≡ None → r ≡ BadBtrfs f.leaf Body → BlamesRoot t root r
  root_other : (f : InodeFound) (kind : Kind) → told t FIRST_FREE_OBJECTID ≡ Some f → kind_found f ≡ Some kind → is_directory kind ≡ false → r ≡ BadBtrfs root NoInode → BlamesRoot t root r

-- the size is one that an inode of the kind may have
abbrev pub fits_size : ℕ → Kind → Bool
fits_size size kind = not (is_symlink kind && nat_lt 4095 size)

abbrev pub is_good : Inode → Bool
is_good own = option_map_or (fits_size own.size) (kind_of_mode own.mode) false

abbrev pub is_good_item : InodeFound → Bool
is_good_item f = option_map_or is_good f.inode false

abbrev pub IsGoodNode : NameTable → NodeId → Type 0
IsGoodNode t node = (f : InodeFound) → told t node.number ≡ Some f → is_good_item f ≡ true

abbrev pub BlamesNode : NameTable → NodeId → BtrRefusal → Type 0
BlamesNode t node r = (f : InodeFound) × (told t node.number ≡ Some f) × (is_good_item f ≡ false) × (r ≡ BadBtrfs f.leaf Body)

-- a directory index off its grammar, in a named directory
abbrev pub BlamesForm : (ℕ → Bool) → OffForm → BtrRefusal → Type 0
BlamesForm opened off r = (opened off.dir ≡ true) × (r ≡ BadBtrfs off.leaf Body)

-- the rule that an entry's target breaks
abbrev pub inode_rule : NameTable → ℕ → Option BtrRule
inode_rule t ino = if has_item t ino then (if ino == FIRST_FREE_OBJECTID then Some DirTwice else None) else Some NoInode

abbrev pub tree_rule : (ℕ → Bool) → ℕ → Option BtrRule
tree_rule roots number = if roots number then None else Some NoInode

abbrev pub target_rule : NameTable → (ℕ → Bool) → DirIndex → Option BtrRule
target_rule t roots n =
    if names_inode n then inode_rule t n.location.objectid else (if names_tree n then tree_rule roots n.location.objectid else Some Body)

-- the rule that an entry of a named directory breaks by itself
abbrev pub entry_rule : NameTable → (ℕ → Bool) → DirIndex → Option BtrRule
entry_rule t roots n = if is_name n.name then (if is_followed n then target_rule t roots n else None) else Some NameForm

abbrev pub IsGoodEntry : NameTable → (ℕ → Bool) → (ℕ → Bool) → DirIndex → Type 0
IsGoodEntry t opened roots n = opened n.dir ≡ true → entry_rule t roots n ≡ None

abbrev pub BlamesEntry : NameTable → (ℕ → Bool) → (ℕ → Bool) → DirIndex → BtrRefusal → Type 0
BlamesEntry t opened roots n r = (rule : BtrRule) × (opened n.dir ≡ true) × (entry_rule t roots n ≡ Some rule) × (r ≡ BadBtrfs n.leaf rule)

abbrev pub same_name : NameIn → NameIn → Bool
same_name a b = (a.dir == b.dir) && pointwise nat_eq a.name.items b.name.items

-- an entry of a named directory has this name in this directory
abbrev pub names_as : (ℕ → Bool) → NameIn → DirIndex → Bool
names_as opened q n = opened n.dir && ((n.dir == q.dir) && pointwise nat_eq n.name q.name.items)

-- two entries are not of one directory and of one name
abbrev pub DifferInName : (ℕ → Bool) → DirIndex → DirIndex → Type 0
DifferInName opened m n = opened n.dir ≡ true → m.dir ≡ n.dir → ¬ (m.name ≡ n.name)

-- exactly the names of these entries were seen, and no named directory has one twice
pub record HasSeen {S : Type 0} (opened : ℕ → Bool) (names : IndexSet NameIn S) (seen : List DirIndex) : Type 0 where
  pub each : (q : NameIn) → contains same_name names q ≡ list_any (names_as opened q) seen
  pub once : AllPairs (DifferInName opened) seen

-- the name of this entry is there already, or there was no memory
abbrev pub IsTwice : DirIndex → BtrAnswer → Type 0
IsTwice n (Refused r) = r ≡ BadBtrfs n.leaf NameForm
IsTwice n Fault = ⊥
IsTwice n Memory = Unit {0}

-- a named directory has one name twice, or there was no memory
abbrev pub BlamesTwice : (ℕ → Bool) → List DirIndex → BtrAnswer → Type 0
BlamesTwice opened ns (Refused r) = (m : DirIndex) × ((n : DirIndex) × AreIn ns m n × (opened n.dir ≡ true) × (m.dir ≡ n.dir) × (m.name ≡ n.name) × (r ≡ BadBtrfs n.leaf NameForm))
BlamesTwice opened ns Fault = ⊥
BlamesTwice opened ns Memory = Unit {0}

-- the entry of a named directory leads to a directory
abbrev pub leads_down : NameTable → (NodeId → Bool) → DirIndex → Bool
leads_down t named n = is_link t named n && (names_inode n && is_dir t n.location.objectid)

-- it leads to this one
abbrev pub leads_into : NameTable → (NodeId → Bool) → ℕ → DirIndex → Bool
leads_into t named ino n = leads_down t named n && (n.location.objectid == ino)

-- two entries do not lead to one directory
abbrev pub LeadApart : NameTable → (NodeId → Bool) → DirIndex → DirIndex → Type 0
LeadApart t named m n = leads_down t named m ≡ true → leads_down t named n ≡ true → ¬ (m.location.objectid ≡ n.location.objectid)

-- exactly the directories that these entries lead to were seen, and none is named twice
pub record HasDirectories {S : Type 0} (t : NameTable) (named : NodeId → Bool) (dirs : IndexSet ℕ S) (seen : List DirIndex) : Type 0 where
  pub each : (ino : ℕ) → contains nat_eq dirs ino ≡ list_any (leads_into t named ino) seen
  pub once : AllPairs (LeadApart t named) seen

-- a directory is named twice, or there was no memory
abbrev pub BlamesAgain : NameTable → (NodeId → Bool) → List DirIndex → BtrAnswer → Type 0
BlamesAgain t named ns (Refused r) =
    (m : DirIndex) × ((n : DirIndex) × AreIn ns m n × (leads_down t named m ≡ true) × (leads_down t named n ≡ true) × (m.location.objectid ≡ n.location.objectid) × (r ≡ BadBtrfs n.leaf DirTwice))
BlamesAgain t named ns Fault = ⊥
BlamesAgain t named ns Memory = Unit {0}

-- the root directory, the named inodes, and each index and entry by itself, are in order
pub record AreGood (t : NameTable) (named : NodeId → Bool) (roots : ℕ → Bool) (nodes : List NodeId) : Type 0 where
  pub root_directory : is_dir t FIRST_FREE_OBJECTID ≡ true
  pub inodes : (node : NodeId) → Contains nodes node → IsGoodNode t node
  pub forms : (off : OffForm) → Contains t.off_form.items off → is_open t named off.dir ≡ false
  pub entries : (n : DirIndex) → Contains t.namings.items n → IsGoodEntry t (is_open t named) roots n

-- one of them is not
pub data BlamesOne (t : NameTable) (named : NodeId → Bool) (roots : ℕ → Bool) (nodes : List NodeId) (root : ℕ) (r : BtrRefusal) : Type 0 where
  by_root : BlamesRoot t root r → BlamesOne t named roots nodes root r
  by_inode : (node : NodeId) → Contains nodes node → BlamesNode t node r → BlamesOne t named roots nodes root r
  by_form : (off : OffForm) → Contains t.off_form.items off → BlamesForm (is_open t named) off r → BlamesOne t named roots nodes root r
  by_entry : (n : DirIndex) → Contains t.namings.items n → BlamesEntry t (is_open t named) roots n r → BlamesOne t named roots nodes root r
