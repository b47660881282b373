-- Which object a directory's entries name, and which objects the root reaches by names.
use Rattle.std.specs.Prelude.{◌≡◌, ℕ, zero, suc, ◌==◌, Bool, ◌&&◌, ◌||◌, not, List, [], map, filter, nat_eq, codes, Contains, if◌then◌else◌}
use Rattle.std.specs.List.{flat_map}
use Rattle.std.specs.Cmp.Lexicographic.{pointwise}
use Rattle.reiser_items.specs.reiser_node.declared.head.ItemKind.{ItemKind}
use Rattle.reiser_items.specs.reiser_node.declared.head.ItemKind.TheVariants.{Stat, Indirect, Direct, Directory}
use Rattle.reiser_items.specs.Entries.{EntryValue, are_entries, entries}
use Rattle.reiser_walk.specs.Items.{ReiserItem}
use Rattle.reiser_volume_objects.specs.declared.key.ObjectKey.{ObjectKey}
use Rattle.reiser_volume_objects.specs.declared.naming.Naming.{Naming}
use Rattle.reiser_volume_objects.specs.Keys.{object_key_of, root, same_key}

-- An entry counts where it is visible and is neither `.` nor `..`, which have the offsets 1 and 2.
abbrev pub is_listed : EntryValue → Bool
is_listed e = e.visible && not ((e.offset == 1) || (e.offset == 2))

-- the naming by an entry of a directory, in a leaf
abbrev pub naming_by : ℕ → ObjectKey → EntryValue → Naming
naming_by leaf dir e = record { leaf = leaf; dir = dir; target = record { dir = e.dir; object = e.object }; name = e.name }

-- the entries that count in a directory item; one off the grammar of entries names nothing
abbrev pub namings_by_kind : ItemKind → ReiserItem → List Naming
namings_by_kind Directory i =
    if are_entries i.head.count i.body then map (naming_by i.leaf (object_key_of i.head)) (filter is_listed (entries i.head.count i.body)) else []
namings_by_kind Stat i = []
namings_by_kind Indirect i = []
namings_by_kind Direct i = []

abbrev pub namings_in : ReiserItem → List Naming
namings_in i = namings_by_kind i.head.kind i

-- all entries that count, in the order of the items and of the heads in each
abbrev pub namings : List ReiserItem → List Naming
namings items = flat_map namings_in items

abbrev pub is_private_name : List ℕ → Bool
is_private_name name = pointwise nat_eq name (codes ".reiserfs_priv")

-- the root's private directory, in which Linux keeps extended attributes, is no part of the tree
abbrev pub is_followed : Naming → Bool
is_followed n = not (same_key root n.dir && is_private_name n.name)

abbrev pub followed : List ReiserItem → List Naming
followed items = filter is_followed (namings items)

-- The object is reached from the root by so many entries, one after the other.
abbrev pub IsReachedBy : List Naming → ℕ → ObjectKey → Type 0
IsReachedBy ns zero key = key ≡ root
IsReachedBy ns (suc steps) key = (n : Naming) × Contains ns n × (n.target ≡ key) × IsReachedBy ns steps n.dir

-- The object is the root, or is reached from it by entries.
abbrev pub IsNamed : List ReiserItem → ObjectKey → Type 0
IsNamed items key = (steps : ℕ) × IsReachedBy (followed items) steps key
