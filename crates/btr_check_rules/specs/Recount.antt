-- What a recount of a Btrfs volume finds: its chunks, its trees with their nodes and items, and the data that its files refer to.
use Rattle.std.specs.Prelude.{◌≡◌, ◌⊎◌, ℕ, ◌+◌, ◌-◌, ◌%◌, ◌^◌, ◌==◌, nat_le, nat_lt, Bool, true, false, not, ◌&&◌, ◌||◌, bit_and, if◌then◌else◌, List, [], ◌∷◌, ◌++◌, filter, map, Option, Some, None, All, AllPairs, Contains}
use Rattle.std.specs.List.{flat_map, list_any}
use Rattle.std.specs.Option.{option_map_or}
use Rattle.btr_reader_walk.specs.btrfs_format.declared.key.TheConstants.{EXTENT_DATA, ROOT_ITEM}
use Rattle.btr_reader_walk.specs.btrfs_format.declared.object.TheConstants.{CHUNK_TREE, DATA_RELOC_TREE, ROOT_TREE}
use Rattle.btr_reader.specs.outside.History.{Image}
use Rattle.btr_reader.specs.btr_keys.FileExtent.{ContentValue, Inline, Regular, Prealloc, FileExtentValue, file_extent_of}
use Rattle.btr_reader.specs.btr_keys.declared.file_extent.DiskRange.{DiskRange}
use Rattle.btr_reader.specs.btr_node.Leaf.{Item}
use Rattle.btr_reader.specs.btr_super.declared.superblock.Super.{Super}
use Rattle.btr_reader.specs.btr_space_items.RootItem.{root_item_of}
use Rattle.btr_reader.specs.btr_reader_walk.Nodes.{is_file_tree as is_subvolume}
use Rattle.btr_reader.specs.btr_reader_walk.Tree.{bare_item}
use Rattle.btr_reader.specs.btr_reader_walk.declared.map.MapRange.{MapRange}
use Rattle.btr_reader.specs.btr_reader_walk.declared.tree.NodePointer.{NodePointer}
use Rattle.btr_reader.specs.btr_reader_contents.Extents.{is_hole}
use Rattle.btr_reader.specs.declared.chunk.ChunkAt.{ChunkAt}
use Rattle.btr_reader.specs.Chunks.{chunk_in, range_of}
use Rattle.btr_reader.specs.Opening.{chunk_tree, root_tree, chunk_map, boot_chunks, boot_list, tree_of}
use Rattle.btr_reader.specs.Parts.{own_super}
use Rattle.btr_reader.specs.Roots.{pointer_of}
use Rattle.btr_check_rules.specs.Walk.{walked_items, walked_nodes}
use Rattle.btr_check_rules.specs.declared.span.Span.{Span}

-- ---- what stands at an address

-- P holds of each of these that stands at an address, or has a number
abbrev pub EachAt : {A : Type 0} → (A → ℕ) → ℕ → (A → Type 0) → List A → Type 0
EachAt at a P xs = All (λ x. at x ≡ a → P x) xs

-- P holds of each two of these of which one stands there, in their order
abbrev pub PairsAt : {A : Type 0} → (A → ℕ) → ℕ → (A → A → Type 0) → List A → Type 0
PairsAt at a P xs = AllPairs (λ x y. (at x ≡ a) ⊎ (at y ≡ a) → P x y) xs

-- numbers, each once
abbrev pub once : List ℕ → List ℕ
once [] = []
once (n ∷ ns) = if list_any (λ m. m == n) ns then once ns else n ∷ once ns

-- the number of the object that an item belongs to
abbrev pub object_of : Item → ℕ
object_of i = i.0.objectid

-- an item of a list has this key
abbrev pub HasItem : List Item → ℕ → ℕ → ℕ → Type 0
HasItem items objectid kind offset = (body : List ℕ) × Contains items (record { objectid = objectid; kind = kind; offset = offset }, body)

-- ---- trees

-- A tree: its number; where its root item stands, which in a snapshot is the transaction that made it, and else 0; the
-- last transaction in which a snapshot of it was made; the pointer to its root; the nodes that a walk meets, and its items.
pub record TreeOn : Type 0 where
  pub number : ℕ
  pub made : ℕ
  pub last_snapshot : ℕ
  pub root : NodePointer
  pub nodes : List NodePointer
  pub items : List Item

pub record Recount : Type 0 where
  pub super : Super
  -- the chunks of the bootstrap array and of the chunk tree, each once
  pub chunks : List ChunkAt
  pub chunk_tree : TreeOn
  pub root_tree : TreeOn
  -- the trees that have a root item, in the order of these
  pub others : List TreeOn

abbrev pub all_trees : Recount → List TreeOn
all_trees r = r.chunk_tree ∷ (r.root_tree ∷ r.others)

-- subvolumes hold files, and so does the tree that a balance of data uses
abbrev pub holds_files : ℕ → Bool
holds_files number = is_subvolume number || (number == DATA_RELOC_TREE)

abbrev pub is_file_tree : TreeOn → Bool
is_file_tree t = holds_files t.number

abbrev pub file_trees : Recount → List TreeOn
file_trees r = filter is_file_tree r.others

-- there is a tree with this number
abbrev pub has_tree : Recount → ℕ → Bool
has_tree r number = list_any (λ t. t.number == number) r.others

-- the items of the tree with a number, none where there is no such tree
abbrev pub recounted_items : Recount → ℕ → List Item
recounted_items r number = flat_map (λ t. t.items) (filter (λ t. t.number == number) r.others)

-- the items of a kind
abbrev pub of_kind : ℕ → List Item → List Item
of_kind kind items = filter (λ i. i.0.kind == kind) items

-- the superblock has an incompatible feature
abbrev pub has_feature : Super → ℕ → Bool
has_feature s bit = not (bit_and s.incompat bit == 0)

-- the chunks of the array, and those of the chunk tree that are none of these
abbrev pub added_chunk : Option (Option ChunkAt) → List ChunkAt
added_chunk None = []
added_chunk (Some None) = []
added_chunk (Some (Some c)) = c ∷ []

abbrev pub chunks_on : List ChunkAt → List Item → List ChunkAt
chunks_on boot items = boot ++ flat_map (λ i. added_chunk (chunk_in boot i.0 i.1)) items

-- What leads to a tree, besides its number: where its root item stands, the last snapshot of it, and the pointer to its root.
pub record RootOn : Type 0 where
  pub number : ℕ
  pub made : ℕ
  pub last_snapshot : ℕ
  pub pointer : NodePointer

-- the tree under a root, as a walk finds it, whether anything is wrong with it or not
abbrev pub tree_on : Image → Super → RootOn → TreeOn
tree_on image s x = record {
  number = x.number;
  made = x.made;
  last_snapshot = x.last_snapshot;
  root = x.pointer;
  nodes = walked_nodes image (chunk_map image s) (tree_of s x.number x.pointer);
  items = map bare_item (walked_items image (chunk_map image s) (tree_of s x.number x.pointer));
}

-- the root of a tree that is no snapshot, and of which there was none; so are those that the superblock leads to
abbrev pub plain_root : ℕ → NodePointer → RootOn
plain_root number pointer = record { number = number; made = 0; last_snapshot = 0; pointer = pointer }

abbrev pub last_snapshot_of : List ℕ → ℕ
last_snapshot_of body = option_map_or (λ root. root.last_snapshot) (root_item_of body) 0

-- the root that a root item leads to; there is none where its body is off the grammar, or no tree has so many levels
abbrev pub root_by : Item → Option NodePointer → List RootOn
root_by i None = []
root_by i (Some pointer) = record { number = i.0.objectid; made = i.0.offset; last_snapshot = last_snapshot_of i.1; pointer = pointer } ∷ []

abbrev pub roots_in : List Item → List RootOn
roots_in items = flat_map (λ i. root_by i (pointer_of i.1)) (of_kind ROOT_ITEM items)

-- The recount of the volume with this superblock. It is a function of the blocks, whether the volume is sound or not.
abbrev pub recount_of : Image → Super → TreeOn → TreeOn → Recount
recount_of image s chunks roots = record {
  super = s;
  chunks = chunks_on (boot_list (boot_chunks s)) chunks.items;
  chunk_tree = chunks;
  root_tree = roots;
  others = map (tree_on image s) (roots_in roots.items);
}

abbrev pub recount_by : Image → Super → Recount
recount_by image s = recount_of image s (tree_on image s (plain_root CHUNK_TREE (chunk_tree s).root)) (tree_on image s (plain_root ROOT_TREE (root_tree s).root))

abbrev pub recount : Image → Recount
recount image = recount_by image (own_super image)

-- the map of addresses by the chunks
abbrev pub map_of : Recount → List MapRange
map_of r = map range_of r.chunks

abbrev pub node_addresses : TreeOn → List ℕ
node_addresses t = map (λ p. p.address) t.nodes

-- the nodes of all trees, each once: trees may share nodes
abbrev pub nodes_met : Recount → List ℕ
nodes_met r = once (flat_map node_addresses (all_trees r))

-- ---- data

-- A file extent with a place on the disk: where its disk extent lies, in bytes, and which reference to that it is. The offset of
-- a reference is where in the file the disk extent would begin, as a number of 64 bits. Then the part of the disk extent that the
-- file extent has, which is told by the bytes in memory; its compression; and whether the bytes were written, or only laid out.
pub record DataUse : Type 0 where
  pub start : ℕ
  pub length : ℕ
  pub tree : ℕ
  pub inode : ℕ
  pub offset : ℕ
  pub part : ℕ
  pub part_length : ℕ
  pub compression : ℕ
  pub written : Bool

abbrev pub use_of : ℕ → Item → ℕ → Bool → DiskRange → DataUse
use_of tree i compression written d = record {
  start = d.disk_bytenr;
  length = d.disk_num_bytes;
  tree = tree;
  inode = i.0.objectid;
  offset = (i.0.offset + (2 ^ 64 - d.offset)) % 2 ^ 64;
  part = d.offset;
  part_length = d.num_bytes;
  compression = compression;
  written = written;
}

abbrev pub use_by : ℕ → Item → ℕ → ContentValue → List DataUse
use_by tree i compression (Inline bytes) = []
use_by tree i compression (Regular d) = if is_hole d then [] else use_of tree i compression true d ∷ []
use_by tree i compression (Prealloc d) = if is_hole d then [] else use_of tree i compression false d ∷ []

abbrev pub use_in : ℕ → Item → Option FileExtentValue → List DataUse
use_in tree i None = []
use_in tree i (Some e) = use_by tree i e.compression e.content

-- what the file extents among some items of a tree use
abbrev pub uses_of : ℕ → List Item → List DataUse
uses_of tree items = flat_map (λ i. if i.0.kind == EXTENT_DATA then use_in tree i (file_extent_of i.1) else []) items

abbrev pub uses_in : TreeOn → List DataUse
uses_in t = uses_of t.number t.items

-- all of all trees; the root tree has some where there is an old free space cache
abbrev pub data_uses : Recount → List DataUse
data_uses r = flat_map uses_in (all_trees r)

-- ---- ranges of addresses

abbrev pub span_of : DataUse → Span
span_of u = record { start = u.start; length = u.length }

-- one of the disk ranges of file extents
abbrev pub IsData : Recount → Span → Type 0
IsData r span = (u : DataUse) × Contains (data_uses r) u × (span ≡ span_of u)

-- a node of the tree
abbrev pub IsNodeOf : Recount → TreeOn → Span → Type 0
IsNodeOf r t span = (p : NodePointer) × Contains t.nodes p × (span ≡ record { start = p.address; length = r.super.nodesize })

-- an address lies in a range
abbrev pub is_within : Span → ℕ → Bool
is_within span a = nat_le span.start a && nat_lt a (span.start + span.length)
