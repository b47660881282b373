-- Items of the space trees as the checker keeps them: of each the numbers of its key that tell something, and its body; and
-- what is asked of them, as tests.
use Rattle.std.specs.Prelude.{◌≡◌, ◌==◌, Bool, true, false, ◌&&◌, ◌||◌, if◌then◌else◌, List, map, Option, Some, None}
use Rattle.std.specs.List.{list_any}
use Rattle.std.specs.Option.{option_map}
use Rattle.btr_check_rules.specs.btr_reader.btr_space_items.btrfs_format.declared.key.TheConstants.{BLOCK_GROUP_ITEM, DEV_EXTENT}
use Rattle.btr_check_rules.specs.btr_reader.btr_space_items.btrfs_format.declared.object.TheConstants.{CHUNK_TREE, FIRST_CHUNK_TREE_OBJECTID}
use Rattle.btr_check_rules.specs.btr_reader.btr_node.Leaf.{Item}
use Rattle.btr_check_rules.specs.btr_reader.btr_space_items.BlockGroup.{block_group_of}
use Rattle.btr_check_rules.specs.btr_reader.btr_space_items.DevExtent.{dev_extent_of}
use Rattle.btr_check_rules.specs.btr_reader.btr_space_items.declared.stripe.Stripe.{Stripe}
use Rattle.btr_check_rules.specs.btr_reader.declared.chunk.ChunkAt.{ChunkAt}
use Rattle.btr_check_fields.specs.declared.found.ChunkUse.{ChunkUse}
use Rattle.btr_check_fields.specs.declared.found.ExtentAt.{ExtentAt}
use Rattle.btr_check_fields.specs.declared.found.GroupAt.{GroupAt}

-- these are what was read of some items, each on its grammar
abbrev pub AreReadOf : {A : Type 0} → (Item → Option A) → List Item → List A → Type 0
AreReadOf read items found = map read items ≡ map Some found

-- ---- block groups

abbrev pub group_at : Item → Option GroupAt
group_at i =
    if i.0.kind == BLOCK_GROUP_ITEM then option_map (λ group. record { start = i.0.objectid; length = i.0.offset; group = group }) (block_group_of i.1) else None

abbrev pub chunk_of : ChunkUse → ChunkAt
chunk_of u = u.chunk

-- a block group is that of a chunk, and tells what is used of it
abbrev pub is_group_of : ChunkUse → GroupAt → Bool
is_group_of u g =
    (g.start == u.chunk.logical)
    && ((g.length == u.chunk.chunk.length)
    && ((g.group.used == u.used) && ((g.group.chunk_objectid == FIRST_CHUNK_TREE_OBJECTID) && (g.group.flags == u.chunk.chunk.kind))))

abbrev pub has_group : List GroupAt → ChunkUse → Bool
has_group groups u = list_any (is_group_of u) groups

abbrev pub group_of : List ChunkUse → GroupAt → Bool
group_of chunks g = list_any (λ u. is_group_of u g) chunks

-- ---- device extents

abbrev pub extent_at : Item → Option ExtentAt
extent_at i =
    if i.0.kind == DEV_EXTENT then option_map (λ extent. record { devid = i.0.objectid; offset = i.0.offset; extent = extent }) (dev_extent_of i.1) else None

-- a device extent is that of a stripe of a chunk
abbrev pub is_extent_of : ChunkAt → Stripe → ExtentAt → Bool
is_extent_of c s e =
    (e.devid == s.devid)
    && ((e.offset == s.offset)
    && ((e.extent.chunk_tree == CHUNK_TREE)
    && ((e.extent.chunk_objectid == FIRST_CHUNK_TREE_OBJECTID) && ((e.extent.chunk_offset == c.logical) && (e.extent.length == c.chunk.length)))))

abbrev pub is_of_second : ChunkAt → Option Stripe → ExtentAt → Bool
is_of_second c None e = false
is_of_second c (Some s) e = is_extent_of c s e

abbrev pub is_of_chunk : ChunkAt → ExtentAt → Bool
is_of_chunk c e = is_extent_of c c.chunk.stripe e || is_of_second c c.mirror e

abbrev pub extent_of : List ChunkAt → ExtentAt → Bool
extent_of chunks e = list_any (λ c. is_of_chunk c e) chunks

abbrev pub has_extent : List ExtentAt → ChunkAt → Stripe → Bool
has_extent extents c s = list_any (is_extent_of c s) extents

abbrev pub has_second : List ExtentAt → ChunkAt → Option Stripe → Bool
has_second extents c None = true
has_second extents c (Some s) = has_extent extents c s

abbrev pub has_extents : List ExtentAt → ChunkAt → Bool
has_extents extents c = has_extent extents c c.chunk.stripe && has_second extents c c.mirror
