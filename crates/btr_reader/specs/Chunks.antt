-- The chunks of a volume, and the map of addresses that they make.
use Rattle.std.specs.Prelude.{ℕ, zero, suc, ◌+◌, ◌*◌, ◌%◌, ◌==◌, nat_eq, nat_lt, nat_le, max, min, Bool, true, false, ◌&&◌, ◌||◌, if◌then◌else◌, List, [], ◌∷◌, ◌++◌, length, drop, slice_range, Option, Some, None}
use Rattle.std.specs.List.{list_any}
use Rattle.std.specs.Option.{option_map, option_and_then}
use Rattle.btr_space_items.specs.btrfs_format.declared.flag.TheConstants.{BLOCK_GROUP_DATA, BLOCK_GROUP_DUP, BLOCK_GROUP_METADATA, BLOCK_GROUP_SYSTEM}
use Rattle.btr_space_items.specs.btrfs_format.declared.key.TheConstants.{CHUNK_ITEM}
use Rattle.btr_space_items.specs.btrfs_format.declared.object.TheConstants.{FIRST_CHUNK_TREE_OBJECTID}
use Rattle.btr_space_items.specs.btrfs_format.declared.size.TheConstants.{CHUNK_HEAD_SIZE, CHUNK_SIZE, KEY_SIZE, STRIPE_SIZE, SYSTEM_CHUNK_SIZE}
use Rattle.btr_reader_walk.specs.refusals.declared.refusal.BtrRefusal.{BtrRefusal}
use Rattle.btr_reader_walk.specs.refusals.declared.refusal.BtrRefusal.TheVariants.{BadBtrfs, Unsupported}
use Rattle.btr_reader_walk.specs.refusals.declared.rule.BtrRule.TheVariants.{ChunkForm}
use Rattle.btr_reader_walk.specs.refusals.declared.rule.Feature.TheVariants.{ChunkType}
use Rattle.btr_reader_walk.specs.vol_block.Volume.{field}
use Rattle.btr_reader_walk.specs.btr_keys.Key.{key_in_bytes}
use Rattle.btr_reader_walk.specs.btr_keys.declared.key.Key.{Key}
use Rattle.btr_space_items.specs.Chunk.{chunk_of}
use Rattle.btr_space_items.specs.Stripe.{stripe_at}
use Rattle.btr_space_items.specs.declared.chunk.Chunk.{Chunk}
use Rattle.btr_space_items.specs.declared.stripe.Stripe.{Stripe}
use Rattle.std.specs.Cmp.Lexicographic.{pointwise}
use Rattle.btr_reader_walk.specs.declared.map.MapRange.{MapRange}
use Rattle.btr_reader_walk.specs.Events.{TreeItem}
use Rattle.btr_reader_contents.specs.Extents.{refused_unless}
use Rattle.btr_reader.specs.declared.chunk.ChunkAt.{ChunkAt}

-- the key of a chunk, whose offset is the logical address
abbrev pub is_chunk_key : Key → Bool
is_chunk_key key = (key.objectid == FIRST_CHUNK_TREE_OBJECTID) && (key.kind == CHUNK_ITEM)

-- the second stripe in the body of a chunk with two: it stands behind the first one
abbrev pub second_stripe : List ℕ → Option Stripe
second_stripe body = if length body == CHUNK_SIZE + STRIPE_SIZE then Some (stripe_at body CHUNK_SIZE) else None

-- the chunk at an address that a body is
abbrev pub placed_chunk : ℕ → List ℕ → Option ChunkAt
placed_chunk logical body = option_map (λ chunk. record { logical = logical; chunk = chunk; mirror = second_stripe body }) (chunk_of body)

-- where a stripe begins, if there is one
abbrev pub offset_of : Option Stripe → Option ℕ
offset_of stripe = option_map (λ (s : Stripe). s.offset) stripe

-- the range of addresses that a chunk maps
abbrev pub range_of : ChunkAt → MapRange
range_of c = record { logical = c.logical; length = c.chunk.length; physical = c.chunk.stripe.offset; mirror = offset_of c.mirror }

-- The bootstrap array is a list of chunks, each a key of 17 bytes and a body of 48 bytes and 32 for each stripe.
abbrev pub entry_size : List ℕ → ℕ
entry_size bytes = KEY_SIZE + (CHUNK_HEAD_SIZE + STRIPE_SIZE * field 2 bytes 61)

-- the chunk that bytes begin with
abbrev pub front_chunk : List ℕ → Option ChunkAt
front_chunk bytes =
    if nat_lt (length bytes) SYSTEM_CHUNK_SIZE then None
    else (if is_chunk_key (key_in_bytes bytes 0)
    then placed_chunk (key_in_bytes bytes 0).offset (slice_range bytes KEY_SIZE (entry_size bytes))
    else None)

-- the chunks that bytes are, at most n
unfoldable pub chunks_within : ℕ → List ℕ → Option (List ChunkAt)
chunks_within n [] = Some []
chunks_within zero (b ∷ bs) = None
chunks_within (suc n) (b ∷ bs) =
    option_and_then (λ c. option_map (λ cs. c ∷ cs) (chunks_within n (drop (entry_size (b ∷ bs)) (b ∷ bs)))) (front_chunk (b ∷ bs))

abbrev pub array_chunks : List ℕ → Option (List ChunkAt)
array_chunks bytes = chunks_within (length bytes) bytes

-- its place is a multiple of 4096, and so many bytes from there on end within the device of so many blocks
abbrev pub stripe_lies_on : ℕ → ℕ → Stripe → Bool
stripe_lies_on device length s = (s.offset % 4096 == 0) && nat_le (s.offset + length) (4096 * device)

-- the same of the second stripe, if there is one: it is on the device of the first one
abbrev pub mirror_lies_on : ℕ → Chunk → Option Stripe → Bool
mirror_lies_on device chunk None = true
mirror_lies_on device chunk (Some s) = (s.devid == chunk.stripe.devid) && stripe_lies_on device chunk.length s

-- its address, its length and its places are multiples of 4096, and each stripe ends within the device of so many blocks
abbrev pub lies_on : ℕ → ChunkAt → Bool
lies_on device c =
    (c.logical % 4096 == 0)
    && ((c.chunk.length % 4096 == 0) && (stripe_lies_on device c.chunk.length c.chunk.stripe && mirror_lies_on device c.chunk c.mirror))

-- The kinds of chunks that are read: data, system or metadata alone, in one copy, or in two on one device. Other bits say that a
-- chunk is mixed, or how it is spread over devices.
abbrev pub data_kind : ℕ
data_kind = BLOCK_GROUP_DATA

abbrev pub system_kind : ℕ
system_kind = BLOCK_GROUP_SYSTEM

abbrev pub metadata_kind : ℕ
metadata_kind = BLOCK_GROUP_METADATA

abbrev pub is_single_kind : ℕ → Bool
is_single_kind kind = (kind == data_kind) || ((kind == system_kind) || (kind == metadata_kind))

abbrev pub is_dup_kind : ℕ → Bool
is_dup_kind kind = (kind == data_kind + BLOCK_GROUP_DUP) || ((kind == system_kind + BLOCK_GROUP_DUP) || (kind == metadata_kind + BLOCK_GROUP_DUP))

abbrev pub is_read_kind : ℕ → Bool
is_read_kind kind = is_single_kind kind || is_dup_kind kind

-- how many stripes a chunk of such a kind has
abbrev pub stripes_of : ℕ → ℕ
stripes_of kind = if is_dup_kind kind then 2 else 1

-- What is wrong with a chunk by itself: it has the wrong number of stripes, or leaves the device.
abbrev pub chunk_refusals : ℕ → ChunkAt → List BtrRefusal
chunk_refusals device c =
    refused_unless (is_read_kind c.chunk.kind) (Unsupported ChunkType c.chunk.kind)
    ++ (refused_unless (c.chunk.num_stripes == stripes_of c.chunk.kind) (Unsupported ChunkType c.chunk.num_stripes) ++ refused_unless (lies_on device c) (BadBtrfs c.logical ChunkForm))

-- there is an address in both
abbrev pub overlap : MapRange → MapRange → Bool
overlap a b = nat_lt (max a.logical b.logical) (min (a.logical + a.length) (b.logical + b.length))

-- what is wrong with a chunk beside others
abbrev pub beside_refusals : ℕ → List MapRange → ChunkAt → List BtrRefusal
beside_refusals device others c = chunk_refusals device c ++ (if list_any (overlap (range_of c)) others then BadBtrfs c.logical ChunkForm ∷ [] else [])

-- the same of chunks one after the other, after others
abbrev pub chunks_refusals : ℕ → List MapRange → List ChunkAt → List BtrRefusal
chunks_refusals device others [] = []
chunks_refusals device others (c ∷ cs) = beside_refusals device others c ++ chunks_refusals device (others ++ range_of c ∷ []) cs

-- all fields are the same
abbrev pub same_stripe : Stripe → Stripe → Bool
same_stripe a b = (a.devid == b.devid) && ((a.offset == b.offset) && pointwise nat_eq a.device_uuid b.device_uuid)

abbrev pub same_body : Chunk → Chunk → Bool
same_body a b =
    (a.length == b.length)
    && ((a.owner == b.owner)
    && ((a.stripe_len == b.stripe_len)
    && ((a.kind == b.kind)
    && ((a.io_align == b.io_align)
    && ((a.io_width == b.io_width)
    && ((a.sector_size == b.sector_size)
    && ((a.num_stripes == b.num_stripes) && ((a.sub_stripes == b.sub_stripes) && same_stripe a.stripe b.stripe))))))))

abbrev pub same_mirror : Option Stripe → Option Stripe → Bool
same_mirror None None = true
same_mirror None (Some b) = false
same_mirror (Some a) None = false
same_mirror (Some a) (Some b) = same_stripe a b

abbrev pub same_chunk : ChunkAt → ChunkAt → Bool
same_chunk a b = (a.logical == b.logical) && (same_body a.chunk b.chunk && same_mirror a.mirror b.mirror)

-- a chunk that none of these is
abbrev pub new_chunk : List ChunkAt → ChunkAt → Option ChunkAt
new_chunk boot c = if list_any (same_chunk c) boot then None else Some c

-- What an item of the chunk tree adds, where these are the chunks of the bootstrap array: the chunk that it is. One with all
-- the fields of a chunk of the array is that chunk; another one with its addresses is wrong beside it.
abbrev pub chunk_in : List ChunkAt → Key → List ℕ → Option (Option ChunkAt)
chunk_in boot key body =
    if is_chunk_key key then option_map (new_chunk boot) (placed_chunk key.offset body) else Some None

-- the map after an item, and what is wrong with the item; None is a body that is no chunk
abbrev pub with_chunk : List MapRange → Option (Option ChunkAt) → List MapRange
with_chunk ranges None = ranges
with_chunk ranges (Some None) = ranges
with_chunk ranges (Some (Some c)) = ranges ++ range_of c ∷ []

abbrev pub chunk_item_refusals : ℕ → List MapRange → ℕ → Option (Option ChunkAt) → List BtrRefusal
chunk_item_refusals device ranges logical None = BadBtrfs logical ChunkForm ∷ []
chunk_item_refusals device ranges logical (Some None) = []
chunk_item_refusals device ranges logical (Some (Some c)) = beside_refusals device ranges c

-- the map after the items of the chunk tree, and what is wrong with the items
abbrev pub with_items : List ChunkAt → List MapRange → List TreeItem → List MapRange
with_items boot ranges [] = ranges
with_items boot ranges (i ∷ items) = with_items boot (with_chunk ranges (chunk_in boot i.key i.body)) items

abbrev pub items_refusals : ℕ → List ChunkAt → List MapRange → List TreeItem → List BtrRefusal
items_refusals device boot ranges [] = []
items_refusals device boot ranges (i ∷ items) =
    chunk_item_refusals device ranges i.key.offset (chunk_in boot i.key i.body) ++ items_refusals device boot (with_chunk ranges (chunk_in boot i.key i.body)) items
