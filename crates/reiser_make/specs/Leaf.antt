-- Leaves: items packed in order, each leaf as full as the next item lets it be.
use Rattle.std.specs.Prelude.{ℕ, ◌+◌, ◌-◌, ◌*◌, ◌^◌, nat_le, Bool, true, false, List, [], ◌∷◌, ◌++◌, length, replicate, sum_by, if◌then◌else◌}
use Rattle.reiser_items.specs.reiserfs_format.declared.key.TheConstants.{V1_DIRECT_UNIQUENESS, V1_DIRENTRY_UNIQUENESS, V1_INDIRECT_UNIQUENESS}
use Rattle.byteorder.specs.Endian.{little_bytes}
use Rattle.reiser_items.specs.reiser_node.declared.head.ItemHead.{ItemHead}
use Rattle.reiser_items.specs.reiser_node.declared.head.ItemKind.{ItemKind}
use Rattle.reiser_items.specs.reiser_node.declared.head.ItemKind.TheVariants.{Stat, Indirect, Direct, Directory}
use Rattle.reiser_items.specs.Order.{kind_number}
use Rattle.reiser_make.specs.Items.{items, body_bytes}
use Rattle.reiser_make.specs.Shape.{Shape}
use Rattle.reiser_make.specs.declared.sample_item.SampleItem.{SampleItem}

-- the bytes that an item takes, with its head
abbrev pub taken_by : SampleItem → ℕ
taken_by item = 24 + item.head.length

abbrev pub bytes_taken : List SampleItem → ℕ
bytes_taken items = sum_by taken_by items

-- the bytes of a node behind its head
abbrev pub node_room : ℕ
node_room = 4072

-- Leaves behind one that has these items and so much room: it takes the next item exactly where there is room.
abbrev pub packed_behind : List SampleItem → ℕ → List SampleItem → List (List SampleItem)
packed_behind leaf room [] = leaf ∷ []
packed_behind leaf room (item ∷ items) =
    if nat_le (taken_by item) room then packed_behind (leaf ++ item ∷ []) (room - taken_by item) items
    else leaf ∷ packed_behind (item ∷ []) (node_room - taken_by item) items

-- the leaves of a list of items
abbrev pub leaves_of : List SampleItem → List (List SampleItem)
leaves_of [] = []
leaves_of (item ∷ items) = packed_behind (item ∷ []) (node_room - taken_by item) items

-- the leaves of a sample
unfoldable pub leaves : Shape → List (List SampleItem)
leaves s = leaves_of (items s)

-- the number of a kind in the keys of version 0 (`uniqueness`)
abbrev pub old_code : ItemKind → ℕ
old_code Stat = 0
old_code Indirect = V1_INDIRECT_UNIQUENESS
old_code Direct = V1_DIRECT_UNIQUENESS
old_code Directory = V1_DIRENTRY_UNIQUENESS

-- offset and kind in a key, by the version
abbrev pub place_bytes : Bool → ℕ → ItemKind → List ℕ
place_bytes true offset kind = little_bytes 4 offset ++ little_bytes 4 (old_code kind)
place_bytes false offset kind = little_bytes 8 (offset + kind_number kind * 2 ^ 60)

-- the 16 bytes of a key
abbrev pub key_bytes : ItemHead → List ℕ
key_bytes head = little_bytes 4 head.dir ++ little_bytes 4 head.object ++ place_bytes head.old head.offset head.kind

abbrev pub version : Bool → ℕ
version true = 0
version false = 1

-- the 24 bytes of a head, with the place of its body
abbrev pub head_bytes : ItemHead → ℕ → List ℕ
head_bytes head location =
    key_bytes head ++ little_bytes 2 head.count ++ little_bytes 2 head.length ++ little_bytes 2 location ++ little_bytes 2 (version head.old)

-- the heads of items; the body of the first ends at `end`, and each other one where the one before begins
abbrev pub heads_bytes : ℕ → List SampleItem → List ℕ
heads_bytes end [] = []
heads_bytes end (item ∷ items) = head_bytes item.head (end - item.head.length) ++ heads_bytes (end - item.head.length) items

-- the bodies, the last one first
abbrev pub bodies : Shape → List SampleItem → List ℕ
bodies s [] = []
bodies s (item ∷ items) = bodies s items ++ body_bytes s item.head.old item.body

-- the head of a node: its level, its count, the room that is left, and zeros
abbrev pub node_head : ℕ → ℕ → ℕ → List ℕ
node_head level count room = little_bytes 2 level ++ little_bytes 2 count ++ little_bytes 2 room ++ replicate 18 0

-- what stands behind the head of a leaf: heads of items, zeros, and bodies
unfoldable pub leaf_contents : Shape → List SampleItem → List ℕ
leaf_contents s items = heads_bytes 4096 items ++ (replicate (node_room - bytes_taken items) 0 ++ bodies s items)

-- the block of a leaf
unfoldable pub leaf_bytes : Shape → List SampleItem → List ℕ
leaf_bytes s items = node_head 1 (length items) (node_room - bytes_taken items) ++ leaf_contents s items
