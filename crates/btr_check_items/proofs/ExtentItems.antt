-- Items of the extent tree, kind by kind.
use Rattle.btr_check_items.proofs.Imports.{◌≡◌, ℕ, ◌+◌, ◌≤◌, ◌==◌, nat_lt, Bool, true, false, length, Option, Some, None, if◌then◌else◌, sym, ap, ◌∙◌, drop, slice_index, option_and_then, le-ltb, METADATA_ITEM, Item, Extent, extent_by, extent_of, is_node_head, plain_extent, skinny_extent}
use Rattle.btr_check_rules.specs.btr_reader.btr_reader_walk.btr_keys.btrfs_format.declared.size.TheConstants.{EXTENT_ITEM_SIZE, KEY_SIZE}
use Rattle.btr_check_rules.specs.btr_reader.btr_space_items.ExtentHead.{extent_head_of}
use Rattle.btr_check_rules.specs.btr_reader.btr_space_items.declared.extent_head.ExtentHead.{ExtentHead}

-- where the references of a node begin
abbrev BEHIND_LEVEL : ℕ
BEHIND_LEVEL = EXTENT_ITEM_SIZE + KEY_SIZE + 1

abbrev data_extent : Item → ExtentHead → Option Extent
data_extent i head = extent_by i.0.objectid i.0.offset None (drop EXTENT_ITEM_SIZE i.1) head

abbrev node_extent : Item → ExtentHead → Option Extent
node_extent i head = extent_by i.0.objectid i.0.offset (Some (slice_index i.1 (EXTENT_ITEM_SIZE + KEY_SIZE))) (drop BEHIND_LEVEL i.1) head

pub data_is : (i : Item) (head : ExtentHead) → false ≡ is_node_head head → data_extent i head ≡ plain_extent i head
data_is i head is = ap (λ (b : Bool). if b then (if nat_lt (length i.1) BEHIND_LEVEL then None else node_extent i head) else data_extent i head) is

pub node_is : (i : Item) (head : ExtentHead) → true ≡ is_node_head head → BEHIND_LEVEL ≤ length i.1 → node_extent i head ≡ plain_extent i head
node_is i head is long =
    let room : nat_lt (length i.1) BEHIND_LEVEL ≡ false = le-ltb (length i.1) BEHIND_LEVEL long in
    sym (ap (λ (b : Bool). if b then None else node_extent i head) room)
    ∙ ap (λ (b : Bool). if b then (if nat_lt (length i.1) BEHIND_LEVEL then None else node_extent i head) else data_extent i head) is

pub skinny_is : (nodesize : ℕ) (i : Item) (head : ExtentHead) → Some head ≡ extent_head_of i.1 → (i.0.kind == METADATA_ITEM) ≡ true → skinny_extent nodesize i head ≡ extent_of nodesize i
skinny_is nodesize i head is kind =
    ap (λ (b : Bool). if b then skinny_extent nodesize i head else plain_extent i head) (sym kind)
    ∙ ap (option_and_then (λ (h : ExtentHead). if i.0.kind == METADATA_ITEM then skinny_extent nodesize i h else plain_extent i h)) is
