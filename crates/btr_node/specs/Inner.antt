-- Inner nodes, as the Btrfs on-disk format documentation has them: children behind the node's head.
use Rattle.std.specs.Prelude.{ℕ, ◌+◌, ◌*◌, ◌≤◌, nat_lt, nat_le, Bool, ◌&&◌, List, length, drop, map}
use Rattle.btr_keys.specs.btrfs_format.declared.size.TheConstants.{HEADER_SIZE, KEY_PTR_SIZE}
use Rattle.btr_keys.specs.Layout.{Layout, made_by, ◌▸◌, part, u64}
use Rattle.btr_keys.specs.Key.{key_layout}
use Rattle.btr_keys.specs.declared.key.Key.{Key}
use Rattle.btr_node.specs.Records.{records_in}
use Rattle.btr_node.specs.Head.{nritems, behind_head, HasHead, has_head}
use Rattle.btr_node.specs.Sum.{HasSum}
use Rattle.btr_node.specs.Order.{ascends, Ascends}
use Rattle.btr_node.specs.declared.child.Child.{Child}
use Rattle.btr_node.specs.declared.expect.Expect.{Expect}

abbrev pub make_child : Key → ℕ → ℕ → Child
make_child key address generation = record { key = key; address = address; generation = generation }

unfoldable pub child_layout : Layout Child Child
child_layout =
    made_by make_child
    ▸ part key_layout (λ c. c.key)
    ▸ u64 (λ c. c.address)
    ▸ u64 (λ c. c.generation)

-- the children of an inner node
unfoldable pub children_in : List ℕ → List Child
children_in bytes = records_in KEY_PTR_SIZE child_layout (nritems bytes) (behind_head bytes)

-- child i
abbrev pub child_at : List ℕ → ℕ → Child
child_at bytes i = child_layout.read (drop (KEY_PTR_SIZE * i) (behind_head bytes))

abbrev pub first_keys : List Child → List Key
first_keys children = map (λ child. child.key) children

-- the children lie in the node
abbrev pub HasInnerLayout : List ℕ → Type 0
HasInnerLayout bytes = HEADER_SIZE + KEY_PTR_SIZE * nritems bytes ≤ length bytes

-- an inner node of which a parent says this
pub record IsBtrfsInner (want : Expect) (bytes : List ℕ) : Type 0 where
  pub sum : HasSum want.sums bytes
  pub head : HasHead want bytes
  pub level : 1 ≤ want.level
  pub some : 1 ≤ nritems bytes
  pub layout : HasInnerLayout bytes
  pub order : Ascends (first_keys (children_in bytes))

-- The same as tests.
abbrev pub has_inner_head : Expect → List ℕ → Bool
has_inner_head want bytes = nat_lt 0 want.level && (nat_lt 0 (nritems bytes) && has_head want bytes)

abbrev pub has_inner_layout : List ℕ → Bool
has_inner_layout bytes = nat_le (HEADER_SIZE + KEY_PTR_SIZE * nritems bytes) (length bytes)

abbrev pub has_inner_order : List ℕ → Bool
has_inner_order bytes = ascends (first_keys (children_in bytes))
