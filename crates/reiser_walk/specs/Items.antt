-- What a walk meets inside a leaf.
use Rattle.std.specs.Prelude.{ℕ, zero, suc, ◌==◌, Bool, true, false, ◌&&◌, not, List, [], ◌∷◌, ◌++◌, map, filter, Option, Some, None, if◌then◌else◌}
use Rattle.reiser_items.specs.reiser_node.declared.head.ItemHead.{ItemHead}
use Rattle.reiser_items.specs.reiser_node.declared.head.ItemKind.{ItemKind}
use Rattle.reiser_items.specs.reiser_node.declared.head.ItemKind.TheVariants.{Stat, Indirect, Direct, Directory}
use Rattle.reiser_items.specs.reiser_node.Head.{head_at}
use Rattle.reiser_items.specs.reiser_node.Leaf.{head_place, body_at}
use Rattle.reiser_items.specs.Pointers.{pointers}
use Rattle.reiser_walk.specs.declared.block_pointer.BlockPointer.{BlockPointer}
use Rattle.reiser_walk.specs.Bodies.{is_save_link}

-- an item: the block of its leaf, its head and its body
pub record ReiserItem : Type 0 where
  pub leaf : ℕ
  pub head : ItemHead
  pub body : List ℕ

-- what a walk meets, in order: a pointer to a node of a level, an item, a pointer to a block of data
pub data Event : Type 0 where
  node : BlockPointer → ℕ → Event
  item : ReiserItem → Event
  pointer : BlockPointer → Event

abbrev pub is_indirect : ItemKind → Bool
is_indirect Stat = false
is_indirect Indirect = true
is_indirect Direct = false
is_indirect Directory = false

-- a pointer of 0 is a hole
abbrev pub is_no_hole : ℕ → Bool
is_no_hole block = not (block == 0)

-- the blocks that an item names: only an indirect item that is no save link names any
abbrev pub blocks_named : ItemHead → List ℕ → List ℕ
blocks_named head body = if is_indirect head.kind && not (is_save_link head) then filter is_no_hole (pointers body) else []

-- the same as pointers that the leaf holds
abbrev pub held_by : ℕ → List ℕ → List BlockPointer
held_by holder blocks = map (λ b. record { block = b; holder = holder }) blocks

abbrev pub item_events : ReiserItem → List Event
item_events i = item i ∷ map pointer (held_by i.leaf (blocks_named i.head i.body))

-- item i of a leaf
abbrev pub item_of : ℕ → List ℕ → ℕ → Option ItemHead → Option ReiserItem
item_of leaf bytes i None = None
item_of leaf bytes i (Some head) = Some (record { leaf = leaf; head = head; body = body_at bytes i })

abbrev pub item_at : ℕ → List ℕ → ℕ → Option ReiserItem
item_at leaf bytes i = item_of leaf bytes i (head_at bytes (head_place i))

abbrev pub events_of : Option ReiserItem → List Event
events_of None = []
events_of (Some i) = item_events i

-- the items of a leaf from item i on, n of them, each with its pointers
abbrev pub leaf_events : ℕ → List ℕ → ℕ → ℕ → List Event
leaf_events leaf bytes i zero = []
leaf_events leaf bytes i (suc n) = events_of (item_at leaf bytes i) ++ leaf_events leaf bytes (suc i) n
