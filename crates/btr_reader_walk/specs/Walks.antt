-- Where a walker stands in its tree.
use Rattle.std.specs.Prelude.{◌≡◌, ◌<◌, ℕ, zero, suc, ◌+◌, ◌-◌, ◌*◌, ◌≤◌, Bool, true, false, List, [], ◌∷◌, ◌++◌, take, drop, Option, Some, None, Contains, slice_index_or}
use Rattle.std.specs.List.{All}
use Rattle.btr_node.specs.outside.History.{Image}
use Rattle.btr_node.specs.refusals.declared.answer.BtrAnswer.{BtrAnswer}
use Rattle.btr_node.specs.refusals.declared.answer.BtrAnswer.TheVariants.{Refused, Fault, Memory}
use Rattle.btr_node.specs.refusals.declared.refusal.BtrRefusal.{BtrRefusal}
use Rattle.btr_node.specs.refusals.declared.refusal.BtrRefusal.TheVariants.{BadBtrfs, LogPending, Unsupported}
use Rattle.btr_node.specs.refusals.declared.rule.BtrRule.TheVariants.{Unmapped}
use Rattle.btr_node.specs.btr_keys.declared.key.Key.{Key}
use Rattle.btr_node.specs.Leaf.{Item, items_in}
use Rattle.btr_reader_walk.specs.declared.tree.NodeEntry.{NodeEntry}
use Rattle.btr_reader_walk.specs.declared.tree.NodePointer.{NodePointer}
use Rattle.btr_reader_walk.specs.declared.tree.Tree.{Tree}
use Rattle.btr_reader_walk.specs.declared.map.MapRange.{MapRange}
use Rattle.btr_reader_walk.specs.declared.walker.TreeWalker.{TreeWalker}
use Rattle.btr_reader_walk.specs.Map.{is_mapped}
use Rattle.btr_reader_walk.specs.Events.{TreeItem, TreeEvent, leaf_events, pointer_events, walk_events, items_in_events, may_be_bare}
use Rattle.btr_reader_walk.specs.Tree.{node_faults, order_damages, tree_refusals, leaf_items}
use Rattle.btr_reader_walk.specs.Stack.{stacked}
use Rattle.btr_reader_walk.specs.Visits.{nodes_fuel}

-- each range ends within a device of so many blocks
abbrev pub LieOn : ℕ → List MapRange → Type 0
LieOn blocks ranges = All (λ r. r.physical + r.length ≤ 4096 * blocks) ranges

-- the address of a node lies in no range, or a call failed
abbrev pub IsReadFault : List MapRange → ℕ → ℕ → BtrAnswer → Type 0
IsReadFault ranges nodesize address (Refused r) = (r ≡ BadBtrfs address Unmapped) × (is_mapped ranges nodesize address ≡ false)
IsReadFault ranges nodesize address Fault = Unit {0}
IsReadFault ranges nodesize address Memory = ⊥

-- what a walk of the tree meets, and what is wrong with the tree
abbrev pub met : Image → List MapRange → Tree → List TreeEvent
met image ranges tree = walk_events image ranges tree.form tree.root tree.owner

abbrev pub wrong : Image → List MapRange → Tree → List BtrRefusal
wrong image ranges tree = tree_refusals image ranges tree.form tree.root tree.owner

-- its items, each with its leaf
abbrev pub found : Image → List MapRange → Tree → List TreeItem
found image ranges tree = leaf_items image ranges tree.form tree.root tree.owner

-- what is met at a node of the tree and below it
abbrev pub below : Image → List MapRange → Tree → NodePointer → List TreeEvent
below image ranges tree p = pointer_events image ranges tree.form tree.owner (may_be_bare tree.root) p

-- what is wrong with the nodes of the tree that were met
abbrev pub met_faults : Image → List MapRange → Tree → List TreeEvent → List BtrRefusal
met_faults image ranges tree events = node_faults image ranges tree.form tree.owner (may_be_bare tree.root) events

-- what the leaf in hand has still to give
abbrev pub hand_events : ℕ → List ℕ → ℕ → ℕ → List TreeEvent
hand_events address bytes next left = leaf_events address (take left (drop next (items_in bytes)))

-- what a walker has still to meet behind the leaf in hand
abbrev pub behind : Image → List MapRange → TreeWalker → List TreeEvent
behind image ranges w = stacked (λ e. below image ranges w.tree e.pointer) w.nodes.pending.items

-- what it has still to meet
abbrev pub rest : Image → List MapRange → TreeWalker → List TreeEvent
rest image ranges w = hand_events w.address w.nodes.bytes.items w.at.next w.at.left ++ behind image ranges w

-- the key of the last item, after one before
abbrev pub last_after : Option Key → List TreeItem → Option Key
last_after last [] = last
last_after last (i ∷ items) = last_after (Some i.key) items

-- a walker that has given these items of its tree, and found nothing wrong so far
pub record Walks (w : TreeWalker) (image : Image) (ranges : List MapRange) (given : List TreeItem) : Type 0 where
  pub done : List TreeEvent
  pub whole : done ++ rest image ranges w ≡ met image ranges w.tree
  pub items : items_in_events done ≡ given
  pub last : w.last ≡ last_after None given
  pub nodes : met_faults image ranges w.tree done ≡ []
  pub order : order_damages None given ≡ []

-- The same, but for a node that was taken and is still to be read.
pub record IsAt (p : NodePointer) (w : TreeWalker) (image : Image) (ranges : List MapRange) (given : List TreeItem) : Type 0 where
  pub done : List TreeEvent
  pub whole : done ++ (below image ranges w.tree p ++ behind image ranges w) ≡ met image ranges w.tree
  pub items : items_in_events done ≡ given
  pub last : w.last ≡ last_after None given
  pub nodes : met_faults image ranges w.tree done ≡ []
  pub order : order_damages None given ≡ []

-- what a node of this level with these bytes gives before its children do
abbrev pub own_events : ℕ → ℕ → List ℕ → List TreeEvent
own_events zero address bytes = leaf_events address (items_in bytes)
own_events (suc level) address bytes = []

-- The same, but for a node that was opened and whose items are not yet in hand.
pub record IsIn (p : NodePointer) (w : TreeWalker) (image : Image) (ranges : List MapRange) (given : List TreeItem) : Type 0 where
  pub done : List TreeEvent
  pub whole : done ++ (own_events p.level p.address w.nodes.bytes.items ++ behind image ranges w) ≡ met image ranges w.tree
  pub items : items_in_events done ≡ given
  pub last : w.last ≡ last_after None given
  pub nodes : met_faults image ranges w.tree done ≡ []
  pub order : order_damages None given ≡ []

-- all items were given, and nothing is wrong with the tree
pub record IsOver (tree : Tree) (image : Image) (ranges : List MapRange) (given : List TreeItem) : Type 0 where
  pub all : given ≡ found image ranges tree
  pub sound : wrong image ranges tree ≡ []

-- a node was taken, or there is none
abbrev pub TakesNode : Option NodeEntry → Tree → TreeWalker → Image → List MapRange → List TreeItem → Type 0
TakesNode (Some e) tree w image ranges given = IsAt e.pointer w image ranges given
TakesNode None tree w image ranges given = Walks w image ranges given × IsOver tree image ranges given

-- a node was opened and no item given, or there is nothing more
abbrev pub Moves : Bool → Tree → TreeWalker → Image → List MapRange → List TreeItem → Type 0
Moves true tree w image ranges given = Walks w image ranges given
Moves false tree w image ranges given = Walks w image ranges given × IsOver tree image ranges given

-- an item was given
abbrev pub HasItem : TreeWalker → Type 0
HasItem w = 0 < w.at.next

-- the item that was given last
pub record StandsLast (w : TreeWalker) (i : TreeItem) : Type 0 where
  pub leaf : i.leaf ≡ w.address
  pub item : (other : Item) → slice_index_or (items_in w.nodes.bytes.items) (w.at.next - 1) other ≡ (i.key, i.body)

-- one more item was given and stands, or there is none more
abbrev pub Comes : Bool → Tree → TreeWalker → Image → List MapRange → List TreeItem → Type 0
Comes true tree w image ranges given = (i : TreeItem) × Walks w image ranges (given ++ i ∷ []) × StandsLast w i
Comes false tree w image ranges given = Walks w image ranges given × IsOver tree image ranges given

-- the answer is one of what is wrong, or a fault
abbrev pub Blames : List BtrRefusal → BtrAnswer → Type 0
Blames refusals (Refused r) = Contains refusals r
Blames refusals Fault = Unit {0}
Blames refusals Memory = ⊥

-- a refusal is one of these
abbrev pub IsAmong : List BtrRefusal → BtrAnswer → Type 0
IsAmong refusals (Refused r) = Contains refusals r
IsAmong refusals Fault = Unit {0}
IsAmong refusals Memory = Unit {0}

-- a rule of the format is broken, or a call failed
abbrev pub IsBad : BtrRefusal → Type 0
IsBad (BadBtrfs address rule) = Unit {0}
IsBad (LogPending address) = ⊥
IsBad (Unsupported feature value) = ⊥

abbrev pub IsBadOrFault : BtrAnswer → Type 0
IsBadOrFault (Refused r) = IsBad r
IsBadOrFault Fault = Unit {0}
IsBadOrFault Memory = ⊥

-- the same, or there was no memory
abbrev pub IsBadOrFailed : BtrAnswer → Type 0
IsBadOrFailed (Refused r) = IsBad r
IsBadOrFailed Fault = Unit {0}
IsBadOrFailed Memory = Unit {0}

-- at most how many items may still come, whatever the source gives
abbrev pub fuel : TreeWalker → ℕ
fuel w = nodes_fuel w.nodes + w.at.left
