-- Where a reader of the items of an object stands.
use Rattle.std.specs.Prelude.{◌≡◌, ◌<◌, ℕ, zero, suc, ◌+◌, ◌-◌, ◌*◌, Bool, true, false, List, [], ◌∷◌, ◌++◌, length, drop, Option, Some, None, All, AllPairs, ◌≤◌, slice_get}
use Rattle.std.specs.List.{flat_map}
use Rattle.std.specs.Ordering.{is_lt, nat_cmp, ordering_then}
use Rattle.std.specs.declared.cmp.Ordering.{Ordering}
use Rattle.std.specs.declared.cmp.Ordering.TheVariants.{Less, Equal, Greater}
use Rattle.reiser_volume_objects.specs.outside.History.{Image, block_at}
use Rattle.reiser_volume_objects.specs.reiser_node.declared.head.ItemHead.{ItemHead}
use Rattle.reiser_volume_objects.specs.reiser_node.Leaf.{IsLeaf, count}
use Rattle.reiser_volume_objects.specs.reiser_items.Order.{key_order}
use Rattle.reiser_volume_objects.specs.reiser_walk.Hand.{item_before}
use Rattle.reiser_volume_objects.specs.reiser_walk.Items.{ReiserItem, item_at}
use Rattle.reiser_volume_objects.specs.declared.key.ObjectKey.{ObjectKey}
use Rattle.reiser_volume_objects.specs.Keys.{items_of}
use Rattle.reiser_volume_objects.specs.Leaves.{IsFirstLeaf}
use Rattle.reiser_volume_contents.specs.declared.leaf.LeafInHand.{LeafInHand}
use Rattle.reiser_volume_contents.specs.declared.object_items.ObjectItems.{ObjectItems}

abbrev pub listed : Option ReiserItem → List ReiserItem
listed None = []
listed (Some i) = i ∷ []

-- the items of a leaf from item i on, n of them
abbrev pub items_from : ℕ → List ℕ → ℕ → ℕ → List ReiserItem
items_from leaf bytes i zero = []
items_from leaf bytes i (suc n) = listed (item_at leaf bytes i) ++ items_from leaf bytes (suc i) n

-- the items of the leaf in a block
abbrev pub leaf_items : Image → ℕ → List ReiserItem
leaf_items image b = items_from b (block_at image b) 0 (count (block_at image b))

-- what the leaf in hand has still to give
abbrev pub leaf_ahead : LeafInHand → List ReiserItem
leaf_ahead l = items_from l.no l.block.bytes l.at.next l.at.left

-- what a reader has still to look at, over all these leaves
abbrev pub items_ahead : Image → List ℕ → ObjectItems → List ReiserItem
items_ahead image leaves r = leaf_ahead r.leaf ++ flat_map (leaf_items image) (drop r.place leaves)

-- the key of an item is below that of a later one
abbrev pub IsKeyBelow : ReiserItem → ReiserItem → Type 0
IsKeyBelow i j = is_lt (key_order i.head j.head) ≡ true

-- a block of the volume that is a leaf
pub record IsLeafOf (image : Image) (b : ℕ) : Type 0 where
  pub within : b < length image
  pub leaf : IsLeaf (block_at image b)

-- a leaf in hand is that block, and all its items are to come
pub record IsWholeLeaf (image : Image) (b : ℕ) (l : LeafInHand) : Type 0 where
  pub no : l.no ≡ b
  pub bytes : l.block.bytes ≡ block_at image b
  pub next : l.at.next ≡ 0
  pub left : l.at.left ≡ count (block_at image b)

-- A reader over these leaves that has given some of all items of its object: the others are those of the object in what it
-- has still to look at, which ascends.
pub record Reads (r : ObjectItems) (leaves : List ℕ) (image : Image) (given items : List ReiserItem) : Type 0 where
  pub whole : given ++ items_of r.key (items_ahead image leaves r) ≡ items
  pub ascending : AllPairs IsKeyBelow (items_ahead image leaves r)
  pub are_leaves : All (IsLeafOf image) (drop r.place leaves)

-- the block is one of the leaves from a place on
abbrev pub IsFrom : ℕ → List ℕ → ℕ → Type 0
IsFrom first leaves block = (place : ℕ) × (first ≤ place) × (slice_get leaves place ≡ Some block)

-- A reader goes on behind a place of the leaves, and the leaf in hand, if there is one, is one from there on.
pub record StandsFrom (first : ℕ) (leaves : List ℕ) (r : ObjectItems) : Type 0 where
  pub later : first ≤ r.place
  pub hand : 0 < r.leaf.at.next + r.leaf.at.left → IsFrom first leaves r.leaf.no

-- where a reader begins: at the first leaf of the object, or behind all leaves
pub data Starts (key : ObjectKey) (items : List ReiserItem) (leaves : List ℕ) (place : ℕ) : Type 0 where
  at_first : IsFirstLeaf key items place → Starts key items leaves place
  behind_all : items_of key items ≡ [] → place ≡ length leaves → Starts key items leaves place

-- the item that stands after it was given
abbrev pub standing : ObjectItems → Option ReiserItem
standing r = item_before r.leaf.no r.leaf.block.bytes r.leaf.at.next

-- an item stands
abbrev pub HasItem : ObjectItems → Type 0
HasItem r = 0 < r.leaf.at.next

-- one more item was given and stands, or all were given
abbrev pub Comes : Bool → ObjectItems → List ℕ → Image → List ReiserItem → List ReiserItem → Type 0
Comes true r leaves image given items = (i : ReiserItem) × Reads r leaves image (given ++ i ∷ []) items × (standing r ≡ Some i)
Comes false r leaves image given items = given ≡ items

-- how an item compares with an object, by the numbers of its key
abbrev pub object_order : ItemHead → ObjectKey → Ordering
object_order head key = ordering_then (nat_cmp head.dir key.dir) (nat_cmp head.object key.object)

-- An item was looked at: it comes before those of the object, is one of them and stands, or comes behind them.
abbrev pub Looks : Ordering → ObjectItems → List ℕ → Image → List ReiserItem → List ReiserItem → Type 0
Looks Less r leaves image given items = Reads r leaves image given items
Looks Equal r leaves image given items = Comes true r leaves image given items
Looks Greater r leaves image given items = given ≡ items

-- there is more to look at, or all items were given
abbrev pub Fills : Bool → ObjectItems → List ℕ → Image → List ReiserItem → List ReiserItem → Type 0
Fills true r leaves image given items = Reads r leaves image given items
Fills false r leaves image given items = given ≡ items

-- at most how many items are still to be looked at, whatever the source gives: a leaf has at most 169
abbrev pub fuel : List ℕ → ObjectItems → ℕ
fuel leaves r = 170 * (length leaves - r.place) + r.leaf.at.left
