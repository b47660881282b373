-- Where a walker stands in the tree.
use Rattle.std.specs.Prelude.{◌≡◌, ◌<◌, ℕ, ◌+◌, ◌*◌, ◌-◌, Bool, true, false, List, [], ◌∷◌, ◌++◌, length, Option, Some, None, Result, Contains, if◌then◌else◌}
use Rattle.std.specs.List.{flat_map}
use Rattle.std.specs.Result.{MatchResult}
use Rattle.reiser_bitmap.specs.outside.History.{Image, block_at}
use Rattle.reiser_bitmap.specs.refusals.declared.refusal.VolumeRefusal.{VolumeRefusal}
use Rattle.reiser_items.specs.reiser_node.declared.head.ItemHead.{ItemHead}
use Rattle.reiser_walk.specs.declared.block_pointer.BlockPointer.{BlockPointer}
use Rattle.reiser_walk.specs.declared.reiser_tree.ReiserTree.{ReiserTree}
use Rattle.reiser_walk.specs.declared.walker.Walker.{Walker}
use Rattle.reiser_walk.specs.Items.{ReiserItem, Event}
use Rattle.reiser_walk.specs.Tree.{node_events, tree_events, visits_in, items_of_events, items_of_tree, reached_in, reached}
use Rattle.reiser_walk.specs.Rules.{node_damage, visit_damage, reach_damage, reach_damages, order_damages, body_damage, tree_damages}
use Rattle.reiser_walk.specs.Marks.{MarksSeen, seen_after, unmarked}
use Rattle.reiser_walk.specs.Hand.{leaf_rest, path_rest, item_before}

-- the number of blocks of the volume
abbrev pub block_count : Walker → ℕ
block_count w = length w.reached

abbrev pub root_rest : Image → ℕ → Walker → List Event
root_rest image n w = if w.at_start then tree_events w.tree image n else []

-- what a walker has still to meet behind the leaf in hand
abbrev pub pending : Image → ℕ → Walker → List Event
pending image n w = path_rest image n (w.tree.height - 1) w.path.items ++ root_rest image n w

-- what it has still to meet
abbrev pub rest : Image → ℕ → Walker → List Event
rest image n w = leaf_rest w.leaf ++ pending image n w

abbrev pub last_head_after : Option ItemHead → List ReiserItem → Option ItemHead
last_head_after last [] = last
last_head_after last (i ∷ items) = last_head_after (Some i.head) items

-- no rule fails in these events
pub record IsSoundSoFar (tree : ReiserTree) (image : Image) (used : List Bool) (events : List Event) : Type 0 where
  pub visits : flat_map (visit_damage image (length used)) (visits_in events) ≡ []
  pub reach : reach_damages tree used [] (reached_in events) ≡ []
  pub order : order_damages None (items_of_events events) ≡ []
  pub bodies : flat_map body_damage (items_of_events events) ≡ []

-- the level of the children of the lowest node of the path
abbrev pub level_of : Walker → ℕ
level_of w = w.tree.height - 1 - length w.path.items

-- A walker of the tree in these blocks, of which that list tells the used ones, that has given these items.
pub record Walks (w : Walker) (image : Image) (used : List Bool) (given : List ReiserItem) : Type 0 where
  -- what was met so far
  pub done : List Event
  pub size : block_count w ≡ length used
  -- the path and the leaf in hand are those of the blocks: what was met and what is still to be met are the tree
  pub whole : done ++ rest image (length used) w ≡ tree_events w.tree image (length used)
  -- so the items given are the first of the tree
  pub items : items_of_events done ≡ given
  -- the blocks marked are those that were reached
  pub marks : MarksSeen w.reached (seen_after [] (reached_in done))
  -- the last key kept is that of the last item
  pub last : w.last ≡ last_head_after None given
  -- no rule fails up to here
  pub sound : IsSoundSoFar w.tree image used done

-- So the items given are the first of the tree, and the blocks marked are those of the first pointers.
pub record IsFirstPart (w : Walker) (image : Image) (used : List Bool) (given : List ReiserItem) : Type 0 where
  pub later : List ReiserItem
  pub items : items_of_tree w.tree image (length used) ≡ given ++ later
  pub met : List BlockPointer
  pub ahead : List BlockPointer
  pub reached : reached w.tree image (length used) ≡ met ++ ahead
  pub marks : MarksSeen w.reached (seen_after [] met)

abbrev pub WalksAreFirstParts : Type 0
WalksAreFirstParts = (w : Walker) (image : Image) (used : List Bool) (given : List ReiserItem) → Walks w image used given → IsFirstPart w image used given

-- The same as `Walks`, but for a node that was taken off what is pending and marked, and is still to be read.
pub record IsAt (p : BlockPointer) (w : Walker) (image : Image) (used : List Bool) (given : List ReiserItem) : Type 0 where
  pub done : List Event
  pub size : block_count w ≡ length used
  pub whole : done ++ (node_events image (length used) (level_of w) p.holder p.block ++ pending image (length used) w) ≡ tree_events w.tree image (length used)
  pub items : items_of_events done ≡ given
  pub marks : MarksSeen w.reached (p.block ∷ seen_after [] (reached_in done))
  pub last : w.last ≡ last_head_after None given
  pub sound : IsSoundSoFar w.tree image used done
  pub claimed : reach_damage w.tree used (seen_after [] (reached_in done)) p ≡ []
  pub within : p.block < length used

-- The node that was taken stands in the leaf in hand with nothing of it to come: opened, what is in it comes next, or it is
-- off its grammar.
abbrev pub Opens : Walker → Result Unit VolumeRefusal → Walker → Type 0
Opens old result new =
    (image : Image) (used : List Bool) (given : List ReiserItem) (p : BlockPointer) → IsAt p old image used given → old.leaf.no ≡ p.block → old.leaf.block.bytes ≡ block_at image p.block
    → MatchResult result (λ _. Walks new image used given) (Contains (node_damage (level_of old) p.block (block_at image p.block)))

-- all items were given, and no rule fails
pub record IsOver (tree : ReiserTree) (image : Image) (used : List Bool) (given : List ReiserItem) : Type 0 where
  pub all : given ≡ items_of_tree tree image (length used)
  pub sound : tree_damages tree image used ≡ []

-- nothing is still to be met
pub record IsDone (w : Walker) : Type 0 where
  pub leaf : w.leaf.at.left ≡ 0
  pub path : w.path.items ≡ []
  pub root : w.at_start ≡ false

-- a node was taken, or there is none
abbrev pub TakesPointer : Option BlockPointer → ReiserTree → Walker → Image → List Bool → List ReiserItem → Type 0
TakesPointer (Some p) tree w image used given = IsAt p w image used given
TakesPointer None tree w image used given = Walks w image used given × IsOver tree image used given

-- a node was opened and no item given, or there is nothing more
abbrev pub Moves : Bool → ReiserTree → Walker → Image → List Bool → List ReiserItem → Type 0
Moves true tree w image used given = Walks w image used given
Moves false tree w image used given = Walks w image used given × IsOver tree image used given

-- the item that stands after it was given
abbrev pub standing : Walker → Option ReiserItem
standing w = item_before w.leaf.no w.leaf.block.bytes w.leaf.at.next

-- an item was given
abbrev pub HasItem : Walker → Type 0
HasItem w = 0 < w.leaf.at.next

-- one more item was given and stands, or all were given and nothing is wrong
abbrev pub Comes : Bool → ReiserTree → Walker → Image → List Bool → List ReiserItem → Type 0
Comes true tree w image used given = (i : ReiserItem) × Walks w image used (given ++ i ∷ []) × (standing w ≡ Some i)
Comes false tree w image used given = Walks w image used given × IsOver tree image used given

-- at most how many items may still come, whatever the source gives: a leaf has at most 169
abbrev pub fuel : Walker → ℕ
fuel w = 170 * unmarked w.reached + w.leaf.at.left
