-- Subtrees of a tree that is being written.
use Rattle.std.specs.Prelude.{◌≡◌, ℕ, suc, ◌+◌, ◌≤◌, Bool, List, [], ◌∷◌, ◌++◌, length, map, take, drop, Some}
use Rattle.std.specs.List.{All, flat_map, sum}
use Rattle.std.specs.List.Sorted.{IsPermutation}
use Rattle.std.specs.Int.{div_ceil}
use Rattle.btr_node.specs.outside.History.{Image}
use Rattle.btr_node.specs.Draft.{Draft}
use Rattle.btr_node.specs.Inner.{first_keys}
use Rattle.btr_node.specs.Leaf.{Item, keys_of}
use Rattle.btr_node.specs.Order.{Ascends}
use Rattle.btr_node.specs.declared.child.Child.{Child}
use Rattle.btr_reader_walk.specs.Laws.{AreSubtrees}
use Rattle.btr_reader_walk.specs.Node.{child_pointer}
use Rattle.btr_reader_walk.specs.Tree.{tree_items}
use Rattle.btr_reader_walk.specs.Events.{nodes_in, pointer_events, walk_events}
use Rattle.btr_reader_walk.specs.declared.map.MapRange.{MapRange}
use Rattle.btr_reader_walk.specs.declared.tree.NodePointer.{NodePointer}
use Rattle.btr_tree.specs.Building.{Made, StandBy, taken, with_written, pointer_to}
use Rattle.btr_tree.specs.Builder.{Building, pushed, first_key, IsSameBuilding, HasWhole}
use Rattle.btr_tree.specs.Counting.{tree_nodes}
use Rattle.btr_tree.specs.Packing.{fan_out, packed_leaves as leaves_by, tree_levels}
use Rattle.btr_tree.specs.Whole.{IsWhole, HasFirstKey}
use Rattle.btr_tree.specs.declared.climb.Root.{Root}

-- the nodes that a walk meets below these children, each child before those below it
abbrev pub nodes_below : Image → List MapRange → Made → Bool → ℕ → List Child → List NodePointer
nodes_below image ranges m bare level children = flat_map (λ p. nodes_in (pointer_events image ranges m.form m.owner bare p)) (map (child_pointer level) children)

-- the nodes below these children are whole, and their keys are the first ones of their nodes
pub record AreWhole (image : Image) (ranges : List MapRange) (m : Made) (bare : Bool) (level : ℕ) (children : List Child) : Type 0 where
  pub nodes : All (IsWhole image ranges m.form m.owner m.chunk_tree) (nodes_below image ranges m bare level children)
  pub firsts : All (HasFirstKey image ranges m.form.nodesize) children

-- Each child is the root of a subtree that has these items and some at all, on every disk and by every map by which the nodes
-- stand.
pub record AreRoots (m : Made) (level : ℕ) (children : List Child) (lists : List (List Item)) : Type 0 where
  pub keys : first_keys children ≡ map first_key lists
  pub full : All (λ items. 1 ≤ length items) lists
  pub one_generation : All (λ child. child.generation ≡ m.generation) children
  pub subtrees : (image : Image) (ranges : List MapRange) (bare : Bool) → StandBy image ranges m.form.nodesize m.slots m.nodes
      → AreSubtrees image ranges m.form m.owner bare (map (child_pointer level) children) lists
  pub whole : (image : Image) (ranges : List MapRange) (bare : Bool) → StandBy image ranges m.form.nodesize m.slots m.nodes → AreWhole image ranges m bare level children

-- nodes of one level at so many slots behind the first ones
abbrev pub pointers_to : ℕ → ℕ → ℕ → ℕ → List ℕ → List NodePointer
pointers_to generation level skip n slots = map (pointer_to generation level) (take n (drop skip slots))

-- The nodes of a tree by its levels, which have these sizes: those of a level take the slots behind those of the levels
-- below it.
abbrev pub level_pointers : ℕ → ℕ → ℕ → List ℕ → List ℕ → List NodePointer
level_pointers generation level skip slots [] = []
level_pointers generation level skip slots (n ∷ sizes) = pointers_to generation level skip n slots ++ level_pointers generation (suc level) (skip + n) slots sizes

-- nodes were added, and nothing else changed but the node in hand
pub record IsExtended (old new : Made) : Type 0 where
  pub more : List (List ℕ)
  pub draft : Draft
  pub is : new ≡ record old { nodes = old.nodes ++ more; draft = draft }

-- the roots of subtrees of the next level, with the same items
pub record HasSubtreeRoots (m : Made) (level : ℕ) (children : List Child) (items : List Item) : Type 0 where
  pub lists : List (List Item)
  pub roots : AreRoots m level children lists
  pub items_are : flat_map (λ is. is) lists ≡ items

-- The nodes of the level above were made: as many as hold the children, each one full but for the last.
pub record IsRaised (old : Made) (children : List Child) (level : ℕ) (new : Made) (parents : List Child) : Type 0 where
  pub extended : IsExtended old new
  pub count : length parents ≡ div_ceil (length children) (fan_out old.form.nodesize)
  pub made : length new.nodes ≡ length old.nodes + length parents
  pub few : length new.nodes ≤ length new.slots
  pub roots : (below : ℕ) (items : List Item) → level ≡ suc below → HasSubtreeRoots old below children items → HasSubtreeRoots new level parents items
  pub pointers : map (child_pointer level) parents ≡ pointers_to old.generation level (length old.nodes) (length parents) old.slots
  pub nodes : (below : ℕ) (items : List Item) → level ≡ suc below → HasSubtreeRoots old below children items → (image : Image) (ranges : List MapRange) (bare : Bool) → StandBy image ranges new.form.nodesize new.slots new.nodes
      → IsPermutation (nodes_below image ranges new bare level parents) (map (child_pointer level) parents ++ nodes_below image ranges new bare below children)

-- roots of subtrees whose keys ascend
pub record IsForest (m : Made) (level : ℕ) (children : List Child) : Type 0 where
  pub items : List Item
  pub roots : HasSubtreeRoots m level children items
  pub order : Ascends (keys_of items)

-- the tree of a root has these items, wherever the nodes stand
abbrev pub IsRoot : Made → ℕ → ℕ → List Item → Type 0
IsRoot m address level items =
    (image : Image) (ranges : List MapRange) → StandBy image ranges m.form.nodesize m.slots m.nodes
    → tree_items image ranges m.form (pointer_to m.generation level address) m.owner ≡ Some items

-- A walk of the tree meets the nodes of its levels, each once and at its slot, and no other.
abbrev pub HasNodes : Made → ℕ → ℕ → List ℕ → Type 0
HasNodes m address level sizes =
    (image : Image) (ranges : List MapRange) → StandBy image ranges m.form.nodesize m.slots m.nodes
    → IsPermutation (nodes_in (walk_events image ranges m.form (pointer_to m.generation level address) m.owner)) (level_pointers m.generation 0 0 m.slots sizes)

-- the nodes of the tree of a root are whole, wherever they stand
abbrev pub HasWholeNodes : Made → ℕ → ℕ → Type 0
HasWholeNodes m address level = (image : Image) (ranges : List MapRange) → StandBy image ranges m.form.nodesize m.slots m.nodes → HasWhole image ranges m address level

-- the leaves are met at the first slots
abbrev pub AreFirst : Made → List Child → Type 0
AreFirst m leaves =
    (image : Image) (ranges : List MapRange) (bare : Bool) → StandBy image ranges m.form.nodesize m.slots m.nodes
    → nodes_below image ranges m bare 0 leaves ≡ pointers_to m.generation 0 0 (length leaves) m.slots

-- The root was made above these leaves: it has their items, and the nodes are as many as the levels of such a tree have.
pub record IsClimbed (old : Made) (leaves : List Child) (new : Made) (root : Root) : Type 0 where
  pub extended : IsExtended old new
  pub few : length new.nodes ≤ length new.slots
  pub count : length new.nodes ≡ sum (tree_levels old.form.nodesize (length leaves))
  pub nodes_are : root.nodes ≡ length new.nodes
  pub root_is : (items : List Item) → HasSubtreeRoots old 0 leaves items → Ascends (keys_of items) → IsRoot new root.address root.level items
  pub nodes : (items : List Item) → HasSubtreeRoots old 0 leaves items → AreFirst old leaves → HasNodes new root.address root.level (tree_levels old.form.nodesize (length leaves))
  pub whole : (items : List Item) → HasSubtreeRoots old 0 leaves items → HasWholeNodes new root.address root.level

-- the lengths of the bodies of items
abbrev pub lengths_of : List Item → List ℕ
lengths_of items = map (λ item. length item.1) items

-- The tree of the items that were pushed is made: its nodes are as many as packing the items gives.
pub record IsCompleted (old new : Building) (root : Root) : Type 0 where
  pub extended : IsExtended old.made new.made
  pub few : length new.made.nodes ≤ length new.made.slots
  pub count : length new.made.nodes ≡ tree_nodes old.made.form.nodesize (lengths_of (pushed old))
  pub nodes_are : root.nodes ≡ length new.made.nodes
  pub root_is : IsRoot new.made root.address root.level (pushed old)
  pub nodes : HasNodes new.made root.address root.level (tree_levels old.made.form.nodesize (length (leaves_by old.made.form.nodesize (lengths_of (pushed old)))))
  pub whole : HasWholeNodes new.made root.address root.level

-- On a disk, by a map of addresses, a walk of the tree under this root meets the nodes that packing the items gives: each once and at its slot,
-- the leaves at the first ones and each level behind those below it, and no other.
abbrev pub MeetsNodes : Image → List MapRange → Made → ℕ → ℕ → List Item → Type 0
MeetsNodes image ranges m address level items =
    IsPermutation (nodes_in (walk_events image ranges m.form (pointer_to m.generation level address) m.owner))
    (level_pointers m.generation 0 0 m.slots (tree_levels m.form.nodesize (length (leaves_by m.form.nodesize (lengths_of items)))))

-- The leaves were made, which are these children, with some nodes in place of those that were written.
pub record HasForest (m : Made) (leaves : List Child) : Type 0 where
  pub front : List (List ℕ)
  pub count : length front ≡ m.written
  pub forest : IsForest (with_written m front) 0 leaves

-- The tree of these items was written: its nodes are as many as packing the items gives.
pub record IsFinished (old new : Building) (root : Root) (items : List Item) : Type 0 where
  pub same : IsSameBuilding old new
  pub few : taken new.made ≤ length new.made.slots
  pub count : taken new.made ≡ tree_nodes old.made.form.nodesize (lengths_of items)
  pub nodes_are : root.nodes ≡ taken new.made
  pub all_written : new.made.nodes ≡ []
