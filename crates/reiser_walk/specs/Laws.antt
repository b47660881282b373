-- What it means that nothing is wrong with a tree.
use Rattle.std.specs.Prelude.{◌≡◌, ◌≢◌, ◌⊎◌, ◌↔◌, ℕ, ◌%◌, ◌^◌, ◌≤◌, ◌<◌, Bool, true, false, List, [], length, All, AllPairs}
use Rattle.std.specs.Ordering.{is_lt}
use Rattle.reiser_bitmap.specs.outside.History.{Image, block_at}
use Rattle.reiser_items.specs.reiser_node.declared.head.ItemHead.{ItemHead}
use Rattle.reiser_items.specs.reiser_node.declared.head.ItemKind.{ItemKind}
use Rattle.reiser_items.specs.reiser_node.declared.head.ItemKind.TheVariants.{Stat, Indirect, Direct, Directory}
use Rattle.reiser_items.specs.reiser_node.Leaf.{IsLeaf}
use Rattle.reiser_items.specs.reiser_node.Inner.{IsInner}
use Rattle.reiser_items.specs.Order.{key_order}
use Rattle.reiser_items.specs.Stat.{stat_length}
use Rattle.reiser_bitmap.specs.Bits.{has}
use Rattle.reiser_walk.specs.declared.reiser_tree.ReiserTree.{ReiserTree}
use Rattle.reiser_walk.specs.Bodies.{is_save_link}
use Rattle.reiser_walk.specs.Tree.{visits, items_of_tree, reached}
use Rattle.reiser_walk.specs.Rules.{is_system_of, tree_damages}

-- on the grammar of leaves, of level 1, or of inner nodes of the level
abbrev pub IsNode : ℕ → List ℕ → Type 0
IsNode level bytes = ((level ≡ 1) × IsLeaf bytes) ⊎ ((level ≢ 1) × IsInner level bytes)

abbrev pub FitsKind : ItemKind → ItemHead → List ℕ → Type 0
FitsKind Stat head body = (head.offset ≡ 0) × (length body ≡ stat_length head.old)
FitsKind Indirect head body = (head.offset % 4096 ≡ 1) × (length body % 4 ≡ 0)
FitsKind Direct head body = 1 ≤ head.offset
FitsKind Directory head body = Unit {0}

-- the offset and the body fit the kind; of save links nothing is asked
abbrev pub FitsHead : ItemHead → List ℕ → Type 0
FitsHead head body = (is_save_link head ≡ true) ⊎ (FitsKind head.kind head body × (head.offset ≤ 2 ^ 45))

-- each rule of the tree as a fact over the whole of its visits, its items and the blocks that are reached
pub record KeepsRules (tree : ReiserTree) (image : Image) (used : List Bool) : Type 0 where
  pub nodes : All (λ v. IsNode v.level (block_at image v.to.block)) (visits tree image (length used))
  -- strictly, by directory, object, offset and kind
  pub ascending : AllPairs (λ i j. is_lt (key_order i.head j.head) ≡ true) (items_of_tree tree image (length used))
  pub bodies : All (λ i. FitsHead i.head i.body) (items_of_tree tree image (length used))
  pub inside : All (λ p. p.block < length used) (reached tree image (length used))
  pub all_used : All (λ p. has used p.block ≡ true) (reached tree image (length used))
  pub no_system : All (λ p. is_system_of tree p.block ≡ false) (reached tree image (length used))
  pub once : AllPairs (λ p q. p.block ≢ q.block) (reached tree image (length used))

-- nothing is wrong exactly where each rule is kept
abbrev pub SoundTreesKeepRules : Type 0
SoundTreesKeepRules = (tree : ReiserTree) (image : Image) (used : List Bool) → (tree_damages tree image used ≡ []) ↔ KeepsRules tree image used
