-- What decides a tree.
use Rattle.std.specs.Prelude.{◌≡◌, ℕ, Bool, true, List, [], length}
use Rattle.reiser_volume_objects.specs.outside.History.{Image, block_at}
use Rattle.reiser_volume_objects.specs.reiser_bitmap.Bits.{has}
use Rattle.reiser_volume_objects.specs.reiser_walk.declared.reiser_tree.ReiserTree.{ReiserTree}
use Rattle.reiser_volume_objects.specs.reiser_walk.Rules.{tree_damages}
use Rattle.reiser_volume_objects.specs.reiser_walk.Tree.{tree_events}

-- another image has the same in each used block
abbrev pub SameUsed : List Bool → Image → Image → Type 0
SameUsed used image other = (b : ℕ) → has used b ≡ true → block_at other b ≡ block_at image b

-- the tree is the same in both
pub record IsSameTree (tree : ReiserTree) (image other : Image) (used : List Bool) : Type 0 where
  pub events : tree_events tree other (length used) ≡ tree_events tree image (length used)
  pub sound : tree_damages tree other used ≡ []

-- Where nothing is wrong with a tree, the used blocks decide it.
abbrev pub UsedBlocksDecide : Type 0
UsedBlocksDecide = (tree : ReiserTree) (image other : Image) (used : List Bool) → tree_damages tree image used ≡ [] → SameUsed used image other → IsSameTree tree image other used
