-- What the items of the free space tree are.
use Rattle.std.specs.Prelude.{◌≤◌, ◌^◌, List, All, Any, length}
use Rattle.btr_node.specs.btr_keys.Layout.{ReadsBack}
use Rattle.btr_node.specs.Leaf.{Item, keys_of}
use Rattle.btr_node.specs.Order.{Ascends}
use Rattle.free_space.specs.Gaps.{free_items}
use Rattle.free_space.specs.Info.{free_info_layout}
use Rattle.free_space.specs.Runs.{AreRanges, end_of}
use Rattle.free_space.specs.Told.{TellsGroup}
use Rattle.free_space.specs.Tree.{TellsFreeSpace}
use Rattle.free_space.specs.declared.range.Range.{Range}

abbrev pub FreeInfosReadBack : Type 0
FreeInfosReadBack = ReadsBack 8 free_info_layout

-- the range lies in one of these
pub record LiesIn (r g : Range) : Type 0 where
  pub low : g.address ≤ r.address
  pub high : end_of r ≤ end_of g

-- Block groups and the ranges that are in use of them: each lies in one group.
pub record AreGroups (groups used : List Range) : Type 0 where
  pub groups_ : AreRanges groups
  pub used_ : AreRanges used
  pub inside : All (λ u. Any (LiesIn u) groups) used

-- the items tell the free space of the groups
abbrev pub FreeItemsTell : Type 0
FreeItemsTell = (groups used : List Range) → AreGroups groups used → TellsFreeSpace groups used (free_items groups used)

-- A tree can be made of them: keys ascend, and no body is longer than that of a block group.
pub record FitTree (items : List Item) : Type 0 where
  pub ascend : Ascends (keys_of items)
  pub short : All (λ i. length i.1 ≤ 8) items

abbrev pub FreeItemsFit : Type 0
FreeItemsFit = (groups used : List Range) → AreGroups groups used → FitTree (free_items groups used)

-- Where items tell the free space of groups, they tell it of each of them.
abbrev pub FreeSpaceIsTold : Type 0
FreeSpaceIsTold = (groups used : List Range) (items : List Item) → AreRanges groups → TellsFreeSpace groups used items → length items ≤ 2 ^ 32 → All (TellsGroup used items) groups
