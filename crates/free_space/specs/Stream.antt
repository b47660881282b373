-- What is still to come of the stream of items.
use Rattle.std.specs.Prelude.{◌≡◌, ◌≤◌, ◌<◌, ℕ, ◌+◌, ◌^◌, Bool, true, false, List, [], ◌∷◌, ◌++◌, All, length, map, take}
use Rattle.btr_node.specs.Leaf.{Item}
use Rattle.free_space.specs.Gaps.{behind, free_items, gaps}
use Rattle.free_space.specs.Runs.{end_of}
use Rattle.free_space.specs.Tree.{run_item}
use Rattle.free_space.specs.declared.range.Range.{Range}
use Rattle.free_space.specs.declared.stream.FreeItem.{FreeItem}

-- the item that stands
abbrev pub standing : FreeItem → Item
standing i = (i.key, take i.width i.info)

-- the runs that are left of a group, and the groups behind it
abbrev pub free_ahead : ℕ → ℕ → List Range → List Range → List Item
free_ahead at end used groups = map run_item (gaps at end used) ++ free_items groups (behind end used)

-- one more item came and stands, or there is none more
abbrev pub ComesTo : Bool → List Item → Item → List Item → Type 0
ComesTo true before item after = before ≡ item ∷ after
ComesTo false before item after = (before ≡ []) × (after ≡ [])

-- what keeps while items come
pub record FitsFree (groups used : List Range) (item : FreeItem) : Type 0 where
  pub few : length used + 1 < 2 ^ 32
  pub small : All (λ g. end_of g < 2 ^ 64) groups
  pub wide : item.width ≤ 8
