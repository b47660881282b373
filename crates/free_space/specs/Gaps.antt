-- The free runs of block groups, by the gaps between used ranges that ascend.
use Rattle.std.specs.Prelude.{ℕ, ◌-◌, nat_lt, max, if◌then◌else◌, List, [], ◌∷◌, ◌++◌}
use Rattle.btr_node.specs.Leaf.{Item}
use Rattle.free_space.specs.Runs.{end_of}
use Rattle.free_space.specs.Tree.{group_items}
use Rattle.free_space.specs.declared.range.Range.{Range}

-- the addresses from one on to an end, where there are any
abbrev pub gap : ℕ → ℕ → List Range
gap at end = if nat_lt at end then record { address = at; length = end - at } ∷ [] else []

-- the gaps from an address on to an end
abbrev pub gaps : ℕ → ℕ → List Range → List Range
gaps at end [] = gap at end
gaps at end (u ∷ used) = if nat_lt u.address end then gap at u.address ++ gaps (max at (end_of u)) end used else gap at end

-- the used ranges that begin at an address or behind it
abbrev pub behind : ℕ → List Range → List Range
behind end [] = []
behind end (u ∷ used) = if nat_lt u.address end then behind end used else u ∷ used

-- the items of block groups that ascend
abbrev pub free_items : List Range → List Range → List Item
free_items [] used = []
free_items (g ∷ groups) used = group_items g (gaps g.address (end_of g) used) ++ free_items groups (behind (end_of g) used)
