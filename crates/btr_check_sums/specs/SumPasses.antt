-- What a walk over the checksum tree holds.
use Rattle.std.specs.Prelude.{◌≡◌, ◌≤◌, ◌⊎◌, ℕ, ◌||◌, List, All, Any}
use Rattle.number_runs.specs.Runs.{is_among}
use Rattle.btr_check_rules.specs.Sums.{sum_end}
use Rattle.btr_check_rules.specs.btr_reader.btr_node.Leaf.{Item}
use Rattle.btr_check_sums.specs.SumItems.{AreSumItems, is_covered}
use Rattle.btr_check_sums.specs.declared.sum_pass.SumPass.{SumPass}

-- A pass that began so was given these items: they keep the rules of items, the last of them ends where the pass tells, and
-- it has their blocks.
pub record HoldsSums (begun pass : SumPass) (items : List Item) : Type 0 where
  pub nodesize_is : pass.nodesize ≡ begun.nodesize
  pub kind_is : pass.kind ≡ begun.kind
  pub kept : AreSumItems begun.nodesize begun.kind items
  pub last : All (λ i. sum_end begun.kind i ≤ pass.end) items
  pub met : (pass.end ≡ 0) ⊎ Any (λ i. sum_end begun.kind i ≡ pass.end) items
  pub covered : (n : ℕ) → is_among pass.covered n ≡ (is_covered begun.kind items n || is_among begun.covered n)
