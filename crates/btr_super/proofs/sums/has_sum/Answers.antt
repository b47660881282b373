use Rattle.btr_super.proofs.Imports.{◌∙◌, List, ℕ, nat_eq, ap, take_rest, starts_with, kind_sum}
use Rattle.btr_super.proofs.sums.has_sum.Goals as goal

pub returns : goal.returns
returns c =
    c.starts_with.ensures.value ∙ ap (λ (z : List ℕ). starts_with nat_eq c.args.block.now z) (c.kind_sum-sum.ensures ∙ ap (kind_sum c.args.kind) (take_rest c.args.block.now 32))
