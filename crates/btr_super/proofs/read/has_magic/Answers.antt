use Rattle.btr_super.proofs.Imports.{◌∙◌, List, ℕ, nat_eq, ap, codes, take_rest, starts_with}
use Rattle.btr_super.proofs.read.has_magic.Goals as goal

pub returns : goal.returns
returns c = c.starts_with.ensures.value ∙ ap (λ (z : List ℕ). starts_with nat_eq z (codes "_BHRfS_M")) (take_rest c.args.block.now 64)
