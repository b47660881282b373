use Rattle.reiser_volume_objects.proofs.Imports.{◌∙◌, List, ℕ, ◌++◌, ◌∷◌, [], sym, ap, ends_with}
use Rattle.reiser_volume_objects.proofs.Repeats.{repeat_stays, new_added}
use Rattle.reiser_volume_objects.proofs.leaves.LeafList.add.Goals as goal

pub returns-then-ends_with-clause-leaves : goal.returns-then-ends_with-clause-leaves
returns-then-ends_with-clause-leaves c = λ leaves is.
    is ∙ repeat_stays leaves c.args.leaf (ap (λ (bs : List ℕ). ends_with bs c.args.leaf) (sym is) ∙ (sym c.ends_with.ensures.last ∙ c.if-ends_with.true))

pub returns-clause-leaves : goal.returns-clause-leaves
returns-clause-leaves c = λ leaves is.
    c.in_ok-push.ensures.items
    ∙ (ap (λ (bs : List ℕ). bs ++ c.args.leaf ∷ []) (c.self.view_is ∙ is)
    ∙ new_added leaves c.args.leaf (ap (λ (bs : List ℕ). ends_with bs c.args.leaf) (sym is) ∙ (sym c.ends_with.ensures.last ∙ c.if-ends_with.false)))
