use Rattle.reiser_volume_names.proofs.Imports.{◌≡◌, ◌∙◌, ◌++◌, ◌∷◌, [], Bool, true, sym, subst, if◌then◌else◌, MatchResult, contains, same_key, CountsNames, BlamesCount, is_link}
use Rattle.reiser_volume_names.proofs.counts.count_link.Goals as goal

pub returns-then-is_link-clause-checked : goal.returns-then-is_link-clause-checked
returns-then-is_link-clause-checked c = λ items links noted has.
    let link : is_link (contains same_key c.args.named.now) c.args.naming.now ≡ true = sym c.is_link.ensures ∙ c.if-is_link.true in
    subst (λ (b : Bool). MatchResult c.count_target.result (λ _. CountsNames items c.count_target.new.counts (links ++ (if b then c.args.naming.now ∷ [] else []))) (BlamesCount items (links ++ (if b then c.args.naming.now ∷ [] else [])))) (sym link) (c.count_target.ensures.checked items links noted has)
