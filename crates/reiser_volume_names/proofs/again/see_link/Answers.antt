use Rattle.reiser_volume_names.proofs.Imports.{◌≡◌, ◌∙◌, ◌++◌, ◌∷◌, [], Bool, true, sym, subst, if◌then◌else◌, MatchResult, contains, same_key, HasDirectories, BlamesAgain, is_link}
use Rattle.reiser_volume_names.proofs.again.see_link.Goals as goal

pub returns-then-is_link-clause-checked : goal.returns-then-is_link-clause-checked
returns-then-is_link-clause-checked c = λ items links noted has.
    let link : is_link (contains same_key c.args.named.now) c.args.naming.now ≡ true = sym c.is_link.ensures ∙ c.if-is_link.true in
    subst (λ (b : Bool). MatchResult c.see_target.result (λ _. HasDirectories items c.see_target.new.seen (links ++ (if b then c.args.naming.now ∷ [] else []))) (BlamesAgain items (links ++ (if b then c.args.naming.now ∷ [] else [])))) (sym link) (c.see_target.ensures.checked items links noted has)
