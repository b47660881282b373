use Rattle.reiser_volume_names.proofs.Imports.{◌≡◌, ◌∙◌, ◌++◌, ◌∷◌, [], Bool, true, sym, subst, if◌then◌else◌, MatchResult, contains, same_key, HasSeenLinks, BlamesTwice}
use Rattle.reiser_volume_names.proofs.once.see_named.Goals as goal

pub returns-then-contains : goal.returns-then-contains
returns-then-contains c = λ seen has.
    let there : contains same_key c.args.named.now c.args.naming.now.dir ≡ true = sym c.contains.ensures ∙ c.if-contains.true in
    subst (λ (b : Bool). MatchResult c.see.result (λ _. HasSeenLinks c.see.new.names (seen ++ (if b then c.args.naming.now ∷ [] else []))) (BlamesTwice (seen ++ (if b then c.args.naming.now ∷ [] else [])))) (sym there) (c.see.ensures seen has)
