use Rattle.reiser_volume_names.proofs.Imports.{◌≡◌, ◌∙◌, ◌++◌, ◌∷◌, [], Bool, true, sym, subst, if◌then◌else◌, MatchResult, contains, same_key, Refers, BlamesExtended, extended, is_link}
use Rattle.reiser_volume_names.proofs.extended.refer_link.Goals as goal

pub returns-then-is_link : goal.returns-then-is_link
returns-then-is_link c = λ links has.
    let link : is_link (contains same_key c.args.named.now) c.args.naming.now ≡ true = sym c.is_link.ensures ∙ c.if-is_link.true in
    subst (λ (b : Bool). MatchResult c.refer.result (λ _. Refers c.args.named.now.keys c.refer.new.sizes c.refer.new.sums (links ++ (if b then c.args.naming.now ∷ [] else []))) (BlamesExtended c.args.named.now.keys (extended [] (links ++ (if b then c.args.naming.now ∷ [] else []))))) (sym link) (c.refer.ensures links has)
