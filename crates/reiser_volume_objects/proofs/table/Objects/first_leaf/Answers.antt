use Rattle.reiser_volume_objects.proofs.Imports.{◌≡◌, Option, Some, sym, subst, MatchOption, get, Object, same_key, IsFirstLeaf}
use Rattle.reiser_volume_objects.proofs.table.Objects.first_leaf.Goals as goal

pub returns-in-Some : goal.returns-in-Some
returns-in-Some c = λ items noted.
    let kept : get same_key c.args.self.now.map c.args.key ≡ Some c.in-Some.object.now = sym c.in-Some.ensures.value in
    subst (λ (o : Option Object). MatchOption o (Unit {0}) (λ o. IsFirstLeaf c.args.key items o.first)) kept (noted.firsts c.args.key)
