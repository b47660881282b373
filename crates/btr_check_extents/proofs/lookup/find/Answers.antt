use Rattle.btr_check_extents.proofs.Imports.{rules, sym, subst, made_in, made_of, order_of, MadeCount}
use Rattle.std.proofs.lemmas.Fn.{always_returns_same}
use Rattle.btr_check_extents.proofs.Looking.{IsFound, found_is}
use Rattle.btr_check_extents.proofs.lookup.find.Goals as goal

pub returns : goal.returns
returns c =
    subst (IsFound c.args.counts.now (made_of c.args.made.now)) (sym c.ok.ensures.value)
    (found_is c.args.counts.now (made_of c.args.made.now) c.binary_search_by.result c.requires c.binary_search_by.ensures.bound
    (c.binary_search_by.ensures.position (λ (e : MadeCount). order_of (made_in e) (made_of c.args.made.now)) (always_returns_same _ _ _ (λ a r g h. search rules))))
