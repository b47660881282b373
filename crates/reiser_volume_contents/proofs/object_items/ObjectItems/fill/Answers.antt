use Rattle.reiser_volume_contents.proofs.Imports.{◌∙◌, ℕ, Some, ap, refl, sym, subst, arith, err_from_is_err_and, IsFault, NamesLeaf, IsFrom}
use Rattle.reiser_volume_contents.proofs.Looking.{filled, next_is_leaf}
use Rattle.reiser_volume_contents.proofs.Naming.{names_leaf}
use Rattle.reiser_volume_contents.proofs.object_items.ObjectItems.fill.Goals as goal

pub returns-in_err-self-clause-fills : goal.returns-in_err-self-clause-fills
returns-in_err-self-clause-fills g c = λ tells image is given items reads.
    let leaf = next_is_leaf c.args.self.now c.args.leaves.now image given items c.get.result c.get.ensures reads in
    let fault = c.in_err-self.ensures.whole tells image is leaf in
    let err = err_from_is_err_and c.from_residual.result c.from_residual.ensures.1 in
    rw err.1 (subst IsFault (sym err.2) fault)

pub returns-clause-fills : goal.returns-clause-fills
returns-clause-fills g c = λ tells image is given items reads.
    let leaf = next_is_leaf c.args.self.now c.args.leaves.now image given items c.get.result c.get.ensures reads in
    filled c.args.self.now _ c.args.leaves.now image given items c.get.result c.get.ensures (omega (arith, c.if-self-gt0.false)) refl refl (c.in_ok-self.ensures.whole tells image is leaf) reads

pub returns-in_err-self-clause-names : goal.returns-in_err-self-clause-names
returns-in_err-self-clause-names g c = λ first from.
    let leaf : IsFrom first c.args.leaves.now c.get.result = (c.args.self.now.place, from.later, c.get.ensures) in
    let named = names_leaf first c.args.leaves.now c.get.result c.in_err-self.field-0.0 leaf c.in_err-self.ensures.names in
    let err = err_from_is_err_and c.from_residual.result c.from_residual.ensures.1 in
    rw err.1 (subst (NamesLeaf first c.args.leaves.now) (sym err.2) named)

pub returns-clause-from : goal.returns-clause-from
returns-clause-from g c = λ first from. record {
  later = omega (arith, from.later);
  hand = λ some. (c.args.self.now.place, from.later, c.get.ensures ∙ ap (λ (b : ℕ). Some b) (sym c.in_ok-self.ensures.no));
}
