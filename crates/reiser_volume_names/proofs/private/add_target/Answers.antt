use Rattle.reiser_volume_names.proofs.Imports.{◌≡◌, ◌∙◌, ◌++◌, ◌∷◌, [], Bool, true, refl, sym, subst, if◌then◌else◌, Contains-push, contains, same_key, AreTargets, BlamesTargets}
use Rattle.reiser_volume_names.proofs.Attributes.{targets_more, unnot}
use Rattle.reiser_volume_names.proofs.private.add_target.Goals as goal

pub returns-then-not-is_readable-clause-checked : goal.returns-then-not-is_readable-clause-checked
returns-then-not-is_readable-clause-checked c = λ items ns noted targets.
    let own : same_key c.args.naming.now.dir c.args.dir ≡ true = unnot _ (sym c.ne.ensures ∙ c.if-ne.false) in
    subst (λ (b : Bool). BlamesTargets items (ns ++ (if b then c.args.naming.now ∷ [] else [])) c.attributes.result) (sym own)
    (subst (BlamesTargets items (ns ++ c.args.naming.now ∷ [])) (sym c.attributes.ensures) (c.args.naming.now, Contains-push ns c.args.naming.now, c.is_readable.ensures.no items noted c.if-not-is_readable.true, refl))

pub returns-clause-checked : goal.returns-clause-checked
returns-clause-checked c = λ items ns noted targets.
    let own : same_key c.args.naming.now.dir c.args.dir ≡ true = unnot _ (sym c.ne.ensures ∙ c.if-ne.false) in
    subst (λ (b : Bool). AreTargets items (ns ++ (if b then c.args.naming.now ∷ [] else [])) (contains same_key c.add.new.seen)) (sym own)
    (targets_more items ns c.args.naming.now (contains same_key c.args.inside.now) (contains same_key c.add.new.seen) targets (c.is_readable.ensures.yes items noted c.if-not-is_readable.false) c.in_ok-add.ensures.has)
