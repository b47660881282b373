use Rattle.reiser_volume_objects.proofs.Imports.{◌≡◌, ◌∙◌, sym, ap, subst, true, false, is_some, contains, NodeId, same_node, is_followed, stat_of_object}
use Rattle.reiser_volume_objects.proofs.Reaching.{unstated, seen_more}
use Rattle.reiser_volume_objects.proofs.reach.follow.Goals as goal

pub returns-then-is_none-clause-sound : goal.returns-then-is_none-clause-sound
returns-then-is_none-clause-sound c = λ items noted among tells seen.
    let counts : is_followed c.args.naming.now ≡ true = sym c.is_followed.ensures ∙ c.if-not-is_followed.false in
    let none : is_some (stat_of_object items c.args.naming.now.target) ≡ false = ap is_some (sym (c.stat.ensures items noted)) ∙ c.if-is_none.ensures in
    let there = subst (λ (m : NodeId). contains same_node c.args.nodes.now m ≡ true) c.node_of.ensures.node (sym c.contains.ensures ∙ c.if-not-contains.false) in
    unstated items c.args.naming.now c.off_form.result among counts (tells.sound c.args.naming.now.dir there) none c.off_form.ensures

pub returns-clause-sound : goal.returns-clause-sound
returns-clause-sound c = λ items noted among tells seen.
    let counts : is_followed c.args.naming.now ≡ true = sym c.is_followed.ensures ∙ c.if-not-is_followed.false in
    let stated : is_some (stat_of_object items c.args.naming.now.target) ≡ true = ap is_some (sym (c.stat.ensures items noted)) ∙ c.if-is_none.ensures in
    let there = subst (λ (m : NodeId). contains same_node c.args.nodes.now m ≡ true) c.node_of.ensures.node (sym c.contains.ensures ∙ c.if-not-contains.false) in
    seen_more items c.args.naming.now _ _ among counts (tells.sound c.args.naming.now.dir there) stated seen c.in_ok-add.ensures
