use Rattle.btr_check_references.proofs.Imports.{◌≡◌, ◌∙◌, List, ap, sym, subst, take, is_lt, rules, answers_always, ranks_by, AreJoined, AreOrdered, CountsAs, made_in, order_of, MadeCount}
use Rattle.btr_check_references.proofs.Joining.{counts_then, lent, moved_counts, ordered_from_sorted}
use Rattle.btr_check_references.proofs.Order.{order_total}
use Rattle.btr_check_references.proofs.gather.References.join.Goals as goal

pub returns-clause-same : goal.returns-clause-same
returns-clause-same c =
    let value = c.as_mut_slice.ensures.value in
    let back : c.truncate.new.self.items ≡ take c.in_ok-kept.kept c.join_same.new.entries =
    c.truncate.ensures.items ∙ ap (take c.in_ok-kept.kept) (lent c.sort_unstable_by.new.self.len c.sort_unstable_by.new.self.items c.join_same.new.entries (search rules) (search rules)) in
    subst (CountsAs c.args.self.now.entries.items) (sym back)
    (counts_then c.args.self.now.entries.items c.sort_unstable_by.new.self.items (take c.in_ok-kept.kept c.join_same.new.entries) (moved_counts _ _ c.sort_unstable_by.ensures.permutation)
    (subst (λ (xs : List MadeCount). CountsAs xs (take c.in_ok-kept.kept c.join_same.new.entries)) value c.in_ok-kept.ensures.same))

pub returns-clause-joined : goal.returns-clause-joined
returns-clause-joined c =
    let value = c.as_mut_slice.ensures.value in
    let back : c.truncate.new.self.items ≡ take c.in_ok-kept.kept c.join_same.new.entries =
    c.truncate.ensures.items ∙ ap (take c.in_ok-kept.kept) (lent c.sort_unstable_by.new.self.len c.sort_unstable_by.new.self.items c.join_same.new.entries (search rules) (search rules)) in
    let ordered = ordered_from_sorted c.sort_unstable_by.new.self.items (c.sort_unstable_by.ensures.sorted (λ a b. is_lt (order_of (made_in a) (made_in b))) (ranks_by order_total made_in) (answers_always _ _ _ (λ f a r g h. search rules))) in
    subst AreJoined (sym back) (c.in_ok-kept.ensures.joined (subst AreOrdered (sym value) ordered))
