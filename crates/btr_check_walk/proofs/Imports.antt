-- What the proofs of btr_check_walk import of std, of lower crates and of its specs.
pub use Rattle.std.proofs.Common.{Bool, Contains, IsTrue, List, MatchResult, None, Option, Result, Some, [], ap, append_assoc, ap₂, arith, drop, false, get_or, if◌then◌else◌, inl, inr, length, map, nat_cmp, refl, subst, suc, sym, take, true, zero, ℕ, ◌++◌, ◌+◌, ◌<◌, ◌∙◌, ◌∷◌, ◌≡◌, ◌≢◌, ◌≤◌, ◌⊎◌}
pub use Rattle.std.proofs.lemmas.List.{append-nil, map-append, take-append-drop, take_more}
pub use Rattle.std.proofs.lemmas.List.Elements.{All-cons, All-contains, All-nil, Contains-append_left, Contains-append_right}
pub use Rattle.std.proofs.lemmas.Result.{MatchResult-weaker, err_from_is_err_and}
pub use Rattle.std.specs.List.{All, flat_map}
pub use Rattle.btr_check_rules.specs.Sound.{Trees, part_number}
pub use Rattle.btr_check_rules.specs.Walk.{if_leaf, node_items, owners_of, walk_refusals, walked_items}
pub use Rattle.btr_check_rules.specs.btr_reader.btr_keys.declared.key.Key.{Key}
pub use Rattle.btr_check_rules.specs.btr_reader.btr_node.Leaf.{Item, items_in}
pub use Rattle.btr_check_rules.specs.btr_reader.btr_reader_walk.Events.{TreeItem, in_leaf, unless_damaged}
pub use Rattle.btr_check_rules.specs.btr_reader.btr_reader_walk.Tree.{at_address, is_above, order_damages}
pub use Rattle.btr_check_rules.specs.btr_reader.btr_reader_walk.Visits.{Opens, Refuses, ahead, nodes_fuel}
pub use Rattle.btr_check_rules.specs.btr_reader.btr_reader_walk.Walks.{last_after}
pub use Rattle.btr_check_rules.specs.btr_reader.btr_reader_walk.declared.node_walker.NodeWalker.{NodeWalker}
pub use Rattle.btr_check_rules.specs.btr_reader.btr_reader_walk.declared.tree.NodePointer.{NodePointer}
pub use Rattle.btr_check_rules.specs.btr_reader.btr_reader_walk.declared.tree.Tree.{Tree}
pub use Rattle.btr_check_rules.specs.btr_reader.outside.History.{Image}
pub use Rattle.btr_check_rules.specs.btr_reader.refusals.declared.refusal.BtrRefusal.{BtrRefusal}
pub use Rattle.btr_check_rules.specs.btr_reader.refusals.declared.rule.BtrRule.TheVariants.{KeyOrder}
pub use Rattle.btr_check_walk.specs.Parts.{BreaksTrees, IsPartAnswer, IsVisitAnswer, TellsBy, TellsPart, tree_answer}
pub use Rattle.btr_check_walk.specs.Walks.{EndsWalk, InOrder, IsRefused, Stands}
pub use Rattle.btr_reader_walk.proofs.Events.{last_after-append, none_both, order_damages-append}
pub use Rattle.command_answers.specs.declared.answer.Answer.{Answer}
