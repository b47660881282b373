-- What the proofs of number_runs import of std, of lower crates and of its specs.
pub use Rattle.std.proofs.Common.{Bool, List, None, Option, Some, [], add-zero, ap, arith, cond, drop, false, get_or, inl, inr, leb, leb-false, leb-true, length, length-append, length-take-le, ltb, ltb-false, ltb-true, max, not, refl, rules, set, subst, sym, take, true, ℕ, ⊎_elim, ◌&&◌, ◌++◌, ◌+◌, ◌-◌, ◌<◌, ◌||◌, ◌∙◌, ◌∷◌, ◌≡◌, ◌≤◌, ◌⊎◌}
pub use Rattle.std.proofs.lemmas.Bool.Decides.{nat_tests}
pub use Rattle.std.proofs.lemmas.List.{append-nil, drop-drop, drop-set-lt, drop_all, get_or-drop, get_or-take, get_or_append_left, get_or_default, get_or_push, length-take, length_push, take-take, take_more_set}
pub use Rattle.std.proofs.lemmas.List.Elements.{All-from_get_or, All-push, All-weaker}
pub use Rattle.std.proofs.lemmas.List.Folds.{Any-from_list_any, list_any-append, list_any_at, list_any_more, list_any_none}
pub use Rattle.std.proofs.lemmas.List.Sorted.{All-permutation, IsNonDecreasingBy-from_sort_by_key, IsPartitionPoint-from_clause, IsPartitionedBy-ltb, list_any-IsPermutation}
pub use Rattle.std.specs.List.Sorted.{IsNonDecreasingBy, IsPartitionPoint}
pub use Rattle.std.specs.Prelude.{All, AllPairs}
pub use Rattle.number_runs.specs.Runs.{AreParted, EndsBelow, HasNumbers, IsFirst, IsRunFrom, StandsFrom, first_of, is_among, is_in}
pub use Rattle.number_runs.specs.declared.run.Run.{Run}
