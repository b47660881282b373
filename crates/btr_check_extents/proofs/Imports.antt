-- What the proofs of btr_check_extents import of std, of lower crates and of its specs.
pub use Rattle.std.proofs.Common.{All, AllPairs, Bool, Equal, Err, Greater, IsSortedBy, Less, List, Ok, Option, Ordering, Result, [], ap, arith, false, get_or, if◌then◌else◌, is_eq, is_lt, length, refl, rules, subst, suc, sym, take, true, true≢false, zero, ℕ, ⊎_elim, ◌*◌, ◌+◌, ◌<◌, ◌^◌, ◌∙◌, ◌∷◌, ◌≡◌, ◌≢◌, ◌≤◌}
pub use Rattle.std.specs.List.{count_by, sum_by}
pub use Rattle.btr_check_references.specs.Counts.{AreCountsOf, AreJoined, IsTestOfRefs, is_same, made_in, made_of, order_of}
pub use Rattle.btr_check_references.specs.declared.gather.MadeCount.{MadeCount}
