-- What the proofs of free_space import of std, of lower crates and of its specs.
pub use Rattle.std.proofs.Common.{All, AllPairs, Any, Bool, List, MatchOption, None, Option, Some, [], ap, append_assoc, arith, cond, drop, false, flat_map, get_or, inl, inr, length, length-append, map, max, nat_le, nat_lt, not, refl, slice_get, subst, suc, sym, true, zero, ℕ, ⊎_elim, ◌&&◌, ◌++◌, ◌+◌, ◌-◌, ◌<◌, ◌^◌, ◌||◌, ◌∙◌, ◌∷◌, ◌≡◌, ◌≤◌, ◌⊎◌}
pub use Rattle.std.proofs.lemmas.Bool.{and_from, cases_eq, cases_lt, le-ltb, lt-leb, lt-ltb}
pub use Rattle.std.proofs.lemmas.List.Elements.{All-append, All-cons, All-head, All-map, All-nil, All-tail}
pub use Rattle.btr_node.specs.Leaf.{Item, keys_of}
pub use Rattle.free_space.specs.Gaps.{behind, free_items, gap, gaps}
pub use Rattle.free_space.specs.Info.{make_free_info}
unfoldable pub use Rattle.free_space.specs.Info.{free_info_layout}
pub use Rattle.free_space.specs.Laws.{FreeInfosReadBack, FreeItemsFit, FreeItemsTell, FreeSpaceIsTold, LiesIn}
pub use Rattle.free_space.specs.Runs.{AreFreeRuns, AreRanges, end_of, is_in, is_in_any}
pub use Rattle.free_space.specs.Tree.{group_items, info_item, run_item}
pub use Rattle.free_space.specs.declared.range.Range.{Range}
