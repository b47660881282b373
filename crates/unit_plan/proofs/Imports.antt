-- What the proofs of unit_plan import of std, of lower crates and of its specs.
pub use Rattle.std.proofs.Common.{Bool, List, None, Option, Some, [], ap, append_assoc, arith, cond, drop, eqb, false, get_or, inl, inr, leb, length, length-append, ltb, map, min, nat_cmp, not, refl, replicate, rules, set, slice_index, subst, suc, sym, take, true, zero, ℕ, ⊎_elim, ◌%◌, ◌&&◌, ◌*◌, ◌++◌, ◌+◌, ◌-◌, ◌/◌, ◌<◌, ◌^◌, ◌||◌, ◌∙◌, ◌∷◌, ◌≡◌, ◌≢◌, ◌≤◌, ◌⊎◌}
pub use Rattle.std.proofs.lemmas.Bool.{and_cases, and_from, and_left, and_parts, and_right, both_ways, cases_Bool, cases_eq, cases_lt, eq-eqb, eqb-true, le-leb, le-ltb, leb-false, leb-true, lt-leb, lt-ltb, ltb-true, ne_eqb, not-true, not_from_false, or_cases, or_left, or_right}
pub use Rattle.std.proofs.lemmas.List.{append-nil, drop-append-le, drop_all, drop_more, get_or-drop, get_or-map, get_or-replicate, get_or-set_other, get_or-set_same, get_or-take, get_or_append_left, get_or_at, get_or_default, get_or_past, length-drop, length-map, length-replicate, length-set, length-take, length_push, map-append, take-append-drop, take-append-le, take_all, take_more}
pub use Rattle.std.proofs.lemmas.List.Elements.{All-append, All-contains, All-filter, All-push, Contains-get_or, filter-append}
pub use Rattle.std.proofs.lemmas.List.Folds.{Any-from_list_any, list_any-append, list_any-from_Any, list_any_at, list_any_more, list_any_none}
pub use Rattle.std.proofs.lemmas.List.FromFn.{get_or-range_with_len, length-range_with_len}
pub use Rattle.std.proofs.lemmas.List.Sums.{fold_more, sum_by-append, sum_by-cons, sum_by-take-le}
pub use Rattle.std.proofs.lemmas.Option.{get_or_from_slice_get}
pub use Rattle.std.specs.Int.{div_ceil}
pub use Rattle.std.specs.List.{filter, flat_map, fold, list_all, list_any, range_with_len, sum_by}
pub use Rattle.std.specs.Prelude.{All, AllPairs, Any, Contains, MatchOption, max, ◌==◌}
pub use Rattle.btr_tree.specs.Counting.{node_bound}
pub use Rattle.reiser_bitmap.proofs.FreeUnits.{decides_free_unit, past_units}
pub use Rattle.reiser_bitmap.proofs.MaximalRuns.{runs_are_maximal}
pub use Rattle.reiser_bitmap.proofs.Ranges.{all_from_contains, contains_filter, contains_range, count_more_yes, filter_contains, filter_more_no, filter_more_yes, filter_range_none, filter_range_same, range_contains, range_cut}
pub use Rattle.reiser_bitmap.proofs.RunLemmas.{AreFound, found_all, found_ended, found_more, found_start}
pub use Rattle.reiser_bitmap.specs.Bits.{has}
pub use Rattle.reiser_bitmap.specs.Runs.{AreMaximalRuns, IsInRun, IsMaximalRun, begins_run, run_from}
unfoldable pub use Rattle.reiser_bitmap.specs.Runs.{free_runs, maximal_runs}
pub use Rattle.reiser_bitmap.specs.Units.{IsFreeUnit, is_free_block, unit_count}
unfoldable pub use Rattle.reiser_bitmap.specs.Units.{are_free_blocks, free_units, is_free_unit}
pub use Rattle.reiser_bitmap.specs.declared.runs.Run.{Run}
pub use Rattle.reiser_bitmap.specs.vol_block.Volume.{IsReserved, is_reserved}
pub use Rattle.unit_plan.specs.Choice.{is_among, is_data, is_in, is_long, is_other, is_spare, usable_units}
unfoldable pub use Rattle.unit_plan.specs.Choice.{holds_data, is_chosen, longest_run, lowest_long, others, spare_runs}
pub use Rattle.unit_plan.specs.Chunks.{AreChunksBy, ChunksAreFew, HoldsUnit, IsChunk, PlansFit, RolesAreUses, is_data_unit, is_filler, is_in_runs, role_by, usable_end, use_of}
unfoldable pub use Rattle.unit_plan.specs.Chunks.{has_role, role_of}
pub use Rattle.unit_plan.specs.Dividing.{AreBegun, IsJoined, IsWithChunk, chunk_from}
pub use Rattle.unit_plan.specs.Laws.{AreFreeUnits, AreLongRuns, AreUnitsApart, IsSoundPlan, PlansAreSound}
pub use Rattle.unit_plan.specs.Needed.{nodes_in_unit, tree_bytes}
pub use Rattle.unit_plan.specs.Places.{ArePlaces, PlacesServe, places_in}
unfoldable pub use Rattle.unit_plan.specs.Places.{node_places}
pub use Rattle.unit_plan.specs.Roles.{RoleSets, role_in}
pub use Rattle.unit_plan.specs.Staying.{is_ahead, is_as_long, is_longer, stays}
unfoldable pub use Rattle.unit_plan.specs.Staying.{staying, units_in}
pub use Rattle.unit_plan.specs.declared.chunk.PlannedChunk.{PlannedChunk}
pub use Rattle.unit_plan.specs.declared.chunk.Role.{Role}
pub use Rattle.unit_plan.specs.declared.chunk.Role.TheVariants.{Data, Metadata, System}
pub use Rattle.unit_plan.specs.declared.need.Need.{Need}
pub use Rattle.unit_plan.specs.declared.plan.Plan.{Plan}
