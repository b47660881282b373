-- What the proofs of outside_mem import of std, of lower crates and of its specs.
pub use Rattle.std.proofs.Common.{Bool, Bor, List, None, Option, Some, [], ap, arith, cond, drop, false, filter, get_or, get_or-set_other, get_or-set_same, if◌then◌else◌, inl, inr, is_some, length, length-append, map, nat_eq, nat_lt, not, refl, replicate, rules, set, slice_index_or, subst, suc, sym, take, true, zero, ℕ, ⊎_elim, ◌%◌, ◌*◌, ◌++◌, ◌+◌, ◌-◌, ◌<◌, ◌^◌, ◌||◌, ◌∙◌, ◌∷◌, ◌≡◌, ◌≢◌, ◌≤◌, ◌⊎◌}
pub use Rattle.std.proofs.Math.Nat.{mod-eq_of_lt, mod-lt, mod-one}
pub use Rattle.std.proofs.lemmas.Bool.{both_ways, cases_Bool, cases_eq, cases_lt, cases_order, eq-eqb, eqb-true, le-ltb, lt-ltb, ltb-false, ne_eqb, or_from, or_left}
pub use Rattle.std.proofs.lemmas.Bool.Decides.{eqb_tells, nat_tests}
pub use Rattle.std.proofs.lemmas.List.{drop-append-le, drop_all, drop_at, ext_get_or, get_or-drop, get_or-map, get_or_append_left, get_or_past, get_or_push, length-drop, length-map, length-replicate, length-set, length-take-le, nil_from_length, set-set, set_comm, take-append-le, take_all, take_more}
pub use Rattle.std.proofs.lemmas.List.Elements.{All-filter, filter_passes, same_from_all_zip}
pub use Rattle.std.proofs.lemmas.List.FromFn.{fill_by_all, get_or-map-range_with_len, get_or-range_with_len, length-map-range_with_len, length-range_with_len}
pub use Rattle.std.proofs.lemmas.Map.Keys.{below_from_sorted, sorted_from_strictly_increasing, sorted_head, sorted_tail}
pub use Rattle.std.specs.BTreeMap.{BTreeMap, get, is_at, keys}
pub use Rattle.std.specs.List.{AllByRecursion, count_by, list_any, range_with_len}
pub use Rattle.std.specs.List.Sorted.{IsStrictlySortedBy}
pub use Rattle.std.specs.Map.{keys_of, lookup}
pub use Rattle.std.specs.Option.{MatchOption, option_copied, unwrap_or}
pub use Rattle.std.specs.Ordering.{is_eq, nat_cmp}
pub use Rattle.std.specs.Prelude.{All}
pub use Rattle.outside.proofs.Crash.{length-reads_from, whole_may}
pub use Rattle.outside.specs.History.{Call, EachWrite, History, Image, IsTorn, MayLeave, Waits, after, block_at, reads, reads_from, sector, synced, synced_from, wrote}
pub use Rattle.outside.specs.vol_block.Volume.{zeros}
pub use Rattle.outside.specs.vol_block.declared.block.Block.{Block}
pub use Rattle.outside_mem.specs.Choice.{HasWholeBlocks, IsLeftWhole, by_number, choice_for, crash_image, is_waiting, number_for, numbers_for, torn_by, torn_image, values, waiting_blocks, written}
unfoldable pub use Rattle.outside_mem.specs.Choice.{sectors_of}
pub use Rattle.outside_mem.specs.Disk.{State, after_refusal, after_sync, after_write, fresh}
pub use Rattle.outside_mem.specs.Done.{call_of, calls_of, drop_writes, is_not_write, newest_first, with_block}
pub use Rattle.outside_mem.specs.Failures.{Failures, counted, fails_next, one_more, passed_write}
pub use Rattle.outside_mem.specs.Laws.{readable, readable_len}
pub use Rattle.outside_mem.specs.Store.{IsConsistent, bytes_at, bytes_or, chosen_or, has_key, image_of, made_or, torn_or, undone_at}
pub use Rattle.outside_mem.specs.declared.store.Done.{Done}
pub use Rattle.outside_mem.specs.declared.store.Done.TheVariants.{Synced, Wrote}
