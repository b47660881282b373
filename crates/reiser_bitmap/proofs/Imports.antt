-- What the proofs of reiser_bitmap import of std, of lower crates and of its specs.
pub use Rattle.std.proofs.Common.{Bool, IsTrue, List, [], ap, arith, bit_and, bit_or, cond, drop, false, get_or, inl, inr, leb, length, ltb, map, min, nat_eq, not, refl, replicate, set, subst, suc, sym, take, true, zero, ℕ, ⊎_elim, ◌%◌, ◌&&◌, ◌*◌, ◌++◌, ◌+◌, ◌-◌, ◌/◌, ◌<◌, ◌==◌, ◌^◌, ◌||◌, ◌∙◌, ◌∷◌, ◌≡◌, ◌≢◌, ◌≤◌, ◌⊎◌}
pub use Rattle.std.proofs.Math.Nat.{pow-suc, zero-mul}
pub use Rattle.std.proofs.lemmas.Bool.{and_cases, and_from, and_left, and_parts, and_right, both_ways, cases_Bool, cases_eq, cases_lt, eq-eqb, eqb-false, eqb-true, le-leb, le-ltb, leb-true, lt-ltb, ne_eqb, not-true, not_from_false, not_from_true, or_cases, or_left, or_right}
pub use Rattle.std.proofs.lemmas.Bool.Decides.{Decides-and, Decides-by_and, Decides-like, Decides-ltb, Decides-not, eqb_tells, nat_tests, same_from_decides}
pub use Rattle.std.proofs.lemmas.List.{append-nil, ext_get_or, get_or-append_right, get_or-drop, get_or-map, get_or-replicate, get_or-set_other, get_or-set_same, get_or-take, get_or_append_left, get_or_past, length-append, length-map, length-replicate, length-set, length-take, length_push, map-append, take_all, take_more}
pub use Rattle.std.proofs.lemmas.List.Elements.{All-contains, Contains-append_cases, Contains-append_left, Contains-append_right, Contains-get_or, filter-append}
pub use Rattle.std.proofs.lemmas.List.FromFn.{get_or-map-range_with_len, get_or-range_with_len, length-map-range_with_len, length-range_with_len}
pub use Rattle.std.proofs.lemmas.List.Sums.{count_by-le-length, length-filter, sum_by-cons, sum_by-take-le, sum_by_push, take_while-cons}
pub use Rattle.std.proofs.lemmas.Nat.{le_or_l, le_or_r, ones-le}
pub use Rattle.std.proofs.lemmas.Nat.Bits.{and_pow, bit_at-lt, bit_at-suc, bit_at-zero, bit_at_and, bit_at_lowest, bit_at_ones, bit_at_ones_above, bit_at_set_other, bit_at_set_same, same_from_bits_below}
pub use Rattle.std.specs.Int.{bit_at, w8}
pub use Rattle.std.specs.List.{list_all, range_with_len}
pub use Rattle.std.specs.Prelude.{All, Any, Contains, count_ones, filter, slice_index, sum_by, take_while, ◌↔◌}
pub use Rattle.refusals.specs.declared.refusal.VolumeRefusal.TheVariants.{Damaged}
pub use Rattle.refusals.specs.declared.rule.Rule.TheVariants.{SystemFree}
pub use Rattle.refusals.specs.outside.History.{Image, block_at}
pub use Rattle.refusals.specs.vol_block.Volume.{IsReserved}
pub use Rattle.reiser_bitmap.specs.Bits.{bit_of, bits, has}
unfoldable pub use Rattle.reiser_bitmap.specs.Bits.{bit_count, used_blocks}
pub use Rattle.reiser_bitmap.specs.Layout.{bitmap_block, bitmap_of, is_marked}
pub use Rattle.reiser_bitmap.specs.Next.{is_bit}
unfoldable pub use Rattle.reiser_bitmap.specs.Next.{end_of_run}
pub use Rattle.reiser_bitmap.specs.Runs.{AreMaximalRuns, IsInRun, IsMaximalRun, begins_run, run_from}
unfoldable pub use Rattle.reiser_bitmap.specs.Runs.{free_runs, maximal_runs}
pub use Rattle.reiser_bitmap.specs.System.{NamesFreeBlock, is_bitmap_block, is_system}
unfoldable pub use Rattle.reiser_bitmap.specs.System.{system_blocks}
pub use Rattle.reiser_bitmap.specs.Units.{IsFreeUnit, is_free_block, unit_count}
unfoldable pub use Rattle.reiser_bitmap.specs.Units.{are_free_blocks, free_units, is_free_unit}
pub use Rattle.reiser_bitmap.specs.Zeros.{AreZeros, HasNoBits}
pub use Rattle.reiser_bitmap.specs.declared.runs.Run.{Run}
pub use Rattle.reiserfs_format.specs.declared.block.TheConstants.{BITS_IN_BLOCK, FIRST_BITMAP_BLOCK, FIRST_FREE_BLOCK, SUPER_BLOCK}
