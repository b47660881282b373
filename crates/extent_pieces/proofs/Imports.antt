-- What the proofs of extent_pieces import of std, of lower crates and of its specs.
pub use Rattle.std.proofs.Common.{Bool, IsTrue, List, None, Option, Some, [], ap, append_assoc, arith, cond, drop, eq-eqb, false, get_or, inl, inr, leb, length, length-append, length-drop, length-take, ltb, map, max, min, not, refl, rules, subst, suc, sym, take, true, zero, ℕ, ⊎_elim, ◌%◌, ◌&&◌, ◌*◌, ◌++◌, ◌+◌, ◌-◌, ◌/◌, ◌<◌, ◌==◌, ◌^◌, ◌||◌, ◌∙◌, ◌∷◌, ◌≡◌, ◌≤◌, ◌⊎◌}
pub use Rattle.std.proofs.lemmas.Bool.{and_from, and_left, and_parts, and_right, both_ways, cases_Bool, cases_eq, cases_lt, eqb-true, false≢true, le-leb, le-ltb, leb-false, leb-true, lt-ltb, ltb-true, not-true, not_from_false, not_from_true}
pub use Rattle.std.proofs.lemmas.List.{append-nil, ext_get_or, get_or-append_right, get_or-drop, get_or-map, get_or-take, get_or_append_left, get_or_default, get_or_past, length-map, length_push, map-append, take_all, take_more}
pub use Rattle.std.proofs.lemmas.List.Elements.{All-append, Contains-append_cases, Contains-append_left, Contains-append_right, Contains-get_or, filter-append}
pub use Rattle.std.proofs.lemmas.List.FromFn.{get_or-range_with_len, length-range_with_len}
pub use Rattle.std.proofs.lemmas.List.Kept.{AllPairs-cons, AllPairs-filter}
pub use Rattle.std.proofs.lemmas.List.Sorted.{Contains-permutation, IsNonDecreasingBy-from_sort_by_key, IsPartitionPoint-from_clause, IsPartitionedBy-leb, IsPermutation-sym}
pub use Rattle.std.proofs.lemmas.List.Sums.{sum_by-append, sum_by-cons, sum_by-le, sum_by_more, sum_by_push}
pub use Rattle.std.proofs.lemmas.Map.Keys.{IsDistinct-IsPermutation, IsDistinct-from_apart, apart_from_distinct}
pub use Rattle.std.proofs.lemmas.Option.{get_or_from_slice_get, slice_get-get_or, slice_get_cases, slice_get_within}
pub use Rattle.std.proofs.lemmas.Result.{err_from_is_err_and}
pub use Rattle.std.specs.Int.{div_ceil}
pub use Rattle.std.specs.List.{find, flat_map, list_any, range_with_len}
pub use Rattle.std.specs.List.Sorted.{IsNonDecreasingBy, IsPartitionPoint, IsPermutation}
pub use Rattle.std.specs.Option.{option_map}
pub use Rattle.std.specs.Prelude.{All, AllPairs, Any, Contains, MatchOption, filter, if◌then◌else◌, nat_le, nat_lt, slice_get, sum_by, unwrap_or, ◌≢◌}
pub use Rattle.extent_pieces.specs.Files.{FileAt, file_at, file_blocks, file_tails, files, has_tail, inline_files, is_file_at, is_file_inline, is_in_block, is_symlink_at, owns, tails}
unfoldable pub use Rattle.extent_pieces.specs.Files.{files_among, owner, symlinks_among}
pub use Rattle.extent_pieces.specs.Found.{IsFound, counts_of, files_of}
pub use Rattle.extent_pieces.specs.Laws.{AreKeptPieces, AreSortedKeys, CountedPiecesFit, CoverUsed, HasPlan, HoldsBlock, HoldsUsed, IsInPiece, IsKeptPiece, LieWell, LiesInUnit, OwnersAreNamed, OwnersOf, PiecesCoverUsed, PlacesAreApart, PlansHaveRoom}
pub use Rattle.extent_pieces.specs.Owned.{GoesOn, IsRun, IsRunBefore, TellOwners, holds_block, owner_in}
pub use Rattle.extent_pieces.specs.Parts.{AreParts, Gain, Gains, Gathers, adds_file, adds_inline, bytes_with, capped, count_with, file_owned, is_one_tail, is_tail_alone, owned_by_run, owned_in, tails_by_run, tails_from, tails_in}
pub use Rattle.extent_pieces.specs.Pieces.{Owners, advanced, begins_piece, copied_piece, is_copied, is_joined, is_owner, kept_piece, pieces, tail_piece}
unfoldable pub use Rattle.extent_pieces.specs.Pieces.{copied_pieces, kept_pieces}
pub use Rattle.extent_pieces.specs.Placed.{FitsPlan, WerePlaced, at_place, at_places, blocks_of_units}
pub use Rattle.extent_pieces.specs.declared.parts.FileParts.{FileParts}
pub use Rattle.extent_pieces.specs.declared.pieces.Pieces.{Pieces}
pub use Rattle.extent_pieces.specs.declared.run.OwnedRun.{OwnedRun}
pub use Rattle.extent_pieces.specs.declared.tail.Tail.{Tail}
pub use Rattle.indexmap.specs.IndexMap.{get, keys}
pub use Rattle.reiser_bitmap.proofs.Ends.{IsEnd, end_facts, end_is}
pub use Rattle.reiser_bitmap.proofs.MaximalRuns.{mapped, starts_ascend}
pub use Rattle.reiser_bitmap.proofs.Ranges.{all_from_contains, contains_cases, contains_filter, contains_head, contains_range, contains_tail, filter_contains, filter_more_no, filter_more_yes, filter_range_none, range_contains, range_cut}
pub use Rattle.reiser_bitmap.specs.Bits.{has}
pub use Rattle.reiser_bitmap.specs.Next.{end_of_run, next_unused}
pub use Rattle.reiser_bitmap.specs.Runs.{begins_run, run_from}
unfoldable pub use Rattle.reiser_bitmap.specs.Runs.{free_runs, maximal_runs}
pub use Rattle.reiser_bitmap.specs.Units.{IsFreeUnit, is_free_unit, unit_count}
pub use Rattle.reiser_bitmap.specs.outside.History.{Image}
pub use Rattle.reiser_bitmap.specs.vol_block.Volume.{IsReserved, is_reserved}
pub use Rattle.reiser_volume.proofs.Bounds.{accepted_is_small}
pub use Rattle.reiser_volume.proofs.Holding.{used_length}
pub use Rattle.reiser_volume.proofs.Mapping.{maps_tell_owned}
pub use Rattle.reiser_volume.proofs.fs_paths.Lists.{from_filter, from_flat_map, from_map, in_filter, in_map}
pub use Rattle.reiser_volume.specs.Bounds.{IsSmallVolume, direct_bytes, direct_length}
pub use Rattle.reiser_volume.specs.Inline.{is_tail}
pub use Rattle.reiser_volume.specs.Made.{kind_by, no_stat, stat_at}
pub use Rattle.reiser_volume.specs.Numbers.{AreNumbered}
pub use Rattle.reiser_volume.specs.Opened.{IsOpened, links_in}
pub use Rattle.reiser_volume.specs.Owners.{HoldsData, Owns, TellsOwned}
pub use Rattle.reiser_volume.specs.Volume.{IsAccepted, used_of, volume_items}
pub use Rattle.reiser_volume.specs.declared.volume.Volume.{Volume}
pub use Rattle.reiser_volume.specs.reiser_volume_contents.Answers.{IsFaultOrMemory}
pub use Rattle.reiser_volume.specs.reiser_volume_names.Links.{AreLinks, AreNamedKeys}
pub use Rattle.reiser_volume.specs.reiser_volume_names.Names.{ino_of_key}
pub use Rattle.reiser_volume.specs.reiser_walk.Items.{ReiserItem}
pub use Rattle.reiser_volume_files.proofs.Ascending.{file_runs_are}
pub use Rattle.reiser_volume_files.specs.Bytes.{first_byte, named_block}
pub use Rattle.reiser_volume_files.specs.Runs.{AreRunsOf, IsFileRunBefore, block_from, disk_or_hole, extended, file_runs, goes_on, holds_by_kind, is_held, is_in_run, is_next, lies_at, longer, next_from, with_block}
unfoldable pub use Rattle.reiser_volume_files.specs.Runs.{runs_of}
pub use Rattle.reiser_volume_files.specs.declared.map.FileRun.{FileRun}
pub use Rattle.reiser_volume_files.specs.declared.map.RunFrom.{RunFrom}
pub use Rattle.reiser_volume_files.specs.declared.map.RunFrom.TheVariants.{Disk}
pub use Rattle.reiser_volume_objects.specs.Keys.{items_of, root, same_key}
pub use Rattle.reiser_volume_objects.specs.Kinds.{fits_size, is_file, is_symlink, kind_of_mode}
pub use Rattle.reiser_volume_objects.specs.Rules.{IsObject}
pub use Rattle.reiser_volume_objects.specs.declared.key.ObjectKey.{ObjectKey}
pub use Rattle.reiser_volume_objects.specs.declared.naming.Naming.{Naming}
pub use Rattle.reiser_volume_objects.specs.declared.stat.ObjectStat.{ObjectStat}
pub use Rattle.reiser_volume_objects.specs.fs_rows.declared.row.Kind.{Kind}
pub use Rattle.reiser_volume_objects.specs.fs_rows.declared.row.Kind.TheVariants.{Block, Character, Directory, Fifo, File, Socket, Subvolume, Symlink}
pub use Rattle.unit_plan.proofs.Sound.{plans_sound}
pub use Rattle.unit_plan.specs.Choice.{is_among, is_data}
pub use Rattle.unit_plan.specs.Laws.{IsSoundPlan}
pub use Rattle.unit_plan.specs.Needed.{AreSmall, need}
pub use Rattle.unit_plan.specs.btrfs_format.declared.block.TheConstants.{FIRST_MIRROR, FIRST_MIRROR_END, SECOND_MIRROR, SECOND_MIRROR_END}
pub use Rattle.unit_plan.specs.declared.counts.Counts.{Counts}
pub use Rattle.unit_plan.specs.declared.piece.Piece.{Piece}
