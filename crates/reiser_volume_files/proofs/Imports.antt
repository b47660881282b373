-- What the proofs of reiser_volume_files import of std, of lower crates and of its specs.
pub use Rattle.std.proofs.Common.{All, Bool, Err, IsTrue, List, None, Ok, OnOk, Option, Result, Some, [], ap, arith, cond, eqb, false, get_or, inl, inr, leb, length, ltb, max, min, refl, replicate, set, subst, suc, sym, take, true, unwrap_or, zero, ℕ, ◌%◌, ◌&&◌, ◌*◌, ◌++◌, ◌+◌, ◌-◌, ◌/◌, ◌<◌, ◌||◌, ◌∙◌, ◌∷◌, ◌≡◌, ◌≢◌, ◌≤◌, ◌⊎◌}
pub use Rattle.std.proofs.lemmas.Bool.{and_from, and_left, and_parts, and_right, cases_Bool, cases_eq, cases_lt, cases_order, cond-false, cond-true, cond_both, eq-eqb, eqb-true, false≢true, le-leb, le-ltb, leb-true, lt-leb, lt-ltb, ltb-false, ltb-true, ne_eqb, or_cases, or_parts, or_right}
pub use Rattle.std.proofs.lemmas.List.{get_or-append_right, get_or-replicate, get_or-take, get_or_append_left, get_or_at, get_or_default, get_or_past, length-append, length-replicate, length-take, take_all, take_min}
pub use Rattle.std.proofs.lemmas.List.Elements.{All-cons, All-from_get_or, All-get_or, All-head, All-nil, All-tail, All-weaker, Contains-get_or}
pub use Rattle.std.proofs.lemmas.Option.{get_or_from_slice_get}
pub use Rattle.std.specs.Int.{div_ceil}
pub use Rattle.std.specs.List.{list_all, list_any}
pub use Rattle.std.specs.Option.{option_or}
pub use Rattle.std.specs.Prelude.{AllPairs, Contains}
pub use Rattle.fs_rows.proofs.FileMarks.{below_size, block_of_file, past_size}
pub use Rattle.fs_rows.proofs.Functions.{byte_at, bytes_are, length_bytes, same_block, same_bytes, zero_block}
pub use Rattle.fs_rows.proofs.Holding.{held_same}
pub use Rattle.fs_rows.proofs.Joined.{joined_above, joined_at, joined_below, joined_end, joined_on, joined_outside_above, joined_outside_below, joined_start}
pub use Rattle.fs_rows.specs.Held.{HoldsBytes}
pub use Rattle.fs_rows.specs.Pieces.{Overlays, ReplacesBlock}
pub use Rattle.reiser_volume_files.specs.Bytes.{AlignedByKind, EndsBy, FollowsAll, IsAligned, MayFollow, block_byte, byte_count, bytes_by, content, direct_by_kind, direct_byte, direct_content, end_of, file_block, file_byte, file_bytes, first_byte, is_covered, named_block, pointer_by_kind, tail_block, target_bytes}
pub use Rattle.reiser_volume_files.specs.Laws.{AreInOrder, AreItemsApart, IsItemOf, IsNamedBlock, IsNoIndirect, SharesByte, held_from, up_to_size}
pub use Rattle.reiser_volume_files.specs.Parts.{OverlaysDisks, OverlaysTail}
pub use Rattle.reiser_volume_files.specs.Pieces.{OverlaysNamed, are_inside, is_inside}
pub use Rattle.reiser_volume_files.specs.Runs.{AreRunsOf, IsFileRunBefore, block_from, disk_or_hole, extended, file_runs, goes_on, holds_by_kind, is_held, is_in_run, is_next, lies_at, longer, next_from, run_of, with_block}
unfoldable pub use Rattle.reiser_volume_files.specs.Runs.{runs_of}
pub use Rattle.reiser_volume_files.specs.States.{HoldsRuns, MapsFile, MarksFile}
pub use Rattle.reiser_volume_files.specs.declared.map.FileRun.{FileRun}
pub use Rattle.reiser_volume_files.specs.declared.map.RunFrom.{RunFrom}
pub use Rattle.reiser_volume_files.specs.declared.map.RunFrom.TheVariants.{Disk, Tail}
pub use Rattle.reiser_volume_files.specs.declared.mapper.FileMapper.{FileMapper}
pub use Rattle.reiser_volume_files.specs.declared.marker.FileMarker.{FileMarker}
pub use Rattle.reiser_walk.proofs.reiser_items.Lists.{pointer_at, pointers_length}
pub use Rattle.reiser_walk.specs.Items.{ReiserItem}
pub use Rattle.reiser_walk.specs.outside.History.{Image, block_at}
pub use Rattle.reiser_walk.specs.reiser_items.Pointers.{pointers}
pub use Rattle.reiser_walk.specs.reiser_node.declared.head.ItemHead.{ItemHead}
pub use Rattle.reiser_walk.specs.reiser_node.declared.head.ItemKind.{ItemKind}
pub use Rattle.reiser_walk.specs.reiser_node.declared.head.ItemKind.TheVariants.{Direct, Directory, Indirect, Stat}
