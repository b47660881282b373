-- What the proofs of fs_rows import of std, of lower crates and of its specs.
pub use Rattle.std.proofs.Common.{All, Bool, IsErr, IsTrue, List, Result, Some, [], ap, append_assoc, arith, codes, cond, drop, false, get_or, if◌then◌else◌, inl, inr, length, ltb, map, max, min, nat_eq, not, refl, replicate, slice_get, subst, suc, sym, take, true, true≢false, zero, ℕ, ◌%◌, ◌&&◌, ◌*◌, ◌++◌, ◌+◌, ◌-◌, ◌/◌, ◌<◌, ◌↔◌, ◌∙◌, ◌∷◌, ◌≡◌, ◌≤◌}
pub use Rattle.std.proofs.lemmas.Bool.{cases_lt, cond-false, cond-true, le-ltb, lt-ltb, not-false, not-true}
pub use Rattle.std.proofs.lemmas.Grind.{same_number_lists}
pub use Rattle.std.proofs.lemmas.List.{append-nil, drop_more, get_or-append-add, get_or-append_right, get_or-drop, get_or-replicate, get_or-take, get_or_append_left, get_or_past, length-append, length-drop, length-replicate, length-take, take_all, take_min}
pub use Rattle.std.proofs.lemmas.List.Concat.{flat_map-append, flat_map-cons, get_or-flat_map}
pub use Rattle.std.proofs.lemmas.List.FromFn.{get_or-map-range_with_len, length-map-range_with_len, map-range_with_len_more}
pub use Rattle.std.proofs.lemmas.Option.{get_or_from_slice_get, slice_get-get_or, slice_get_within}
pub use Rattle.std.specs.Cmp.Lexicographic.{bytes_decides, pointwise}
pub use Rattle.std.specs.List.{flat_map, range_with_len}
pub use Rattle.fs_rows.specs.Bytes.{block_by, up_to}
unfoldable pub use Rattle.fs_rows.specs.Bytes.{bytes_by}
pub use Rattle.fs_rows.specs.Held.{HoldsBytes}
unfoldable pub use Rattle.fs_rows.specs.Held.{blocks_by}
pub use Rattle.fs_rows.specs.Mark.{is_zeros, marked_block}
unfoldable pub use Rattle.fs_rows.specs.Mark.{block_of_bytes, blocks_of_bytes, mark_of, mark_of_bytes}
unfoldable pub use Rattle.fs_rows.specs.Marker.{Marks}
pub use Rattle.fs_rows.specs.Pieces.{Overlays, ReplacesBlock}
pub use Rattle.fs_rows.specs.Text.{any_flag, dash, device_by, end_by, ending_text, fields_by, flag, flags_text, last_fields, least_text, length_text, mark_text, names_by, owner_fields, path_text, row_text, slashed, spaced, time_fields}
unfoldable pub use Rattle.fs_rows.specs.Text.{rows_text}
pub use Rattle.fs_rows.specs.declared.file.FileBytes.{FileBytes}
pub use Rattle.fs_rows.specs.declared.mark.Marker.{Marker}
pub use Rattle.sink_text.proofs.Pushing.{pushed_item, pushes_later, pushes_stopped, stopped_at_item, stopped_here, takes_of_flush, takes_of_stopped}
pub use Rattle.sink_text.specs.Pushes.{Pushed, Pushes, Stopped}
pub use Rattle.sink_text.specs.vol_block.Volume.{zeros}
