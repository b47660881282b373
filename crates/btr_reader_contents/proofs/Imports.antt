-- What the proofs of btr_reader_contents import of std, of lower crates and of its specs.
pub use Rattle.std.proofs.Common.{Bool, Contains, Equal, Greater, IfOk, IsTrue, Less, List, None, OnOk, Option, Ordering, Some, [], ap, append_assoc, arith, cond, eqb, false, get_or, if◌then◌else◌, inl, inr, is_lt, is_some, leb, length, ltb, map, min, nat_cmp, nat_eq, nat_le, nat_lt, not, refl, replicate, subst, suc, sym, take, true, ℕ, ◌%◌, ◌&&◌, ◌*◌, ◌++◌, ◌+◌, ◌-◌, ◌/◌, ◌<◌, ◌==◌, ◌^◌, ◌||◌, ◌∙◌, ◌∷◌, ◌≡◌, ◌≤◌}
pub use Rattle.std.proofs.lemmas.Bool.{cases_lt, eqb-true}
pub use Rattle.std.proofs.lemmas.Bool.Decides.{nat_tests}
pub use Rattle.std.proofs.lemmas.List.{append-nil, get_or-replicate, get_or-take, length-take}
pub use Rattle.std.proofs.lemmas.List.Elements.{All-head, All-tail, Contains-append_left, Contains-append_right, filter-append}
pub use Rattle.std.proofs.lemmas.Result.{err_from_is_err_and}
pub use Rattle.std.specs.Int.{div_ceil}
pub use Rattle.std.specs.List.{range_with_len}
pub use Rattle.std.specs.Option.{option_map, option_map_or}
pub use Rattle.btr_reader_contents.specs.Blocks.{AreInBlocks, IsInBlocks, block_or_zeros}
pub use Rattle.btr_reader_contents.specs.Bytes.{content}
pub use Rattle.btr_reader_contents.specs.Contents.{HasContents, RefusesContents, RefusesExtents, TellsContent, content_in, content_of, wanted_at}
pub use Rattle.btr_reader_contents.specs.Extents.{at_unmapped, byte_from, byte_of_place, bytes_of_inode, content_byte, covered_after, covered_by, covers, end_after, extent_length, extent_refusals, extents_covered, extents_end, extents_of, extents_refusals, file_byte, has_form, is_aligned, is_extent_of, is_hole, place_refusals, range_is_aligned, refusals_at, refused_unless, unmapped_in}
pub use Rattle.btr_reader_contents.specs.Gathering.{AllBefore, HandAt, HasGathered, HoldsHand, item_wanted, last_inode}
pub use Rattle.btr_reader_contents.specs.Parts.{Appends}
pub use Rattle.btr_reader_contents.specs.States.{MarksExtents, ReachSoFar}
pub use Rattle.btr_reader_contents.specs.declared.extents.Reach.{Reach}
pub use Rattle.btr_reader_contents.specs.declared.hand.Hand.{Hand}
pub use Rattle.btr_reader_contents.specs.declared.wanted.Wanted.{Wanted}
pub use Rattle.btr_reader_names.specs.Table.{HasNotedNames}
pub use Rattle.btr_reader_walk.proofs.Events.{last_after-append, none_both, order_damages-append}
pub use Rattle.btr_reader_walk.proofs.Mapping.{holds_bounds, place_within}
pub use Rattle.btr_reader_walk.specs.Events.{TreeItem}
pub use Rattle.btr_reader_walk.specs.Map.{holds, place}
pub use Rattle.btr_reader_walk.specs.Walks.{Blames, LieOn, Walks, found, fuel, last_after, wrong}
pub use Rattle.btr_reader_walk.specs.btr_keys.FileExtent.{ContentValue, FileExtentValue, Regular, content_value, file_extent_of, file_extent_value}
pub use Rattle.btr_reader_walk.specs.btr_keys.declared.key.Key.{Key}
pub use Rattle.btr_reader_walk.specs.declared.map.MapRange.{MapRange}
pub use Rattle.btr_reader_walk.specs.declared.tree.Tree.{Tree}
pub use Rattle.btr_reader_walk.specs.outside.History.{Image, block_at}
pub use Rattle.btr_reader_walk.specs.refusals.declared.refusal.BtrRefusal.{BtrRefusal}
pub use Rattle.btr_reader_walk.specs.refusals.declared.refusal.BtrRefusal.TheVariants.{BadBtrfs, Unsupported}
pub use Rattle.btr_reader_walk.specs.refusals.declared.rule.BtrRule.TheVariants.{ExtentForm, Unmapped}
pub use Rattle.fs_paths.specs.Links.{same_node}
pub use Rattle.fs_rows.proofs.FileMarks.{below_size, map_same, past_size}
pub use Rattle.fs_rows.proofs.Joined.{joined_at, joined_below, joined_end, joined_outside_above, joined_outside_below, joined_start}
pub use Rattle.fs_rows.specs.Held.{HoldsBytes}
pub use Rattle.fs_rows.specs.Mark.{mark_of_bytes}
pub use Rattle.fs_rows.specs.Pieces.{Overlays, ReplacesBlock}
pub use Rattle.fs_rows.specs.declared.content.Content.{Content}
pub use Rattle.indexmap.specs.IndexMap.{get}
pub use Rattle.indexmap.specs.IndexSet.{contains}
