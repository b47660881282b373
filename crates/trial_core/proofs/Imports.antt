-- What the proofs of trial_core import of std, of lower crates and of its specs.
pub use Rattle.std.proofs.Common.{Bool, Contains, Err, List, None, Ok, Result, Some, [], ap, arith, false, get_or, inl, inr, length, map, refl, subst, suc, sym, take, true, true≢false, zero, ℕ, ⊎_elim, ◌&&◌, ◌++◌, ◌+◌, ◌-◌, ◌<◌, ◌^◌, ◌∙◌, ◌∷◌, ◌≡◌, ◌≤◌}
pub use Rattle.std.proofs.lemmas.Bool.{and_parts, cases_lt}
pub use Rattle.std.proofs.lemmas.List.{get_or_past, map-append, take_all, take_more_same}
pub use Rattle.std.proofs.lemmas.Result.{err_from_is_err_and}
pub use Rattle.std.specs.List.{range_with_len}
pub use Rattle.std.specs.Prelude.{IfErr, IsTrue, codes, filter, min, nat_lt, not, slice_get, slice_index, sum, ◌==◌, ◌≢◌}
pub use Rattle.std.specs.Result.{MatchResult}
pub use Rattle.btr_reader.specs.Parts.{HasBtrfsRows, IsRowsRefusal, ListsBtrfs, RefusesBtrfsRows, has_log, unreadable}
pub use Rattle.btr_reader.specs.btrfs_format.declared.block.TheConstants.{SUPER_BLOCK}
pub use Rattle.convert_core.specs.Answers.{RefusesConvert}
pub use Rattle.convert_core.specs.Converted.{IsConverted}
pub use Rattle.convert_core.specs.command_answers.declared.answer.Answer.{Answer}
pub use Rattle.convert_core.specs.convert_trees_laws.Rows.{HasBytes}
pub use Rattle.convert_core_laws.specs.going_back.Back.{ConvertedVolumesGoBack, GoesBack}
pub use Rattle.first_sync.proofs.Synced.{first_goes_on, goes_on, stays_on, synced_first, synced_on, then_goes_on}
pub use Rattle.first_sync.specs.Synced.{GoesOn, synced_now}
pub use Rattle.reiser_bitmap.proofs.Ranges.{contains_head, contains_tail, filter_more_no, filter_more_yes}
pub use Rattle.reiser_bitmap.specs.Bits.{has}
unfoldable pub use Rattle.reiser_bitmap.specs.Bits.{used_blocks}
pub use Rattle.reiser_bitmap.specs.outside.History.{History, Image, IsSettled, OverTold, WritesOnly, after, block_at, reads, synced}
pub use Rattle.reiser_bitmap.specs.vol_block.declared.ids.Ids.{Ids}
pub use Rattle.reiser_make.specs.Shape.{Shape, shape}
pub use Rattle.reiser_volume.specs.Laws.{FrontsAreJudged, RefusalsBreakRules, RowsAreOne}
pub use Rattle.reiser_volume.specs.Volume.{IsAccepted, used_of}
pub use Rattle.reiser_volume.specs.fs_rows.Mark.{mark_of}
pub use Rattle.reiser_volume.specs.fs_rows.Marker.{Marks}
pub use Rattle.reiser_volume.specs.fs_rows.Rows.{WholeRow, row_of}
pub use Rattle.reiser_volume.specs.fs_rows.declared.row.Row.{Row}
pub use Rattle.reiser_volume.specs.reiser_volume_contents.Laws.{SameUsed}
pub use Rattle.rollback_core.specs.RollbackLaws.{RefusedCanNotGoBack, RollbackKeeps}
pub use Rattle.rollback_core.specs.volume_state.GoingBack.{CanGoBack}
pub use Rattle.super_turn.specs.PutBack.{copy_place, is_half_turned, put_back}
pub use Rattle.trial_core.specs.Answers.{IsMakeAnswer, IsStop, IsTrialReadAnswer, LeavesRefused, LeavesRound, RefusesRound, RefusesScratch, RefusesTrial, StopsUnless, by_step}
pub use Rattle.trial_core.specs.Parts.{counted, numbered, summary_of, used_mark}
pub use Rattle.trial_core.specs.Round.{AreReiser, FreeAreBytes, IsKnownVolume, IsRound, IsTrialSummary, UsedAreBytes, plain}
pub use Rattle.trial_core.specs.Trial.{IsSampleMade, IsScratch, IsTried, KeepsFree, needed_by, sample_on, trial_summary}
pub use Rattle.trial_core.specs.declared.summary.TrialSummary.{TrialSummary}
