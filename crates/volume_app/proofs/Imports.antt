-- What the proofs of volume_app import of std, of lower crates and of its specs.
pub use Rattle.std.proofs.Common.{Bool, Contains, Err, List, None, Ok, Result, Some, [], ap, arith, cond, drop, false, get_or, inl, inr, length, map, nat_eq, refl, string_bytes, subst, sym, take, true, true≢false, ℕ, ⊎_elim, ◌++◌, ◌+◌, ◌-◌, ◌<◌, ◌^◌, ◌∙◌, ◌≡◌, ◌≤◌, ◌⊎◌}
pub use Rattle.std.proofs.lemmas.Bool.Decides.{Decides-eqb, nat_tests}
pub use Rattle.std.proofs.lemmas.Result.{MatchResult-weaker, err_from_is_err_and}
pub use Rattle.std.specs.Prelude.{IfErr, IsTrue, Option, codes, nat_le, slice_index, ◌∷◌, ◌≢◌}
pub use Rattle.btr_reader.proofs.PartsRead.{of_disk, opened_super, rows_not_refused}
pub use Rattle.btr_reader.specs.Image.{ImageFile, image_place, image_refusals, saved_image}
pub use Rattle.btr_reader.specs.Opening.{IsAmong, IsBtrfsOpened, NamesNoLogTree, opening_refusals}
pub use Rattle.btr_reader.specs.Parts.{AreRowsOfBtrfs, HasBtrfsRows, IsBtrfsRefusal, IsReadable, RefusesBtrfsRows, RefusesPart, SavedImage, Tree, own_map, own_super, way_refusals}
pub use Rattle.btr_reader.specs.btr_reader_walk.declared.map.MapRange.{MapRange}
pub use Rattle.btr_reader.specs.btr_super.declared.superblock.Super.{Super}
pub use Rattle.btr_reader.specs.btrfs_format.declared.block.TheConstants.{FIRST_MIRROR, SECOND_MIRROR, SUPER_BLOCK, SUPER_MAGIC_OFFSET}
pub use Rattle.convert_core.proofs.One.{surveys_are_one}
pub use Rattle.convert_core.proofs.command_answers.Handed.{btrfs_cause, handed_on, volume_cause}
pub use Rattle.convert_core.specs.Converted.{IsConvertPlace, IsConverted, IsConvertible, IsLeftByConvert, IsSomeNew}
pub use Rattle.convert_core.specs.Surveyed.{IsSurvey}
pub use Rattle.convert_core.specs.command_answers.Answers.{of_btrfs, of_volume}
pub use Rattle.convert_core.specs.command_answers.declared.answer.Answer.{Answer}
pub use Rattle.convert_core.specs.command_answers.declared.answer.Answer.TheVariants.{Btr, Fault, ImageDamaged, ImageMissing, ImageMoved, ImageShared, Memory, NoSpace, NotSound, ReservedUsed, Volume, WrongFormat}
pub use Rattle.convert_core.specs.convert_steps.Prepared.{LacksSpace}
pub use Rattle.convert_core.specs.convert_trees_laws.Rows.{HasBytes}
pub use Rattle.convert_core.specs.declared.survey.Survey.{Survey}
pub use Rattle.convert_core.specs.space_items.Laws.{AreIds}
pub use Rattle.convert_core_laws.proofs.going_back.Crashing.{half_stands, stands, then_same}
pub use Rattle.convert_core_laws.specs.going_back.Back.{ConvertedVolumesGoBack, GoesBack}
pub use Rattle.convert_core_laws.specs.opening.Opens.{ConvertedVolumesOpen, OpensAsBefore, StandsAsBefore}
pub use Rattle.first_sync.proofs.Synced.{first_goes_on, synced_settled, turned, uncalled}
pub use Rattle.first_sync.specs.Laws.{FirstSyncParts}
pub use Rattle.first_sync.specs.Synced.{CrashesSynced, EachCrashSynced, SyncsFirst, synced_now}
pub use Rattle.reiser_volume.proofs.Answering.{rules_pass}
pub use Rattle.reiser_volume.proofs.Unchanged.{front_same_volume, put_back_same}
pub use Rattle.reiser_volume.specs.Answers.{RefusesVolume}
pub use Rattle.reiser_volume.specs.Laws.{IsSameVolume, RowsAreOne, UsedBlocksDecide}
pub use Rattle.reiser_volume.specs.Reading.{IsReadingAnswer}
pub use Rattle.reiser_volume.specs.Volume.{AreRowsOf, IsAccepted, superblock, used_of, volume_items}
pub use Rattle.reiser_volume.specs.fs_rows.Rows.{WholeRow, row_of}
pub use Rattle.reiser_volume.specs.fs_rows.Text.{rows_text}
pub use Rattle.reiser_volume.specs.outside.Fault.{HasCause, HasCauseOf, Rose, Takes}
pub use Rattle.reiser_volume.specs.outside.Format.{format_in}
pub use Rattle.reiser_volume.specs.outside.History.{History, Image, IsSettled, WritesOnly, block_at, reads}
pub use Rattle.reiser_volume.specs.refusals.declared.answer.BtrAnswer.{BtrAnswer}
pub use Rattle.reiser_volume.specs.refusals.declared.answer.VolAnswer.{VolAnswer}
pub use Rattle.reiser_volume.specs.vol_block.Format.{format, has_bytes_at, has_reiser_magic}
pub use Rattle.reiser_volume.specs.vol_block.declared.format.Format.{Format}
pub use Rattle.reiser_volume.specs.vol_block.declared.ids.Ids.{Ids}
pub use Rattle.rollback_core.proofs.Again.{btrfs_stays, putting_front, putting_recovers, recovers_back, recovery_goes_on}
pub use Rattle.rollback_core.proofs.RecoveryFormats.{btrfs_magic, has_format}
pub use Rattle.rollback_core.proofs.RollbackFormats.{format_read, super_readable}
pub use Rattle.rollback_core.specs.Recovered.{IsLeftByRecovery, IsRecoverable, IsRecovered, RewritesBeforeCopies}
pub use Rattle.rollback_core.specs.RolledBack.{IsLeftByRollback, IsRolledBack}
pub use Rattle.super_turn.specs.PutBack.{IsPutBackAlone, IsPuttingBack, copy_place, is_half_turned, put_back}
pub use Rattle.trial_core.specs.Answers.{LeavesRefused, RefusesTrial}
pub use Rattle.trial_core.specs.Trial.{IsTried, needed_by, sample_on}
pub use Rattle.unit_plan.specs.Choice.{HasEnoughSpace, TellsSpace, longest_run}
pub use Rattle.unit_plan.specs.Needed.{need}
pub use Rattle.unit_plan.specs.convert_options.declared.options.Options.{Options}
pub use Rattle.volume_app.specs.Command.{Asked, command, convert, help, inspect, list, numbered, recover, rollback, seen, trial, version}
pub use Rattle.volume_app.specs.Converting.{IsConvertedWhole, IsEitherWhole, convert_meaning, convert_text}
pub use Rattle.volume_app.specs.Ending.{error_line, status}
pub use Rattle.volume_app.specs.Headline.{CanRecover, IsToBeDone, KeepsPromise, LeavesTree, MakesTree}
pub use Rattle.volume_app.specs.Inspect.{InspectRefuses, Inspects, IsInspectAnswer, IsInspectText, IsInspectable, inspect_meaning, inspected_text}
pub use Rattle.volume_app.specs.Laws.{AreCutOff, CrashesAtAnyMoment, InspectTellsSpace, InspectTextsAreOne, IsCutOff, ListTextsAreOne, RecoversAfterCrashes, RollbackUndoesConvert, StandsInTheEnd}
pub use Rattle.volume_app.specs.Listing.{AreRowsIn, IsListAnswer, IsListText, IsListable, ListRefuses, Lists, list_meaning}
pub use Rattle.volume_app.specs.Outcome.{EndsRight, HasFaults, IsDoneWith, IsQuiet, Knows, Performs, Prints, Reports, ending_of, meaning}
pub use Rattle.volume_app.specs.Recovering.{recover_meaning, recover_text}
pub use Rattle.volume_app.specs.Reiser.{IsReiserSummary, label_of, summary_text}
pub use Rattle.volume_app.specs.RollingBack.{rollback_meaning, rollback_text}
pub use Rattle.volume_app.specs.Told.{image_length, summary_of, summary_with}
pub use Rattle.volume_app.specs.Trees.{AreBlocks, HasId, IsConvertedTree, IsPuttingBackTree, KeepsTree, LeavesConvertedTree, LeavesRestoredTree}
pub use Rattle.volume_app.specs.Trying.{IsTriable, IsTriedWhole, KeepsScratch, LeavesSample, trial_meaning, trial_text}
pub use Rattle.volume_app.specs.declared.ending.Ending.{Ending}
pub use Rattle.volume_app.specs.declared.ending.Ending.TheVariants.{Done, Failed, OutputFault, Usage}
pub use Rattle.volume_app.specs.declared.reiser.ReiserSummary.{ReiserSummary}
pub use Rattle.volume_state.specs.GoingBack.{CanGoBack}
pub use Rattle.volume_state.specs.Laws.{CanGoBackToo, SpareBlocksDecideNothing, is_spare}
pub use Rattle.volume_state.specs.Saved.{image_blocks}
