-- What the proofs of rollback_core import of std, of lower crates and of its specs.
pub use Rattle.std.proofs.Common.{All, Bool, Contains, Err, IsTrue, List, None, Ok, OnOk, Option, Result, Some, [], ap, arith, codes, cond, drop, eqb, false, filter, get_or, get_or-set_other, get_or-set_same, if◌then◌else◌, inl, inr, length, map, min, nat_le, nat_lt, not, refl, rules, set, subst, suc, sym, take, true, true≢false, zero, ℕ, ⊎_elim, ◌&&◌, ◌*◌, ◌++◌, ◌+◌, ◌-◌, ◌/◌, ◌<◌, ◌==◌, ◌↔◌, ◌∙◌, ◌∷◌, ◌≡◌, ◌≢◌, ◌≤◌, ◌⊎◌}
pub use Rattle.std.proofs.lemmas.Bool.{and_parts, cases_eq, cases_lt, eqb-true}
pub use Rattle.std.proofs.lemmas.Bool.Decides.{nat_tests}
pub use Rattle.std.proofs.lemmas.List.{append-nil, ext_get_or, get_or-drop, get_or-map, get_or_default, get_or_past, length-map, length-set, length_push, take_all}
pub use Rattle.std.proofs.lemmas.Result.{err_from_is_err_and}
pub use Rattle.std.proofs.lemmas.Slice.Eq.{bytes_eq-Decides}
pub use Rattle.std.specs.List.{range_with_len, starts_with}
pub use Rattle.std.specs.Option.{option_and_then, unwrap_or}
pub use Rattle.std.specs.Prelude.{IfErr, IfOk, IsSomeAnd, bytes_eq, is_some, nat_eq}
pub use Rattle.btr_reader.proofs.PartsRead.{no_log, of_disk, one_log, read_here}
pub use Rattle.btr_reader.specs.Apart.{AreExtentsApart, AreNodesApart, IsSameOutside, IsVolumeApart, boot_map, differs, is_spare, is_spare_in, root_of, saved_tree}
pub use Rattle.btr_reader.specs.Image.{ImageFile, file_block, image_place, image_refusals, items_at, pointer_in, saved_image, saved_location, tree_number}
pub use Rattle.btr_reader.specs.Opening.{IsAmong, IsBtrfsOpened, boot_chunks, boot_list, chunk_map, chunk_tree, refusals_after, root_tree, super_on, tree_of}
unfoldable pub use Rattle.btr_reader.specs.Opening.{opening_refusals}
pub use Rattle.btr_reader.specs.Parts.{IsReadable, SavedImage, Superblock, log_of, log_tree, own_map, own_super, way_refusals}
pub use Rattle.btr_reader.specs.Pieces.{map_place}
pub use Rattle.btr_reader.specs.btr_reader_walk.Events.{TreeEvent, TreeItem, nodes_in}
pub use Rattle.btr_reader.specs.btr_reader_walk.declared.map.MapRange.{MapRange}
pub use Rattle.btr_reader.specs.btr_reader_walk.declared.tree.NodePointer.{NodePointer}
pub use Rattle.btr_reader.specs.btr_reader_walk.declared.tree.Tree.{Tree}
pub use Rattle.btr_reader.specs.btr_super.Rules.{bad_field, failing, feature_rules, field_rules, has_fields, is_super, super_refusals, unless_refused}
unfoldable pub use Rattle.btr_reader.specs.btr_super.Rules.{super_of}
pub use Rattle.btr_reader.specs.btr_super.Super.{mirror_bytes, super_in}
pub use Rattle.btr_reader.specs.btr_super.declared.superblock.Super.{Super}
pub use Rattle.btr_reader.specs.btrfs_format.declared.block.TheConstants.{FIRST_MIRROR, SECOND_MIRROR, SUPER_BLOCK, SUPER_INFO_OFFSET, SUPER_MAGIC_OFFSET}
pub use Rattle.btr_reader.specs.btrfs_format.declared.object.TheConstants.{FS_TREE}
pub use Rattle.btr_reader.specs.declared.image_map.ImageMap.{ImageMap}
pub use Rattle.convert_steps.proofs.command_answers.Handed.{btrfs_cause, handed_on, volume_cause}
pub use Rattle.convert_steps.specs.Switch.{IsMirror}
pub use Rattle.convert_steps.specs.command_answers.Answers.{of_btrfs, of_volume}
pub use Rattle.convert_steps.specs.command_answers.declared.answer.Answer.{Answer}
pub use Rattle.first_sync.proofs.Synced.{goes_on, stays_on, synced_settled, synced_then, uncalled}
pub use Rattle.first_sync.specs.Synced.{GoesOn, synced_now}
pub use Rattle.reiser_bitmap.proofs.MoreLaws.{bitmap_decided, used_had}
pub use Rattle.reiser_bitmap.proofs.Ranges.{contains_cases, contains_filter, filter_contains, filter_more_yes, filter_range_none, range_cut}
pub use Rattle.reiser_bitmap.proofs.SystemBlocks.{bitmap_in, journal_in, superblock_in}
pub use Rattle.reiser_bitmap.proofs.outside.Crash.{left_each, reads_only, sync_only, write_only, writes_length, writes_none, writes_then, writes_weaker}
pub use Rattle.reiser_bitmap.proofs.outside.Phases.{left_outside, left_then, left_unwritten, on_ok, reads_outside, set_stands, sync_reads, write_reads}
pub use Rattle.reiser_bitmap.proofs.outside.Placing.{has_place, stand_all, stand_more}
pub use Rattle.reiser_bitmap.proofs.outside.Writes.{one_sync, one_write, then_writes, weaker_writes}
pub use Rattle.reiser_bitmap.specs.Bits.{has}
unfoldable pub use Rattle.reiser_bitmap.specs.Bits.{used_blocks}
pub use Rattle.reiser_bitmap.specs.outside.Format.{format_in}
pub use Rattle.reiser_bitmap.specs.outside.History.{History, Image, IsBlock, IsSettled, IsTorn, LeftSince, OverTold, Syncs, WritesBlock, WritesOnly, after, block_at, clock, reads, sector, synced, wrote}
pub use Rattle.reiser_bitmap.specs.outside.Writes.{View, Writes, view}
pub use Rattle.reiser_bitmap.specs.refusals.declared.answer.VolAnswer.{VolAnswer}
pub use Rattle.reiser_bitmap.specs.refusals.declared.refusal.BtrRefusal.{BtrRefusal}
pub use Rattle.reiser_bitmap.specs.refusals.declared.refusal.BtrRefusal.TheVariants.{BadBtrfs, LogPending, Unsupported}
pub use Rattle.reiser_bitmap.specs.vol_block.Format.{format, has_bytes_at, has_reiser_magic}
pub use Rattle.reiser_bitmap.specs.vol_block.Volume.{IsReserved, field, is_reserved, zeros}
pub use Rattle.reiser_bitmap.specs.vol_block.declared.block.Block.{Block}
pub use Rattle.reiser_bitmap.specs.vol_block.declared.format.Format.{Format}
pub use Rattle.reiser_bitmap.specs.vol_block.declared.format.Format.TheVariants.{Btrfs, Neither, Reiser}
pub use Rattle.reiser_volume.proofs.Holding.{used_length}
pub use Rattle.reiser_volume.proofs.Refusals.{accepted_front, front_not_refused, not_refused}
pub use Rattle.reiser_volume.proofs.Unchanged.{same_volume}
pub use Rattle.reiser_volume.proofs.fs_paths.Lists.{from_filter, from_map, in_filter, in_map}
pub use Rattle.reiser_volume.specs.Laws.{IsSameVolume, SameButSuper}
pub use Rattle.reiser_volume.specs.Volume.{IsAccepted, IsFrontAccepted, MarksSystem, superblock, used_of}
pub use Rattle.reiser_volume.specs.reiser_volume_contents.Laws.{SameUsed}
pub use Rattle.rollback_core.specs.Mending.{Gives, blocks_of, given, is_torn, mended, mended_by}
unfoldable pub use Rattle.rollback_core.specs.Mending.{copied, wiped}
pub use Rattle.rollback_core.specs.Opened.{IsMapOn}
pub use Rattle.rollback_core.specs.Planned.{HasMendingRoom, IsGiven, IsGivenAt, IsGivenOrRewrite, IsPlanned, MendingStands, writes_of}
pub use Rattle.rollback_core.specs.Prepared.{AreSaved, IsWayBack, by_image}
pub use Rattle.rollback_core.specs.Recovered.{IsInOrder, IsLeftByRecover, IsLeftByRecovery, IsMend, IsPartly, IsRecoverWrite, IsRecoverable, IsRecovered, IsRewrite, PutsBackFirst, RewritesFirst, copy_blocks, recover_summary, rewritten}
pub use Rattle.rollback_core.specs.RecoveryAnswers.{IsRefusedAs, RefusesRecover}
pub use Rattle.rollback_core.specs.RecoveryLaws.{InOrderHasFormat, IsSameBut, RecoversWhatIsInOrder, RecoveryCounts, RecoveryGoesOn, RecoveryKeeps, RecoveryMends, RecoveryOpens, RecoveryStays}
pub use Rattle.rollback_core.specs.RollbackAnswers.{HasImage, HasPlaces, HasVolume, LeadsToImage, RefusesRollback}
pub use Rattle.rollback_core.specs.RollbackLaws.{IsUnmarked, RecoveryRollsBack, RefusedCanNotGoBack, RollbackGoesOn, RollbackKeeps}
pub use Rattle.rollback_core.specs.RolledBack.{IsBack, IsHalfBack, IsLeftByRollback, IsRestored, IsRolledBack, StillStands, is_wiped, restored_blocks, rollback_summary}
pub use Rattle.rollback_core.specs.SavedLaws.{PartsDecideSaved, RecoveryKeepsUse, SamePartsGoBack, UnusedBlocksDecideNothing, UnusedBlocksLieApart, UsedBlocksDecideUse}
pub use Rattle.rollback_core.specs.Writing.{AreWiped, AreWritesApart, AreWrittenBack, GoApart, HasRoom, IsHalfway, IsSavedPlace, IsTurned, IsUnturned, IsWayBackPart, IsWiped, IsWiping}
pub use Rattle.rollback_core.specs.declared.mending.Mending.{Mending}
pub use Rattle.rollback_core.specs.declared.recovery.RecoverSummary.{RecoverSummary}
pub use Rattle.rollback_core.specs.declared.way.Saved.{Saved}
pub use Rattle.rollback_core.specs.declared.way.WayBack.{WayBack}
pub use Rattle.super_turn.proofs.Backs.{again, format_front, half_turned, none_btrfs, put_front, put_none, put_others, put_size, same_disks, super_front}
pub use Rattle.super_turn.specs.PutBack.{IsPutBackAlone, IsPuttingBack, copy_place, is_half_turned, put_back}
pub use Rattle.volume_state.proofs.Apart.{extents_apart, file_tree_among, nodes_apart, saved_tree_among}
pub use Rattle.volume_state.proofs.Images.{block_by, image_block, image_short, length_by}
pub use Rattle.volume_state.proofs.Mapped.{image_there, map_blocks, map_places, none_read, read_of_disk, way_sound}
pub use Rattle.volume_state.specs.GoingBack.{CanGoBack, HasReadableWay, old_used}
pub use Rattle.volume_state.specs.Laws.{CanGoBackToo}
pub use Rattle.volume_state.specs.Moved.{IsOld, TellsMoved}
pub use Rattle.volume_state.specs.Saved.{block_or_hole, blocks_by, blocks_by_map, file_blocks, place_by_file, saved_file, saved_place}
unfoldable pub use Rattle.volume_state.specs.Saved.{image_blocks}
pub use Rattle.volume_state.specs.Using.{HoldsExtent, HoldsNode, HoldsNodeOf, HoldsPartOf, IsInUse, IsReservedFree, IsWayRefusal, RefusesUse, TellsReserved, chunk_node, content_range, file_part, file_pointer, file_trees, has_log, item_range, named_by, numbered, root_node, tree_if, unreadable}
