-- What the proofs of btr_check_sums import of std, of lower crates and of its specs.
pub use Rattle.std.proofs.Common.{Bool, Err, IsTrue, List, None, Ok, Option, Result, Some, [], add-one, ap, ap₂, arith, below_more, drop, drop-cons, eqb-true, false, get_or, if◌then◌else◌, inl, inr, length, length-append, length-drop, length-take, map, not, refl, subst, suc, sym, take, true, zero, ℕ, ⊎_elim, ◌%◌, ◌&&◌, ◌*◌, ◌++◌, ◌+◌, ◌-◌, ◌/◌, ◌<◌, ◌==◌, ◌^◌, ◌||◌, ◌∙◌, ◌∷◌, ◌≡◌, ◌≢◌, ◌≤◌, ◌⊎◌}
pub use Rattle.std.proofs.lemmas.Bool.{cases_lt, true≢false}
pub use Rattle.std.proofs.lemmas.Bool.Decides.{Decides-and, Decides-eqb, Decides-like, nat_tests, not_from_Decides}
pub use Rattle.std.proofs.lemmas.List.{append-nil, drop_all, get_or_append_left, get_or_push, length_push, map-append, take_all}
pub use Rattle.std.proofs.lemmas.List.Elements.{All-cons, All-contains, All-head, All-map, All-more, All-nil, All-push, All-tail, All-weaker, Contains-append_left, Contains-append_right, Contains-get_or, Contains-push, Contains-push_cases}
pub use Rattle.std.proofs.lemmas.List.Folds.{Any-from_list_any, list_any-append, list_any-from_Any, list_any_more}
pub use Rattle.std.proofs.lemmas.List.Sorted.{All-permutation, Contains-permutation, IsPermutation-sym}
pub use Rattle.std.proofs.lemmas.Result.{err_from_is_err_and}
pub use Rattle.std.specs.Bool.{Decides}
pub use Rattle.std.specs.Option.{MatchOption}
pub use Rattle.std.specs.Prelude.{All, AllPairs, Any, Contains, IfErr, IfSome, MatchResult, OnOk, nat_le}
pub use Rattle.btr_check_rules.specs.Inodes.{has_no_sums}
pub use Rattle.btr_check_rules.specs.Recount.{DataUse, Recount, TreeOn, all_trees, data_uses, file_trees, is_file_tree, is_within, map_of, span_of, uses_in}
pub use Rattle.btr_check_rules.specs.Sound.{Checksums, part_number}
pub use Rattle.btr_check_rules.specs.Sums.{HasBlockSum, IsReadBy, IsSumItem, IsSumRight, IsWrittenTo, KeepsCover, KeepsSums, most_sums, read_span, sum_count, sum_end, sum_items, sums_of}
pub use Rattle.btr_check_rules.specs.Walk.{if_leaf, owners_of, walk_refusals, walked_items, walked_nodes}
pub use Rattle.btr_check_rules.specs.btr_reader.btr_keys.declared.inode.Inode.{Inode}
pub use Rattle.btr_check_rules.specs.btr_reader.btr_keys.declared.key.Key.{Key}
pub use Rattle.btr_check_rules.specs.btr_reader.btr_node.Leaf.{Item}
pub use Rattle.btr_check_rules.specs.btr_reader.btr_reader_walk.Events.{TreeEvent, TreeItem, in_leaf, items_in_events, leaf_events, may_be_bare, nodes_in, unless_damaged}
pub use Rattle.btr_check_rules.specs.btr_reader.btr_reader_walk.Map.{holds, place}
pub use Rattle.btr_check_rules.specs.btr_reader.btr_reader_walk.Tree.{at_address, bare_item, is_above, order_damages}
pub use Rattle.btr_check_rules.specs.btr_reader.btr_reader_walk.Walks.{Blames, LieOn, Walks, found, fuel, wrong}
pub use Rattle.btr_check_rules.specs.btr_reader.btr_reader_walk.declared.map.MapRange.{MapRange}
pub use Rattle.btr_check_rules.specs.btr_reader.btr_reader_walk.declared.tree.Owners.TheVariants.{Own}
pub use Rattle.btr_check_rules.specs.btr_reader.btr_reader_walk.declared.tree.Tree.{Tree}
pub use Rattle.btr_check_rules.specs.btr_reader.csum_kinds.Kind.{kind_width}
pub use Rattle.btr_check_rules.specs.btr_reader.csum_kinds.declared.kind.SumKind.{SumKind}
pub use Rattle.btr_check_rules.specs.btr_reader.outside.History.{Image, block_at}
pub use Rattle.btr_check_rules.specs.btr_reader.refusals.declared.refusal.BtrRefusal.{BtrRefusal}
pub use Rattle.btr_check_rules.specs.declared.span.Span.{Span}
pub use Rattle.btr_check_sums.specs.Blocks.{has_block}
pub use Rattle.btr_check_sums.specs.Cover.{IsCoverRight, MayHaveSum}
pub use Rattle.btr_check_sums.specs.DataSums.{AreMet, AreSumsRight, BreaksSums, HasWrongSum, HoldsDue, HoldsFirst, IsDueOf, IsMet, IsReady, IsRight, IsRightOf, IsWrongDue, IsWrongOne, due_sum, sum_address, sum_of, told_sum}
pub use Rattle.btr_check_sums.specs.Parts.{AreUsedBlocks, BreaksPart, EndsLow, IsSumTree}
pub use Rattle.btr_check_sums.specs.PlaceRuns.{TellsPlaces, hand_place, is_in_run}
pub use Rattle.btr_check_sums.specs.SumItems.{AreSumItems, AreSumItemsAt, BreaksSumItems, EndsBefore, fits_count, has_whole_sums, is_covered, is_sum_item, is_sum_key, sum_span}
pub use Rattle.btr_check_sums.specs.SumPasses.{HoldsSums}
pub use Rattle.btr_check_sums.specs.TreeUses.{Grows, HasInodeIn, HasUse, HoldsUses, IsOwnerOf, IsUseOf, MeetsData, TellsSums, data_by, data_in, owner_by, sums_by}
pub use Rattle.btr_check_sums.specs.Uses.{is_bare, is_data, is_laid, is_laid_in, is_wanted, is_written_at}
pub use Rattle.btr_check_sums.specs.declared.due_sum.DueSum.{DueSum}
pub use Rattle.btr_check_sums.specs.declared.place_run.PlaceRun.{PlaceRun}
pub use Rattle.btr_check_sums.specs.declared.sum_pass.SumPass.{SumPass}
pub use Rattle.btr_check_sums.specs.declared.use_of_data.UsedBlocks.{UsedBlocks}
pub use Rattle.btr_check_walk.proofs.Told.{tells_weaker}
pub use Rattle.btr_check_walk.specs.Parts.{BreaksTrees, TellsPart, tree_answer}
pub use Rattle.btr_check_walk.specs.Walks.{EndsWalk, InOrder, IsRefused}
pub use Rattle.btr_check_walk.specs.command_answers.declared.answer.Answer.{Answer}
pub use Rattle.btr_reader_walk.specs.btrfs_format.declared.key.TheConstants.{EXTENT_CSUM, EXTENT_DATA, INODE_ITEM}
pub use Rattle.number_runs.specs.Runs.{IsFirst, is_among, is_in}
pub use Rattle.number_runs.specs.declared.run.Run.{Run}
