-- What the proofs of reiser_volume_names import of std, of lower crates and of its specs.
pub use Rattle.std.proofs.Common.{AllPairs, Bool, Contains, Err, List, None, Ok, Option, Result, Some, [], add-one, ap, append_assoc, arith, cond, count_by, drop, false, filter, get_or, if◌then◌else◌, inl, inr, is_some, length, length-append, nat_eq, nat_lt, not, refl, subst, suc, sum_by, sym, take, true, true≢false, unwrap_or, zero, zero-add, ℕ, ⊎_elim, ◌&&◌, ◌++◌, ◌+◌, ◌/◌, ◌<◌, ◌==◌, ◌^◌, ◌||◌, ◌∙◌, ◌∷◌, ◌≡◌, ◌≤◌}
pub use Rattle.std.proofs.lemmas.Bool.{cases_lt, eqb-true, le-ltb, lt-ltb}
pub use Rattle.std.proofs.lemmas.Bool.Decides.{nat_tests}
pub use Rattle.std.proofs.lemmas.List.{append-nil, get_or_append_left, get_or_at, get_or_default, take-append-drop, take_all}
pub use Rattle.std.proofs.lemmas.List.Elements.{Contains-append_left, Contains-append_right, Contains-get_or, Contains-push, Contains-push_cases, filter-append, filter_more}
pub use Rattle.std.proofs.lemmas.List.Folds.{Any-from_list_any, list_any-append, list_any_at}
pub use Rattle.std.proofs.lemmas.List.Kept.{AllPairs-filter, IsStrictlySortedBy-dedup}
pub use Rattle.std.proofs.lemmas.List.Quantifiers.{all_pairs_push, position-Some}
pub use Rattle.std.proofs.lemmas.List.Sums.{length-filter, sum_by-append, sum_by-cons, sum_by_push}
pub use Rattle.std.proofs.lemmas.Map.Made.{AllPairs-from_IsDistinct, IsDistinct-from_AllPairs, is_member-Decides, is_member-filter, length-from_same_keys}
pub use Rattle.std.proofs.lemmas.Option.{slice_get-get_or, slice_get-map}
pub use Rattle.std.proofs.lemmas.Result.{err_from_is_err_and}
pub use Rattle.std.specs.Cmp.{IsEquivalence, IsTotalOrder, tied_then}
pub use Rattle.std.specs.List.{AllByRecursion, dedup, dedup_from, list_any}
unfoldable pub use Rattle.std.specs.List.{IsDistinct}
pub use Rattle.std.specs.List.Sorted.{IsSorted}
unfoldable pub use Rattle.std.specs.List.Sorted.{IsStrictlySortedBy}
pub use Rattle.std.specs.Map.{lookup}
pub use Rattle.std.specs.Ordering.{is_eq, is_lt, nat_cmp, ordering_reverse}
pub use Rattle.std.specs.Prelude.{IsSome, position, slice_get, ◌≢◌}
pub use Rattle.std.specs.Result.{IfErr, IfOk, MatchResult, OnOk}
pub use Rattle.castagnoli.specs.Castagnoli.{extref_hash, name_hash}
pub use Rattle.indexmap.specs.IndexMap.{IndexMap, get, keys}
pub use Rattle.indexmap.specs.IndexSet.{IndexSet, IsUnique, contains}
pub use Rattle.reiser_volume_names.specs.Again.{BlamesAgain, HasDirectories, NamesAnother, names_directory}
pub use Rattle.reiser_volume_names.specs.Counts.{BlamesCount, CountsNames, is_counted, names_of}
pub use Rattle.reiser_volume_names.specs.Crowds.{BlamesCrowd, CrowdCounts, same_crowd}
pub use Rattle.reiser_volume_names.specs.Extended.{BlamesExtended, CountsExtended, Refers, same_names}
pub use Rattle.reiser_volume_names.specs.Links.{AreLinks, AreNamedKeys, TellsNamed, object_cmp}
pub use Rattle.reiser_volume_names.specs.Names.{AreIn, AreNames, BreaksNameRules, IsNamesRefusal, KeepsNameRules, attributes, bad_name, crowd, crowd_of, directory_twice, extended, extended_crowd, extended_crowd_of, extended_sum, ino_of_key, long_name, long_target, off_form, reference_size, root_named, saved_name, taken, too_many, twice}
pub use Rattle.reiser_volume_names.specs.Once.{BlamesTwice, DifferInName, HasSeenLinks, names_as, same_name}
pub use Rattle.reiser_volume_names.specs.Passes.{BlamesName, BlamesObject, BlamesTarget, HasForms, IsGoodName, is_link, is_symlink_mode, link_list}
pub use Rattle.reiser_volume_names.specs.Private.{AreTargets, BlamesBelow, BlamesPrivate, BlamesTargets, HasNoAttributes, HasReadableEntries, HoldsNoAttribute, IsBelow, IsExtra, IsOnly, listing}
pub use Rattle.reiser_volume_names.specs.Refuses.{IsNamesAnswer, RefusesNames}
pub use Rattle.reiser_volume_names.specs.Tally.{capped, tally}
pub use Rattle.reiser_volume_names.specs.declared.crowd.Crowd.{Crowd}
pub use Rattle.reiser_volume_objects.proofs.Broken.{some_same}
pub use Rattle.reiser_volume_objects.proofs.Checking.{directory_passes, directory_tested, each_found}
pub use Rattle.reiser_volume_objects.proofs.Tables.{and_left, and_right, same_key-self, same_key-true}
pub use Rattle.reiser_volume_objects.proofs.fs_paths.Lists.{from_filter, in_filter}
pub use Rattle.reiser_volume_objects.specs.Items.{is_directory_at, stat_of_object}
pub use Rattle.reiser_volume_objects.specs.Keys.{items_of, object_key_of, root, same_key}
pub use Rattle.reiser_volume_objects.specs.Names.{IsNamed, is_followed, namings}
pub use Rattle.reiser_volume_objects.specs.Reach.{IsReach, Keys}
pub use Rattle.reiser_volume_objects.specs.Rules.{IsDirectory}
pub use Rattle.reiser_volume_objects.specs.Summary.{Summarises, has_entries}
pub use Rattle.reiser_volume_objects.specs.Table.{HasNoted}
pub use Rattle.reiser_volume_objects.specs.declared.key.ObjectKey.{ObjectKey}
pub use Rattle.reiser_volume_objects.specs.declared.naming.Naming.{Naming}
pub use Rattle.reiser_volume_objects.specs.declared.stat.ObjectStat.{ObjectStat}
pub use Rattle.reiser_volume_objects.specs.refusals.declared.answer.VolAnswer.{VolAnswer}
pub use Rattle.reiser_volume_objects.specs.refusals.declared.answer.VolAnswer.TheVariants.{Fault, Memory, Refused}
pub use Rattle.reiser_volume_objects.specs.refusals.declared.refusal.VolumeRefusal.{VolumeRefusal}
pub use Rattle.reiser_volume_objects.specs.refusals.declared.refusal.VolumeRefusal.TheVariants.{Damaged, HasAttributes, HashCrowd}
pub use Rattle.reiser_volume_objects.specs.refusals.declared.rule.Rule.TheVariants.{DirTwice, EntryForm, NameTwice, SizeRange}
pub use Rattle.reiser_volume_objects.specs.reiser_walk.Items.{ReiserItem}
