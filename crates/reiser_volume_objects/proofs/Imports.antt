-- What the proofs of reiser_volume_objects import of std, of lower crates and of its specs.
pub use Rattle.std.proofs.Common.{Bool, Contains, Err, IfSome, IsTrue, List, None, Ok, Option, Result, Some, [], ap, append_assoc, arith, false, filter, find, get_or, if◌then◌else◌, inl, inr, is_some, length, length-append, map, max, nat_eq, nat_lt, not, refl, slice_get, subst, suc, sym, take, true, true≢false, zero, ℕ, ⊎_elim, ◌&&◌, ◌++◌, ◌+◌, ◌-◌, ◌/◌, ◌<◌, ◌==◌, ◌||◌, ◌∙◌, ◌∷◌, ◌≡◌, ◌≤◌, ◌⊎◌}
pub use Rattle.std.proofs.lemmas.Bool.{cases_lt, eqb-true, ltb-false, ltb-true}
pub use Rattle.std.proofs.lemmas.Bool.Decides.{nat_tests}
pub use Rattle.std.proofs.lemmas.List.{append-nil, get_or_append_left, get_or_at, get_or_push, map-append, take_all, take_more}
pub use Rattle.std.proofs.lemmas.List.Elements.{Contains-append_cases, Contains-append_left, Contains-append_right, Contains-get_or, Contains-push, Contains-push_cases, filter-append, filter_more}
pub use Rattle.std.proofs.lemmas.List.Folds.{Any-from_list_any, find-append, list_any-append, list_any-from_Any}
pub use Rattle.std.proofs.lemmas.Option.{get_or_from_slice_get, slice_get-get_or, slice_get_within}
pub use Rattle.std.proofs.lemmas.Result.{err_from_is_err_and}
pub use Rattle.std.specs.List.{dedup_from, list_all, list_any}
pub use Rattle.std.specs.Option.{MatchOption, option_map, option_map_or, option_or}
pub use Rattle.fs_paths.proofs.Lists.{from_filter, from_map, in_filter, in_map}
pub use Rattle.fs_paths.specs.Links.{same_node}
pub use Rattle.fs_paths.specs.Reached.{AreReached}
pub use Rattle.fs_paths.specs.declared.node.NodeId.{NodeId}
pub use Rattle.fs_paths.specs.declared.node_link.NodeLink.{NodeLink}
pub use Rattle.fs_paths.specs.fs_rows.declared.row.Kind.{Kind}
pub use Rattle.fs_paths.specs.fs_rows.declared.row.Kind.TheVariants.{Block, Character, Directory, Fifo, File, Socket, Symlink}
pub use Rattle.indexmap.specs.IndexMap.{Updates, get}
pub use Rattle.indexmap.specs.IndexSet.{contains}
pub use Rattle.reiser_bitmap.specs.outside.History.{Image}
pub use Rattle.reiser_bitmap.specs.refusals.declared.answer.VolAnswer.{VolAnswer}
pub use Rattle.reiser_bitmap.specs.refusals.declared.answer.VolAnswer.TheVariants.{Fault, Memory, Refused}
pub use Rattle.reiser_bitmap.specs.refusals.declared.refusal.VolumeRefusal.{VolumeRefusal}
pub use Rattle.reiser_bitmap.specs.refusals.declared.refusal.VolumeRefusal.TheVariants.{Damaged, PendingLinks}
pub use Rattle.reiser_bitmap.specs.refusals.declared.rule.Rule.TheVariants.{ObjectForm, Overlap, SizeRange}
pub use Rattle.reiser_volume_files.specs.Laws.{AreItemsApart, SharesByte}
pub use Rattle.reiser_volume_objects.specs.Items.{IsOverlap, first_stat, fits_kind, is_directory_at, stat_by_kind, stat_of_object}
pub use Rattle.reiser_volume_objects.specs.Keys.{items_of, object_key_of, root, same_key}
pub use Rattle.reiser_volume_objects.specs.Kinds.{fits_size, is_directory, is_directory_mode, is_file, is_symlink, kind_of_code, kind_of_mode, may_have}
pub use Rattle.reiser_volume_objects.specs.Leaves.{IsFirstLeaf, ends_with, leaves_of, without_repeats}
pub use Rattle.reiser_volume_objects.specs.Names.{IsNamed, IsReachedBy, followed, is_followed, is_listed, naming_by, namings, namings_in}
pub use Rattle.reiser_volume_objects.specs.Nodes.{node_of, step_of, steps}
pub use Rattle.reiser_volume_objects.specs.Reach.{AreSeen, Closes, FollowsEntry, IsReach, IsSeen, Keys, Refuses, TellsReached}
pub use Rattle.reiser_volume_objects.specs.Read.{BlamesTree, tree_at}
pub use Rattle.reiser_volume_objects.specs.Rules.{AreObjects, IsDirectory, IsKnownObject, IsObject, IsObjectsRefusal, no_root, no_stat, other_items, other_root, overlap, save_link, size_range, unknown_kind}
pub use Rattle.reiser_volume_objects.specs.Summary.{HasForm, Summarises, fits_summary, has_bytes, has_entries, has_entry_form, has_pointers, overlap_at, with_item}
pub use Rattle.reiser_volume_objects.specs.Table.{HasNoted, IsBehind, TellsItems, first_save_link}
pub use Rattle.reiser_volume_objects.specs.declared.key.ObjectKey.{ObjectKey}
pub use Rattle.reiser_volume_objects.specs.declared.naming.Naming.{Naming}
pub use Rattle.reiser_volume_objects.specs.declared.object.Object.{Object}
pub use Rattle.reiser_volume_objects.specs.declared.stat.ObjectStat.{ObjectStat}
pub use Rattle.reiser_volume_objects.specs.declared.table.Objects.{Objects}
pub use Rattle.reiser_walk.specs.Bodies.{is_save_link}
pub use Rattle.reiser_walk.specs.Items.{ReiserItem}
pub use Rattle.reiser_walk.specs.Rules.{order_damages, tree_damages}
pub use Rattle.reiser_walk.specs.Walks.{Walks, block_count, fuel, standing}
pub use Rattle.reiser_walk.specs.declared.reiser_tree.ReiserTree.{ReiserTree}
