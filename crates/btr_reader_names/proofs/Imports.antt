-- What the proofs of btr_reader_names import of std, of lower crates and of its specs.
pub use Rattle.std.proofs.Common.{AllPairs, Bool, Contains, List, None, Option, Some, [], ap, append_assoc, arith, cond, drop, false, filter, get_or, if◌then◌else◌, is_some, length, map, nat_eq, nat_lt, not, refl, subst, suc, sym, take, true, true≢false, unwrap_or, zero, ℕ, ⊎_elim, ◌&&◌, ◌++◌, ◌+◌, ◌<◌, ◌==◌, ◌||◌, ◌∙◌, ◌∷◌, ◌≡◌, ◌≢◌, ◌≤◌}
pub use Rattle.std.proofs.lemmas.Bool.{and_from, and_parts, cases_lt, eqb-true}
pub use Rattle.std.proofs.lemmas.Bool.Decides.{nat_tests}
pub use Rattle.std.proofs.lemmas.List.{append-nil, get_or-map, get_or_default, length-append, length-map, map-append, take-append-drop, take_all, take_more}
pub use Rattle.std.proofs.lemmas.List.Elements.{Contains-append_cases, Contains-append_left, Contains-append_right, Contains-get_or, filter-append, filter_passes}
pub use Rattle.std.proofs.lemmas.List.Folds.{Any-from_list_any, list_any-append, list_any_at}
pub use Rattle.std.proofs.lemmas.List.Kept.{AllPairs-filter}
pub use Rattle.std.proofs.lemmas.Result.{err_from_is_err_and}
pub use Rattle.std.specs.List.{list_any}
pub use Rattle.std.specs.Option.{option_and_then, option_map_or}
pub use Rattle.btr_reader_names.specs.Inodes.{IsDirectoryInode, TellsInode, find_inode_item, first_item, inode_on, is_inode_of, kind_of_mode}
pub use Rattle.btr_reader_names.specs.Links.{IsNamedInode, LeadsToTarget, NamesTarget, Target, dir_indexes, entry, followed, index_entry, inode, is_followed, is_index, is_name, names_inode, names_tree, own_naming, root, tree}
pub use Rattle.btr_reader_names.specs.Passes.{AreGood, BlamesAgain, BlamesEntry, BlamesForm, BlamesNode, BlamesOne, BlamesRoot, BlamesTwice, DifferInName, HasDirectories, HasSeen, IsGoodEntry, IsGoodNode, LeadApart, by_entry, by_form, by_inode, by_root, entry_rule, fits_size, inode_rule, is_good, is_good_item, leads_down, leads_into, names_as, root_absent, root_off, root_other, same_name, target_rule, tree_rule}
pub use Rattle.btr_reader_names.specs.Refuses.{IsNoFault, RefusesNames}
pub use Rattle.btr_reader_names.specs.Rules.{AreIn, BreaksNames, IsOpen, KeepsNames, bad_index, bad_inode, bad_location, bad_mode, bad_name, directory_twice, long_target, no_inode, no_root_directory, no_tree, root_is_none, root_named, twice}
pub use Rattle.btr_reader_names.specs.Steps.{AreNamed, inode_node, is_link, is_open, is_step, link_of, links_of, node_of_target, step_of, target_node, tree_node}
pub use Rattle.btr_reader_names.specs.Table.{AreNoted, HasNotedNames, has_item, is_dir, kind_found, kind_told, off_form_at, off_forms, own_off_form, told}
pub use Rattle.btr_reader_names.specs.declared.dir_index.DirIndex.{DirIndex}
pub use Rattle.btr_reader_names.specs.declared.dir_index.OffForm.{OffForm}
pub use Rattle.btr_reader_names.specs.declared.inodes.InodeFound.{InodeFound}
pub use Rattle.btr_reader_names.specs.declared.table.NameTable.{NameTable}
pub use Rattle.btr_reader_walk.specs.Events.{TreeItem}
pub use Rattle.btr_reader_walk.specs.btr_keys.Inode.{inode_of}
pub use Rattle.btr_reader_walk.specs.btr_keys.declared.inode.Inode.{Inode}
pub use Rattle.btr_reader_walk.specs.btrfs_format.declared.key.TheConstants.{INODE_ITEM, ROOT_ITEM}
pub use Rattle.btr_reader_walk.specs.btrfs_format.declared.object.TheConstants.{FIRST_FREE_OBJECTID}
pub use Rattle.btr_reader_walk.specs.refusals.declared.answer.BtrAnswer.{BtrAnswer}
pub use Rattle.btr_reader_walk.specs.refusals.declared.answer.BtrAnswer.TheVariants.{Fault, Memory, Refused}
pub use Rattle.btr_reader_walk.specs.refusals.declared.refusal.BtrRefusal.{BtrRefusal}
pub use Rattle.btr_reader_walk.specs.refusals.declared.refusal.BtrRefusal.TheVariants.{BadBtrfs}
pub use Rattle.btr_reader_walk.specs.refusals.declared.rule.BtrRule.{BtrRule}
pub use Rattle.btr_reader_walk.specs.refusals.declared.rule.BtrRule.TheVariants.{Body, DirTwice, NameForm, NoInode}
pub use Rattle.fs_paths.proofs.Lists.{at_head, from_filter, from_map, head_or_tail, in_filter, in_map, in_tail}
pub use Rattle.fs_paths.proofs.Nodes.{same_name-true, same_node-self, same_node-true}
pub use Rattle.fs_paths.specs.Links.{AreNamedOnce, Leads, same_node}
pub use Rattle.fs_paths.specs.Reached.{AreReached, IsReached, IsReachedBy}
pub use Rattle.fs_paths.specs.declared.node.NodeId.{NodeId}
pub use Rattle.fs_paths.specs.declared.node_link.NodeLink.{NodeLink}
pub use Rattle.fs_paths.specs.fs_rows.Kinds.{is_directory, is_symlink}
pub use Rattle.fs_paths.specs.fs_rows.declared.row.Kind.{Kind}
pub use Rattle.fs_paths.specs.fs_rows.declared.row.Kind.TheVariants.{Block, Character, Directory, Fifo, File, Socket, Subvolume, Symlink}
pub use Rattle.indexmap.specs.IndexSet.{IndexSet, contains}
