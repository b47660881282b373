-- What the proofs of rows_laws import of std, of lower crates and of its specs.
pub use Rattle.std.proofs.Common.{All, AllPairs, Bool, Contains, List, None, Option, Some, [], ap, arith, drop, false, filter, get_or, if◌then◌else◌, inl, inr, length, map, refl, subst, suc, sym, take, true, true≢false, unwrap_or, zero, ℕ, ⊎_elim, ◌&&◌, ◌++◌, ◌+◌, ◌<◌, ◌∙◌, ◌∷◌, ◌≡◌, ◌≢◌, ◌≤◌}
pub use Rattle.std.proofs.lemmas.Bool.{and_from, and_parts, cases_lt}
pub use Rattle.std.proofs.lemmas.List.{drop_more, get_or-map, get_or-take, get_or_default, length-map, length-take, take-append-drop}
pub use Rattle.std.proofs.lemmas.List.Elements.{All-cons, All-nil, Contains-get_or, filter_passes}
pub use Rattle.std.proofs.lemmas.List.Kept.{AllPairs-cons, AllPairs-filter}
pub use Rattle.std.proofs.lemmas.List.Sorted.{All-permutation, IsPermutation-cons, IsPermutation-middle, IsPermutation-refl, IsPermutation-trans, ranks_by}
pub use Rattle.std.specs.Ordering.{is_le, is_lt}
pub use Rattle.btr_reader.specs.btr_reader_names.Rules.{AreIn, IsOpen, KeepsNames, bad_location, directory_twice, root_named, twice}
pub use Rattle.btr_reader.specs.btr_reader_names.Steps.{inode_node, link_of, node_of_target, step_of, target_node, tree_node}
pub use Rattle.btr_reader.specs.btr_reader_walk.Events.{TreeItem}
pub use Rattle.btr_reader.specs.btrfs_format.declared.object.TheConstants.{FIRST_FREE_OBJECTID, FS_TREE}
pub use Rattle.btr_reader.specs.fs_rows.Kinds.{is_directory}
pub use Rattle.btr_reader.specs.fs_rows.Rows.{AscendsByPath, NameList, WholeRow, is_same_path, name_count, path_cmp}
pub use Rattle.btr_reader.specs.fs_rows.declared.row.Kind.{Kind}
pub use Rattle.btr_reader.specs.fs_rows.declared.row.Kind.TheVariants.{Block, Character, Directory, Fifo, File, Socket, Subvolume, Symlink}
pub use Rattle.btr_reader.specs.refusals.declared.refusal.BtrRefusal.TheVariants.{BadBtrfs}
pub use Rattle.btr_reader.specs.refusals.declared.rule.BtrRule.TheVariants.{Body, DirTwice, NameForm, NoInode}
pub use Rattle.fs_paths.proofs.Lists.{from_filter, from_map, in_filter, in_map}
pub use Rattle.fs_paths.specs.Links.{AreNamedOnce, Leads, same_node}
pub use Rattle.fs_paths.specs.Paths.{ArePaths, first_path}
pub use Rattle.fs_paths.specs.Reached.{AreReached, IsReached, IsReachedBy}
pub use Rattle.fs_paths.specs.declared.node.NodeId.{NodeId}
pub use Rattle.fs_paths.specs.declared.node_link.NodeLink.{NodeLink}
pub use Rattle.fs_paths.specs.declared.node_link.PathTo.{PathTo}
pub use Rattle.rows_laws.specs.Laws.{AcceptedVolumesHaveRows, ReadableVolumesHaveRows}
