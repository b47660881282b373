-- What the proofs of btr_check_files import of std, of lower crates and of its specs.
pub use Rattle.std.proofs.Common.{Bool, Contains, Err, List, MatchResult, None, Ok, Option, Result, Some, [], ap, append_assoc, ap₂, arith, cond, drop, eq-eqb, false, filter, get_or, if◌then◌else◌, inl, inr, length, map, min, ne_eqb, refl, subst, sym, take, true, ℕ, ⊎_elim, ◌&&◌, ◌*◌, ◌++◌, ◌+◌, ◌-◌, ◌<◌, ◌==◌, ◌^◌, ◌∙◌, ◌∷◌, ◌≡◌, ◌≢◌, ◌≤◌, ◌⊎◌}
pub use Rattle.std.proofs.lemmas.Bool.{eqb-true}
pub use Rattle.std.proofs.lemmas.Bool.Decides.{Decides-and, Decides-at, Decides-like}
pub use Rattle.std.proofs.lemmas.List.{append-nil, length-append, length-map, map-append, take-append-drop, take_all, take_more}
pub use Rattle.std.proofs.lemmas.List.Concat.{flat_map-append}
pub use Rattle.std.proofs.lemmas.List.Elements.{All-contains, All-nil, Contains-push, filter-append}
pub use Rattle.std.proofs.lemmas.List.Sorted.{IsPermutation-append_comm, IsPermutation-append_left, IsPermutation-append_right, IsPermutation-refl, IsPermutation-sym, IsPermutation-trans, sum_by-IsPermutation}
pub use Rattle.std.proofs.lemmas.List.Sums.{length-filter, sum_by-append, sum_by-cons, sum_by_more}
pub use Rattle.std.proofs.lemmas.Option.{get_or_from_slice_get}
pub use Rattle.std.specs.List.{flat_map, slice_get, sum_by}
pub use Rattle.std.specs.List.Sorted.{IsPermutation}
pub use Rattle.std.specs.Option.{MatchOption}
pub use Rattle.btr_check_files.specs.Counts.{IsTallyOf, TellsOwn, capped, entry_letters, extents_of, letters_in, names_in}
pub use Rattle.btr_check_files.specs.Pass.{HasNoted, HasOtherEntries, HasOtherNames, NeverSame, NotesBoth, NotesEntries, NotesNames, TellOther, TellSame, TellsOther}
pub use Rattle.btr_check_files.specs.Told.{extref_name, hashed_by, hashed_in, index_by, ref_name, told_by, told_in}
pub use Rattle.btr_check_names.specs.Lists.{entry_by}
pub use Rattle.btr_check_names.specs.Marks.{Notes, chosen}
pub use Rattle.btr_check_names.specs.Table.{AreNames, NamesMet, back_names, given, hashed_of, named, told_of, unmet}
pub use Rattle.btr_check_rules.specs.Names.{BackName, IndexEntry, KeepsNames, NamedEntry, entries_in, entry_of, given_names, hashed_entries, index_entries, names_of, or_none, ref_names}
pub use Rattle.btr_check_rules.specs.Recount.{Recount, TreeOn, file_trees, recount}
pub use Rattle.btr_check_rules.specs.Sound.{Files, KeepsFiles, part_number}
pub use Rattle.btr_check_rules.specs.btr_reader.btr_keys.DirEntry.{DirEntryValue, dir_entry_value, dir_items_of}
pub use Rattle.btr_check_rules.specs.btr_reader.btr_keys.Extref.{ExtrefValue, extref_value, extrefs_of}
pub use Rattle.btr_check_rules.specs.btr_reader.btr_keys.FileExtent.{FileExtentValue, file_extent_of}
pub use Rattle.btr_check_rules.specs.btr_reader.btr_keys.InodeRef.{InodeRefValue, inode_ref_value, inode_refs_of}
pub use Rattle.btr_check_rules.specs.btr_reader.btr_node.Leaf.{Item}
pub use Rattle.btr_check_rules.specs.btr_reader.btr_reader_walk.Events.{TreeItem, in_leaf}
pub use Rattle.btr_check_rules.specs.btr_reader.btr_reader_walk.Tree.{bare_item}
pub use Rattle.btr_check_rules.specs.btr_reader.btr_reader_walk.btr_keys.btrfs_format.declared.key.TheConstants.{DIR_INDEX, DIR_ITEM, EXTENT_DATA, INODE_EXTREF, INODE_ITEM, INODE_REF}
