-- What the proofs of btr_check_trees import of std, of lower crates and of its specs.
pub use Rattle.std.proofs.Common.{Bool, List, None, Option, Result, Some, [], ap, append_assoc, ap₂, arith, cond, false, filter, if◌then◌else◌, inl, inr, length, map, not, refl, subst, sym, take, true, ℕ, ◌&&◌, ◌++◌, ◌==◌, ◌||◌, ◌∙◌, ◌∷◌, ◌≡◌}
pub use Rattle.std.proofs.lemmas.Bool.{and_parts, eq-eqb, eqb-true, false≢true}
pub use Rattle.std.proofs.lemmas.Bool.Decides.{Decides-and, Decides-eqb, Decides-like, not_from_Decides}
pub use Rattle.std.proofs.lemmas.List.{append-nil, map-append, take_all}
pub use Rattle.std.proofs.lemmas.List.Concat.{flat_map-append}
pub use Rattle.std.proofs.lemmas.List.Elements.{All-contains, All-more, All-nil, All-push, Contains-append_left, Contains-append_right, Contains-get_or, filter-append}
pub use Rattle.std.proofs.lemmas.Result.{MatchResult-from_both, MatchResult-weaker, err_from_is_err_and}
pub use Rattle.std.specs.Bool.{Decides}
pub use Rattle.std.specs.List.{All, Contains, flat_map, list_all, list_any}
pub use Rattle.std.specs.Result.{IfErr, MatchResult, OnOk}
pub use Rattle.btr_check_fields.proofs.Listing.{all_from_contains, decides_some, not_none, some_same}
pub use Rattle.btr_check_fields.specs.Devices.{FindsDevices}
pub use Rattle.btr_check_fields.specs.declared.devices.DevicesFound.{DevicesFound}
pub use Rattle.btr_check_rules.specs.Groups.{AreChunksApart, AreTotals, IsChunkTreeItem, KeepsTotals, dev_items, groups}
pub use Rattle.btr_check_rules.specs.Recount.{TreeOn, added_chunk, chunks_on, of_kind, recount}
pub use Rattle.btr_check_rules.specs.Sound.{Chunks, Totals, Trees}
pub use Rattle.btr_check_rules.specs.Trees.{KeepsSuper, chunk_by, has_own_tree, is_system, own_kinds, system_chunks}
pub use Rattle.btr_check_rules.specs.btr_reader.Chunks.{chunk_in, is_chunk_key, new_chunk, placed_chunk, same_body, same_chunk, same_mirror, same_stripe}
pub use Rattle.btr_check_rules.specs.btr_reader.Opening.{boot_chunks, boot_list, boot_refusals, chunk_tree, or_later, refusals_after, trees_refusals}
unfoldable pub use Rattle.btr_check_rules.specs.btr_reader.Opening.{opening_refusals}
pub use Rattle.btr_check_rules.specs.btr_reader.Volume.{IsVolumeOn}
pub use Rattle.btr_check_rules.specs.btr_reader.btr_node.Leaf.{Item}
pub use Rattle.btr_check_rules.specs.btr_reader.btr_reader_walk.Events.{TreeItem, in_leaf}
pub use Rattle.btr_check_rules.specs.btr_reader.btr_reader_walk.Tree.{bare_item}
pub use Rattle.btr_check_rules.specs.btr_reader.btr_space_items.btrfs_format.declared.block.TheConstants.{SUPER_INFO_OFFSET}
pub use Rattle.btr_check_rules.specs.btr_reader.btr_space_items.btrfs_format.declared.key.TheConstants.{BLOCK_GROUP_ITEM, CHUNK_ITEM, DEV_EXTENT, DEV_ITEM, EXTENT_CSUM, EXTENT_ITEM, METADATA_ITEM, ROOT_ITEM}
pub use Rattle.btr_check_rules.specs.btr_reader.btr_space_items.btrfs_format.declared.object.TheConstants.{CHUNK_TREE, CSUM_TREE, DEV_TREE, EXTENT_TREE, FIRST_CHUNK_TREE_OBJECTID, ROOT_TREE}
pub use Rattle.btr_check_rules.specs.btr_reader.btr_super.declared.superblock.Super.{Super}
pub use Rattle.btr_check_rules.specs.btr_reader.declared.chunk.ChunkAt.{ChunkAt}
pub use Rattle.btr_check_rules.specs.btr_reader.declared.volume.Btrfs.{Btrfs}
pub use Rattle.btr_check_rules.specs.btr_reader.outside.History.{Image}
pub use Rattle.btr_check_trees.specs.ChunkTree.{AreSoundChunks, AreSystem, FailsChunks, HoldsChunks, KeepsChunkTree, RefusesChunks, TellsChunks, WalksChunks, bad_array, bad_super, overlap}
pub use Rattle.btr_check_trees.specs.declared.chunk_items.ChunkItems.{ChunkItems}
pub use Rattle.btr_check_trees.specs.declared.chunk_tree.ChunksFound.{ChunksFound}
pub use Rattle.btr_check_walk.specs.Answers.{FailsIn, IsPassAnswer}
pub use Rattle.btr_check_walk.specs.Parts.{TellsBy, TellsPart}
pub use Rattle.btr_check_walk.specs.command_answers.declared.answer.Answer.{Answer}
pub use Rattle.btr_reader.proofs.PartsRead.{of_disk, opened_super}
pub use Rattle.btr_reader.proofs.fs_paths.Lists.{at_head}
