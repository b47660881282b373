-- What the proofs of btr_check_items import of std, of lower crates and of its specs.
pub use Rattle.std.proofs.Common.{Bool, List, None, Option, Some, [], ap, arith, false, get_or, if◌then◌else◌, inl, inr, leb, length, length-append, nat_le, nat_lt, not, refl, subst, suc, sym, true, zero, ℕ, ⊎_elim, ◌%◌, ◌&&◌, ◌++◌, ◌+◌, ◌-◌, ◌<◌, ◌==◌, ◌^◌, ◌||◌, ◌↔◌, ◌∙◌, ◌∷◌, ◌≡◌, ◌≢◌, ◌≤◌, ◌⊎◌}
pub use Rattle.std.proofs.lemmas.Bool.{both_ways, cases_Bool, cases_lt, eqb-false, eqb-true, false≢true, le-ltb, leb-false, leb-true, ltb-false, ltb-true, not-true, not_from_false}
pub use Rattle.std.proofs.lemmas.Bool.Decides.{Decides-and, Decides-at, Decides-eqb, Decides-like, Decides-ltb, Decides-not, Decides-or, nat_tests, not_from_Decides}
pub use Rattle.std.specs.Bool.{Decides}
pub use Rattle.std.specs.Option.{is_some, option_and_then}
pub use Rattle.std.specs.Prelude.{All, drop, slice_index, ◌*◌, ◌/◌}
pub use Rattle.btr_check_items.specs.ExtentTests.{are_whole, is_compressed, is_range, keeps_content, keeps_extent, keeps_head, keeps_inline, kind_has_bytes, may_have_extents, needs_sums, same_test}
pub use Rattle.btr_check_items.specs.Runs.{AreCovering, AreKept, IsOfInode, IsRunOf, KeepsItem, TellsBytes, end_by, end_of, is_covered, is_told, next_end, whole_with}
pub use Rattle.btr_check_rules.specs.Extents.{Extent, extent_by, extent_of, is_node_head, plain_extent, skinny_extent}
pub use Rattle.btr_check_rules.specs.Files.{EndsBefore, EndsInFile, HoldsByte, IsCompressed, IsRange, KeepsContent, NeedsSums, covered}
pub use Rattle.btr_check_rules.specs.Inodes.{extent_nbytes, has_no_sums, nbytes_of}
pub use Rattle.btr_check_rules.specs.btr_reader.btr_keys.FileExtent.{ContentValue, FileExtentValue, Inline, Prealloc, Regular, file_extent_of}
pub use Rattle.btr_check_rules.specs.btr_reader.btr_keys.declared.inode.Inode.{Inode}
pub use Rattle.btr_check_rules.specs.btr_reader.btr_node.Leaf.{Item}
pub use Rattle.btr_check_rules.specs.btr_reader.btr_reader_names.Inodes.{kind_of_mode}
pub use Rattle.btr_check_rules.specs.btr_reader.btr_reader_walk.btr_keys.btrfs_format.declared.key.TheConstants.{METADATA_ITEM}
pub use Rattle.btr_check_rules.specs.btr_reader.btr_super.declared.superblock.Super.{Super}
pub use Rattle.btr_check_rules.specs.btr_reader.fs_rows.Kinds.{has_bytes}
pub use Rattle.btr_check_rules.specs.btr_reader.fs_rows.declared.row.Kind.{Kind}
