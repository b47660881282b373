-- What the proofs of btr_super import of std, of lower crates and of its specs.
pub use Rattle.std.proofs.Common.{Bool, Err, List, None, Ok, Option, Result, Some, [], ap, append_assoc, arith, codes, cond, drop, eq-eqb, false, get_or-drop, is_some, length, length-append, length-drop, length-take, nat_eq, nat_le, nat_lt, refl, replicate, slice_index, subst, sym, take, true, ℕ, ◌%◌, ◌&&◌, ◌*◌, ◌++◌, ◌+◌, ◌-◌, ◌<◌, ◌==◌, ◌^◌, ◌↔◌, ◌∙◌, ◌∷◌, ◌≡◌, ◌≤◌}
pub use Rattle.std.proofs.lemmas.Bool.{lt-ltb}
pub use Rattle.std.proofs.lemmas.List.{append-nil, drop-append-le, drop-drop, drop-take, drop_at, take_at, take_rest}
pub use Rattle.std.specs.List.{starts_with}
pub use Rattle.btr_space_items.proofs.btr_keys.Layouts.{Reads, array_reads, part_reads, start, u16_reads, u32_reads, u64_reads, u8_reads, ◌▹◌}
unfoldable pub use Rattle.btr_space_items.specs.Device.{device_layout}
pub use Rattle.btr_space_items.specs.btr_keys.Layout.{Layout, spelling}
pub use Rattle.btr_space_items.specs.btrfs_format.declared.block.TheConstants.{SUPER_INFO_OFFSET, SUPER_MAGIC_OFFSET}
pub use Rattle.btr_super.specs.Laws.{MirrorsRead, SupersReadBack}
pub use Rattle.btr_super.specs.Rules.{bad_field, block_rules, failing, feature_rules, field_rules, has_fields, is_super, super_refusals, unless_refused}
unfoldable pub use Rattle.btr_super.specs.Rules.{super_of}
pub use Rattle.btr_super.specs.Sums.{csum_number, csum_type_of, has_sum, known_kind, sealed_by}
pub use Rattle.btr_super.specs.Super.{make_super, mirror_bytes, super_bytes, super_in}
unfoldable pub use Rattle.btr_super.specs.Super.{super_layout}
pub use Rattle.btr_super.specs.declared.superblock.Super.{Super}
pub use Rattle.byteorder.specs.Endian.{little_bytes, little_number}
pub use Rattle.csum_kinds.proofs.Widths.{length-kind_sum}
pub use Rattle.csum_kinds.specs.Kind.{kind_sum}
pub use Rattle.csum_kinds.specs.declared.kind.SumKind.{SumKind}
pub use Rattle.refusals.specs.declared.refusal.BtrRefusal.{BtrRefusal}
pub use Rattle.refusals.specs.vol_block.Format.{has_bytes_at}
pub use Rattle.refusals.specs.vol_block.Volume.{field, put_field}
