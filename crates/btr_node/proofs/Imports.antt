-- What the proofs of btr_node import of std, of lower crates and of its specs.
pub use Rattle.std.proofs.Common.{Bool, Contains, IsTrue, List, [], ap, append_assoc, arith, drop, false, get_or, inl, inr, length, length-append, length-drop, length-take, map, max, refl, replicate, slice_range, subst, suc, sym, take, true, zero, ℕ, ◌&&◌, ◌*◌, ◌++◌, ◌+◌, ◌-◌, ◌<◌, ◌^◌, ◌↔◌, ◌∙◌, ◌∷◌, ◌≡◌, ◌≤◌, ◌⊎◌}
pub use Rattle.std.proofs.Math.Nat.{mul-suc, mul-zero}
pub use Rattle.std.proofs.lemmas.Bool.Decides.{Decides-and, Decides-by_and, Decides-eqb, Decides-like, Decides-ltb, Decides-or, nat_tests, not_from_Decides}
pub use Rattle.std.proofs.lemmas.List.{append-nil, at_drop_all, at_drop_more, drop-drop, drop-replicate, drop_all, drop_at, get_or-drop, get_or-map, length-map, length-replicate, map-append, replicate-append-replicate, take_at, take_rest}
pub use Rattle.std.proofs.lemmas.List.Elements.{All-cons, All-head, All-nil, All-push, All-tail}
pub use Rattle.std.proofs.lemmas.List.Sums.{sum_by-append, sum_by-cons, sum_by_push}
pub use Rattle.std.specs.Bool.{Decides}
pub use Rattle.std.specs.List.{All, AllPairs, flat_map, list_all}
pub use Rattle.std.specs.Prelude.{nat_le}
pub use Rattle.btr_keys.proofs.Layouts.{Reads, array_reads, part_reads, start, u32_reads, u64_reads, u8_reads, ◌▹◌}
pub use Rattle.btr_keys.specs.Key.{IsBefore, key_cmp}
unfoldable pub use Rattle.btr_keys.specs.Key.{key_layout}
pub use Rattle.btr_keys.specs.Layout.{Layout, spelling}
pub use Rattle.btr_keys.specs.btrfs_format.declared.size.TheConstants.{CSUM_SIZE, HEADER_REST_SIZE, HEADER_SIZE, ITEM_SIZE, KEY_PTR_SIZE}
pub use Rattle.btr_keys.specs.declared.key.Key.{Key}
pub use Rattle.btr_node.specs.Areas.{AreBodiesApart, HasAreas, IsWithin, all_apart, are_apart, descends, has_areas, is_within}
pub use Rattle.btr_node.specs.Draft.{Draft, IsDraft, data_of, draft_bytes, head_of, heads_of, room, room_in, started_for}
unfoldable pub use Rattle.btr_node.specs.Draft.{contents, node_bytes, sealed}
pub use Rattle.btr_node.specs.Head.{HasHead, behind_head, expected, has_head, head_in, make_head, nritems}
unfoldable pub use Rattle.btr_node.specs.Head.{head_layout}
pub use Rattle.btr_node.specs.Inner.{HasInnerLayout, IsBtrfsInner, child_at, first_keys, has_inner_head, has_inner_layout, has_inner_order, make_child}
unfoldable pub use Rattle.btr_node.specs.Inner.{child_layout, children_in}
pub use Rattle.btr_node.specs.Leaf.{HasLeafLayout, IsBtrfsLeaf, Item, has_leaf_head, has_leaf_order, head_at, item_of, keys_of, make_item_head}
unfoldable pub use Rattle.btr_node.specs.Leaf.{has_leaf_layout, heads_in, item_layout, items_in}
pub use Rattle.btr_node.specs.NodeSize.{IsNodeSize}
pub use Rattle.btr_node.specs.Order.{Ascends, ascends, is_before, is_before_first}
pub use Rattle.btr_node.specs.Records.{records_in}
pub use Rattle.btr_node.specs.Rules.{damages_of}
unfoldable pub use Rattle.btr_node.specs.Rules.{inner_damages, leaf_damages}
pub use Rattle.btr_node.specs.Sum.{HasSum, has_sum}
pub use Rattle.btr_node.specs.Writer.{HoldsDraft, held}
unfoldable pub use Rattle.btr_node.specs.Writer.{stored_children, stored_items}
pub use Rattle.btr_node.specs.declared.child.Child.{Child}
pub use Rattle.btr_node.specs.declared.expect.Expect.{Expect}
pub use Rattle.btr_node.specs.declared.head.Head.{Head}
pub use Rattle.btr_node.specs.declared.item.BtrItemHead.{BtrItemHead}
pub use Rattle.csum_kinds.proofs.Widths.{length-kind_sum}
pub use Rattle.csum_kinds.specs.Kind.{kind_sum}
pub use Rattle.csum_kinds.specs.declared.kind.SumKind.{SumKind}
pub use Rattle.refusals.specs.vol_block.Field.{fields_bytes}
pub use Rattle.refusals.specs.vol_block.declared.field.Field.TheVariants.{U32, U64}
