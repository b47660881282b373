-- What Linux asks of the bytes of a node, as tests.
use Rattle.std.specs.Prelude.{ℕ, ◌+◌, ◌==◌, nat_eq, nat_le, Bool, true, not, ◌&&◌, ◌||◌, List, [], ◌∷◌, length, replicate}
use Rattle.std.specs.Cmp.Lexicographic.{pointwise}
use Rattle.btr_check_rules.specs.btr_reader.btr_space_items.btrfs_format.declared.flag.TheConstants.{HEADER_FLAG_WRITTEN, MIXED_BACKREF_REV}
use Rattle.btr_check_rules.specs.btr_reader.btr_node.Head.{behind_head, head_in}
use Rattle.btr_check_rules.specs.btr_reader.btr_node.Leaf.{heads_in}
use Rattle.btr_check_rules.specs.btr_reader.btr_node.declared.head.Head.{Head}
use Rattle.btr_check_rules.specs.btr_reader.btr_node.declared.item.BtrItemHead.{BtrItemHead}
use Rattle.btr_check_rules.specs.btr_reader.btr_reader_walk.declared.tree.NodePointer.{NodePointer}
use Rattle.btr_check_rules.specs.btr_reader.btr_super.declared.superblock.Super.{Super}
use Rattle.btr_check_rules.specs.Nodes.{RELOCATED}

abbrev pub is_written : Head → Bool
is_written h =
    (pointwise nat_eq h.flags (HEADER_FLAG_WRITTEN ∷ replicate 6 0) || pointwise nat_eq h.flags ((HEADER_FLAG_WRITTEN + RELOCATED) ∷ replicate 6 0))
    && (h.revision == MIXED_BACKREF_REV)

abbrev pub ends_at : ℕ → BtrItemHead → Bool
ends_at end h = h.offset + h.size == end

abbrev pub is_packed : ℕ → List BtrItemHead → Bool
is_packed end [] = true
is_packed end (h ∷ heads) = ends_at end h && is_packed h.offset heads

-- it is no leaf, or its data is packed
abbrev pub is_packed_leaf : ℕ → List ℕ → Bool
is_packed_leaf level bytes = not (level == 0) || is_packed (length (behind_head bytes)) (heads_in bytes)

abbrev pub keeps_bytes : Super → NodePointer → List ℕ → Bool
keeps_bytes s p bytes = is_written (head_in bytes) && (nat_le p.generation s.generation && is_packed_leaf p.level bytes)
