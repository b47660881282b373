-- The order of the items of a ReiserFS tree.
use Rattle.std.specs.Prelude.{ℕ}
use Rattle.std.specs.declared.cmp.Ordering.{Ordering}
use Rattle.std.specs.Ordering.{nat_cmp, ordering_then}
use Rattle.reiser_node.specs.declared.head.ItemHead.{ItemHead}
use Rattle.reiser_node.specs.declared.head.ItemKind.{ItemKind}
use Rattle.reiser_node.specs.declared.head.ItemKind.TheVariants.{Stat, Indirect, Direct, Directory}

-- the number that a kind has in the keys of version 1
abbrev pub kind_number : ItemKind → ℕ
kind_number Stat = 0
kind_number Indirect = 1
kind_number Direct = 2
kind_number Directory = 3

-- by the directory's number, the object's, the offset and the kind
abbrev pub key_order : ItemHead → ItemHead → Ordering
key_order a b =
    ordering_then (ordering_then (ordering_then (nat_cmp a.dir b.dir) (nat_cmp a.object b.object)) (nat_cmp a.offset b.offset)) (nat_cmp (kind_number a.kind) (kind_number b.kind))
