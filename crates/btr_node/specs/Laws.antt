-- What is written is read again, and what the words of this crate say of one another.
use Rattle.std.specs.Prelude.{◌≡◌, ◌≤◌, ◌↔◌, ℕ, List, [], ◌∷◌, ◌++◌, length}
use Rattle.btr_keys.specs.Key.{IsBefore}
use Rattle.btr_keys.specs.declared.key.Key.{Key}
use Rattle.btr_node.specs.Draft.{Draft, IsDraft, node_bytes}
use Rattle.btr_node.specs.Leaf.{IsBtrfsLeaf, items_in}
use Rattle.btr_node.specs.Inner.{IsBtrfsInner, children_in}
use Rattle.btr_node.specs.Order.{Ascends}
use Rattle.btr_node.specs.Rules.{leaf_damages, inner_damages}
use Rattle.btr_node.specs.declared.expect.Expect.{Expect}

-- the bytes of a leaf are on the grammar, and its items are those that were put in
abbrev pub LeavesReadBack : Type 0
LeavesReadBack =
    (draft : Draft) → IsDraft draft → draft.want.level ≡ 0 → IsBtrfsLeaf draft.want (node_bytes draft) × (items_in (node_bytes draft) ≡ draft.items)

-- the same of an inner node that has a child
abbrev pub InnerNodesReadBack : Type 0
InnerNodesReadBack =
    (draft : Draft) → IsDraft draft → 1 ≤ draft.want.level → 1 ≤ length draft.children
    → IsBtrfsInner draft.want (node_bytes draft) × (children_in (node_bytes draft) ≡ draft.children)

-- no rule is broken exactly where the bytes are on the grammar
abbrev pub DamagesTell : Type 0
DamagesTell =
    (want : Expect) (bytes : List ℕ)
    → (leaf_damages want bytes ≡ [] ↔ IsBtrfsLeaf want bytes) × (inner_damages want bytes ≡ [] ↔ IsBtrfsInner want bytes)

-- parts of what ascends ascend
abbrev pub PartsAscend : Type 0
PartsAscend = (first second : List Key) → Ascends (first ++ second) → Ascends first × Ascends second

-- keys behind a last one that is before the first of them
abbrev pub JoinedAscend : Type 0
JoinedAscend =
    (front back : List Key) (last next : Key) → Ascends (front ++ last ∷ []) → Ascends (next ∷ back) → IsBefore last next
    → Ascends ((front ++ last ∷ []) ++ next ∷ back)
