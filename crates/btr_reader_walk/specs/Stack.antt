-- The nodes that a walk has still to meet, as a stack: the next one stands last.
use Rattle.std.specs.Prelude.{ℕ, zero, suc, ◌+◌, ◌*◌, ◌/◌, ◌==◌, nat_le, Bool, true, ◌&&◌, ◌||◌, List, [], ◌∷◌, ◌++◌}
use Rattle.btr_node.specs.btrfs_format.declared.size.TheConstants.{KEY_PTR_SIZE}
use Rattle.btr_reader_walk.specs.declared.tree.NodeEntry.{NodeEntry}

-- what is met at them, where this is what is met at one
abbrev pub stacked : {A : Type 0} → (NodeEntry → List A) → List NodeEntry → List A
stacked below [] = []
stacked below (e ∷ es) = stacked below es ++ below e

-- at most how many children a node of this size has; a child takes 33 bytes
abbrev pub fan_out : ℕ → ℕ
fan_out nodesize = nodesize / KEY_PTR_SIZE

-- What bounds the stack: its nodes are counted from i on, and one of a lower level may stand a node's children higher.
abbrev pub is_stack : ℕ → ℕ → ℕ → List NodeEntry → Bool
is_stack limit fan i [] = true
is_stack limit fan i (e ∷ es) = nat_le (i + e.pointer.level * fan) limit && is_stack limit fan (suc i) es

-- one of the sizes of nodes
abbrev pub is_node_size : ℕ → Bool
is_node_size n = (n == 4096) || ((n == 8192) || ((n == 16384) || ((n == 32768) || (n == 65536))))

-- at most how many nodes and items a node of this level stands for, if a node has at most n of them
abbrev pub weight : ℕ → ℕ → ℕ
weight n zero = suc n
weight n (suc level) = suc (n * weight n level)

abbrev pub stack_weight : ℕ → List NodeEntry → ℕ
stack_weight n [] = 0
stack_weight n (e ∷ es) = weight n e.pointer.level + stack_weight n es
