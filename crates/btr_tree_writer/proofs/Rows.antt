-- Trees in one row of slots.
use Rattle.btr_tree_writer.proofs.Imports.{◌≡◌, ◌≢◌, ℕ, ◌+◌, ◌-◌, ◌<◌, ◌≤◌, ◌%◌, ◌^◌, List, ◌++◌, length, map, take, drop, get_or, Result, Ok, Err, sym, ap, ap₂, subst, ◌∙◌, arith, length-drop, AllPairs, IsErrAnd, take-add, map-append, get_or-drop, All-drop, HasCauseOf, IsNodeSize, AreSlots, Counted, Tally, tree_nodes, packed_leaves, tree_levels, IsInSlots, TreeNode, upper_at, LieApart, WriteAnswer}
use Rattle.space_items.specs.Nodes.{HasSlots, nodes_of_tree}
use Rattle.btr_tree_writer.specs.declared.answer.WriteAnswer.TheVariants as answer

-- the nodes of a tree lie at the first slots
pub addresses_at : (owner nodesize : ℕ) (lengths slots : List ℕ) → map (λ n. n.address) (nodes_of_tree owner nodesize lengths slots) ≡ take (tree_nodes nodesize lengths) slots
addresses_at owner nodesize lengths slots = upper_at owner 0 0 slots (tree_levels nodesize (length (packed_leaves nodesize lengths)))

-- and behind those that were taken
pub taken_more : (nodes : List TreeNode) (owner nodesize : ℕ) (lengths slots : List ℕ) (taken : ℕ) → map (λ n. n.address) nodes ≡ take taken slots
    → map (λ n. n.address) (nodes ++ nodes_of_tree owner nodesize lengths (drop taken slots)) ≡ take (taken + tree_nodes nodesize lengths) slots
taken_more nodes owner nodesize lengths slots taken at =
    map-append (λ (n : TreeNode). n.address) nodes (nodes_of_tree owner nodesize lengths (drop taken slots))
    ∙ (ap₂ (λ xs ys. xs ++ ys) at (addresses_at owner nodesize lengths (drop taken slots)) ∙ sym (take-add taken (tree_nodes nodesize lengths) slots))

-- there are slots for the nodes that were counted
pub has_slots : (tally : Tally) (taken count : ℕ) (lengths slots : List ℕ) → IsNodeSize tally.nodesize → Counted tally lengths → count ≡ tree_nodes tally.nodesize lengths → count ≤ length slots - taken → taken ≤ length slots
    → HasSlots tally taken slots
has_slots tally taken count lengths slots size counted is few within = record {
  size = size;
  lengths = lengths;
  counted = counted;
  enough = omega (arith, is, few, within);
}

pairs_drop : (R : ℕ → ℕ → Type 0) (n : ℕ) (slots : List ℕ) → AllPairs R slots → AllPairs R (drop n slots)
pairs_drop R n slots pairs = λ i j d low high.
    subst (λ (x : ℕ). R x (get_or (drop n slots) j d)) (sym (get_or-drop n slots i d))
    (subst (λ (y : ℕ). R (get_or slots (n + i) d) y) (sym (get_or-drop n slots j d)) (pairs (n + i) (n + j) d (omega (arith, low)) (omega (arith, high, length-drop n slots))))

-- the slots that are left serve too
pub slots_left : (nodesize taken : ℕ) (slots : List ℕ) → AreSlots nodesize slots → AreSlots nodesize (drop taken slots)
slots_left nodesize taken slots are = record {
  aligned = All-drop (λ (a : ℕ). a % nodesize ≡ 0) taken slots are.aligned;
  apart = pairs_drop (λ a b. a ≢ b) taken slots are.apart;
  small = All-drop (λ (a : ℕ). a < 2 ^ 64) taken slots are.small;
}

-- a block of the slots that are left is one of all
in_left : (nodesize taken : ℕ) (slots : List ℕ) (b : ℕ) → IsInSlots nodesize (drop taken slots) b → IsInSlots nodesize slots b
in_left nodesize taken slots b found =
    (taken + found.0, found.1, omega (arith, found.2, length-drop taken slots), sym (get_or-drop taken slots found.0 found.1) ∙ found.3, found.4)

pub apart_left : (needs : ℕ → Type 0) (nodesize taken : ℕ) (slots : List ℕ) → LieApart needs nodesize slots → LieApart needs nodesize (drop taken slots)
apart_left needs nodesize taken slots apart = λ b needed inside. apart b needed (in_left nodesize taken slots b inside)

-- the nodes of a tree that was written have slots behind those that were taken
pub still_enough : (taken count nodes : ℕ) (slots rest : List ℕ) → rest ≡ drop taken slots → taken ≤ length slots → nodes ≡ count → nodes ≤ length rest → taken + count ≤ length slots
still_enough taken count nodes slots rest is within same few = omega (arith, ap length is, length-drop taken slots, within, same, few)

pub memory_cause : {T : Type 0} (r : Result T WriteAnswer) (a : WriteAnswer) (start now : ℕ) → now ≡ start → IsErrAnd r (λ e. e ≡ a) → a ≡ answer.Memory → HasCauseOf answer.Fault start now r
memory_cause (Ok x) a start now same told is = absurd told
memory_cause (Err e) a start now same told is = record {
  later = omega (arith, same);
  failed = λ fault. absurd (cc (fault, told, is));
  kept = λ isnt. same;
}
