-- A row of slots goes on: the trees behind leave those before as they are, and what the trees are made from.
use Rattle.convert_trees.proofs.Imports.{[], ◌∷◌, ◌≡◌, ◌∙◌, ℕ, ◌+◌, ◌%◌, ◌-◌, ◌<◌, ◌≤◌, List, drop, take, length, sym, ap, subst, arith, drop-drop, get_or-drop, get_or-take, get_or_default, length-drop, length-take, Image, History, block_at, reads, WritesOnly, writes_length, reads_outside, Item, IsNodeSize, AreSlots, IsInSlots, Root, Form, LieApart, SameWhere, TreeStands, NodeForm, Trees, by_nodes, slots_left, behind_least, StandBehind, slot_behind, PlacedTree, tree_number, NewTree}
use Rattle.convert_trees.proofs.Behind.{IsInRest, IsLater, later_by, writes_behind}
use Rattle.convert_trees.proofs.Front.{apart_nodes}

-- no block of the first slots is one of those behind
first_apart : (nodesize few n : ℕ) (slots : List ℕ) (b : ℕ) → IsNodeSize nodesize → AreSlots nodesize slots → few ≤ n → IsInSlots nodesize (take few slots) b → IsInSlots nodesize (drop n slots) b → ⊥
first_apart nodesize few n slots b size are low before behind =
    let early : before.0 < few = omega (arith, before.2, length-take few slots) in
    let first : before.0 < length slots = omega (arith, before.2, length-take few slots) in
    let second : n + behind.0 < length slots = omega (arith, behind.2, length-drop n slots) in
    let at_first = sym (get_or-take few slots before.0 before.1 early) ∙ before.3 in
    let at_second = sym (get_or-drop n slots behind.0 behind.1) ∙ behind.3 in
    apart_nodes before.1 behind.1 b
    (λ same. are.apart before.0 (n + behind.0) before.1 (omega (arith, early, low)) second
    (at_first ∙ (same ∙ (sym at_second ∙ get_or_default slots (n + behind.0) behind.1 before.1 second))))
    nodesize size
    (subst (λ (a : ℕ). a % nodesize ≡ 0) at_first (are.aligned before.0 before.1 first))
    (subst (λ (a : ℕ). a % nodesize ≡ 0) at_second (are.aligned (n + behind.0) behind.1 second))
    before.4 behind.4

-- a tree goes on standing while no block of its nodes is written
pub stands_beside : (P : ℕ → Type 0) (form : Form) (owner : ℕ) (slots : List ℕ) (items : List Item) (root : Root) (old new : History) → ((b : ℕ) → IsInSlots form.nodesize (take root.nodes slots) b → ¬ P b)
    → WritesOnly (λ b _. P b) old new → TreeStands (reads old) form owner slots items root → TreeStands (reads new) form owner slots items root
stands_beside P form owner slots items root old new apart only stands =
    by_nodes (reads old) (reads new) form owner slots items root (λ b inside. reads_outside P old new only b (apart b inside)) stands

pub stands_before : (form : Form) (owner n : ℕ) (slots : List ℕ) (items : List Item) (root : Root) (old new : History) → IsNodeSize form.nodesize → AreSlots form.nodesize slots → root.nodes ≤ n
    → WritesOnly (λ b _. IsInSlots form.nodesize (drop n slots) b) old new → TreeStands (reads old) form owner slots items root → TreeStands (reads new) form owner slots items root
stands_before form owner n slots items root old new size are low only stands =
    stands_beside (λ b. IsInSlots form.nodesize (drop n slots) b) form owner slots items root old new (λ b before behind. first_apart form.nodesize root.nodes n slots b size are low before behind) only stands

-- From one row to a later one so many slots were taken, and only blocks of those that were left were written.
pub record Goes (row later : Trees) (n : ℕ) (old new : History) : Type 0 where
  pub form : later.form ≡ row.form
  pub slots : later.slots ≡ row.slots
  pub taken : later.taken ≡ row.taken + n
  pub only : WritesOnly (λ b _. IsInRest row b) old new

pub goes_by : (row later : Trees) (n : ℕ) (old new : History) → (later.form ≡ row.form) × (later.slots ≡ row.slots) → later.taken ≡ row.taken + n → WritesOnly (λ b _. IsInRest row b) old new → Goes row later n old new
goes_by row later n old new same taken only = record { form = same.0; slots = same.1; taken = taken; only = only }

pub goes_later : (row later : Trees) (n : ℕ) (old new : History) → Goes row later n old new → IsLater row later
goes_later row later n old new goes = later_by row later n (goes.form, goes.slots) goes.taken

pub still_apart : (needs : ℕ → Type 0) (row later : Trees) (n : ℕ) (old new : History) → Goes row later n old new → LieApart needs row.form.nodesize row.slots → LieApart needs later.form.nodesize later.slots
still_apart needs row later n old new goes apart =
    subst (λ (f : NodeForm). LieApart needs f.nodesize later.slots) (sym goes.form) (subst (λ (s : List ℕ). LieApart needs row.form.nodesize s) (sym goes.slots) apart)

-- a tree at the slots from a number on goes on standing while nodes are written behind it
pub stands_still : (form : Form) (owner n end : ℕ) (slots : List ℕ) (items : List Item) (root : Root) (old new : History) → IsNodeSize form.nodesize → AreSlots form.nodesize slots → n + root.nodes ≤ end
    → WritesOnly (λ b _. IsInSlots form.nodesize (drop end slots) b) old new → TreeStands (reads old) form owner (drop n slots) items root → TreeStands (reads new) form owner (drop n slots) items root
stands_still form owner n end slots items root old new size are few only stands =
    let sum : end ≡ n + (end - n) = omega (arith, few) in
    let split : drop end slots ≡ drop (end - n) (drop n slots) = ap (λ (k : ℕ). drop k slots) sum ∙ sym (drop-drop (end - n) n slots) in
    stands_before form owner (end - n) (drop n slots) items root old new size (slots_left form.nodesize n slots are) (omega (arith, few))
    (subst (λ (xs : List ℕ). WritesOnly (λ b _. IsInSlots form.nodesize xs b) old new) split only) stands

-- so do trees one behind the other
pub row_stands : (form : Form) (slots : List ℕ) (items : NewTree → List Item) (end : ℕ) (old new : History) → IsNodeSize form.nodesize → AreSlots form.nodesize slots
    → WritesOnly (λ b _. IsInSlots form.nodesize (drop end slots) b) old new → (n : ℕ) (placed : List PlacedTree) → slot_behind n placed ≤ end
    → StandBehind (reads old) form slots items n placed → StandBehind (reads new) form slots items n placed
row_stands form slots items end old new size are only n [] few stand = stand
row_stands form slots items end old new size are only n (p ∷ placed) few stand = (
  let more = behind_least (n + p.root.nodes) placed in
      stands_still form (tree_number p.tree) n end slots (items p.tree) p.root old new size are (omega (arith, few, more)) only stand.0,
  row_stands form slots items end old new size are only (n + p.root.nodes) placed few stand.1,
)

-- what is needed elsewhere stays
pub same_where : (needs : ℕ → Type 0) (row : Trees) (image : Image) (old new : History) → LieApart needs row.form.nodesize (drop row.taken row.slots) → reads old ≡ image → WritesOnly (λ b _. IsInRest row b) old new
    → SameWhere needs image (reads new)
same_where needs row image old new apart is only = record {
  as_many = writes_length (λ b _. IsInRest row b) old new only ∙ ap (λ (i : Image). length i) is;
  blocks = λ b needed. reads_outside (λ b. IsInRest row b) old new only b (apart b needed) ∙ ap (λ (i : Image). block_at i b) is;
}
