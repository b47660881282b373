-- A walker over items, whose walker over nodes opened one.
use Rattle.btr_reader_walk.proofs.Imports.{◌≡◌, ℕ, zero, suc, ◌+◌, ◌≤◌, ◌<◌, List, ◌++◌, length, reverse, Contains, refl, sym, ◌∙◌, ap, subst, arith, append-nil, Image, BtrAnswer, Refused, Fault, Memory, BtrRule, HasLeafLayout, items_in, MapRange, NodeEntry, NodePointer, NodeWalker, Owners, Tree, TreeWalker, node_at, at_address, child_entries, damages_at, TreeItem, stack_weight, weight, fuel, IsAt, IsIn, Blames, wrong, nodes_fuel, Opens, Refuses}
use Rattle.btr_reader_walk.proofs.Contents.{count_items}
use Rattle.btr_reader_walk.proofs.Walking.{breaks, node_blamed, opened}

-- a leaf has fewer items than bytes
pub few_items : (bytes : List ℕ) → HasLeafLayout bytes → length (items_in bytes) ≤ length bytes
few_items bytes layout = omega (arith, layout.heads, count_items bytes)

-- a node's children, or its items, weigh less than the node
pub opened_lighter : (n level left : ℕ) (old new : List NodeEntry) (bytes : List ℕ) → new ≡ old ++ reverse (child_entries level bytes) → stack_weight n new < weight n level + stack_weight n old
    → (level ≡ 0 → left ≤ n) → (1 ≤ level → left ≡ 0) → stack_weight n new + left < weight n level + stack_weight n old
opened_lighter n zero left old new bytes pushed lighter few none = omega (arith, ap (stack_weight n) (pushed ∙ append-nil old), few refl)
opened_lighter n (suc level) left old new bytes pushed lighter few none = omega (arith, lighter, none (omega arith))

-- less is left than before the node was taken
pub descended : (before w : TreeWalker) (u : NodeWalker) (v : TreeWalker) (e : NodeEntry) (bytes : List ℕ) → weight w.nodes.tree.form.nodesize e.pointer.level + fuel w ≡ fuel before → w.at.left ≡ 0
    → u.tree ≡ w.nodes.tree → u.pending.items ≡ w.nodes.pending.items ++ reverse (child_entries e.pointer.level bytes)
    → nodes_fuel u < weight w.nodes.tree.form.nodesize e.pointer.level + nodes_fuel w.nodes → v.nodes ≡ u
    → (e.pointer.level ≡ 0 → v.at.left ≤ u.tree.form.nodesize) → (1 ≤ e.pointer.level → v.at.left ≡ 0) → fuel v < fuel before
descended before w u v e bytes weighs empty tree pushed lighter nodes few none =
    let n : ℕ = w.nodes.tree.form.nodesize in
    let size : u.tree.form.nodesize ≡ n = ap (λ (t : Tree). t.form.nodesize) tree in
    let same : nodes_fuel u ≡ stack_weight n u.pending.items = ap (λ (m : ℕ). stack_weight m u.pending.items) size in
    omega (
      arith,
      weighs,
      empty,
      same,
      ap nodes_fuel nodes,
      opened_lighter n e.pointer.level v.at.left w.nodes.pending.items u.pending.items bytes pushed (omega (arith, same, lighter)) (λ leaf. omega (arith, size, few leaf)) none,
    )

-- what a walker of items asks of nodes is what its tree asks
own_damages : (w : TreeWalker) (image : Image) (ranges : List MapRange) (p : NodePointer) → damages_at image ranges w.nodes.tree w.nodes.owners p ≡ breaks image ranges w.tree p
own_damages w image ranges p =
    ap (λ (o : Owners). damages_at image ranges w.nodes.tree o p) w.own ∙ ap (λ (t : Tree). breaks image ranges t p) w.same

-- the node was opened
pub node_opened : (w v : TreeWalker) (image : Image) (ranges : List MapRange) (given : List TreeItem) (e : NodeEntry) → IsAt e.pointer w image ranges given
    → v.tree ≡ w.tree → v.last ≡ w.last → Opens e w.nodes v.nodes image ranges → v.nodes.pending.items ≡ w.nodes.pending.items ++ reverse (child_entries e.pointer.level v.nodes.bytes.items)
    → IsIn e.pointer v image ranges given
node_opened w v image ranges given e k tree last opens pushed =
    opened w v image ranges given e.pointer k tree last (sym (own_damages w image ranges e.pointer) ∙ opens.sound)
    (opens.bytes ∙ ap (λ (t : Tree). node_at image ranges t.form.nodesize e.pointer.address) w.same) pushed

-- a node that was not opened is among what is wrong, or a call failed
pub node_refused : (w : TreeWalker) (v : NodeWalker) (image : Image) (ranges : List MapRange) (given : List TreeItem) (e : NodeEntry) (answer : BtrAnswer) → IsAt e.pointer w image ranges given
    → Refuses e w.nodes v image ranges answer → Blames (wrong image ranges w.tree) answer
node_refused w v image ranges given e (Refused r) k (bad, below) =
    node_blamed w image ranges given e.pointer r k
    (subst (λ (rules : List BtrRule). Contains (at_address e.pointer.address rules) r) (own_damages w image ranges e.pointer) bad)
node_refused w v image ranges given e Fault k h = tt
node_refused w v image ranges given e Memory k h = absurd h
