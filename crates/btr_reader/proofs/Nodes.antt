-- What a tree gives depends on the blocks of its nodes alone.
use Rattle.btr_reader.proofs.Imports.{◌≡◌, ◌∙◌, ℕ, zero, suc, ◌+◌, ◌*◌, ◌/◌, ◌<◌, Bool, List, [], ◌∷◌, ◌++◌, Option, Some, None, refl, sym, ap, subst, arith, if◌then◌else◌, All, flat_map, All-nil, All-cons, All-head, All-tail, Image, BtrRefusal, Unmapped, TreeEvent, items_in_events, may_be_bare, nodes_in, block_of_place, blocks_at, is_mapped, node_at, place, found, met, wrong, MapRange, NodePointer, Tree, AreNodesApart, IsApart, IsNodeApart, IsSameOutside}
use Rattle.btr_reader_walk.specs.refusals.declared.rule.BtrRule.{BtrRule}
use Rattle.btr_reader_walk.specs.Node.{content_damages, node_damages, want}
use Rattle.btr_reader_walk.specs.Tree.{at_address, node_faults, order_damages, pointer_damages}
use Rattle.btr_reader_walk.specs.declared.tree.Form.{Form}
use Rattle.btr_reader_walk.proofs.Decides.{nodes_decide}

all_weaker : {X : Type 0} (P Q : X → Type 0) → ((x : X) → P x → Q x) → (xs : List X) → All P xs → All Q xs
all_weaker P Q turn [] all = All-nil Q
all_weaker P Q turn (x ∷ xs) all = All-cons Q x xs (turn x (All-head P x xs all)) (all_weaker P Q turn xs (All-tail P x xs all))

flat_map_same : {X Y : Type 0} (P : X → Type 0) (f g : X → List Y) → ((x : X) → P x → g x ≡ f x) → (xs : List X) → All P xs → flat_map g xs ≡ flat_map f xs
flat_map_same P f g each [] all = refl
flat_map_same P f g each (x ∷ xs) all =
    ap (λ z. z ++ flat_map g xs) (each x (All-head P x xs all)) ∙ ap (λ z. f x ++ z) (flat_map_same P f g each xs (All-tail P x xs all))

-- what a node breaks, by its bytes
abbrev breaks : List MapRange → Form → ℕ → Bool → NodePointer → List ℕ → List BtrRule
breaks ranges form owner bare p bytes = if is_mapped ranges form.nodesize p.address then content_damages (want form owner p) bare bytes else Unmapped ∷ []

same_damages : (image other : Image) (ranges : List MapRange) (form : Form) (owner : ℕ) (bare : Bool) (p : NodePointer)
    → node_at other ranges form.nodesize p.address ≡ node_at image ranges form.nodesize p.address
    → node_damages other ranges form owner bare p ≡ node_damages image ranges form owner bare p
unfolding node_damages
same_damages image other ranges form owner bare p same = ap (breaks ranges form owner bare p) same

module _ (test : ℕ → Bool) (image other : Image) (same : IsSameOutside test image other) (ranges : List MapRange) where
  block_same : (a : Option ℕ) → IsApart test a → block_of_place other a ≡ block_of_place image a
  block_same None apart = refl
  block_same (Some a) apart = same.others (a / 4096) apart

  blocks_same : (n address : ℕ) → ((k : ℕ) → k < n → IsApart test (place ranges (address + 4096 * k))) → blocks_at other ranges n address ≡ blocks_at image ranges n address
  blocks_same zero address apart = refl
  blocks_same (suc n) address apart =
      let first : address + 4096 * 0 ≡ address = omega arith in
      let here = block_same (place ranges address) (subst (λ (a : ℕ). IsApart test (place ranges a)) first (apart 0 (omega arith))) in
      let later : (k : ℕ) → k < n → IsApart test (place ranges (address + 4096 + 4096 * k)) =
      λ k less. (let next : address + 4096 * (k + 1) ≡ address + 4096 + 4096 * k = omega arith in subst (λ (a : ℕ). IsApart test (place ranges a)) next (apart (k + 1) (omega (arith, less)))) in
      ap (λ (z : List ℕ). z ++ blocks_at other ranges n (address + 4096)) here ∙ ap (λ (z : List ℕ). block_of_place image (place ranges address) ++ z) (blocks_same n (address + 4096) later)

  node_same : (nodesize : ℕ) (p : NodePointer) → IsNodeApart test ranges nodesize p → node_at other ranges nodesize p.address ≡ node_at image ranges nodesize p.address
  unfolding node_at
  node_same nodesize p apart = blocks_same (nodesize / 4096) p.address apart

  module _ (tree : Tree) (apart : AreNodesApart test image ranges tree) where
    nodes_same : All (λ q. node_at other ranges tree.form.nodesize q.address ≡ node_at image ranges tree.form.nodesize q.address) (nodes_in (met image ranges tree))
    nodes_same =
        all_weaker (IsNodeApart test ranges tree.form.nodesize) (λ q. node_at other ranges tree.form.nodesize q.address ≡ node_at image ranges tree.form.nodesize q.address)
        (node_same tree.form.nodesize) (nodes_in (met image ranges tree)) apart

    pub met_same : met other ranges tree ≡ met image ranges tree
    met_same = nodes_decide image other ranges tree.form tree.owner (may_be_bare tree.root) tree.root nodes_same

    pub found_same : found other ranges tree ≡ found image ranges tree
    found_same = ap items_in_events met_same

    faults_same : node_faults other ranges tree.form tree.owner (may_be_bare tree.root) (met image ranges tree) ≡ node_faults image ranges tree.form tree.owner (may_be_bare tree.root) (met image ranges tree)
    faults_same =
        flat_map_same (λ q. node_at other ranges tree.form.nodesize q.address ≡ node_at image ranges tree.form.nodesize q.address)
        (pointer_damages image ranges tree.form tree.owner (may_be_bare tree.root)) (pointer_damages other ranges tree.form tree.owner (may_be_bare tree.root))
        (λ q is. ap (at_address q.address) (same_damages image other ranges tree.form tree.owner (may_be_bare tree.root) q is))
        (nodes_in (met image ranges tree)) nodes_same

    pub wrong_same : wrong other ranges tree ≡ wrong image ranges tree
    wrong_same =
        ap (λ (events : List TreeEvent). node_faults other ranges tree.form tree.owner (may_be_bare tree.root) events ++ order_damages None (items_in_events events)) met_same
        ∙ ap (λ (faults : List BtrRefusal). faults ++ order_damages None (found image ranges tree)) faults_same

    -- the nodes of the other disk's tree lie apart, too
    pub apart_same : AreNodesApart test other ranges tree
    apart_same = subst (λ (events : List TreeEvent). All (IsNodeApart test ranges tree.form.nodesize) (nodes_in events)) (sym met_same) apart
