-- What the root reaches over the steps of entries, as nodes, is what it reaches over the entries.
use Rattle.reiser_volume_objects.proofs.Imports.{◌≡◌, ℕ, zero, suc, Bool, List, [], ◌∷◌, map, filter, Contains, ⊎_elim, refl, sym, ap, subst, ◌∙◌, arith, NodeLink, NodeId, AreReached, in_map, from_map, ReiserItem, ObjectKey, Naming, root, is_followed, namings, followed, IsReachedBy, node_of, step_of, steps, TellsReached}
use Rattle.fs_paths.specs.Reached as over

-- objects of one node are the same
pub node_same : (a b : ObjectKey) → node_of a ≡ node_of b → a ≡ b
node_same a b is =
    let dir : a.dir ≡ b.dir = ap (λ (n : NodeId). n.space) is in
    let object : a.object ≡ b.object = ap (λ (n : NodeId). n.number) is in
    λ j. record { dir = dir j; object = object j }

module _ (ns : List Naming) where
  over_steps : (count : ℕ) (key : ObjectKey) → IsReachedBy (filter is_followed ns) count key → over.IsReachedBy (steps ns) (node_of root) count (node_of key)
  over_steps zero key is = ap node_of is
  over_steps (suc count) key r = (step_of r.0, in_map step_of (filter is_followed ns) r.0 r.1, ap node_of r.2, over_steps count r.0.dir r.3)

  over_entries : (count : ℕ) (node : NodeId) → over.IsReachedBy (steps ns) (node_of root) count node → (key : ObjectKey) × (node ≡ node_of key) × IsReachedBy (filter is_followed ns) count key
  over_entries zero node is = (root, is, refl)
  over_entries (suc count) node r =
      let m = from_map step_of (filter is_followed ns) r.0 r.1 in
      let n : Naming = m.0 in
      let before = over_entries count r.0.dir r.3 in
      let dir : n.dir ≡ before.0 = node_same n.dir before.0 (ap (λ (l : NodeLink). l.dir) m.2 ∙ before.1) in
      (n.target, sym r.2 ∙ sym (ap (λ (l : NodeLink). l.target) m.2), (n, m.1, refl, subst (IsReachedBy (filter is_followed ns) count) (sym dir) before.2))

-- so the nodes are those of the named objects
pub nodes_tell : (items : List ReiserItem) (reached : NodeId → Bool) → AreReached (steps (namings items)) (node_of root) reached → TellsReached items reached
nodes_tell items reached r = record {
  sound = λ key has.
      let s = r.sound (node_of key) has in
      let e = over_entries (namings items) s.0 (node_of key) s.1 in
      (s.0, subst (IsReachedBy (followed items) s.0) (sym (node_same key e.0 e.1)) e.2);
  whole = λ key named. r.whole (node_of key) (named.0, over_steps (namings items) named.0 key named.1);
}
