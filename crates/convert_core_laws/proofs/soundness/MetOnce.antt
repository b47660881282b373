-- The nodes of a converted volume: each is met once.
use Rattle.convert_core_laws.proofs.Imports.{◌≡◌, ◌≢◌, ℕ, List, [], ◌∷◌, ◌++◌, map, refl, sym, ap, subst, ◌∙◌, AllPairs, flat_map, map-append, Image, Ids, NodePointer, Recount, TreeOn, all_trees, node_addresses, nodes_met, Making, TreeRoots, TreeNode, Options, IsNewVolume, recount_for, pairs_map}
use Rattle.btr_check_rules.proofs.Counted.{once_is}
use Rattle.convert_core_laws.proofs.soundness.Apart.{once}

abbrev address_of : NodePointer → ℕ
address_of p = p.address

addresses_of : (ts : List TreeOn) → flat_map node_addresses ts ≡ map address_of (flat_map (λ (t : TreeOn). t.nodes) ts)
addresses_of [] = refl
addresses_of (t ∷ ts) = ap (λ (l : List ℕ). node_addresses t ++ l) (addresses_of ts) ∙ sym (map-append address_of t.nodes (flat_map (λ (u : TreeOn). u.nodes) ts))

module _ (o : Options) (ids : Ids) (now : ℕ) (image other : Image) (m : Making) (r : TreeRoots) (nodes : List TreeNode) (v : IsNewVolume o ids now image other m r nodes) where
  abbrev k : Recount
  k = recount_for image other m r nodes

  abbrev Apart : ℕ → ℕ → Type 0
  Apart a b = a ≢ b

  pub met_once : AllPairs Apart (flat_map node_addresses (all_trees k))
  met_once =
      subst (AllPairs Apart) (sym (addresses_of (all_trees k))) (pairs_map Apart address_of (flat_map (λ (t : TreeOn). t.nodes) (all_trees k)) (once o ids now image other m r nodes v))

  pub met_is : nodes_met k ≡ map address_of (flat_map (λ (t : TreeOn). t.nodes) (all_trees k))
  met_is = once_is (flat_map node_addresses (all_trees k)) met_once ∙ addresses_of (all_trees k)
