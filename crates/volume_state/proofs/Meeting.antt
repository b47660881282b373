-- A walk over the nodes of a tree that looks for a reserved block.
use Rattle.volume_state.proofs.Imports.{◌≡◌, ⊎_elim, ℕ, zero, suc, List, [], ◌∷◌, ◌++◌, Contains, Option, None, Some, refl, sym, ◌∙◌, ap, subst, arith, append_assoc, append-nil, Contains-append_cases, Contains-append_left, Contains-append_right, Image, BtrAnswer, Refused, Fault, Memory, BtrRefusal, pointer_damages, order_damages, may_be_bare, nodes_in, IsAmong, found, met, wrong, MapRange, NodePointer, Tree, ahead, GoesBelow, Refuses, Takes, at_head, from_map, head_or_tail, in_flat_map, in_map, HoldsNodeOf, LieIn, TellsReserved}
use Rattle.btr_node.specs.btr_keys.declared.key.Key.{Key}
use Rattle.btr_reader_walk.specs.declared.tree.NodeEntry.{NodeEntry}
use Rattle.btr_reader_walk.specs.declared.node_walker.NodeWalker.{NodeWalker}
use Rattle.btr_reader_walk.specs.declared.tree.Owners.TheVariants.{Own}
use Rattle.btr_reader_walk.specs.Nodes.{nodes_from, nodes_under, tree_nodes, refusals_at}
use Rattle.btr_reader_walk.proofs.Decides.{nodes_are_met}
use Rattle.btr_reader_walk.specs.declared.tree.Owners.{Owners}

module _ (image : Image) (ranges : List MapRange) (t : Tree) (blocks : ℕ) where
  abbrev nodes : List NodeEntry
  nodes = tree_nodes image ranges t Own

  abbrev below : NodeEntry → List NodeEntry
  below e = nodes_from image ranges t Own e

  abbrev IsFree : NodeEntry → Type 0
  IsFree e = TellsReserved (λ b. LieIn ranges e.pointer.address t.form.nodesize b) blocks None

  -- the nodes that were met lie in no reserved block, and these are the others
  pub record HasMet (others : List NodeEntry) : Type 0 where
    pub done : List NodeEntry
    pub whole : done ++ others ≡ nodes
    pub free : (e : NodeEntry) → Contains done e → IsFree e

  pub none_met : (others : List NodeEntry) → others ≡ nodes → HasMet others
  none_met others is = record { done = []; whole = is; free = λ e among. absurd (omega (arith, among.1)) }

  -- one more
  pub one_met : (e : NodeEntry) (others : List NodeEntry) → HasMet (e ∷ others) → IsFree e → HasMet others
  one_met e others k free = record {
    done = k.done ++ e ∷ [];
    whole = append_assoc k.done (e ∷ []) others ∙ k.whole;
    free = λ x among.
        ⊎_elim (λ before. k.free x before)
        (λ last. ⊎_elim (λ same. subst IsFree same free) (λ none. absurd (omega (arith, none.1))) (head_or_tail e [] x last)) (Contains-append_cases k.done (e ∷ []) x among);
  }

  -- the first node at an entry is that of the entry
  abbrev rest_at : ℕ → Option Key → ℕ → ℕ → Type 0
  rest_at l key a g = (es : List NodeEntry) × (nodes_under image ranges t Own l key a g ≡ record { pointer = record { address = a; level = l; generation = g }; key = key } ∷ es)

  starts : (l : ℕ) (key : Option Key) (a g : ℕ) → rest_at l key a g
  unfolding nodes_under
  starts zero key a g = ([], refl)
  starts (suc l) key a g = (_, refl)

  leaf_at : (l : ℕ) (key : Option Key) (a g : ℕ) → l ≡ 0 → nodes_under image ranges t Own l key a g ≡ record { pointer = record { address = a; level = l; generation = g }; key = key } ∷ []
  unfolding nodes_under
  leaf_at zero key a g leaf = refl
  leaf_at (suc l) key a g leaf = absurd (omega (arith, leaf))

  pub leaf_alone : (e : NodeEntry) → e.pointer.level ≡ 0 → below e ≡ e ∷ []
  leaf_alone e leaf = leaf_at e.pointer.level e.key e.pointer.address e.pointer.generation leaf

  -- a node that is to be met is one of the tree
  pub entry_among : (e : NodeEntry) (others : List NodeEntry) → HasMet (below e ++ others) → Contains nodes e
  entry_among e others k =
      let first = starts e.pointer.level e.key e.pointer.address e.pointer.generation in
      let own : Contains (below e) e = subst (λ (es : List NodeEntry). Contains es e) (sym first.1) (at_head e first.0) in
      subst (λ (es : List NodeEntry). Contains es e) k.whole (Contains-append_right k.done (below e ++ others) e (Contains-append_left (below e) others e own))

  pub pointer_among : (e : NodeEntry) → Contains nodes e → Contains (nodes_in (met image ranges t)) e.pointer
  pointer_among e among = subst (λ (ps : List NodePointer). Contains ps e.pointer) (nodes_are_met image ranges t) (in_map (λ (x : NodeEntry). x.pointer) nodes e among)

  -- a reserved block in which one of them lies
  pub one_found : (e : NodeEntry) (b : ℕ) → Contains nodes e → TellsReserved (λ b. LieIn ranges e.pointer.address t.form.nodesize b) blocks (Some b) → TellsReserved (HoldsNodeOf image ranges t) blocks (Some b)
  one_found e b among one = (one.0, record { node = e.pointer; among = pointer_among e among; lies = one.1 })

  -- what is wrong with one of them is wrong with the tree
  pub one_refused : (e : NodeEntry) (r : BtrRefusal) → Contains nodes e → Contains (refusals_at image ranges t Own e.pointer) r → Contains (wrong image ranges t) r
  one_refused e r among bad =
      Contains-append_left _ (order_damages None (found image ranges t)) r
      (in_flat_map (pointer_damages image ranges t.form t.owner (may_be_bare t.root)) (nodes_in (met image ranges t)) e.pointer r (pointer_among e among) bad)

  -- all of them were met
  pub all_met : HasMet [] → TellsReserved (HoldsNodeOf image ranges t) blocks None
  all_met k b reserved holds =
      let from = from_map (λ (x : NodeEntry). x.pointer) nodes holds.node (subst (λ (ps : List NodePointer). Contains ps holds.node) (sym (nodes_are_met image ranges t)) holds.among) in
      let done : Contains k.done from.0 = subst (λ (es : List NodeEntry). Contains es from.0) (sym (sym (append-nil k.done) ∙ k.whole)) from.1 in
      k.free from.0 done b reserved (subst (λ (p : NodePointer). LieIn ranges p.address t.form.nodesize b) (sym from.2) holds.lies)

  -- ---- by the walker
  pub record IsAhead (w : NodeWalker) : Type 0 where
    pub tree : w.tree ≡ t
    pub own : w.owners ≡ Own
    pub left : HasMet (ahead image ranges w)

  ahead_of : (w : NodeWalker) (e : NodeEntry) → w.tree ≡ t → w.owners ≡ Own → nodes_from image ranges w.tree w.owners e ≡ below e
  ahead_of w e tree own = rw (tree, own) refl

  -- a node was taken
  pub record IsTaken (e : NodeEntry) (v : NodeWalker) : Type 0 where
    pub tree : v.tree ≡ t
    pub own : v.owners ≡ Own
    pub left : HasMet (below e ++ ahead image ranges v)

  pub taken : (e : NodeEntry) (w v : NodeWalker) → IsAhead w → v.tree ≡ w.tree → v.owners ≡ w.owners → Takes (Some e) w v image ranges → IsTaken e v
  taken e w v k tree own takes = record {
    tree = tree ∙ k.tree;
    own = own ∙ k.own;
    left = subst HasMet (takes ∙ ap (λ (es : List NodeEntry). es ++ ahead image ranges v) (ahead_of w e k.tree k.own)) k.left;
  }

  pub over : (w v : NodeWalker) → IsAhead w → Takes None w v image ranges → HasMet []
  over w v k takes = subst HasMet takes k.left

  -- a leaf is not opened
  pub passed : (e : NodeEntry) (v : NodeWalker) → IsTaken e v → IsFree e → e.pointer.level ≡ 0 → IsAhead v
  passed e v k free leaf = record {
    tree = k.tree;
    own = k.own;
    left = one_met e (ahead image ranges v) (subst (λ (es : List NodeEntry). HasMet (es ++ ahead image ranges v)) (leaf_alone e leaf) k.left) free;
  }

  -- an inner node is
  pub opened : (e : NodeEntry) (v x : NodeWalker) → IsTaken e v → IsFree e → x.tree ≡ v.tree → x.owners ≡ v.owners → GoesBelow e v x image ranges → IsAhead x
  opened e v x k free tree own goes = record {
    tree = tree ∙ k.tree;
    own = own ∙ k.own;
    left = one_met e (ahead image ranges x) (subst HasMet (sym (ap (λ (es : List NodeEntry). es ++ ahead image ranges v) (ahead_of v e k.tree k.own)) ∙ goes) k.left) free;
  }

  pub taken_among : (e : NodeEntry) (v : NodeWalker) → IsTaken e v → Contains nodes e
  taken_among e v k = entry_among e (ahead image ranges v) k.left

  -- or it breaks a rule
  pub refused : (e : NodeEntry) (v x : NodeWalker) (a : BtrAnswer) → IsTaken e v → Refuses e v x image ranges a → IsAmong (wrong image ranges t) a
  refused e v x (Refused r) k bad =
      one_refused e r (taken_among e v k)
      (subst (λ (o : Owners). Contains (refusals_at image ranges t o e.pointer) r) k.own (subst (λ (x : Tree). Contains (refusals_at image ranges x v.owners e.pointer) r) k.tree bad.0))
  refused e v x Fault k bad = tt
  refused e v x Memory k bad = absurd bad
