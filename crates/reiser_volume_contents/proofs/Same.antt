-- Where nothing is wrong with a tree, the used blocks decide it.
use Rattle.reiser_volume_contents.proofs.Imports.{◌≡◌, ◌≢◌, ◌-◌, ◌<◌, ℕ, zero, suc, Bool, true, false, ◌&&◌, nat_lt, List, [], ◌∷◌, ◌++◌, length, All, AllPairs, if◌then◌else◌, refl, sym, ◌∙◌, ap, subst, is_lt, Image, block_at, count, is_leaf, is_inner, pointer_count, child_block_at, key_order, BlockPointer, Event, node, item, pointer, leaf_events, IsNode, FitsHead, is_system_of, Visit, at_children, node_events, tree_events, visits_in, items_of_events, reached_in, reached_in-append, Each, each_from_all, all_from_each, each_map, each_both, sound_exactly}
use Rattle.reiser_volume_objects.specs.reiser_bitmap.Bits.{has}
use Rattle.reiser_volume_contents.specs.Laws.{UsedBlocksDecide}

module _ {X : Type 0} (P : X → Type 0) where
  pub each_left : (xs ys : List X) → Each P (xs ++ ys) → Each P xs
  each_left [] ys h = tt
  each_left (x ∷ xs) ys h = (h.0, each_left xs ys h.1)

  pub each_right : (xs ys : List X) → Each P (xs ++ ys) → Each P ys
  each_right [] ys h = h
  each_right (x ∷ xs) ys h = each_right xs ys h.1

  pub each_append : (xs ys : List X) → Each P xs → Each P ys → Each P (xs ++ ys)
  each_append [] ys h k = k
  each_append (x ∷ xs) ys h k = (h.0, each_append xs ys h.1 k)

module _ (image other : Image) (n : ℕ) where
  -- what a pointer leads to is the same in both
  abbrev Alike : BlockPointer → Type 0
  Alike p = block_at other p.block ≡ block_at image p.block

  same_children : (f g : ℕ → List Event) → ((c : ℕ) → Each Alike (reached_in (g c)) → f c ≡ g c) → (bytes : List ℕ) (i k : ℕ)
      → Each Alike (reached_in (at_children g bytes i k)) → at_children f bytes i k ≡ at_children g bytes i k
  same_children f g same bytes i zero h = refl
  same_children f g same bytes i (suc k) h =
      let parts = subst (λ (ps : List BlockPointer). Each Alike ps) (reached_in-append (g (child_block_at bytes i)) (at_children g bytes (suc i) k)) h in
      let first = each_left Alike (reached_in (g (child_block_at bytes i))) (reached_in (at_children g bytes (suc i) k)) parts in
      let others = each_right Alike (reached_in (g (child_block_at bytes i))) (reached_in (at_children g bytes (suc i) k)) parts in
      ap (λ (z : List Event). z ++ at_children f bytes (suc i) k) (same (child_block_at bytes i) first)
      ∙ ap (λ (z : List Event). g (child_block_at bytes i) ++ z) (same_children f g same bytes (suc i) k others)

  same_nodes : (level holder b : ℕ) → Each Alike (reached_in (node_events image n level holder b)) → node_events other n level holder b ≡ node_events image n level holder b
  unfolding node_events
  same_nodes zero holder b h = refl
  same_nodes (suc zero) holder b h =
      ap (λ (bytes : List ℕ). node (record { block = b; holder = holder }) (suc zero) ∷ (if nat_lt b n && is_leaf bytes then leaf_events b bytes 0 (count bytes) else [])) h.0
  same_nodes (suc (suc level)) holder b h =
      ap (λ (bytes : List ℕ). node (record { block = b; holder = holder }) (suc (suc level)) ∷ (if nat_lt b n && is_inner (suc (suc level)) bytes then at_children (node_events other n (suc level) b) bytes 0 (pointer_count bytes) else [])) h.0
      ∙ ap (λ (events : List Event). node (record { block = b; holder = holder }) (suc (suc level)) ∷ events) (by (λ c. same_nodes (suc level) b c) (nat_lt b n && is_inner (suc (suc level)) (block_at image b)) h.1)
    where
      by : ((c : ℕ) → Each Alike (reached_in (node_events image n (suc level) b c)) → node_events other n (suc level) b c ≡ node_events image n (suc level) b c)
          → (t : Bool) → Each Alike (reached_in (if t then at_children (node_events image n (suc level) b) (block_at image b) 0 (pointer_count (block_at image b)) else []))
          → (if t then at_children (node_events other n (suc level) b) (block_at image b) 0 (pointer_count (block_at image b)) else [])
          ≡ (if t then at_children (node_events image n (suc level) b) (block_at image b) 0 (pointer_count (block_at image b)) else [])
      by below true k = same_children (node_events other n (suc level) b) (node_events image n (suc level) b) below (block_at image b) 0 (pointer_count (block_at image b)) k
      by below false k = refl

-- a visit is of a block that is reached
visits_reach : (P : ℕ → Type 0) (events : List Event) → Each (λ p. P p.block) (reached_in events) → Each (λ v. P v.to.block) (visits_in events)
visits_reach P [] h = tt
visits_reach P (node p level ∷ events) h = (h.0, visits_reach P events h.1)
visits_reach P (item i ∷ events) h = visits_reach P events h
visits_reach P (pointer p ∷ events) h = visits_reach P events h.1

pub same_tree : UsedBlocksDecide
same_tree tree image other used sound same =
    let n = length used in
    let events : List Event = tree_events tree image n in
    let k = (sound_exactly tree image used).0 sound in
    let alike : Each (Alike image other n) (reached_in events) =
    each_map (λ (p : BlockPointer). has used p.block ≡ true) (Alike image other n) (reached_in events) (λ p in_use. same p.block in_use) (each_from_all (λ (p : BlockPointer). has used p.block ≡ true) (reached_in events) k.all_used) in
    let is : tree_events tree other n ≡ events = same_nodes image other n (tree.height - 1) 16 tree.root alike in
    let nodes : All (λ v. IsNode v.level (block_at other v.to.block)) (visits_in events) =
    all_from_each (λ v. IsNode v.level (block_at other v.to.block)) (visits_in events)
    (each_both (λ (v : Visit). IsNode v.level (block_at image v.to.block)) (λ (v : Visit). block_at other v.to.block ≡ block_at image v.to.block) (λ (v : Visit). IsNode v.level (block_at other v.to.block)) (visits_in events)
    (λ v on a. subst (λ (bytes : List ℕ). IsNode v.level bytes) (sym a) on)
    (each_from_all (λ v. IsNode v.level (block_at image v.to.block)) (visits_in events) k.nodes)
    (visits_reach (λ b. block_at other b ≡ block_at image b) events alike)) in
    record {
      events = is;
      sound = (sound_exactly tree other used).1 (record {
        nodes = subst (λ (es : List Event). All (λ v. IsNode v.level (block_at other v.to.block)) (visits_in es)) (sym is) nodes;
        ascending = subst (λ (es : List Event). AllPairs (λ i j. is_lt (key_order i.head j.head) ≡ true) (items_of_events es)) (sym is) k.ascending;
        bodies = subst (λ (es : List Event). All (λ i. FitsHead i.head i.body) (items_of_events es)) (sym is) k.bodies;
        inside = subst (λ (es : List Event). All (λ p. p.block < n) (reached_in es)) (sym is) k.inside;
        all_used = subst (λ (es : List Event). All (λ p. has used p.block ≡ true) (reached_in es)) (sym is) k.all_used;
        no_system = subst (λ (es : List Event). All (λ p. is_system_of tree p.block ≡ false) (reached_in es)) (sym is) k.no_system;
        once = subst (λ (es : List Event). AllPairs (λ p q. p.block ≢ q.block) (reached_in es)) (sym is) k.once;
      });
    }
