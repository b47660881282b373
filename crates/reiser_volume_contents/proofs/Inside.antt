-- What holds of each block that a walk of the tree reaches holds of each block that an item names.
use Rattle.reiser_volume_contents.proofs.Imports.{◌≡◌, ◌<◌, ℕ, zero, suc, Bool, true, false, ◌&&◌, nat_lt, List, [], ◌∷◌, ◌++◌, map, Option, Some, None, if◌then◌else◌, refl, sym, subst, Image, block_at, count, is_leaf, is_inner, pointer_count, BlockPointer, ReiserItem, Event, pointer, held_by, blocks_named, item_at, events_of, leaf_events, at_children, node_events, items_of_events, reached_in, items_in-append, reached_in-append, Each}
use Rattle.reiser_volume_contents.proofs.Same.{each_left, each_right, each_append}
use Rattle.reiser_volume_contents.proofs.Trees.{at_each}

module _ (P : ℕ → Type 0) where
  -- each block that an item names has P
  abbrev pub Names : ReiserItem → Type 0
  Names i = Each P (blocks_named i.head i.body)

  abbrev Has : BlockPointer → Type 0
  Has p = P p.block

  abbrev Named : List Event → Type 0
  Named events = Each Has (reached_in events) → Each Names (items_of_events events)

  named_both : (xs ys : List Event) → Named xs → Named ys → Named (xs ++ ys)
  named_both xs ys a b h =
      let parts = subst (λ (ps : List BlockPointer). Each Has ps) (reached_in-append xs ys) h in
      subst (λ (is : List ReiserItem). Each Names is) (sym (items_in-append xs ys))
      (each_append Names (items_of_events xs) (items_of_events ys) (a (each_left Has (reached_in xs) (reached_in ys) parts)) (b (each_right Has (reached_in xs) (reached_in ys) parts)))

  named_pointers : (leaf : ℕ) (bs : List ℕ) → Each Has (reached_in (map pointer (held_by leaf bs))) → Each P bs
  named_pointers leaf [] h = tt
  named_pointers leaf (b ∷ bs) h = (h.0, named_pointers leaf bs h.1)

  no_items : (ps : List BlockPointer) → items_of_events (map pointer ps) ≡ []
  no_items [] = refl
  no_items (p ∷ ps) = no_items ps

  named_one : (o : Option ReiserItem) → Named (events_of o)
  named_one None h = tt
  named_one (Some i) h =
      (named_pointers i.leaf (blocks_named i.head i.body) h, subst (λ (is : List ReiserItem). Each Names is) (sym (no_items (held_by i.leaf (blocks_named i.head i.body)))) tt)

  named_leaf : (b : ℕ) (bytes : List ℕ) (i k : ℕ) → Named (leaf_events b bytes i k)
  named_leaf b bytes i zero h = tt
  named_leaf b bytes i (suc k) h = named_both (events_of (item_at b bytes i)) (leaf_events b bytes (suc i) k) (named_one (item_at b bytes i)) (named_leaf b bytes (suc i) k) h

  -- what is named below a node is reached below it
  pub named_inside : (image : Image) (n level holder b : ℕ) → Named (node_events image n level holder b)
  unfolding node_events
  named_inside image n zero holder b h = tt
  named_inside image n (suc zero) holder b h = by (nat_lt b n && is_leaf (block_at image b)) h.1
    where
      by : (t : Bool) → Named (if t then leaf_events b (block_at image b) 0 (count (block_at image b)) else [])
      by true k = named_leaf b (block_at image b) 0 (count (block_at image b)) k
      by false k = tt
  named_inside image n (suc (suc level)) holder b h = by (λ c. named_inside image n (suc level) b c) (nat_lt b n && is_inner (suc (suc level)) (block_at image b)) h.1
    where
      by : ((c : ℕ) → Named (node_events image n (suc level) b c)) → (t : Bool) → Named (if t then at_children (node_events image n (suc level) b) (block_at image b) 0 (pointer_count (block_at image b)) else [])
      by below true k = at_each Named (λ none. tt) named_both (node_events image n (suc level) b) below (block_at image b) 0 (pointer_count (block_at image b)) k
      by below false k = tt

-- each block that an item names is below m
abbrev pub NamesBelow : ℕ → ReiserItem → Type 0
NamesBelow m = Names (λ (b : ℕ). b < m)
