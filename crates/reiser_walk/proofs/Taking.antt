-- An item that is taken off the leaf in hand, with its blocks_named.
use Rattle.reiser_walk.proofs.Imports.{◌≡◌, ℕ, suc, Bool, true, List, [], ◌∷◌, ◌++◌, length, map, Option, Some, None, Contains, refl, sym, ◌∙◌, ap, subst, append_assoc, ⊎_elim, flat_map, flat_map-append, Contains-append_left, Contains-append_right, Contains-append_cases, Image, ItemHead, head_at, head_place, body_at, VolumeRefusal, KeyOrder, Body, LeafInHand, BlockPointer, ReiserTree, Walker, is_body, ReiserItem, Event, pointer, blocks_named, held_by, item_events, item_of, item_at, leaf_events, tree_events, visits_in, items_of_events, reached_in, unless, is_above, visit_damage, reach_damages, order_damages, body_damage, damages, tree_damages, MarksSeen, seen_after, leaf_rest, pending, rest, last_head_after, IsSoundSoFar, Walks}
use Rattle.reiser_walk.proofs.Events.{items_in-append, reached_in-append, seen_after-append, last_after-append, reach_damages-append, order_damages-append, sound_more}
use Rattle.reiser_walk.proofs.Walking.{reach_in_all}

visits_in_pointers : (rs : List BlockPointer) → visits_in (map pointer rs) ≡ []
visits_in_pointers [] = refl
visits_in_pointers (r ∷ rs) = visits_in_pointers rs

items_in_pointers : (rs : List BlockPointer) → items_of_events (map pointer rs) ≡ []
items_in_pointers [] = refl
items_in_pointers (r ∷ rs) = items_in_pointers rs

reach_in_pointers : (rs : List BlockPointer) → reached_in (map pointer rs) ≡ rs
reach_in_pointers [] = refl
reach_in_pointers (r ∷ rs) = ap (λ (z : List BlockPointer). r ∷ z) (reach_in_pointers rs)

-- the item that comes next, with this head
abbrev pub next_item : LeafInHand → ItemHead → ReiserItem
next_item l head = record { leaf = l.no; head = head; body = body_at l.block.bytes l.at.next }

abbrev pub next_held : LeafInHand → ItemHead → List BlockPointer
next_held l head = held_by l.no (blocks_named head (body_at l.block.bytes l.at.next))

pub next_at : (l : LeafInHand) (head : ItemHead) → head_at l.block.bytes (head_place l.at.next) ≡ Some head → item_at l.no l.block.bytes l.at.next ≡ Some (next_item l head)
next_at l head is = ap (item_of l.no l.block.bytes l.at.next) is

leaf_step : (l : LeafInHand) (head : ItemHead) (left : ℕ) → head_at l.block.bytes (head_place l.at.next) ≡ Some head → l.at.left ≡ suc left
    → leaf_rest l ≡ item_events (next_item l head) ++ leaf_events l.no l.block.bytes (suc l.at.next) left
leaf_step l head left is more = rw (more, is) refl

-- all that is met, in three parts: before the next item, the item with its blocks_named, and after it
module _ (w : Walker) (image : Image) (used : List Bool) (given : List ReiserItem) (head : ItemHead) (k : Walks w image used given)
    (is : head_at w.leaf.block.bytes (head_place w.leaf.at.next) ≡ Some head) (left : ℕ) (more : w.leaf.at.left ≡ suc left) where
  abbrev i : ReiserItem
  i = next_item w.leaf head

  abbrev after : List Event
  after = leaf_events w.leaf.no w.leaf.block.bytes (suc w.leaf.at.next) left ++ pending image (length used) w

  rest_is : rest image (length used) w ≡ item_events i ++ after
  rest_is =
      ap (λ (z : List Event). z ++ pending image (length used) w) (leaf_step w.leaf head left is more)
      ∙ append_assoc (item_events i) (leaf_events w.leaf.no w.leaf.block.bytes (suc w.leaf.at.next) left) (pending image (length used) w)

  whole_is : k.done ++ (item_events i ++ after) ≡ tree_events w.tree image (length used)
  whole_is = ap (λ (z : List Event). k.done ++ z) (sym rest_is) ∙ k.whole

  items_are : items_of_events (k.done ++ (item_events i ++ after)) ≡ items_of_events k.done ++ (i ∷ items_of_events (map pointer (next_held w.leaf head) ++ after))
  items_are = items_in-append k.done (item_events i ++ after)

  reach_is : reached_in (k.done ++ (item_events i ++ after)) ≡ reached_in k.done ++ (next_held w.leaf head ++ reached_in after)
  reach_is =
      reached_in-append k.done (item_events i ++ after)
      ∙ ap (λ (z : List BlockPointer). reached_in k.done ++ z) (reached_in-append (map pointer (next_held w.leaf head)) after ∙ ap (λ (z : List BlockPointer). z ++ reached_in after) (reach_in_pointers (next_held w.leaf head)))

  last_is : last_head_after None (items_of_events k.done) ≡ w.last
  last_is = ap (last_head_after None) k.items ∙ sym k.last

  order_has : (d : VolumeRefusal) → Contains (unless (is_above w.last head) w.leaf.no KeyOrder) d → Contains (order_damages None (items_of_events (k.done ++ (item_events i ++ after)))) d
  order_has d h =
      subst (λ (z : List VolumeRefusal). Contains z d)
      (sym (ap (order_damages None) items_are ∙ order_damages-append None (items_of_events k.done) (i ∷ items_of_events (map pointer (next_held w.leaf head) ++ after))))
      (Contains-append_right (order_damages None (items_of_events k.done)) _ d
      (Contains-append_left _ _ d (subst (λ (z : Option ItemHead). Contains (unless (is_above z head) w.leaf.no KeyOrder) d) (sym last_is) h)))

  bodies_have : (d : VolumeRefusal) → Contains (unless (is_body head (body_at w.leaf.block.bytes w.leaf.at.next)) w.leaf.no Body) d → Contains (flat_map body_damage (items_of_events (k.done ++ (item_events i ++ after)))) d
  bodies_have d h =
      subst (λ (z : List VolumeRefusal). Contains z d)
      (sym (ap (flat_map body_damage) items_are ∙ flat_map-append body_damage (items_of_events k.done) (i ∷ items_of_events (map pointer (next_held w.leaf head) ++ after))))
      (Contains-append_right (flat_map body_damage (items_of_events k.done)) _ d (Contains-append_left _ _ d h))

  reach_has : (d : VolumeRefusal) → Contains (reach_damages w.tree used (seen_after [] (reached_in k.done)) (next_held w.leaf head)) d → Contains (reach_damages w.tree used [] (reached_in (k.done ++ (item_events i ++ after)))) d
  reach_has d h =
      subst (λ (z : List VolumeRefusal). Contains z d)
      (sym (ap (reach_damages w.tree used []) reach_is
      ∙ (reach_damages-append w.tree used [] (reached_in k.done) (next_held w.leaf head ++ reached_in after)
      ∙ ap (λ (z : List VolumeRefusal). reach_damages w.tree used [] (reached_in k.done) ++ z) (reach_damages-append w.tree used (seen_after [] (reached_in k.done)) (next_held w.leaf head) (reached_in after)))))
      (Contains-append_right (reach_damages w.tree used [] (reached_in k.done)) _ d (Contains-append_left _ _ d h))

  pub item_blamed : (d : VolumeRefusal) → Contains (unless (is_above w.last head) w.leaf.no KeyOrder ++ unless (is_body head (body_at w.leaf.block.bytes w.leaf.at.next)) w.leaf.no Body) d
      → Contains (tree_damages w.tree image used) d
  item_blamed d h =
      subst (λ (z : List Event). Contains (damages w.tree image used z) d) whole_is
      (Contains-append_right (flat_map (visit_damage image (length used)) (visits_in (k.done ++ (item_events i ++ after))) ++ reach_damages w.tree used [] (reached_in (k.done ++ (item_events i ++ after)))) _ d
      (⊎_elim (λ above. Contains-append_left _ _ d (order_has d above)) (λ body. Contains-append_right (order_damages None (items_of_events (k.done ++ (item_events i ++ after)))) _ d (bodies_have d body))
      (Contains-append_cases (unless (is_above w.last head) w.leaf.no KeyOrder) (unless (is_body head (body_at w.leaf.block.bytes w.leaf.at.next)) w.leaf.no Body) d h)))

  pub named_blamed : (d : VolumeRefusal) → Contains (reach_damages w.tree used (seen_after [] (reached_in k.done)) (next_held w.leaf head)) d → Contains (tree_damages w.tree image used) d
  named_blamed d h =
      subst (λ (z : List Event). Contains (damages w.tree image used z) d) whole_is (reach_in_all w.tree image used (k.done ++ (item_events i ++ after)) d (reach_has d h))

  -- after the item was taken
  pub item_taken : (v : Walker) → v.tree ≡ w.tree → v.last ≡ Some head → length v.reached ≡ length used
      → leaf_rest v.leaf ≡ leaf_events w.leaf.no w.leaf.block.bytes (suc w.leaf.at.next) left → pending image (length used) v ≡ pending image (length used) w
      → is_above w.last head ≡ true → is_body head (body_at w.leaf.block.bytes w.leaf.at.next) ≡ true
      → reach_damages w.tree used (seen_after [] (reached_in k.done)) (next_held w.leaf head) ≡ []
      → MarksSeen v.reached (seen_after (seen_after [] (reached_in k.done)) (next_held w.leaf head))
      → Walks v image used (given ++ i ∷ [])
  item_taken v tree last size leaf same above body reach marks =
      let es : List Event = item_events i in
      let reach_es : reached_in es ≡ next_held w.leaf head = reach_in_pointers (next_held w.leaf head) in
      let items_es : items_of_events es ≡ i ∷ [] = ap (λ (z : List ReiserItem). i ∷ z) (items_in_pointers (next_held w.leaf head)) in
      let visits : flat_map (visit_damage image (length used)) (visits_in es) ≡ [] = ap (flat_map (visit_damage image (length used))) (visits_in_pointers (next_held w.leaf head)) in
      let order : order_damages (last_head_after None (items_of_events k.done)) (items_of_events es) ≡ [] = ap (order_damages (last_head_after None (items_of_events k.done))) items_es ∙ rw (last_is, above) refl in
      let bodies : flat_map body_damage (items_of_events es) ≡ [] = ap (flat_map body_damage) items_es ∙ rw body refl in
      let seen : seen_after [] (reached_in (k.done ++ es)) ≡ seen_after (seen_after [] (reached_in k.done)) (next_held w.leaf head) =
      ap (seen_after []) (reached_in-append k.done es) ∙ (seen_after-append [] (reached_in k.done) (reached_in es) ∙ ap (seen_after (seen_after [] (reached_in k.done))) reach_es) in
      record {
        done = k.done ++ es;
        size = size;
        whole =
            append_assoc k.done es (rest image (length used) v)
            ∙ (ap (λ (z : List Event). k.done ++ (es ++ (z ++ pending image (length used) v))) leaf
            ∙ (ap (λ (z : List Event). k.done ++ (es ++ (leaf_events w.leaf.no w.leaf.block.bytes (suc w.leaf.at.next) left ++ z))) same
            ∙ (whole_is ∙ ap (λ (t : ReiserTree). tree_events t image (length used)) (sym tree))));
        items = items_in-append k.done es ∙ (ap (λ (z : List ReiserItem). items_of_events k.done ++ z) items_es ∙ ap (λ (z : List ReiserItem). z ++ i ∷ []) k.items);
        marks = subst (λ (z : List ℕ). MarksSeen v.reached z) (sym seen) marks;
        last = last ∙ sym (last_after-append None given (i ∷ []));
        sound = subst (λ (t : ReiserTree). IsSoundSoFar t image used (k.done ++ es)) (sym tree)
            (sound_more w.tree image used k.done es k.sound visits (ap (reach_damages w.tree used (seen_after [] (reached_in k.done))) reach_es ∙ reach) order bodies);
      }
