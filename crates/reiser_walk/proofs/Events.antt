-- Events in two parts.
use Rattle.reiser_walk.proofs.Imports.{◌≡◌, ℕ, Bool, List, [], ◌∷◌, ◌++◌, length, Option, Some, None, refl, sym, ◌∙◌, ap, append_assoc, flat_map, flat_map-append, Image, ItemHead, VolumeRefusal, KeyOrder, BlockPointer, ReiserTree, ReiserItem, Event, node, item, pointer, Visit, visits_in, items_of_events, reached_in, unless, is_above, visit_damage, reach_damage, reach_damages, order_damages, body_damage, seen_after, IsSoundSoFar, last_head_after}

pub visits_in-append : (xs ys : List Event) → visits_in (xs ++ ys) ≡ visits_in xs ++ visits_in ys
visits_in-append [] ys = refl
visits_in-append (node r level ∷ xs) ys = ap (λ (z : List Visit). record { to = r; level = level } ∷ z) (visits_in-append xs ys)
visits_in-append (item i ∷ xs) ys = visits_in-append xs ys
visits_in-append (pointer r ∷ xs) ys = visits_in-append xs ys

pub items_in-append : (xs ys : List Event) → items_of_events (xs ++ ys) ≡ items_of_events xs ++ items_of_events ys
items_in-append [] ys = refl
items_in-append (node r level ∷ xs) ys = items_in-append xs ys
items_in-append (item i ∷ xs) ys = ap (λ (z : List ReiserItem). i ∷ z) (items_in-append xs ys)
items_in-append (pointer r ∷ xs) ys = items_in-append xs ys

pub reached_in-append : (xs ys : List Event) → reached_in (xs ++ ys) ≡ reached_in xs ++ reached_in ys
reached_in-append [] ys = refl
reached_in-append (node r level ∷ xs) ys = ap (λ (z : List BlockPointer). r ∷ z) (reached_in-append xs ys)
reached_in-append (item i ∷ xs) ys = reached_in-append xs ys
reached_in-append (pointer r ∷ xs) ys = ap (λ (z : List BlockPointer). r ∷ z) (reached_in-append xs ys)

pub seen_after-append : (seen : List ℕ) (xs ys : List BlockPointer) → seen_after seen (xs ++ ys) ≡ seen_after (seen_after seen xs) ys
seen_after-append seen [] ys = refl
seen_after-append seen (r ∷ xs) ys = seen_after-append (r.block ∷ seen) xs ys

pub last_after-append : (last : Option ItemHead) (xs ys : List ReiserItem) → last_head_after last (xs ++ ys) ≡ last_head_after (last_head_after last xs) ys
last_after-append last [] ys = refl
last_after-append last (i ∷ xs) ys = last_after-append (Some i.head) xs ys

pub reach_damages-append : (tree : ReiserTree) (used : List Bool) (seen : List ℕ) (xs ys : List BlockPointer) → reach_damages tree used seen (xs ++ ys) ≡ reach_damages tree used seen xs ++ reach_damages tree used (seen_after seen xs) ys
reach_damages-append tree used seen [] ys = refl
reach_damages-append tree used seen (r ∷ xs) ys =
    ap (λ (z : List VolumeRefusal). reach_damage tree used seen r ++ z) (reach_damages-append tree used (r.block ∷ seen) xs ys)
    ∙ sym (append_assoc (reach_damage tree used seen r) (reach_damages tree used (r.block ∷ seen) xs) (reach_damages tree used (seen_after (r.block ∷ seen) xs) ys))

pub order_damages-append : (last : Option ItemHead) (xs ys : List ReiserItem) → order_damages last (xs ++ ys) ≡ order_damages last xs ++ order_damages (last_head_after last xs) ys
order_damages-append last [] ys = refl
order_damages-append last (i ∷ xs) ys =
    ap (λ (z : List VolumeRefusal). unless (is_above last i.head) i.leaf KeyOrder ++ z) (order_damages-append (Some i.head) xs ys)
    ∙ sym (append_assoc (unless (is_above last i.head) i.leaf KeyOrder) (order_damages (Some i.head) xs) (order_damages (last_head_after (Some i.head) xs) ys))

both_none : (xs ys : List VolumeRefusal) → xs ≡ [] → ys ≡ [] → xs ++ ys ≡ []
both_none xs ys a b = rw (a, b) refl

-- events without damage after events without damage
pub sound_more : (tree : ReiserTree) (image : Image) (used : List Bool) (done es : List Event) → IsSoundSoFar tree image used done
    → flat_map (visit_damage image (length used)) (visits_in es) ≡ []
    → reach_damages tree used (seen_after [] (reached_in done)) (reached_in es) ≡ []
    → order_damages (last_head_after None (items_of_events done)) (items_of_events es) ≡ []
    → flat_map body_damage (items_of_events es) ≡ []
    → IsSoundSoFar tree image used (done ++ es)
sound_more tree image used done es sound visits reach order bodies = record {
  visits =
      ap (flat_map (visit_damage image (length used))) (visits_in-append done es)
      ∙ (flat_map-append (visit_damage image (length used)) (visits_in done) (visits_in es) ∙ both_none _ _ sound.visits visits);
  reach =
      ap (reach_damages tree used []) (reached_in-append done es)
      ∙ (reach_damages-append tree used [] (reached_in done) (reached_in es) ∙ both_none _ _ sound.reach reach);
  order =
      ap (order_damages None) (items_in-append done es)
      ∙ (order_damages-append None (items_of_events done) (items_of_events es) ∙ both_none _ _ sound.order order);
  bodies =
      ap (flat_map body_damage) (items_in-append done es)
      ∙ (flat_map-append body_damage (items_of_events done) (items_of_events es) ∙ both_none _ _ sound.bodies bodies);
}
