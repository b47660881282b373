-- What a walk has given so far, in the words of the whole tree.
use Rattle.reiser_walk.proofs.Imports.{◌≡◌, Bool, true, List, [], ◌++◌, None, length, All, AllPairs, sym, ◌∙◌, ap, subst, flat_map, is_lt, Image, key_order, Walker, ReiserItem, items_of_events, reached_in, FitsHead, order_damages, body_damage, Walks, IsFirstPart, rest}
use Rattle.reiser_walk.proofs.Events.{items_in-append, reached_in-append}
use Rattle.reiser_walk.proofs.Lists.{all_pairs_from_pairs}
use Rattle.reiser_walk.proofs.Rules.{ascending_from, all_fit}

module _ (w : Walker) (image : Image) (used : List Bool) (given : List ReiserItem) (k : Walks w image used given) where
  pub first_part : IsFirstPart w image used given
  first_part = record {
    later = items_of_events (rest image (length used) w);
    items = sym (ap items_of_events k.whole) ∙ (items_in-append k.done (rest image (length used) w) ∙ ap (λ (z : List ReiserItem). z ++ items_of_events (rest image (length used) w)) k.items);
    met = reached_in k.done;
    ahead = reached_in (rest image (length used) w);
    reached = sym (ap reached_in k.whole) ∙ reached_in-append k.done (rest image (length used) w);
    marks = k.marks;
  }
