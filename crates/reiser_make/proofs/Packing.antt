-- How a leaf is packed, item by item.
use Rattle.reiser_make.proofs.Imports.{◌≡◌, ◌≤◌, ◌<◌, ℕ, ◌+◌, ◌-◌, true, false, List, [], ◌∷◌, ◌++◌, length, take, drop, refl, sym, ap, subst, ◌∙◌, arith, append_assoc, length-append, length-drop, nat_le, cond, drop-drop, take-append-drop, take_at, sum_by-append, nat_tests, bytes_taken, taken_by, leaves_of, packed_behind, node_room, Shape, items_behind, HasFirst, MayPackMore, BeginsLeaves, SampleItem, ItemPlace, Packed, ItemHead}
use Rattle.std.proofs.lemmas.List.{length-take}

abbrev pub leaf_as : ItemHead → ℕ → ℕ → ItemPlace → Packed
leaf_as first count used end = record { first = first; count = count; used = used; end = end }

-- a list whose rest begins with an item
pub take_one_more : {X : Type 0} (all : List X) (n : ℕ) (item : X) (more : List X) → n ≤ length all → drop n all ≡ item ∷ more → take (n + 1) all ≡ take n all ++ item ∷ []
take_one_more all n item more within is =
    let whole : all ≡ (take n all ++ item ∷ []) ++ more =
    sym (take-append-drop n all) ∙ ap (λ z. take n all ++ z) is ∙ sym (append_assoc (take n all) (item ∷ []) more) in
    ap (take (n + 1)) whole ∙ take_at (take n all ++ item ∷ []) more (n + 1) (omega (arith, length-append (take n all) (item ∷ []), length-take n all))

pub drop_one_more : {X : Type 0} (all : List X) (n : ℕ) (item : X) (more : List X) → drop n all ≡ item ∷ more → drop (n + 1) all ≡ more
drop_one_more all n item more is = sym (drop-drop 1 n all) ∙ ap (drop 1) is

pub within_drop : {X : Type 0} (all : List X) (n : ℕ) (item : X) (more : List X) → drop n all ≡ item ∷ more → n + 1 ≤ length all
within_drop all n item more is = omega (arith, length-drop n all, ap length is)

module _ (s : Shape) (all : List SampleItem) (first : ItemHead) (count used : ℕ) (end ahead : ItemPlace) (item : SampleItem) where
  abbrev old : Packed
  old = leaf_as first count used end

  module _ (packing : MayPackMore s all old) (next : items_behind s end ≡ item ∷ items_behind s ahead) where
    rest : drop count all ≡ item ∷ items_behind s ahead
    rest = sym packing.0.end ∙ next

    more : take (count + 1) all ≡ take count all ++ item ∷ []
    more = take_one_more all count item (items_behind s ahead) packing.0.count rest

    pub packing_more : taken_by item ≤ node_room - used → MayPackMore s all (leaf_as first (count + 1) (used + taken_by item) ahead)
    packing_more fits =
        let fitting : nat_le (taken_by item) (node_room - used) ≡ true = grind (arith, nat_tests) in
        let room : node_room - used - taken_by item ≡ node_room - (used + taken_by item) = omega arith in
        let new : Packed = leaf_as first (count + 1) (used + taken_by item) ahead in
        let has : HasFirst s all new = record {
          some = omega arith;
          count = within_drop all count item (items_behind s ahead) rest;
          end = sym (drop_one_more all count item (items_behind s ahead) rest);
          first = packing.0.first;
          used = ap (λ n. n + taken_by item) packing.0.used ∙ sym (ap bytes_taken more ∙ sum_by-append taken_by (take count all) (item ∷ []) ∙ omega arith);
        } in
        let leaves : leaves_of all ≡ packed_behind (take (count + 1) all) (node_room - (used + taken_by item)) (items_behind s ahead) =
        packing.1 ∙ ap (packed_behind (take count all) (node_room - used)) next
        ∙ ap (λ b. cond b (packed_behind (take count all ++ item ∷ []) (node_room - used - taken_by item) (items_behind s ahead)) (take count all ∷ packed_behind (item ∷ []) (node_room - taken_by item) (items_behind s ahead))) fitting
        ∙ ap (λ n. packed_behind (take count all ++ item ∷ []) n (items_behind s ahead)) room
        ∙ ap (λ z. packed_behind z (node_room - (used + taken_by item)) (items_behind s ahead)) (sym more) in
        (has, leaves)
