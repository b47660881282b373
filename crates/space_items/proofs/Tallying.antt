-- The items of the extent tree are counted, one after the other.
use Rattle.space_items.proofs.Imports.{◌≡◌, ℕ, ◌+◌, ◌-◌, ◌*◌, ◌^◌, ◌<◌, ◌≤◌, min, List, [], ◌∷◌, ◌++◌, length, get_or, refl, sym, ◌∙◌, ap, subst, arith, append_assoc, append-nil, length-append, sum_by, All, get_or_at, map-append, All-head, All-tail, All-cons, All-nil, sum_by-cons, ITEM_SIZE, EXTENT_BYTES, Item, Tally, Counted, bytes_of, weight, lengths_of, AreChunks, usable_end, PlannedChunk, Piece, Plan, extent_items, AreNodes, ArePieces, TreeNode}
use Rattle.space_items.proofs.Counting.{apart_fit}
use Rattle.space_items.proofs.Shapes.{bodies_short, items_few}

-- Items of which none is long, and not too many.
pub record AreShort (items : List Item) : Type 0 where
  pub short : All (λ i. length i.1 ≤ 82) items
  pub few : length items ≤ 2 ^ 45

-- The items before those that are still to come were counted.
pub record IsTallied (nodesize : ℕ) (items ahead : List Item) (tally : Tally) : Type 0 where
  pub size : tally.nodesize ≡ nodesize
  pub done : List Item
  pub split : items ≡ done ++ ahead
  pub counted : Counted tally (lengths_of done)

lengths_push : (done : List Item) (i : Item) → lengths_of (done ++ i ∷ []) ≡ lengths_of done ++ length i.1 ∷ []
lengths_push done i = map-append (λ (item : Item). length item.1) done (i ∷ [])

front : {A : Type 0} (P : A → Type 0) (xs ys : List A) → All P (xs ++ ys) → All P xs
front P [] ys all = All-nil P
front P (x ∷ xs) ys all = All-cons P x xs (All-head P x (xs ++ ys) all) (front P xs ys (All-tail P x (xs ++ ys) all))

light : (items : List Item) → All (λ i. length i.1 ≤ 82) items → bytes_of (lengths_of items) ≤ EXTENT_BYTES * length items
light [] all = omega arith
light (i ∷ items) all = omega (arith, sum_by-cons weight (length i.1) (lengths_of items), light items (All-tail (λ j. length j.1 ≤ 82) i items all), All-head (λ j. length j.1 ≤ 82) i items all)

module _ (nodesize : ℕ) (items : List Item) (short : AreShort items) where
  pub tally_begins : (ahead : List Item) (tally : Tally) → ahead ≡ items → tally.nodesize ≡ nodesize → Counted tally [] → IsTallied nodesize items ahead tally
  tally_begins ahead tally same size counted = record { size = size; done = []; split = sym same; counted = counted }

  module _ (ahead rest : List Item) (tally : Tally) (i : Item) (so_far : IsTallied nodesize items ahead tally) (next : ahead ≡ i ∷ rest) where
    whole : items ≡ so_far.done ++ i ∷ rest
    whole = so_far.split ∙ ap (λ is. so_far.done ++ is) next

    pub next_short : length i.1 ≤ 82
    next_short =
        let at : get_or (so_far.done ++ i ∷ rest) (length so_far.done) i ≡ i = get_or_at so_far.done i rest i (length so_far.done) refl in
        let all : All (λ j. length j.1 ≤ 82) (so_far.done ++ i ∷ rest) = subst (All (λ j. length j.1 ≤ 82)) whole short.short in
        let here : length (get_or (so_far.done ++ i ∷ rest) (length so_far.done) i).1 ≤ 82 = all (length so_far.done) i (omega (arith, length-append so_far.done (i ∷ rest))) in
        omega (arith, here, ap (λ (j : Item). length j.1) at)

    pub next_light : tally.bytes + ITEM_SIZE + length i.1 < 2 ^ 60
    next_light =
        let all : All (λ j. length j.1 ≤ 82) (so_far.done ++ i ∷ rest) = subst (All (λ j. length j.1 ≤ 82)) whole short.short in
        omega (
          arith,
          light so_far.done (front (λ j. length j.1 ≤ 82) so_far.done (i ∷ rest) all),
          so_far.counted.total,
          next_short,
          short.few,
          ap (λ is. length is) whole,
          length-append so_far.done (i ∷ rest),
        )

    pub tally_goes_on : (new : Tally) → new.nodesize ≡ tally.nodesize → ((lengths : List ℕ) → Counted tally lengths → Counted new (lengths ++ length i.1 ∷ [])) → IsTallied nodesize items rest new
    tally_goes_on new size on = record {
      size = size ∙ so_far.size;
      done = so_far.done ++ i ∷ [];
      split = whole ∙ sym (append_assoc so_far.done (i ∷ []) rest);
      counted = subst (Counted new) (sym (lengths_push so_far.done i)) (on (lengths_of so_far.done) so_far.counted);
    }

  pub tally_ends : (ahead : List Item) (tally : Tally) → IsTallied nodesize items ahead tally → ahead ≡ [] → Counted tally (lengths_of items)
  tally_ends ahead tally so_far none =
      let all : so_far.done ≡ items = sym (so_far.split ∙ (ap (λ is. so_far.done ++ is) none ∙ append-nil so_far.done)) in
      subst (λ is. Counted tally (lengths_of is)) all so_far.counted

-- There are not too many items.

sum-ge : {A : Type 0} (f : A → ℕ) (xs : List A) → All (λ x. 1 ≤ f x) xs → length xs ≤ sum_by f xs
sum-ge f [] all = omega arith
sum-ge f (x ∷ xs) all = omega (arith, sum_by-cons f x xs, sum-ge f xs (All-tail (λ y. 1 ≤ f y) x xs all), All-head (λ y. 1 ≤ f y) x xs all)

pub few_chunks : (plan : Plan) (blocks : ℕ) (chunks : List PlannedChunk) → AreChunks plan blocks chunks → length chunks ≤ blocks
few_chunks plan blocks chunks are =
    let start : PlannedChunk → ℕ = λ (c : PlannedChunk). c.start in
    let count : PlannedChunk → ℕ = λ (c : PlannedChunk). c.length in
    omega (
      arith,
      sum-ge count chunks (λ k d h. (are.each k d h).not_empty),
      apart_fit start count blocks 0 chunks (omega arith) (λ k d h. omega arith) are.ascending
          (λ k d h. let is = are.each k d h in let ends : (get_or chunks k d).start + (get_or chunks k d).length ≡ min (usable_end blocks) (256 * is.end) = is.ends in omega (arith, ends)),
    )

few_pieces : (pieces : List Piece) → ArePieces pieces → length pieces ≤ 2 ^ 29
few_pieces pieces are =
    let start : Piece → ℕ = λ (p : Piece). p.place in
    let count : Piece → ℕ = λ (p : Piece). p.count in
    omega (
      arith,
      sum-ge count pieces (λ k d h. (are.small k d h).some),
      apart_fit start count (2 ^ 29) 0 pieces (omega arith) (λ k d h. omega arith) are.ascending (λ k d h. (are.small k d h).place),
    )

pub are_short : (plan : Plan) (blocks nodesize : ℕ) (chunks : List PlannedChunk) (pieces : List Piece) (nodes : List TreeNode) → blocks ≤ 2 ^ 29 → AreChunks plan blocks chunks → ArePieces pieces → AreNodes nodes
    → AreShort (extent_items chunks pieces nodes nodesize)
are_short plan blocks nodesize chunks pieces nodes small are are_pieces are_nodes = record {
  short = bodies_short chunks pieces nodes nodesize;
  few = omega (arith, items_few chunks pieces nodes nodesize, few_chunks plan blocks chunks are, small, few_pieces pieces are_pieces, are_nodes.few);
}
