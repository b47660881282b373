-- What a builder holds, and what a disk has of it.
use Rattle.btr_tree.proofs.Imports.{◌≡◌, ℕ, ◌+◌, ◌<◌, ◌≤◌, true, false, List, [], ◌∷◌, ◌++◌, length, Some, None, refl, sym, ◌∙◌, ap, subst, arith, append_assoc, length-append, MatchOption, flat_map, slice_get, length-map, length_push, map-append, ITEM_SIZE, Image, Key, node_bytes, room, Item, items_in, keys_of, IsNodeSize, Ascends, ascends, is_before_first, Child, both, joined, Form, Made, AreSlots, IsFresh, NodeReadsBack, taken, with_written, with_item, begun_at, nodes_on, Building, Standing, Stands, Holds, HasPut, IsIdle, IsInHand, IsNextTaken, pushed, pushed_on, told_nodes, all_made, leaf_begun, leaf_closed, leaves_of}
use Rattle.btr_tree.proofs.RaisingFronts.{whole_count}
use Rattle.btr_tree.proofs.Standing.{stands_new, fresh_whole, stands_first, stands_next, stands_fits, leaves_next, some_leaf, pushed_same}

-- nothing was pushed
module _ (m : Made) (form : Form) (owner generation : ℕ) (chunk_tree slots offsets : List ℕ) (size : IsNodeSize form.nodesize) (right : AreSlots form.nodesize offsets) (fresh : IsFresh form owner generation chunk_tree slots offsets m) where
  abbrev begun : List Child → Building
  begun children = record { made = m; children = children; hand = None; spent = false; done = false }

  new_standing : (front : List (List ℕ)) → front ≡ [] → Standing (all_made (begun []) front)
  new_standing front none = stands_new (with_written m front) form owner generation chunk_tree slots offsets size right (fresh_whole m form owner generation chunk_tree slots offsets front none fresh)

  new_pushed : (front : List (List ℕ)) → front ≡ [] → pushed (all_made (begun []) front) ≡ []
  new_pushed front none = ap (λ ns. flat_map items_in (ns ++ m.nodes) ++ m.draft.items) none ∙ (ap (λ ns. flat_map items_in ns ++ m.draft.items) fresh.no_nodes ∙ fresh.no_items)

  none_told : (image : Image) → told_nodes (begun []) image ≡ []
  none_told image = ap (λ n. nodes_on image m.form.nodesize m.offsets n) fresh.none_written

  pub new_holds : (children : List Child) → children ≡ [] → Holds (begun children) []
  new_holds children none = subst (λ cs. Holds (begun cs) []) (sym none) (record { front = []; count = sym fresh.none_written; standing = new_standing [] refl; pushed_is = new_pushed [] refl })

  pub new_stands : (children : List Child) → children ≡ [] → (image : Image) → Stands (begun children) image
  new_stands children none image = subst (λ cs. Stands (begun cs) image) (sym none) (new_standing (told_nodes (begun []) image) (none_told image))

first_more : (key : Key) (keys : List Key) (last : Key) → 1 ≤ length keys → is_before_first key keys ≡ true → is_before_first key (keys ++ last ∷ []) ≡ true
first_more key [] last some h = absurd (omega arith)
first_more key (next ∷ keys) last some h = h

-- a key behind the last ones is behind all
ascends_on : (first last : List Key) (key : Key) → Ascends (first ++ last) → 1 ≤ length last → Ascends (last ++ key ∷ []) → Ascends ((first ++ last) ++ key ∷ [])
ascends_on [] last key all some end = end
ascends_on (k ∷ first) last key all some end =
    let parts = both (is_before_first k (first ++ last)) (ascends (first ++ last)) all in
    joined _ _ (first_more k (first ++ last) key (omega (arith, some, length-append first last)) parts.0) (ascends_on first last key parts.1 some end)

order_on : (first last : List Item) (key : Key) (body : List ℕ) → Ascends (keys_of (first ++ last)) → 1 ≤ length last → Ascends (keys_of last ++ key ∷ [])
    → Ascends (keys_of ((first ++ last) ++ (key, body) ∷ []))
order_on first last key body all some end =
    let parts : keys_of (first ++ last) ≡ keys_of first ++ keys_of last = map-append (λ (item : Item). item.0) first last in
    ap ascends (map-append (λ (item : Item). item.0) (first ++ last) ((key, body) ∷ []) ∙ ap (λ ks. ks ++ key ∷ []) parts)
    ∙ ascends_on (keys_of first) (keys_of last) key (sym (ap ascends parts) ∙ all) (omega (arith, some, length-map last (λ (item : Item). item.0))) end

next_whole : (m : Made) (a : ℕ) (front : List (List ℕ)) → length front ≡ m.written → IsNextTaken m a → slice_get m.slots (length (with_written m front).nodes) ≡ Some a
next_whole m a front count at = ap (slice_get m.slots) (sym (whole_count m front count)) ∙ at

-- a first leaf is begun
pub put_first : (b new : Building) (a : ℕ) (key : Key) (body : List ℕ) → b.hand ≡ None → IsNextTaken b.made a → length body + 126 ≤ b.made.form.nodesize → new ≡ leaf_begun b a key body
    → HasPut b new (key, body)
put_first b new a key body none at small is =
    subst (λ (x : Building). HasPut b x (key, body)) (sym is)
    (record {
      same_written = refl;
      put = λ front count standing.
          let x : Building = all_made b front in
          let idle : IsIdle x = subst (λ h. MatchOption h (IsIdle x) (IsInHand x)) none standing.hand in
          let empty : pushed x ≡ [] = ap (λ ns. flat_map items_in ns ++ x.made.draft.items) idle.no_nodes ∙ idle.no_items in
          let order : Ascends (keys_of (pushed x ++ (key, body) ∷ [])) = ap (λ is. ascends (keys_of (is ++ (key, body) ∷ []))) empty in
          record {
            standing = stands_first x a key body standing idle (next_whole b.made a front count at) order small;
            pushed_is =
                ap (λ ns. flat_map items_in ns ++ (key, body) ∷ []) idle.no_nodes ∙ sym (ap (λ is. is ++ (key, body) ∷ []) empty);
          };
    })

-- an item goes into the leaf in hand
pub put_fits : (b : Building) (made : Made) (child : Child) (key : Key) (body : List ℕ) → b.hand ≡ Some child → Ascends (keys_of b.made.draft.items ++ key ∷ []) → ITEM_SIZE + length body ≤ room b.made.draft
    → made ≡ with_item b.made key body → HasPut b (record b { made = made }) (key, body)
put_fits b made child key body some order fits is =
    subst (λ (m : Made). HasPut b (record b { made = m }) (key, body)) (sym is)
    (record {
      same_written = refl;
      put = λ front count standing.
          let x : Building = all_made b front in
          let hand : IsInHand x child = subst (λ h. MatchOption h (IsIdle x) (IsInHand x)) some standing.hand in
          record {
            standing = stands_fits x child key body standing hand some (order_on (flat_map items_in x.made.nodes) x.made.draft.items key body standing.order hand.some order) fits;
            pushed_is = sym (append_assoc (flat_map items_in x.made.nodes) x.made.draft.items ((key, body) ∷ []));
          };
    })

-- the next leaf is begun
pub put_next : (b new : Building) (child : Child) (a : ℕ) (key : Key) (body : List ℕ) → b.hand ≡ Some child → Ascends (keys_of b.made.draft.items ++ key ∷ []) → room b.made.draft < ITEM_SIZE + length body
    → NodeReadsBack b.made.draft (node_bytes b.made.draft) → IsNextTaken (leaf_closed b child).made a → new ≡ leaf_begun (leaf_closed b child) a key body → HasPut b new (key, body)
put_next b new child a key body some order full read at is =
    subst (λ (x : Building). HasPut b x (key, body)) (sym is)
    (record {
      same_written = refl;
      put = λ front count standing.
          let x : Building = all_made b front in
          let bytes : List ℕ = node_bytes b.made.draft in
          let hand : IsInHand x child = subst (λ h. MatchOption h (IsIdle x) (IsInHand x)) some standing.hand in
          let next : slice_get b.made.slots (length ((front ++ b.made.nodes) ++ bytes ∷ [])) ≡ Some a =
          ap (λ ns. slice_get b.made.slots (length ns)) (append_assoc front b.made.nodes (bytes ∷ [])) ∙ next_whole (leaf_closed b child).made a front count at in
          let at_nodes : List (List ℕ) → Building = λ ns. record (leaf_begun (leaf_closed b child) a key body) { made = record (with_item (begun_at b.made 0 a) key body) { written = 0; nodes = ns } } in
          let stands : Standing (at_nodes ((front ++ b.made.nodes) ++ bytes ∷ [])) =
          stands_next x child standing hand read a key body next (order_on (flat_map items_in x.made.nodes) x.made.draft.items key body standing.order hand.some order) full in
          record {
            standing = subst (λ ns. Standing (at_nodes ns)) (append_assoc front b.made.nodes (bytes ∷ [])) stands;
            pushed_is =
                ap (λ ns. flat_map items_in ns ++ (key, body) ∷ []) (sym (append_assoc front b.made.nodes (bytes ∷ [])))
                ∙ ap (λ is. is ++ (key, body) ∷ []) (pushed_same x child standing hand read);
          };
    })

-- no slot is left for a first leaf
pub first_short : (b : Building) (item : Item) (items : List Item) → Holds b items → b.hand ≡ None → length b.made.slots ≤ taken b.made
    → length b.made.slots < leaves_of b.made.form.nodesize (items ++ item ∷ [])
first_short b item items holds none short =
    let x : Building = all_made b holds.front in
    let idle : IsIdle x = subst (λ h. MatchOption h (IsIdle x) (IsInHand x)) none holds.standing.hand in
    omega (arith, short, whole_count b.made holds.front holds.count, ap (λ ns. length {A = List ℕ} ns) idle.no_nodes, some_leaf b.made.form.nodesize (items ++ item ∷ []))

-- nor for the next one
pub next_short : (b : Building) (child : Child) (key : Key) (body : List ℕ) (items : List Item) → Holds b items → b.hand ≡ Some child → room b.made.draft < ITEM_SIZE + length body
    → length b.made.slots ≤ taken (leaf_closed b child).made → length b.made.slots < leaves_of b.made.form.nodesize (items ++ (key, body) ∷ [])
next_short b child key body items holds some full short =
    let x : Building = all_made b holds.front in
    let hand : IsInHand x child = subst (λ h. MatchOption h (IsIdle x) (IsInHand x)) some holds.standing.hand in
    let many : leaves_of b.made.form.nodesize (pushed x ++ (key, body) ∷ []) ≡ length x.made.nodes + 2 = leaves_next x key body holds.standing hand.no_children hand.size full in
    omega (
      arith,
      short,
      length_push b.made.nodes (node_bytes b.made.draft),
      whole_count b.made holds.front holds.count,
      many,
      ap (λ is. leaves_of b.made.form.nodesize (is ++ (key, body) ∷ [])) holds.pushed_is,
    )
