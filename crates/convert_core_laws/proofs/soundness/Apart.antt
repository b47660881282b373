-- The extents of a converted volume lie apart.
use Rattle.convert_core_laws.proofs.Imports.{◌≡◌, ◌≢◌, ◌⊎◌, ◌≤◌, ◌<◌, ℕ, zero, suc, ◌+◌, ◌*◌, ◌/◌, ◌%◌, ◌^◌, inl, inr, eqb, Bool, cond, List, [], ◌∷◌, length, length-drop, drop, get_or, refl, sym, ap, subst, ◌∙◌, ⊎_elim, arith, All, AllPairs, Contains, flat_map, sum_by, cases_eq, cases_lt, eq-eqb, ne_eqb, sum_by-cons, CHUNK_TREE, EXTENT_TREE, Image, Ids, IsNodeSize, EndsBefore, IsExtent, a_node, node_kind, some_data, Recount, TreeOn, all_trees, Span, IsInSlots, NodePointer, IsMaking, Making, chunk_slots, new_ids, slots, TreesStand, extents_from, nodes_of_others, TreeRoots, piece_not_metadata, piece_not_system, sound, well, slot_unit, IsNewVolume, tree_nodes, lengths_of, all_at, pairs_head, pairs_tail, two_cases, used_of, chunk_items, extent_items, AreNodes, TreeNode, merged_ascend, nodes_at_slots, tree_at, used_few, node_places, places_serve, Options, Piece, recount_for}
use Rattle.reiser_volume.proofs.Reaching.{sum_two}
use Rattle.convert_core_laws.proofs.reading.Numbers.{chunk_slots_few, slots_few}
use Rattle.convert_core_laws.proofs.soundness.AllUses.{data_is, span_of}
use Rattle.convert_core_laws.proofs.soundness.Nodes.{LiesAt, node_lies, of_chunks, of_others}
use Rattle.convert_core_laws.proofs.soundness.Recounting.{nodesize_is}
use Rattle.convert_core_laws.proofs.soundness.Row.{chunked, extended, nodes_sum, row, row_ends, slots_apart, slots_ascend}
use Rattle.convert_core_laws.proofs.soundness.Unreserved.{fit_size, place_aligned, slot_holds}

-- ---- lists

-- how often an address is there
abbrev hits : ℕ → ℕ → ℕ
hits x a = cond (eqb a x) 1 0

no_hits : (x : ℕ) (ts : List TreeNode) → All (λ t. x < t.address) ts → sum_by (λ t. hits x t.address) ts ≡ 0
no_hits x [] all = refl
no_hits x (t ∷ ts) all =
    let first : x < t.address = all 0 t (omega arith) in
    let rest = no_hits x ts (λ i d h. all (suc i) d (omega (arith, h))) in
    let whole = sum_by-cons (λ (u : TreeNode). hits x u.address) t ts in
    let none : hits x t.address ≡ 0 = ap (λ (b : Bool). cond b 1 0) (ne_eqb t.address x (λ e. omega (arith, e, first))) in
    omega (arith, rest, whole, none)

one_hit : (x : ℕ) (ts : List TreeNode) → AllPairs (λ t u. t.address < u.address) ts → sum_by (λ t. hits x t.address) ts ≤ 1
one_hit x [] up = omega arith
one_hit x (t ∷ ts) up =
    let whole = sum_by-cons (λ (u : TreeNode). hits x u.address) t ts in
    ⊎_elim
    (λ (same : t.address ≡ x).
    let none = no_hits x ts (subst (λ (y : ℕ). All (λ u. y < u.address) ts) same (pairs_head (λ (p q : TreeNode). p.address < q.address) t ts up)) in
    let one : hits x t.address ≡ 1 = ap (λ (b : Bool). cond b 1 0) (eq-eqb t.address x same) in
    omega (arith, whole, none, one))
    (λ (other : t.address ≢ x).
    let rest = one_hit x ts (pairs_tail (λ (p q : TreeNode). p.address < q.address) t ts up) in
    let none : hits x t.address ≡ 0 = ap (λ (b : Bool). cond b 1 0) (ne_eqb t.address x other) in
    omega (arith, whole, rest, none))
    (cases_eq t.address x)

left_pairs : (n : ℕ) (xs : List ℕ) → AllPairs (λ a b. a < b) xs → AllPairs (λ a b. a < b) (drop n xs)
left_pairs zero xs up = up
left_pairs (suc n) [] up = up
left_pairs (suc n) (x ∷ xs) up = left_pairs n xs (pairs_tail (λ (a b : ℕ). a < b) x xs up)

pub size_some : (n : ℕ) → IsNodeSize n → 1 ≤ n
size_some n fit =
    ⊎_elim (λ (e : n ≡ 4096). omega (arith, e)) (λ rest. ⊎_elim (λ (e : n ≡ 8192). omega (arith, e)) (λ rest'. ⊎_elim (λ (e : n ≡ 16384). omega (arith, e)) (λ rest''. ⊎_elim (λ (e : n ≡ 32768). omega (arith, e)) (λ (e : n ≡ 65536). omega (arith, e)) rest'') rest') rest) fit

pub size_big : (n : ℕ) → IsNodeSize n → 4096 ≤ n
size_big n fit =
    ⊎_elim (λ (e : n ≡ 4096). omega (arith, e)) (λ rest. ⊎_elim (λ (e : n ≡ 8192). omega (arith, e)) (λ rest'. ⊎_elim (λ (e : n ≡ 16384). omega (arith, e)) (λ rest''. ⊎_elim (λ (e : n ≡ 32768). omega (arith, e)) (λ (e : n ≡ 65536). omega (arith, e)) rest'') rest') rest) fit

-- ranges by their numbers
ends : (a b : Span) (s l t u : ℕ) → a ≡ record { start = s; length = l } → b ≡ record { start = t; length = u } → (s + l ≤ t) ⊎ (t + u ≤ s) → EndsBefore a b ⊎ EndsBefore b a
ends a b s l t u is also apart =
    let one : a.start ≡ s = ap (λ (x : Span). x.start) is in
    let two : a.length ≡ l = ap (λ (x : Span). x.length) is in
    let three : b.start ≡ t = ap (λ (x : Span). x.start) also in
    let four : b.length ≡ u = ap (λ (x : Span). x.length) also in
    ⊎_elim (λ low. inl (omega (arith, one, two, three, low))) (λ high. inr (omega (arith, one, three, four, high))) apart

turned : (a b : Span) → EndsBefore a b ⊎ EndsBefore b a → EndsBefore b a ⊎ EndsBefore a b
turned a b either = ⊎_elim (λ x. inr x) (λ y. inl y) either

-- two nodes of one size
two_nodes : (n a b : ℕ) → IsNodeSize n → a % n ≡ 0 → b % n ≡ 0 → a ≢ b → (a + n ≤ b) ⊎ (b + n ≤ a)
two_nodes n a b fit first second apart =
    ⊎_elim (λ (less : a < b). inl (step a b first second less)) (λ (rest : b ≤ a). inr (step b a second first (above rest))) (cases_lt a b)
  where
    above : b ≤ a → b < a
    above low = ⊎_elim (λ (less : b < a). less) (λ (end : a ≤ b). absurd (apart (omega (arith, low, end)))) (cases_lt b a)

    by : (x : ℕ) → n ≡ x → (p q : ℕ) → (p % x ≡ 0 → q % x ≡ 0 → p < q → p + x ≤ q) → p % n ≡ 0 → q % n ≡ 0 → p < q → p + n ≤ q
    by x e p q is u w less = subst (λ (y : ℕ). p + y ≤ q) (sym e) (is (subst (λ (y : ℕ). p % y ≡ 0) e u) (subst (λ (y : ℕ). q % y ≡ 0) e w) less)

    step : (p q : ℕ) → p % n ≡ 0 → q % n ≡ 0 → p < q → p + n ≤ q
    step p q u w less =
        ⊎_elim (λ (e : n ≡ 4096). by 4096 e p q (λ x y z. omega (arith, x, y, z)) u w less)
        (λ rest. ⊎_elim (λ (e : n ≡ 8192). by 8192 e p q (λ x y z. omega (arith, x, y, z)) u w less)
        (λ rest'. ⊎_elim (λ (e : n ≡ 16384). by 16384 e p q (λ x y z. omega (arith, x, y, z)) u w less)
        (λ rest''. ⊎_elim (λ (e : n ≡ 32768). by 32768 e p q (λ x y z. omega (arith, x, y, z)) u w less) (λ (e : n ≡ 65536). by 65536 e p q (λ x y z. omega (arith, x, y, z)) u w less) rest'')
        rest')
        rest)
        fit

module _ (o : Options) (ids : Ids) (now : ℕ) (image other : Image) (m : Making) (r : TreeRoots) (nodes : List TreeNode) (v : IsNewVolume o ids now image other m r nodes) where
  abbrev making : IsMaking image m
  making = v.new.conversion.making

  abbrev stand : TreesStand image other other m r nodes
  stand = v.new.stands.trees

  abbrev k : Recount
  k = recount_for image other m r nodes

  abbrev n : ℕ
  n = m.options.nodesize

  abbrev fit : IsNodeSize m.options.nodesize
  fit = fit_size o ids now image other m r nodes v

  -- ---- no two nodes are one

  chunk_slots_ascend : AllPairs (λ a b. a < b) (chunk_slots m)
  chunk_slots_ascend =
      let plan = (sound m.volume image m.options m.plan m.pieces making.has_pieces).system in
      (places_serve n (length (used_of image) / 256) m.plan.system fit few plan.ascending inside).ascending
    where
      few : length (used_of image) / 256 < 2 ^ 43
      few = let small = used_few image m making in omega (arith, small)

      inside : All (λ u. u < length (used_of image) / 256) m.plan.system
      inside = λ i d h. let free = (sound m.volume image m.options m.plan m.pieces making.has_pieces).system.free i d h in let end = free.inside in omega (arith, end)

  pub nodes_ascend : AllPairs (λ t u. t.address < u.address) nodes
  nodes_ascend =
      let all = slots_ascend o ids now image other m r nodes v in
      let few = slots_few image m making fit in
      let chunk_few = chunk_slots_few image m making fit in
      let rest : List ℕ = drop (extents_from r) (slots m) in
      let first : AreNodes (row o ids now image other m r nodes v) = nodes_at_slots (row o ids now image other m r nodes v) (slots m) (extents_from r) (row_ends o ids now image other m r nodes v) all (omega (arith, few)) in
      let second : AreNodes (chunked o ids now image other m r nodes v) =
      nodes_at_slots (chunked o ids now image other m r nodes v) (chunk_slots m) (tree_nodes n (lengths_of (chunk_items (new_ids m) m.volume.sup.blocks m.chunks)))
      (tree_at CHUNK_TREE n (lengths_of (chunk_items (new_ids m) m.volume.sup.blocks m.chunks)) (chunk_slots m)) chunk_slots_ascend (omega (arith, chunk_few)) in
      let third : AreNodes (extended o ids now image other m r nodes v) =
      nodes_at_slots (extended o ids now image other m r nodes v) rest (tree_nodes n (lengths_of (extent_items m.chunks m.pieces nodes n)))
      (tree_at EXTENT_TREE n (lengths_of (extent_items m.chunks m.pieces nodes n)) rest) (left_pairs (extents_from r) (slots m) all) (shorter few) in
      subst (AllPairs (λ (t u : TreeNode). t.address < u.address)) (sym stand.nodes_are.is)
      (merged_ascend (nodes_of_others image other m r) (extended o ids now image other m r nodes v)
      (merged_ascend (row o ids now image other m r nodes v) (chunked o ids now image other m r nodes v) first.ascending second.ascending) third.ascending)
    where
      shorter : length (slots m) ≤ 2 ^ 37 → length (drop (extents_from r) (slots m)) < 2 ^ 44
      shorter few = omega (arith, few, length-drop (extents_from r) (slots m))

  pub once : AllPairs (λ p q. p.address ≢ q.address) (flat_map (λ (t : TreeOn). t.nodes) (all_trees k))
  once = λ i j d l h e.
      let all : List NodePointer = flat_map (λ (t : TreeOn). t.nodes) (all_trees k) in
      let x : ℕ = (get_or all i d).address in
      let both = sum_two (λ (p : NodePointer). hits x p.address) all i j d l h in
      let told = nodes_sum o ids now image other m r nodes v (hits x) in
      let most = one_hit x nodes nodes_ascend in
      let first : hits x (get_or all i d).address ≡ 1 = ap (λ (b : Bool). cond b 1 0) (eq-eqb (get_or all i d).address x refl) in
      let second : hits x (get_or all j d).address ≡ 1 = ap (λ (b : Bool). cond b 1 0) (eq-eqb (get_or all j d).address x (sym e)) in
      omega (arith, both, told, most, first, second)

  -- ---- where extents lie

  pub data IsAt (span : Span) (kind : ℕ) : Type 0 where
    in_chunk_slots : (a : ℕ) → Contains (chunk_slots m) a → span ≡ record { start = a; length = m.options.nodesize } → kind ≡ 2 → IsAt span kind
    in_slots : (a : ℕ) → Contains (slots m) a → span ≡ record { start = a; length = m.options.nodesize } → kind ≡ 4 → IsAt span kind
    a_piece : (p : Piece) → Contains m.pieces p → span ≡ span_of p → kind ≡ 1 → IsAt span kind

  pub is_at : (span : Span) (kind : ℕ) → IsExtent k span kind → IsAt span kind
  is_at span kind (some_data d is) = let of = data_is image m making fit other r nodes span d in a_piece of.0 of.1 of.2 is
  is_at span kind (a_node t h node is) =
      by t.number node.0.address (node_lies o ids now image other m r nodes v t node.0 h node.1)
      (node.2 ∙ ap (λ (x : ℕ). let y : Span = record { start = node.0.address; length = x } in y) (nodesize_is m r nodes)) is
    where
      by : (number a : ℕ) → LiesAt o ids now image other m r nodes v number a → span ≡ record { start = a; length = m.options.nodesize } → kind ≡ node_kind number → IsAt span kind
      by number a (of_chunks e l) same kind_is = in_chunk_slots a l same (kind_is ∙ ap (λ (b : Bool). cond b 2 4) (eq-eqb number 3 e))
      by number a (of_others e l) same kind_is = in_slots a l same (kind_is ∙ ap (λ (b : Bool). cond b 2 4) (ne_eqb number 3 e))

  -- a node and a piece
  beside : (units : List ℕ) (a : ℕ) (p : Piece) → 1 ≤ p.count → Contains (node_places n units) a → ((b : ℕ) → p.place ≤ b → b < p.place + p.count → Contains units (b / 256) → ⊥) → (a + n ≤ 4096 * p.place) ⊎ (4096 * p.place + 4096 * p.count ≤ a)
  beside units a p some h apart =
      ⊎_elim
      (λ (cross : 4096 * p.place < a + n).
      ⊎_elim (λ (over : a < 4096 * p.place + 4096 * p.count). absurd (meet cross over)) (λ (end : 4096 * p.place + 4096 * p.count ≤ a). inr end) (cases_lt a (4096 * p.place + 4096 * p.count)))
      (λ (end : a + n ≤ 4096 * p.place). inl end) (cases_lt (4096 * p.place) (a + n))
    where
      unit_of : (b : ℕ) → IsInSlots n (node_places n units) b → Contains units (b / 256)
      unit_of b at = slot_unit n units b fit at

      meet : 4096 * p.place < a + n → a < 4096 * p.place + 4096 * p.count → ⊥
      meet cross over =
          ⊎_elim
          (λ (low : a < 4096 * p.place).
          let block : 4096 * p.place / 4096 ≡ p.place = omega arith in
          let at : IsInSlots n (node_places n units) p.place = subst (IsInSlots n (node_places n units)) block (slot_holds n fit units a (4096 * p.place) h (omega (arith, low)) cross) in
          apart p.place (omega arith) (omega (arith, some)) (unit_of p.place at))
          (λ (high : 4096 * p.place ≤ a).
          apart (a / 4096) (omega (arith, high)) (omega (arith, over)) (unit_of (a / 4096) (slot_holds n fit units a a h (omega arith) (omega (arith, size_some n fit)))))
          (cases_lt a (4096 * p.place))

  abbrev OneOrApart : Span → Span → ℕ → ℕ → Type 0
  OneOrApart a b kind other_kind = ((a ≡ b) × (kind ≡ other_kind)) ⊎ (EndsBefore a b ⊎ EndsBefore b a)

  some_blocks : (p : Piece) → Contains m.pieces p → 1 ≤ p.count
  some_blocks p h = all_at (λ (q : Piece). 1 ≤ q.count) m.pieces p (well m.volume image m.options m.plan m.pieces making.has_pieces).apart.some h

  same_list : (units : List ℕ) (a b : Span) (x y kind other_kind : ℕ) → Contains (node_places n units) x → Contains (node_places n units) y → a ≡ record { start = x; length = n } → b ≡ record { start = y; length = n } → kind ≡ other_kind → OneOrApart a b kind other_kind
  same_list units a b x y kind other_kind h l is also kinds =
      ⊎_elim (λ (same : x ≡ y). inl (is ∙ (ap (λ (z : ℕ). let w : Span = record { start = z; length = n } in w) same ∙ sym also), kinds))
      (λ (other_ : x ≢ y). inr (ends a b x n y n is also (two_nodes n x y fit (place_aligned n fit units x h) (place_aligned n fit units y l) other_))) (cases_eq x y)

  of_two_lists : (a b : Span) (x y : ℕ) → Contains (chunk_slots m) x → Contains (slots m) y → a ≡ record { start = x; length = n } → b ≡ record { start = y; length = n } → EndsBefore a b ⊎ EndsBefore b a
  of_two_lists a b x y h l is also =
      ends a b x n y n is also
      (two_nodes n x y fit (place_aligned n fit m.plan.system x h) (place_aligned n fit m.plan.metadata y l) (λ e. slots_apart o ids now image other m r nodes v y (subst (λ (z : ℕ). Contains (chunk_slots m) z) e h) l))

  chunk_piece : (a b : Span) (x : ℕ) (p : Piece) → Contains (chunk_slots m) x → Contains m.pieces p → a ≡ record { start = x; length = n } → b ≡ span_of p → EndsBefore a b ⊎ EndsBefore b a
  chunk_piece a b x p h l is also =
      ends a b x n (4096 * p.place) (4096 * p.count) is also (beside m.plan.system x p (some_blocks p l) h (λ q low high unit. piece_not_system m.volume image m.options m.plan m.pieces making.has_pieces p l q low high unit))

  slot_piece : (a b : Span) (x : ℕ) (p : Piece) → Contains (slots m) x → Contains m.pieces p → a ≡ record { start = x; length = n } → b ≡ span_of p → EndsBefore a b ⊎ EndsBefore b a
  slot_piece a b x p h l is also =
      ends a b x n (4096 * p.place) (4096 * p.count) is also (beside m.plan.metadata x p (some_blocks p l) h (λ q low high unit. piece_not_metadata m.volume image m.options m.plan m.pieces making.has_pieces p l q low high unit))

  two_pieces : (a b : Span) (p q : Piece) (kind other_kind : ℕ) → Contains m.pieces p → Contains m.pieces q → a ≡ span_of p → b ≡ span_of q → kind ≡ other_kind → OneOrApart a b kind other_kind
  two_pieces a b p q kind other_kind h l is also kinds =
      ⊎_elim (λ (same : p ≡ q). inl (is ∙ (ap span_of same ∙ sym also), kinds))
      (λ apart. inr (ends a b (4096 * p.place) (4096 * p.count) (4096 * q.place) (4096 * q.count) is also (⊎_elim (λ low. inl (omega (arith, low))) (λ high. inr (omega (arith, high))) apart)))
      (two_cases (λ (x y : Piece). x.place + x.count ≤ y.place) m.pieces p q (well m.volume image m.options m.plan m.pieces making.has_pieces).apart.ascending h l)

  pub apart : (a b : Span) (kind other_kind : ℕ) → IsExtent k a kind → IsExtent k b other_kind → OneOrApart a b kind other_kind
  apart a b kind other_kind is also = by (is_at a kind is) (is_at b other_kind also)
    where
      by : IsAt a kind → IsAt b other_kind → OneOrApart a b kind other_kind
      by (in_chunk_slots x h e f) (in_chunk_slots y l g j) = same_list m.plan.system a b x y kind other_kind h l e g (f ∙ sym j)
      by (in_chunk_slots x h e f) (in_slots y l g j) = inr (of_two_lists a b x y h l e g)
      by (in_chunk_slots x h e f) (a_piece p l g j) = inr (chunk_piece a b x p h l e g)
      by (in_slots x h e f) (in_chunk_slots y l g j) = inr (turned b a (of_two_lists b a y x l h g e))
      by (in_slots x h e f) (in_slots y l g j) = same_list m.plan.metadata a b x y kind other_kind h l e g (f ∙ sym j)
      by (in_slots x h e f) (a_piece p l g j) = inr (slot_piece a b x p h l e g)
      by (a_piece p h e f) (in_chunk_slots y l g j) = inr (turned b a (chunk_piece b a y p l h g e))
      by (a_piece p h e f) (in_slots y l g j) = inr (turned b a (slot_piece b a y p l h g e))
      by (a_piece p h e f) (a_piece q l g j) = two_pieces a b p q kind other_kind h l e g (f ∙ sym j)
