-- The list of paths, from what the root reaches over the links in another order.
use Rattle.fs_paths.proofs.Imports.{◌≡◌, ℕ, ◌+◌, ◌<◌, Bool, true, false, cond, not, nat_eq, nat_cmp, List, [], ◌∷◌, map, length, get_or, count_by, Contains, IsPermutation, IsSortedBy, Ordering, Less, Equal, Greater, is_lt, refl, sym, ap, ◌∙◌, true≢false, arith, IsTotalOrder, slice_cmp, pointwise, AllAdjacentBelow, position_or_len, ordering_then, ordering_reverse, and_parts, and_from, nat_tests, nat_list_cmp_total, lists_total, tied_itself, get_or-map, length-map, All-map, All-contains, IsPermutation-sym, All-permutation, Contains-permutation, sum_by-IsPermutation, NameList, path_cmp, is_same_path, PathFound, NodeLink, PathTo, NodeId, Leads, AreNamedOnce, ArePaths, leads_to, numbered, is_of, names_node, has_name, FormTree, Reaches}
use Rattle.fs_paths.proofs.Counts.{count_map, count_none, count_once, count_twice}
use Rattle.fs_paths.proofs.Lists.{in_map}
use Rattle.fs_paths.proofs.Nodes.{same_node-true, same_name-true}

-- links that make a tree, by counts
pub tree_from_named : (links : List NodeLink) (root : NodeId) → AreNamedOnce links root → FormTree links root
tree_from_named links root named = record {
  not_root = count_none (names_node root) links (λ link among. other link among (names_node root link) refl);
  directories = λ link among. count_once (names_node link.dir) links (λ i j d below within first second.
      let one = same_node-true (get_or links i d).target link.dir first in
      let two = same_node-true (get_or links j d).target link.dir second in
      named.directories i j d below within (one ∙ sym two) link among (sym one));
  names = λ dir name. count_once (has_name dir name) links (λ i j d below within first second.
      let one = and_parts (is_of dir (get_or links i d)) (pointwise nat_eq (get_or links i d).name name) first in
      let two = and_parts (is_of dir (get_or links j d)) (pointwise nat_eq (get_or links j d).name name) second in
      named.names i j d below within (sym (same_node-true dir (get_or links i d).dir one.0) ∙ same_node-true dir (get_or links j d).dir two.0)
      (same_name-true (get_or links i d).name name one.1 ∙ sym (same_name-true (get_or links j d).name name two.1)));
}
  where
    other : (link : NodeLink) → Contains links link → (b : Bool) → names_node root link ≡ b → b ≡ false
    other link among true is = absurd (named.not_root link among (same_node-true link.target root is))
    other link among false is = refl

-- a way over links that stand in another list too
pub leads_among : (xs ys : List NodeLink) → ((link : NodeLink) → Contains xs link → Contains ys link) → (from to : NodeId) (path : NameList) → Leads xs from path to → Leads ys from path to
leads_among xs ys all from to [] leads = leads
leads_among xs ys all from to (name ∷ names) leads = (leads.0, all leads.0 leads.1, leads.2, leads.3, leads_among xs ys all leads.0.target to names leads.4)

module _ (links sorted : List NodeLink) (root : NodeId) (same : IsPermutation links sorted) where
  pub tree_sorted : FormTree links root → FormTree sorted root
  tree_sorted tree = record {
    not_root = sum_by-IsPermutation (λ link. cond (names_node root link) 1 0) links sorted same ∙ tree.not_root;
    directories = λ link among.
        let count = sum_by-IsPermutation (λ l. cond (names_node link.dir l) 1 0) links sorted same in
        let few = tree.directories link (Contains-permutation sorted links link (IsPermutation-sym links sorted same) among) in
        omega (arith, count, few);
    names = λ dir name.
        let count = sum_by-IsPermutation (λ l. cond (has_name dir name l) 1 0) links sorted same in
        let few = tree.names dir name in
        omega (arith, count, few);
  }

  pub reaches_sorted : (found list : List PathFound) → IsPermutation found list → Reaches sorted root found → Reaches links root list
  reaches_sorted found list moved reaches = record {
    leads = All-permutation (λ f. Leads links root f.path f.target) found list moved
        (λ k d within. leads_among sorted links (λ link among. Contains-permutation sorted links link (IsPermutation-sym links sorted same) among) root (get_or found k d).target (get_or found k d).path (reaches.leads k d within));
    whole = λ path to leads.
        let has = reaches.whole path to (leads_among links sorted (λ link among. Contains-permutation links sorted link same among) root to path leads) in
        (has.0, Contains-permutation found list has.0 moved has.1, has.2, has.3);
    once = λ path.
        let count = sum_by-IsPermutation (λ (f : PathFound). cond (is_same_path f.path path) 1 0) found list moved in
        let few = reaches.once path in
        omega (arith, count, few);
  }

less_equal : Less ≡ Equal → ⊥
less_equal is = cc

greater_equal : Greater ≡ Equal → ⊥
greater_equal is = cc

-- what compares as equal
cmp_equal : {X : Type 0} (R : X → X → Ordering) (E : X → X → Bool) → ((x y : X) → R x y ≡ Equal → E x y ≡ true) → (xs ys : List X) → slice_cmp R xs ys ≡ Equal → pointwise E xs ys ≡ true
cmp_equal R E same [] [] is = refl
cmp_equal R E same [] (y ∷ ys) is = absurd (less_equal is)
cmp_equal R E same (x ∷ xs) [] is = absurd (greater_equal is)
cmp_equal {X} R E same (x ∷ xs) (y ∷ ys) is = by (R x y) refl is (cmp_equal R E same xs ys)
  where
    by : (o : Ordering) → R x y ≡ o → ordering_then (R x y) (slice_cmp R xs ys) ≡ Equal → (slice_cmp R xs ys ≡ Equal → pointwise E xs ys ≡ true) → pointwise E (x ∷ xs) (y ∷ ys) ≡ true
    by Less first whole rest = absurd (less_equal (sym (ap (λ (o : Ordering). ordering_then o (slice_cmp R xs ys)) first) ∙ whole))
    by Equal first whole rest = and_from (E x y) (pointwise E xs ys) (same x y first) (rest (sym (ap (λ (o : Ordering). ordering_then o (slice_cmp R xs ys)) first) ∙ whole))
    by Greater first whole rest = absurd (greater_equal (sym (ap (λ (o : Ordering). ordering_then o (slice_cmp R xs ys)) first) ∙ whole))

name_equal : (x y : ℕ) → nat_cmp x y ≡ Equal → nat_eq x y ≡ true
name_equal x y is = grind (arith, nat_tests)

pub path_total : IsTotalOrder path_cmp
path_total = lists_total nat_list_cmp_total

pub path_equal : (a b : NameList) → path_cmp a b ≡ Equal → is_same_path a b ≡ true
path_equal = cmp_equal (slice_cmp nat_cmp) (pointwise nat_eq) (cmp_equal nat_cmp nat_eq name_equal)

-- not above, and not the same
below : (a b : NameList) → is_lt (path_cmp b a) ≡ false → (path_cmp a b ≡ Equal → ⊥) → path_cmp a b ≡ Less
below a b not_lt other = by (path_cmp a b) (path_cmp b a) refl refl (path_total.antisymm a b)
  where
    by : (o p : Ordering) → path_cmp a b ≡ o → path_cmp b a ≡ p → o ≡ ordering_reverse p → o ≡ Less
    by o Less one two turned = absurd (true≢false (sym (ap is_lt two) ∙ not_lt))
    by o Equal one two turned = absurd (other (one ∙ turned))
    by o Greater one two turned = turned

position_map : {X Y : Type 0} (p : Y → Bool) (f : X → Y) (xs : List X) → position_or_len p (map f xs) ≡ position_or_len (λ x. p (f x)) xs
position_map p f [] = refl
position_map p f (x ∷ xs) = ap (λ (n : ℕ). cond (not (p (f x))) (1 + n) 0) (position_map p f xs)

pub listed : (links : List NodeLink) (root : NodeId) (found : List PathFound) → Reaches links root found → IsSortedBy (λ f g. is_lt (path_cmp f.path g.path)) found → ArePaths links root (map (numbered found) found)
listed links root found reaches sorted = record {
  ascends = ascends;
  leads = λ p among. All-contains (λ (q : PathTo). Leads links root q.path q.target) list p (All-map (λ (q : PathTo). Leads links root q.path q.target) (numbered found) found reaches.leads) among;
  whole = λ path to leads. let has = reaches.whole path to leads in (numbered found has.0, in_map (numbered found) found has.0 has.1, has.2, has.3);
  least = λ p among. All-contains (λ (q : PathTo). q.least ≡ position_or_len (leads_to q.target) list) list p
      (All-map (λ (q : PathTo). q.least ≡ position_or_len (leads_to q.target) list) (numbered found) found (λ k d within. sym (position_map (leads_to (get_or found k d).target) (numbered found) found))) among;
  names = λ p among. All-contains (λ (q : PathTo). q.names ≡ count_by (leads_to q.target) list) list p
      (All-map (λ (q : PathTo). q.names ≡ count_by (leads_to q.target) list) (numbered found) found (λ k d within. sym (count_map (leads_to (get_or found k d).target) (numbered found) found))) among;
}
  where
    list : List PathTo
    list = map (numbered found) found

    twice : (k : ℕ) (any : PathFound) → k + 1 < length found → is_same_path (get_or found k any).path (get_or found (k + 1) any).path ≡ true → ⊥
    twice k any within same =
        let path = (get_or found (k + 1) any).path in
        let two = count_twice (λ (f : PathFound). is_same_path f.path path) found k (k + 1) any (omega arith) within same (path_equal path path (tied_itself path_total path)) in
        let one = reaches.once path in
        omega (arith, two, one)

    ascends : AllAdjacentBelow (λ (a b : PathTo). path_cmp a.path b.path ≡ Less) list (length list)
    ascends k d within =
        let any : PathFound = record { path = []; target = root } in
        let long = length-map found (numbered found) in
        let lower : k < length found = omega arith in
        let upper : k + 1 < length found = omega arith in
        let this = get_or-map (numbered found) found k any d lower in
        let next = get_or-map (numbered found) found (k + 1) any d upper in
        ap (λ (p : PathTo). path_cmp p.path (get_or list (k + 1) d).path) this
        ∙ (ap (λ (p : PathTo). path_cmp (get_or found k any).path p.path) next
        ∙ below (get_or found k any).path (get_or found (k + 1) any).path (sorted k any (omega arith) upper) (λ same. twice k any upper (path_equal (get_or found k any).path (get_or found (k + 1) any).path same)))
