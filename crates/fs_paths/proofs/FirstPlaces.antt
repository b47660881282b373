-- The places in the list of the paths of a tree.
use Rattle.fs_paths.proofs.Imports.{◌≡◌, ℕ, ◌+◌, ◌<◌, ◌≤◌, Bool, true, false, cond, List, [], ◌∷◌, map, length, get_or, count_by, Contains, Ordering, Less, Equal, Greater, ⊎_elim, refl, sym, ap, subst, ◌∙◌, true≢false, nat_eq, eq-eqb, arith, position_or_len, ordering_reverse, pointwise, and_from, cases_lt, tied_itself, get_or-map, length-map, get_or_default, fails_before_first, passes_at_first, Less-from_sorted, NameList, path_cmp, is_same_path, NodeLink, PathTo, NodeId, same_node, ArePaths, first_path, leads_to}
use Rattle.std.specs.Ordering.{is_le}
use Rattle.fs_paths.proofs.Arranging.{path_total, path_equal}
use Rattle.fs_paths.proofs.Counts.{count_cons}
use Rattle.fs_paths.proofs.Lists.{in_tail}
use Rattle.fs_paths.proofs.Nodes.{same_node-true, same_node-self, pointwise-true, same_name-true}
use Rattle.fs_paths.proofs.OneList.{paths_sorted}

-- tests that say the same are the same
pub both_ways : (a b : Bool) → (a ≡ true → b ≡ true) → (b ≡ true → a ≡ true) → a ≡ b
both_ways true true there back = refl
both_ways false false there back = refl
both_ways true false there back = sym (there refl)
both_ways false true there back = back refl

-- tests that agree on each element count the same
pub count_among : {X : Type 0} (p q : X → Bool) (xs : List X) → ((x : X) → Contains xs x → p x ≡ q x) → count_by p xs ≡ count_by q xs
count_among p q [] same = refl
count_among p q (x ∷ xs) same =
    count_cons p x xs
    ∙ (ap (λ (b : Bool). cond b 1 0 + count_by p xs) (same x (0, omega arith, refl))
    ∙ (ap (λ (n : ℕ). cond (q x) 1 0 + n) (count_among p q xs (λ y among. same y (in_tail x xs y among))) ∙ sym (count_cons q x xs)))

is_first_none : {X : Type 0} (p : X → Bool) (xs : List X) (x : X) → Contains xs x → p x ≡ true → position_or_len p xs < length xs
is_first_none p xs x among pass = ⊎_elim (λ less. less) (λ not_less. absurd (true≢false (sym pass ∙ (ap p (sym among.2) ∙ fails_before_first p xs among.0 x (omega (arith, among.1, not_less)))))) (cases_lt (position_or_len p xs) (length xs))

pub same_names : (a b : NameList) → is_same_path a b ≡ true → a ≡ b
same_names = pointwise-true _ same_name-true

-- each list is the same as itself
itself : {X : Type 0} (E : X → X → Bool) → ((x : X) → E x x ≡ true) → (xs : List X) → pointwise E xs xs ≡ true
itself E same [] = refl
itself E same (x ∷ xs) = and_from (E x x) (pointwise E xs xs) (same x) (itself E same xs)

pub path_itself : (path : NameList) → is_same_path path path ≡ true
path_itself = itself (pointwise nat_eq) (itself nat_eq (λ n. eq-eqb n n refl))

-- two paths neither of which is above the other are one
pub neither_above : (p q : NameList) → is_le (path_cmp p q) ≡ true → is_le (path_cmp q p) ≡ true → p ≡ q
neither_above p q one other = by (path_cmp p q) (path_cmp q p) refl refl (path_total.antisymm p q) one other
  where
    by : (o r : Ordering) → path_cmp p q ≡ o → path_cmp q p ≡ r → o ≡ ordering_reverse r → is_le o ≡ true → is_le r ≡ true → p ≡ q
    by Equal r is also turned low high = same_names p q (path_equal p q is)
    by Less Less is also turned low high = cc
    by Less Equal is also turned low high = cc
    by Less Greater is also turned low high = absurd (true≢false (sym high))
    by Greater r is also turned low high = absurd (true≢false (sym low))

module _ (links : List NodeLink) (root : NodeId) (list : List PathTo) (are : ArePaths links root list) where
  -- the place of the first path to an object is in the list, and the path there leads to the object
  pub first_within : (p : PathTo) → Contains list p → p.least < length list
  first_within p among = subst (λ (n : ℕ). n < length list) (sym (are.least p among)) (is_first_none (leads_to p.target) list p among (same_node-self p.target))

  pub first_leads : (p : PathTo) → Contains list p → (get_or list p.least p).target ≡ p.target
  first_leads p among =
      let place = are.least p among in
      let within = subst (λ (n : ℕ). n < length list) place (first_within p among) in
      same_node-true (get_or list p.least p).target p.target (ap (λ (n : ℕ). leads_to p.target (get_or list n p)) place ∙ passes_at_first (leads_to p.target) list p within)

  pub first_in : (p : PathTo) → Contains list p → Contains list (get_or list p.least p)
  first_in p among = (p.least, first_within p among, get_or_default list p.least (get_or list p.least p) p (first_within p among))

  -- and is not behind the path itself
  pub first_before : (p q : PathTo) → Contains list p → (i : ℕ) → i < length list → get_or list i q ≡ q → q.target ≡ p.target → p.least ≤ i
  first_before p q among i within at to =
      ⊎_elim (λ less. absurd (true≢false (sym (ap (λ (x : PathTo). leads_to p.target x) at ∙ (ap (λ (n : NodeId). same_node n p.target) to ∙ same_node-self p.target)) ∙ fails_before_first (leads_to p.target) list i q (subst (λ (n : ℕ). i < n) (are.least p among) less)))) (λ not_less. not_less) (cases_lt i p.least)

  -- earlier paths are below
  pub below : (i j : ℕ) (d e : PathTo) → i < j → j < length list → path_cmp (get_or list i d).path (get_or list j e).path ≡ Less
  below i j d e before within =
      let ks = map (λ (p : PathTo). p.path) list in
      let long = length-map list (λ (p : PathTo). p.path) in
      let less = Less-from_sorted path_cmp ks i j [] (paths_sorted (λ (p : PathTo). p.path) list are.ascends) before (omega (arith, long, within)) in
      sym (ap (λ (a : NameList). path_cmp a (get_or list j e).path) (get_or-map (λ (p : PathTo). p.path) list i d [] (omega (arith, before, within))))
      ∙ (sym (ap (λ (b : NameList). path_cmp (get_or ks i []) b) (get_or-map (λ (p : PathTo). p.path) list j e [] within)) ∙ less)

  same_below : (a b : NameList) → a ≡ b → path_cmp a b ≡ Less → ⊥
  same_below a b same less = unequal (sym less ∙ (ap (path_cmp a) (sym same) ∙ tied_itself path_total a))
    where
      unequal : Less ≡ Equal → ⊥
      unequal is = cc

  -- two places with one path are one
  pub one_place : (i j : ℕ) (d e : PathTo) → i < length list → j < length list → (get_or list i d).path ≡ (get_or list j e).path → i ≡ j
  one_place i j d e first second same =
      ⊎_elim (λ less. absurd (same_below _ _ same (below i j d e less second)))
      (λ not_less. ⊎_elim (λ less. absurd (same_below _ _ (sym same) (below j i e d less first))) (λ not_more. omega (arith, not_less, not_more)) (cases_lt j i))
      (cases_lt i j)

  -- the least path is at most each other one to the same object
  pub is_least : (p q : PathTo) → Contains list p → Contains list q → q.target ≡ p.target → is_le (path_cmp (first_path list p) q.path) ≡ true
  is_least p q among other to =
      let place = first_before p q among other.0 other.1 other.2 to in
      let to_path : (get_or list other.0 q).path ≡ q.path = ap (λ (x : PathTo). x.path) other.2 in
      ⊎_elim (λ less. ap (λ (b : NameList). is_le (path_cmp (first_path list p) b)) (sym to_path) ∙ ap is_le (below p.least other.0 p q less other.1))
      (λ not_less.
      let one : p.least ≡ other.0 = omega (arith, place, not_less) in
      let same : first_path list p ≡ q.path = ap (λ (x : PathTo). x.path) (ap (λ (n : ℕ). get_or list n p) one ∙ get_or_default list other.0 p q other.1) ∙ to_path in
      ap (λ (a : NameList). is_le (path_cmp a q.path)) same ∙ ap is_le (tied_itself path_total q.path)) (cases_lt p.least other.0)

  -- paths with one least path are those to one object
  pub same_first : (p q : PathTo) → Contains list p → Contains list q → leads_to p.target q ≡ is_same_path (first_path list q) (first_path list p)
  same_first p q among other = both_ways (leads_to p.target q) (is_same_path (first_path list q) (first_path list p)) there back
    where
      there : leads_to p.target q ≡ true → is_same_path (first_path list q) (first_path list p) ≡ true
      there to =
          let same = same_node-true q.target p.target to in
          let place : q.least ≡ p.least = are.least q other ∙ (ap (λ (n : NodeId). position_or_len (leads_to n) list) same ∙ sym (are.least p among)) in
          let path : first_path list q ≡ first_path list p = ap (λ (x : PathTo). x.path) (ap (λ (n : ℕ). get_or list n q) place ∙ get_or_default list p.least q p (first_within p among)) in
          ap (λ (a : NameList). is_same_path a (first_path list p)) path ∙ path_itself (first_path list p)

      back : is_same_path (first_path list q) (first_path list p) ≡ true → leads_to p.target q ≡ true
      back same =
          let place : q.least ≡ p.least = one_place q.least p.least q p (first_within q other) (first_within p among) (same_names (first_path list q) (first_path list p) same) in
          let at : get_or list q.least q ≡ get_or list p.least p = ap (λ (n : ℕ). get_or list n q) place ∙ get_or_default list p.least q p (first_within p among) in
          let to : q.target ≡ p.target = sym (first_leads q other) ∙ (ap (λ (x : PathTo). x.target) at ∙ first_leads p among) in
          ap (λ (n : NodeId). same_node n p.target) to ∙ same_node-self p.target

  pub names_counted : (p : PathTo) → Contains list p → p.names ≡ count_by (λ q. is_same_path (first_path list q) (first_path list p)) list
  names_counted p among = are.names p among ∙ count_among (leads_to p.target) (λ q. is_same_path (first_path list q) (first_path list p)) list (λ q other. same_first p q among other)
