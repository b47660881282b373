-- Lists that ascend are one list where they have the same members; so are lists of rows with the same paths.
use Rattle.fs_paths.proofs.Imports.{◌≡◌, ℕ, ◌+◌, ◌<◌, List, [], ◌∷◌, map, length, get_or, count_by, Contains, Ordering, Less, Equal, ⊎_elim, refl, sym, ap, subst, ◌∙◌, arith, IsTotalOrder, AllAdjacentBelow, IsStrictlySortedBy, tied_itself, get_or-map, length-map, All-contains, sorted_from_all_adjacent, sorted_tail, NameList, WholeRow, AscendsByPath, path_cmp, is_same_path, name_count}
use Rattle.std.proofs.lemmas.Map.Views.{All-after_first}
use Rattle.fs_paths.proofs.Arranging.{path_total}
use Rattle.fs_paths.proofs.Counts.{count_map}
use Rattle.fs_paths.proofs.Lists.{at_head, in_tail, head_or_tail, in_map, from_map}

less_not_equal : Less ≡ Equal → ⊥
less_not_equal is = cc

module _ {K : Type 0} (R : K → K → Ordering) (total : IsTotalOrder R) where
  less_after : (k : K) (ks : List K) (x : K) → IsStrictlySortedBy R (k ∷ ks) → Contains ks x → R k x ≡ Less
  less_after k ks x sorted among = All-contains (λ q. R k q ≡ Less) ks x (All-after_first R k ks sorted) among

  not_below_itself : (k : K) → R k k ≡ Less → ⊥
  not_below_itself k less = less_not_equal (sym less ∙ tied_itself total k)

  -- two lists that ascend strictly and have the same elements are one
  pub one_list : (ks ls : List K) → IsStrictlySortedBy R ks → IsStrictlySortedBy R ls → ((x : K) → Contains ks x → Contains ls x) → ((x : K) → Contains ls x → Contains ks x) → ks ≡ ls
  one_list [] [] first second there back = refl
  one_list [] (l ∷ ls) first second there back = let none = back l (at_head l ls) in absurd (omega (arith, none.1))
  one_list (k ∷ ks) [] first second there back = let none = there k (at_head k ks) in absurd (omega (arith, none.1))
  one_list (k ∷ ks) (l ∷ ls) first second there back =
      let head : k ≡ l =
      ⊎_elim (λ same. sym same)
      (λ k_later. ⊎_elim (λ same. same) (λ l_later. absurd (not_below_itself k (total.trans k l k (less_after k ks l first l_later) (less_after l ls k second k_later)))) (head_or_tail k ks l (back l (at_head l ls))))
      (head_or_tail l ls k (there k (at_head k ks))) in
      let tail : ks ≡ ls =
      one_list ks ls (sorted_tail R k ks first) (sorted_tail R l ls second)
      (λ x among. ⊎_elim (λ same. absurd (not_below_itself k (less_after k ks k first (subst (Contains ks) (sym (head ∙ same)) among)))) (λ later. later) (head_or_tail l ls x (there x (in_tail k ks x among))))
      (λ x among. ⊎_elim (λ same. absurd (not_below_itself l (less_after l ls l second (subst (Contains ls) (sym (sym head ∙ same)) among)))) (λ later. later) (head_or_tail k ks x (back x (in_tail l ls x among)))) in
      λ j. head j ∷ tail j

adjacent : {X : Type 0} (f : X → NameList) (xs : List X) (any : X) → AllAdjacentBelow (λ a b. path_cmp (f a) (f b) ≡ Less) xs (length xs)
    → (k : ℕ) → k + 1 < length (map f xs) → path_cmp (get_or (map f xs) k []) (get_or (map f xs) (k + 1) []) ≡ Less
adjacent f xs any ascends k inside =
    let long = length-map xs f in
    ap (λ (a : NameList). path_cmp a (get_or (map f xs) (k + 1) [])) (get_or-map f xs k any [] (omega (arith, inside, long)))
    ∙ (ap (λ (b : NameList). path_cmp (f (get_or xs k any)) b) (get_or-map f xs (k + 1) any [] (omega (arith, inside, long))) ∙ ascends k any (omega (arith, inside, long)))

-- where each element's path is below the next one's, the paths ascend strictly
pub paths_sorted : {X : Type 0} (f : X → NameList) (xs : List X) → AllAdjacentBelow (λ a b. path_cmp (f a) (f b) ≡ Less) xs (length xs) → IsStrictlySortedBy path_cmp (map f xs)
unfolding IsStrictlySortedBy
paths_sorted f [] ascends = tt
paths_sorted f (x ∷ xs) ascends = sorted_from_all_adjacent path_total (map f (x ∷ xs)) [] (adjacent f (x ∷ xs) x ascends)

module _ {X K : Type 0} (f : X → K) where
  -- lists with the same keys, of which elements with one key are equal by g, are equal by g
  pub same_by_keys : {Y : Type 0} (g : X → Y) (xs ys : List X) → map f xs ≡ map f ys → ((a b : X) → Contains xs a → Contains ys b → f a ≡ f b → g a ≡ g b) → map g xs ≡ map g ys
  same_by_keys g [] [] keys same = refl
  same_by_keys g [] (y ∷ ys) keys same = absurd (omega (arith, ap length keys))
  same_by_keys g (x ∷ xs) [] keys same = absurd (omega (arith, ap length keys))
  same_by_keys g (x ∷ xs) (y ∷ ys) keys same =
      let first : f x ≡ f y = cc in
      let rest : map f xs ≡ map f ys = cc in
      let head = same x y (at_head x xs) (at_head y ys) first in
      let tail = same_by_keys g xs ys rest (λ a b among other. same a b (in_tail x xs a among) (in_tail y ys b other)) in
      λ j. head j ∷ tail j

itself : {X : Type 0} (xs : List X) → map (λ x. x) xs ≡ xs
itself [] = refl
itself (x ∷ xs) = ap (λ ys. x ∷ ys) (itself xs)

-- the second list has a row for each path of the first
abbrev pub HasEachPath : List WholeRow → List WholeRow → Type 0
HasEachPath rows others = (row : WholeRow) → Contains rows row → (other : WholeRow) × Contains others other × (other.path ≡ row.path)

paths_among : (rows others : List WholeRow) → HasEachPath rows others → (path : NameList) → Contains (map (λ (row : WholeRow). row.path) rows) path → Contains (map (λ (row : WholeRow). row.path) others) path
paths_among rows others each path among =
    let row = from_map (λ (row : WholeRow). row.path) rows path among in
    let other = each row.0 row.1 in
    subst (Contains (map (λ (row : WholeRow). row.path) others)) (other.2 ∙ row.2) (in_map (λ (row : WholeRow). row.path) others other.0 other.1)

-- two lists of rows that ascend and have the same paths
module _ (rows others : List WholeRow) (ascends : AscendsByPath rows) (others_ascend : AscendsByPath others) (there : HasEachPath rows others) (back : HasEachPath others rows) where
  pub paths_one : map (λ (row : WholeRow). row.path) rows ≡ map (λ (row : WholeRow). row.path) others
  paths_one =
      one_list path_cmp path_total (map (λ (row : WholeRow). row.path) rows) (map (λ (row : WholeRow). row.path) others)
      (paths_sorted (λ (row : WholeRow). row.path) rows ascends) (paths_sorted (λ (row : WholeRow). row.path) others others_ascend) (paths_among rows others there) (paths_among others rows back)

  -- Where rows of one path have one least path, and are equal if as many rows of both lists have each path as the least
  -- one, the lists are equal.
  pub rows_one : ((a b : WholeRow) → Contains rows a → Contains others b → a.path ≡ b.path → a.least ≡ b.least)
      → (((path : NameList) → name_count rows path ≡ name_count others path) → (a b : WholeRow) → Contains rows a → Contains others b → a.path ≡ b.path → a ≡ b)
      → rows ≡ others
  rows_one least same =
      let path : WholeRow → NameList = λ row. row.path in
      let leasts : map (λ (row : WholeRow). row.least) rows ≡ map (λ (row : WholeRow). row.least) others = same_by_keys path (λ (row : WholeRow). row.least) rows others paths_one least in
      let counts : (p : NameList) → name_count rows p ≡ name_count others p = λ p.
      sym (count_map (λ (q : NameList). is_same_path q p) (λ (row : WholeRow). row.least) rows) ∙ (ap (count_by (λ (q : NameList). is_same_path q p)) leasts ∙ count_map (λ (q : NameList). is_same_path q p) (λ (row : WholeRow). row.least) others) in
      sym (itself rows) ∙ (same_by_keys path (λ (row : WholeRow). row) rows others paths_one (same counts) ∙ itself others)
