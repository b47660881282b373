-- What the root reaches, one object after the other.
use Rattle.fs_paths.proofs.Imports.{◌≡◌, ℕ, ◌+◌, ◌<◌, ◌≤◌, Bool, true, false, cond, ◌&&◌, nat_eq, List, [], ◌∷◌, ◌++◌, length, get_or, take, filter, flat_map, sum_by, count_by, Contains, All, ⊎_elim, refl, sym, ap, subst, ◌∙◌, arith, pointwise, take_more, take-append-le, take_all, flat_map_more, length-append, length-map, append_assoc, append-nil, cases_lt, All-append, All-map, All-cons, All-nil, All-filter, All-contains_itself, filter_passes, length-filter, count_by-le-length, sum_by-take-le, sum_by-le-sum_by, NameList, is_same_path, PathFound, NodeLink, NodeId, same_node, Leads, finds, is_of, names_node, has_name, FormTree, child, children, Reaches}
use Rattle.std.proofs.lemmas.List.Concat.{length-flat_map}
use Rattle.fs_paths.proofs.Counts.{count_cons, count_map, count_filter, count_flat, count_none, count_same, count_and, sum_zero, pairs_at_most, and_false}
use Rattle.fs_paths.proofs.Lists.{at_head, in_tail, in_map, in_filter, in_flat_map}
use Rattle.fs_paths.proofs.Nodes.{same_node-true, same_node-self, push_not_nil, nil_not_push, push_push, and_turn, Pushed, empty, more, pushed}

-- the root with its own path
abbrev pub first : NodeId → PathFound
first root = record { path = []; target = root }

-- the list after the objects of the first paths were followed
pub data Walk (links : List NodeLink) (root : NodeId) : List PathFound → ℕ → Type 0 where
  start : Walk links root (first root ∷ []) 0
  step : (found : List PathFound) (i : ℕ) (f : PathFound) → Walk links root found i → i < length found → get_or found i f ≡ f → Walk links root (found ++ children links f) (i + 1)

module _ (links : List NodeLink) (root : NodeId) where
  -- the root, and what is one name below these paths
  abbrev grown : List PathFound → List PathFound
  grown found = first root ∷ flat_map (children links) found

  -- one more path is followed
  grows : (found : List PathFound) (i : ℕ) (f : PathFound) → found ≡ grown (take i found) → i < length found → get_or found i f ≡ f → found ++ children links f ≡ grown (take (i + 1) found)
  grows found i f is within at =
      ap (λ (l : List PathFound). l ++ children links f) is
      ∙ (flat_map_more (children links) (first root ∷ []) (take i found) f
      ∙ ap (λ (l : List PathFound). grown l) (ap (λ (g : PathFound). take i found ++ g ∷ []) (sym at) ∙ sym (take_more found i f within)))

  -- The list is what is below the paths that were followed.
  walk_is : (found : List PathFound) (i : ℕ) → Walk links root found i → (found ≡ grown (take i found)) × (i ≤ length found)
  walk_is _ _ start = (refl, omega arith)
  walk_is _ _ (step found i f walk within at) =
      let before = walk_is found i walk in
      let now = grows found i f before.0 within at in
      let long = length-append found (children links f) in
      let same = take-append-le (i + 1) found (children links f) (omega arith) in
      (now ∙ ap (λ (l : List PathFound). grown l) (sym same), omega (arith, long))

  -- each path leads to its object
  leads_more : (from to : NodeId) (path : NameList) (link : NodeLink) → Leads links from path to → Contains links link → link.dir ≡ to → Leads links from (path ++ link.name ∷ []) link.target
  leads_more from to [] link leads among of = (link, among, of ∙ sym leads, refl, refl)
  leads_more from to (name ∷ names) link leads among of = (leads.0, leads.1, leads.2, leads.3, leads_more leads.0.target to names link leads.4 among of)

  children_lead : (f : PathFound) → Leads links root f.path f.target → All (λ g. Leads links root g.path g.target) (children links f)
  children_lead f leads = All-map (λ g. Leads links root g.path g.target) (child f) (filter (is_of f.target) links) (λ k d within.
      let link = get_or (filter (is_of f.target) links) k d in
      let among = All-filter (is_of f.target) (Contains links) links (All-contains_itself links) k d within in
      let of = same_node-true f.target link.dir (filter_passes (is_of f.target) links k d within) in
      leads_more root f.target f.path link leads among (sym of))

  pub walk_leads : (found : List PathFound) (i : ℕ) → Walk links root found i → All (λ f. Leads links root f.path f.target) found
  walk_leads _ _ start = All-cons (λ f. Leads links root f.path f.target) (first root) [] refl (All-nil (λ f. Leads links root f.path f.target))
  walk_leads _ _ (step found i f walk within at) =
      let before = walk_leads found i walk in
      All-append (λ g. Leads links root g.path g.target) found (children links f) before (children_lead f (subst (λ (g : PathFound). Leads links root g.path g.target) at (before i f within)))

  count_children : (p : PathFound → Bool) (f : PathFound) → count_by p (children links f) ≡ count_by (λ link. is_of f.target link && p (child f link)) links
  count_children p f = count_map p (child f) (filter (is_of f.target) links) ∙ count_filter (λ link. p (child f link)) (is_of f.target) links

  -- a directory is found once
  abbrev FewDirectories : List PathFound → Type 0
  FewDirectories found = (link : NodeLink) → Contains links link → count_by (finds link.dir) found ≤ 1

  few_first : (found : List PathFound) (i : ℕ) → FewDirectories found → FewDirectories (take i found)
  few_first found i few link among = let part = sum_by-take-le (λ f. cond (finds link.dir f) 1 0) found i in let all = few link among in omega (arith, part, all)

  -- an object is found below at most as often as links name it
  few_below : (found : List PathFound) → FewDirectories found → (node : NodeId) → count_by (finds node) (flat_map (children links) found) ≤ count_by (names_node node) links
  few_below found few node =
      let flat = count_flat (finds node) (children links) found ∙ (λ j. sum_by (λ f. count_children (finds node) f j) found) in
      let pairs = pairs_at_most (λ (f : PathFound) (link : NodeLink). is_of f.target link && names_node node link) (names_node node) found links (λ link among. count_and (finds link.dir) (names_node node link) found (few link among)) in
      omega (arith, flat, pairs)

  -- no more paths than links, but for the root's
  short_below : (found : List PathFound) → FewDirectories found → length (flat_map (children links) found) ≤ length links
  short_below found few =
      let flat = length-flat_map (children links) found ∙ (λ j. sum_by (λ f. (length-map (filter (is_of f.target) links) (child f) ∙ length-filter (is_of f.target) links) j) found) in
      let pairs = pairs_at_most (λ (f : PathFound) (link : NodeLink). is_of f.target link) (λ _. true) found links (λ link among. few link among) in
      let all = count_by-le-length (λ (link : NodeLink). true) links in
      omega (arith, flat, pairs, all)

  -- a path is found once
  abbrev at_path : NameList → PathFound → Bool
  at_path path f = is_same_path f.path path

  abbrev Once : List PathFound → Type 0
  Once found = (path : NameList) → count_by (at_path path) found ≤ 1

  once_first : (found : List PathFound) (i : ℕ) → Once found → Once (take i found)
  once_first found i once path = let part = sum_by-take-le (λ f. cond (at_path path f) 1 0) found i in let all = once path in omega (arith, part, all)

  -- no path below is empty
  none_below : (found : List PathFound) → count_by (at_path []) (flat_map (children links) found) ≡ 0
  none_below found =
      count_flat (at_path []) (children links) found
      ∙ sum_zero (λ f. count_by (at_path []) (children links f)) found
      (λ f. count_children (at_path []) f ∙ count_none (λ link. is_of f.target link && at_path [] (child f link)) links (λ link among. ap (λ (b : Bool). is_of f.target link && b) (push_not_nil (pointwise nat_eq) f.path link.name) ∙ and_false (is_of f.target link)))

  module _ (tree : FormTree links root) where
    few_more : (found : List PathFound) → FewDirectories found → FewDirectories (grown found)
    few_more found few link among = by (finds link.dir (first root)) refl
      where
        head : count_by (finds link.dir) (grown found) ≡ cond (finds link.dir (first root)) 1 0 + count_by (finds link.dir) (flat_map (children links) found)
        head = count_cons (finds link.dir) (first root) (flat_map (children links) found)

        by : (b : Bool) → finds link.dir (first root) ≡ b → count_by (finds link.dir) (grown found) ≤ 1
        by true is =
            let one : ◌≡◌ {A = ℕ} (cond (finds link.dir (first root)) 1 0) 1 = ap (λ (b : Bool). cond b 1 0) is in
            let none = ap (λ (n : NodeId). count_by (names_node n) links) (sym (same_node-true root link.dir is)) ∙ tree.not_root in
            omega (arith, head, one, none, few_below found few link.dir)
        by false is =
            let zero : ◌≡◌ {A = ℕ} (cond (finds link.dir (first root)) 1 0) 0 = ap (λ (b : Bool). cond b 1 0) is in
            omega (arith, head, zero, tree.directories link among, few_below found few link.dir)

    once_below : (found : List PathFound) (up : NameList) (name : List ℕ) → count_by (at_path (up ++ name ∷ [])) (flat_map (children links) found) ≤ count_by (at_path up) found
    once_below found up name =
        let flat = count_flat (at_path (up ++ name ∷ [])) (children links) found in
        let each = sum_by-le-sum_by (λ f. count_by (at_path (up ++ name ∷ [])) (children links f)) (λ f. cond (at_path up f) 1 0) found one_child in
        omega (arith, flat, each)
      where
        one_child : (f : PathFound) → count_by (at_path (up ++ name ∷ [])) (children links f) ≤ cond (at_path up f) 1 0
        one_child f =
            let same = count_children (at_path (up ++ name ∷ [])) f ∙ count_same (λ link. is_of f.target link && at_path (up ++ name ∷ []) (child f link)) (λ link. has_name f.target name link && at_path up f) links
            (λ link. ap (λ (b : Bool). is_of f.target link && b) (push_push (pointwise nat_eq) f.path up link.name name) ∙ and_turn (is_of f.target link) (at_path up f) (pointwise nat_eq link.name name)) in
            let few = count_and (has_name f.target name) (at_path up f) links (tree.names f.target name) in
            omega (arith, same, few)

    once_more : (found : List PathFound) → Once found → Once (grown found)
    once_more found once path = by path (pushed path)
      where
        by : (p : NameList) → Pushed p → count_by (at_path p) (grown found) ≤ 1
        by _ empty = let head = count_cons (at_path []) (first root) (flat_map (children links) found) in omega (arith, head, none_below found)
        by _ (more up name) =
            let head = count_cons (at_path (up ++ name ∷ [])) (first root) (flat_map (children links) found) in
            let zero : ◌≡◌ {A = ℕ} (cond (at_path (up ++ name ∷ []) (first root)) 1 0) 0 = ap (λ (b : Bool). cond b 1 0) (nil_not_push (pointwise nat_eq) up name) in
            omega (arith, head, zero, once_below found up name, once up)

    walk_few : (found : List PathFound) (i : ℕ) → Walk links root found i → FewDirectories found
    walk_few _ _ start = few_more [] (λ link among. omega arith)
    walk_few _ _ (step found i f walk within at) =
        let now = grows found i f (walk_is found i walk).0 within at in
        subst FewDirectories (sym now) (few_more (take (i + 1) found) (few_first found (i + 1) (walk_few found i walk)))

    walk_once : (found : List PathFound) (i : ℕ) → Walk links root found i → Once found
    walk_once _ _ start = once_more [] (λ path. omega arith)
    walk_once _ _ (step found i f walk within at) =
        let now = grows found i f (walk_is found i walk).0 within at in
        subst Once (sym now) (once_more (take (i + 1) found) (once_first found (i + 1) (walk_once found i walk)))

    walk_short : (found : List PathFound) (i : ℕ) → Walk links root found i → length found ≤ length links + 1
    walk_short found i walk =
        let now = ap (λ (l : List PathFound). length l) (walk_is found i walk).0 in
        let below = short_below (take i found) (few_first found i (walk_few found i walk)) in
        omega (arith, now, below)

  -- what is closed under links has all paths
  module _ (found : List PathFound) (closed : found ≡ grown found) where
    has_child : (f : PathFound) (link : NodeLink) → Contains found f → Contains links link → link.dir ≡ f.target → Contains found (child f link)
    has_child f link among linked of =
        subst (λ (l : List PathFound). Contains l (child f link)) (sym closed)
        (in_tail (first root) (flat_map (children links) found) (child f link)
        (in_flat_map (children links) found f (child f link) among (in_map (child f) (filter (is_of f.target) links) link (in_filter (is_of f.target) links link linked (ap (same_node f.target) of ∙ same_node-self f.target)))))

    reach_all : (names : NameList) (f : PathFound) (to : NodeId) → Contains found f → Leads links f.target names to → (g : PathFound) × Contains found g × (g.path ≡ f.path ++ names) × (g.target ≡ to)
    reach_all [] f to among leads = (f, among, sym (append-nil f.path), leads)
    reach_all (name ∷ names) f to among leads =
        let link = leads.0 in
        let next = reach_all names (child f link) to (has_child f link among leads.1 leads.2) leads.4 in
        (next.0, next.1, next.2 ∙ (append_assoc f.path (link.name ∷ []) names ∙ ap (λ (n : List ℕ). f.path ++ (n ∷ names)) leads.3), next.3)

    reach_root : (names : NameList) (to : NodeId) → Leads links root names to → (g : PathFound) × Contains found g × (g.path ≡ names) × (g.target ≡ to)
    reach_root names to leads = reach_all names (first root) to (subst (λ (l : List PathFound). Contains l (first root)) (sym closed) (at_head (first root) (flat_map (children links) found))) leads

  -- the list at the end
  pub reaches : (found : List PathFound) (i : ℕ) → Walk links root found i → (i < length found → length found ≤ length links + 1 → ⊥) → FormTree links root → Reaches links root found
  reaches found i walk ended tree = record {
    leads = walk_leads found i walk;
    whole = reach_root found ((walk_is found i walk).0 ∙ ap (λ (l : List PathFound). grown l) (take_all i found all));
    once = walk_once tree found i walk;
  }
    where
      all : length found ≤ i
      all = ⊎_elim (λ less. absurd (ended less (walk_short tree found i walk))) (λ not_less. not_less) (cases_lt i (length found))
