-- The links of a tree whose names keep the rules: they make a tree, and lead where the names do.
use Rattle.btr_reader_names.proofs.Imports.{◌≡◌, ◌≢◌, ℕ, Bool, true, false, ◌&&◌, List, [], ◌∷◌, map, filter, get_or, Contains, AllPairs, if◌then◌else◌, refl, sym, ap, subst, ◌∙◌, arith, and_parts, and_from, nat_tests, length-map, get_or-map, Contains-get_or, filter_passes, AllPairs-filter, FIRST_FREE_OBJECTID, BadBtrfs, Body, DirTwice, TreeItem, NodeLink, NodeId, AreNamedOnce, Leads as LinksLead, in_map, in_filter, from_map, from_filter, DirIndex, NameTable, IsDirectoryInode, followed, is_followed, names_inode, names_tree, IsNamedInode, root, entry, Target, inode, tree, NamesTarget as IsNameOf, LeadsToTarget, DifferInName, leads_down, LeadApart, IsOpen, KeepsNames, bad_location, root_named, inode_node, tree_node, node_of_target, target_node, AreNamed, is_open, is_link, link_of, links_of, HasNotedNames, is_dir}
use Rattle.fs_paths.specs.fs_rows.Rows.{NameList}
use Rattle.btr_reader_names.specs.TreeLinks.{AreTreeLinks}
use Rattle.btr_reader_names.proofs.Reaching.{followed_from, followed_to, open_from, open_to}

-- pairs of what is made of the elements, and of those that pass
all_pairs_map : {X Y : Type 0} (R : Y → Y → Type 0) (f : X → Y) (xs : List X) → AllPairs (λ x y. R (f x) (f y)) xs → AllPairs R (map f xs)
all_pairs_map R f xs all i j d before within =
    let long = length-map xs f in
    let x = (from_map f xs (get_or (map f xs) j d) (Contains-get_or (map f xs) j d within)).0 in
    let first = get_or-map f xs i x d (omega (arith, before, within, long)) in
    let second = get_or-map f xs j x d (omega (arith, within, long)) in
    subst (λ y. R y (get_or (map f xs) j d)) (sym first) (subst (R (f (get_or xs i x))) (sym second) (all i j x before (omega (arith, within, long))))

all_pairs_passing : {X : Type 0} (R : X → X → Type 0) (p : X → Bool) (xs : List X) → AllPairs (λ x y. p x ≡ true → p y ≡ true → R x y) xs → AllPairs R (filter p xs)
all_pairs_passing R p xs all i j d before within =
    AllPairs-filter (λ x y. p x ≡ true → p y ≡ true → R x y) p xs all i j d before within (filter_passes p xs i d (omega (arith, before, within))) (filter_passes p xs j d within)

-- an inode is no other tree
space_of : (a b : NodeId) → a ≡ b → a.space ≡ b.space
space_of a b is = ap (λ (n : NodeId). n.space) is

number_of : (a b : NodeId) → a ≡ b → a.number ≡ b.number
number_of a b is = ap (λ (n : NodeId). n.number) is

inode_target : (b : Bool) (n : DirIndex) (number : ℕ) → (if b then inode_node n.location.objectid else tree_node n.location.objectid) ≡ inode_node number → (b ≡ true) × (n.location.objectid ≡ number)
inode_target true n number is = (refl, number_of (inode_node n.location.objectid) (inode_node number) is)
inode_target false n number is = let s = space_of (tree_node n.location.objectid) (inode_node number) is in absurd (omega (arith, s))

module _ (t : NameTable) (items : List TreeItem) (noted : HasNotedNames t items) (roots : ℕ → Bool) (root_at : ℕ) (has : NodeId → Bool) (named : AreNamed items has) (keeps : KeepsNames roots items root_at) where
  abbrev links : List NodeLink
  links = links_of t has

  -- a link is an entry of a named directory
  entry_of : (link : NodeLink) → Contains links link → (n : DirIndex) × (link_of n ≡ link) × (is_link t has n ≡ true) × Contains (followed items) n × IsOpen items n.dir
  entry_of link among =
      let made = from_map link_of (filter (is_link t has) t.namings.items) link among in
      let n : DirIndex = made.0 in
      let kept = from_filter (is_link t has) t.namings.items n made.1 in
      let parts = and_parts (is_followed n) (is_open t has n.dir) kept.1 in
      (n, made.2, kept.1, followed_from t items noted n kept.0 parts.0, open_from t items noted has named n.dir parts.1)

  -- an entry that leads to no inode leads to another tree
  tree_named : (n : DirIndex) → Contains (followed items) n → IsOpen items n.dir → names_inode n ≡ false → (b : Bool) → names_tree n ≡ b → b ≡ true
  tree_named n among opened other true is = refl
  tree_named n among opened other false is = absurd (keeps (BadBtrfs n.leaf Body) (bad_location n among opened other is refl))

  target_of : (n : DirIndex) → Contains (followed items) n → IsOpen items n.dir → (b : Bool) → names_inode n ≡ b → (next : Target) × IsNameOf n next × (target_node n ≡ node_of_target next)
  target_of n among opened true is = (inode n.location.objectid, (is, refl), ap (λ (b : Bool). if b then inode_node n.location.objectid else tree_node n.location.objectid) is)
  target_of n among opened false is =
      (tree n.location.objectid, (tree_named n among opened is (names_tree n) refl, refl), ap (λ (b : Bool). if b then inode_node n.location.objectid else tree_node n.location.objectid) is)

  sound : (path : NameList) (from : Target) (node : NodeId) → LinksLead links (node_of_target from) path node → (to : Target) × (node ≡ node_of_target to) × LeadsToTarget items from path to
  sound [] from node is = (from, sym is, refl)
  sound (name ∷ names) (tree number) node (link, among, dir, called, rest) =
      let e = entry_of link among in
      let s = space_of (inode_node e.0.dir) (tree_node number) (ap (λ (l : NodeLink). l.dir) e.1 ∙ dir) in
      absurd (omega (arith, s))
  sound (name ∷ names) (inode ino) node (link, among, dir, called, rest) =
      let e = entry_of link among in
      let n : DirIndex = e.0 in
      let at : n.dir ≡ ino = number_of (inode_node n.dir) (inode_node ino) (ap (λ (l : NodeLink). l.dir) e.1 ∙ dir) in
      let next = target_of n e.3 e.4 (names_inode n) refl in
      let target : link.target ≡ node_of_target next.0 = sym (ap (λ (l : NodeLink). l.target) e.1) ∙ next.2 in
      let later = sound names next.0 node (subst (λ (m : NodeId). LinksLead links m names node) target rest) in (
        later.0,
        later.1,
        (n, next.0, e.3, at, subst (IsDirectoryInode items) at e.4.directory, ap (λ (l : NodeLink). l.name) e.1 ∙ called, next.1, later.2),
      )

  -- where a path stands: an inode that is named, or another tree
  abbrev IsThere : Target → Type 0
  IsThere (inode ino) = IsNamedInode items ino
  IsThere (tree number) = Unit {0}

  target_is : (n : DirIndex) (next : Target) → IsNameOf n next → target_node n ≡ node_of_target next
  target_is n (inode ino) (names, same) = ap (λ (b : Bool). if b then inode_node n.location.objectid else tree_node n.location.objectid) names ∙ ap inode_node same
  target_is n (tree number) (names, same) =
      let other : names_inode n ≡ false = grind (arith, nat_tests, names) in
      ap (λ (b : Bool). if b then inode_node n.location.objectid else tree_node n.location.objectid) other ∙ ap tree_node same

  there_next : (n : DirIndex) (next : Target) → Contains (followed items) n → IsOpen items n.dir → IsNameOf n next → IsThere next
  there_next n (inode ino) among opened (names, same) = subst (IsNamedInode items) same (entry n among opened.named opened.directory names)
  there_next n (tree number) among opened is = tt

  whole : (path : NameList) (from to : Target) → IsThere from → LeadsToTarget items from path to → LinksLead links (node_of_target from) path (node_of_target to)
  whole [] from to there is = ap node_of_target is
  whole (name ∷ names) (tree number) to there leads = absurd leads
  whole (name ∷ names) (inode ino) to there (n, next, among, at, dir, called, names_it, rest) =
      let opened : IsOpen items n.dir = record { named = subst (IsNamedInode items) (sym at) there; directory = subst (IsDirectoryInode items) (sym at) dir } in
      let r = followed_to t items noted n among in
      let passes = and_from (is_followed n) (is_open t has n.dir) r.1 (open_to t items noted has named n.dir opened) in
      let linked = in_map link_of (filter (is_link t has) t.namings.items) n (in_filter (is_link t has) t.namings.items n r.0 passes) in
      let later = whole names next to (there_next n next among opened names_it) rest in
      (link_of n, linked, ap inode_node at, called, subst (λ (m : NodeId). LinksLead links m names (node_of_target to)) (sym (target_is n next names_it)) later)

  -- an entry that names what another entry's directory is leads to a directory
  goes_down : (n : DirIndex) → is_link t has n ≡ true → (link : NodeLink) → Contains links link → link.dir ≡ target_node n → leads_down t has n ≡ true
  goes_down n is link among dir =
      let e = entry_of link among in
      let target = inode_target (names_inode n) n e.0.dir (sym dir ∙ sym (ap (λ (l : NodeLink). l.dir) e.1)) in
      let parts = and_parts (is_followed e.0) (is_open t has e.0.dir) e.2 in
      let more = and_parts (has (inode_node e.0.dir)) (is_dir t e.0.dir) parts.1 in
      and_from (is_link t has n) (names_inode n && is_dir t n.location.objectid) is
      (and_from (names_inode n) (is_dir t n.location.objectid) target.0 (ap (is_dir t) target.1 ∙ more.1))

  module _ (names_once : AllPairs (DifferInName (is_open t has)) t.namings.items) (apart : AllPairs (LeadApart t has) t.namings.items) where
    named_once : AreNamedOnce links (inode_node FIRST_FREE_OBJECTID)
    named_once = record {
      not_root = λ link among same.
          let e = entry_of link among in
          let target = inode_target (names_inode e.0) e.0 FIRST_FREE_OBJECTID (ap (λ (l : NodeLink). l.target) e.1 ∙ same) in
          keeps (BadBtrfs e.0.leaf DirTwice) (root_named e.0 e.3 e.4 target.0 target.1 refl);
      directories = all_pairs_map (λ (a b : NodeLink). a.target ≡ b.target → (link : NodeLink) → Contains links link → link.dir ≢ a.target) link_of (filter (is_link t has) t.namings.items)
          (all_pairs_passing (λ (m n : DirIndex). target_node m ≡ target_node n → (link : NodeLink) → Contains links link → link.dir ≢ target_node m) (is_link t has) t.namings.items
          (λ i j d before within pass_m pass_n same link among dir.
          apart i j d before within (goes_down (get_or t.namings.items i d) pass_m link among dir) (goes_down (get_or t.namings.items j d) pass_n link among (dir ∙ same))
          (same_number (get_or t.namings.items i d) (get_or t.namings.items j d) same)));
      names = all_pairs_map (λ (a b : NodeLink). a.dir ≡ b.dir → a.name ≢ b.name) link_of (filter (is_link t has) t.namings.items)
          (all_pairs_passing (λ (m n : DirIndex). inode_node m.dir ≡ inode_node n.dir → m.name ≢ n.name) (is_link t has) t.namings.items
          (λ i j d before within pass_m pass_n same name.
          let parts = and_parts (is_followed (get_or t.namings.items j d)) (is_open t has (get_or t.namings.items j d).dir) pass_n in
          names_once i j d before within parts.1 (number_of (inode_node (get_or t.namings.items i d).dir) (inode_node (get_or t.namings.items j d).dir) same) name));
    }
      where
        number_is : (b : Bool) (n : DirIndex) → (if b then inode_node n.location.objectid else tree_node n.location.objectid).number ≡ n.location.objectid
        number_is true n = refl
        number_is false n = refl

        same_number : (m n : DirIndex) → target_node m ≡ target_node n → m.location.objectid ≡ n.location.objectid
        same_number m n same = sym (number_is (names_inode m) m) ∙ (number_of (target_node m) (target_node n) same ∙ number_is (names_inode n) n)

    pub tree_links : AreTreeLinks items links
    tree_links = record {
      once = named_once;
      sound = λ path node leads. sound path (inode FIRST_FREE_OBJECTID) node leads;
      whole = λ path to leads. whole path (inode FIRST_FREE_OBJECTID) to root leads;
    }
