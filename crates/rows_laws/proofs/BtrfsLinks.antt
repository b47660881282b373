-- The links of a Btrfs tree whose names keep the rules: they make a tree, and lead where the names do.
use Rattle.rows_laws.proofs.Imports.{◌≡◌, ◌≢◌, ℕ, zero, suc, Bool, true, false, ◌&&◌, List, [], ◌∷◌, map, filter, Contains, Option, Some, None, if◌then◌else◌, refl, sym, ap, subst, ◌∙◌, true≢false, arith, and_from, and_parts, AllPairs-filter, FIRST_FREE_OBJECTID, is_directory, NameList, Kind, Directory, File, Symlink, Character, Block, Fifo, Socket, Subvolume, NodeId, NodeLink, AreNamedOnce, Leads as LinksLead, AreReached, IsReached, IsReachedBy, from_filter, from_map, in_filter, in_map, TreeItem, AreIn, IsOpen, KeepsNames, bad_location, directory_twice, root_named, twice, inode_node, link_of, node_of_target, step_of, target_node, tree_node, BadBtrfs, Body, DirTwice, NameForm}
use Rattle.std.specs.Option.{option_and_then, option_map_or}
use Rattle.std.proofs.lemmas.Bool.Decides.{nat_tests}
use Rattle.btr_reader.specs.btr_keys.declared.inode.Inode.{Inode}
use Rattle.btr_reader.specs.btr_reader_names.declared.dir_index.DirIndex.{DirIndex}
use Rattle.btr_reader.specs.btr_reader_names.Inodes.{IsDirectoryInode, inode_on, kind_of_mode}
use Rattle.btr_reader.specs.btr_reader_names.Links.{IsNamedInode, LeadsToTarget, NamesTarget as IsNameOf, Target, dir_indexes, entry, followed, inode, is_followed, names_inode, names_tree, root, tree}
use Rattle.btr_reader.specs.btr_reader_names.TreeLinks.{AreTreeLinks}
use Rattle.rows_laws.proofs.Pairs.{pairs_map, pairs_of, pairs_passing}
use Rattle.rows_laws.proofs.Reaching.{reached_there}

dir_is : (k : Option Kind) → option_map_or is_directory k false ≡ true → k ≡ Some Directory
dir_is None h = absurd (true≢false (sym h))
dir_is (Some Directory) h = refl
dir_is (Some File) h = absurd (true≢false (sym h))
dir_is (Some Symlink) h = absurd (true≢false (sym h))
dir_is (Some Character) h = absurd (true≢false (sym h))
dir_is (Some Block) h = absurd (true≢false (sym h))
dir_is (Some Fifo) h = absurd (true≢false (sym h))
dir_is (Some Socket) h = absurd (true≢false (sym h))
dir_is (Some Subvolume) h = absurd (true≢false (sym h))

-- an inode is no other tree
space_of : (a b : NodeId) → a ≡ b → a.space ≡ b.space
space_of a b is = ap (λ (n : NodeId). n.space) is

number_of : (a b : NodeId) → a ≡ b → a.number ≡ b.number
number_of a b is = ap (λ (n : NodeId). n.number) is

abbrev node_by : Bool → DirIndex → NodeId
node_by b n = if b then inode_node n.location.objectid else tree_node n.location.objectid

inode_target : (b : Bool) (n : DirIndex) (number : ℕ) → node_by b n ≡ inode_node number → (b ≡ true) × (n.location.objectid ≡ number)
inode_target true n number is = (refl, number_of (inode_node n.location.objectid) (inode_node number) is)
inode_target false n number is = let s = space_of (tree_node n.location.objectid) (inode_node number) is in absurd (omega (arith, s))

module _ (items : List TreeItem) where
  abbrev kind_in : Option Inode → Option Kind
  kind_in own = option_and_then (λ i. kind_of_mode i.mode) own

  -- whether an inode is a directory
  abbrev is_dir : ℕ → Bool
  is_dir ino = option_map_or is_directory (kind_in (inode_on items ino)) false

  dir_from : (ino : ℕ) → is_dir ino ≡ true → IsDirectoryInode items ino
  dir_from ino h = by (inode_on items ino) refl h
    where
      by : (o : Option Inode) → inode_on items ino ≡ o → option_map_or is_directory (kind_in o) false ≡ true → IsDirectoryInode items ino
      by None is has = absurd (true≢false (sym has))
      by (Some own) is has = (own, is, dir_is (kind_of_mode own.mode) has)

  dir_to : (ino : ℕ) → IsDirectoryInode items ino → is_dir ino ≡ true
  dir_to ino d = ap (λ (k : Option Kind). option_map_or is_directory k false) (ap kind_in d.1 ∙ d.2)

  -- from a directory to the inodes that its entries name
  abbrev is_step : DirIndex → Bool
  is_step n = names_inode n && is_dir n.dir

  abbrev steps : List NodeLink
  steps = map step_of (filter is_step (followed items))

  named_from : (count : ℕ) (node : NodeId) → IsReachedBy steps (inode_node FIRST_FREE_OBJECTID) count node → IsNamedInode items node.number
  named_from zero node is = subst (λ (n : NodeId). IsNamedInode items n.number) (sym is) root
  named_from (suc count) node (link, among, names, before) =
      let made = from_map step_of (filter is_step (followed items)) link among in
      let n : DirIndex = made.0 in
      let kept = from_filter is_step (followed items) n made.1 in
      let parts = and_parts (names_inode n) (is_dir n.dir) kept.1 in
      let named : IsNamedInode items n.dir = subst (λ (l : NodeLink). IsNamedInode items l.dir.number) (sym made.2) (named_from count link.dir before) in
      let target : inode_node n.location.objectid ≡ node = ap (λ (l : NodeLink). l.target) made.2 ∙ names in
      subst (λ (m : NodeId). IsNamedInode items m.number) target (entry n kept.0 named (dir_from n.dir parts.1) parts.0)

  named_to : (ino : ℕ) → IsNamedInode items ino → IsReached steps (inode_node FIRST_FREE_OBJECTID) (inode_node ino)
  named_to _ root = (0, refl)
  named_to _ (entry n among named dir names) =
      let before = named_to n.dir named in
      let passes = and_from (names_inode n) (is_dir n.dir) names (dir_to n.dir dir) in
      (suc before.0, (step_of n, in_map step_of (filter is_step (followed items)) n (in_filter is_step (followed items) n among passes), refl, before.1))

  -- where a path stands: an inode that is named, or another tree
  abbrev IsThere : Target → Type 0
  IsThere (inode ino) = IsNamedInode items ino
  IsThere (tree number) = Unit {0}

  target_is : (n : DirIndex) (next : Target) → IsNameOf n next → target_node n ≡ node_of_target next
  target_is n (inode ino) (names, same) = ap (λ (b : Bool). node_by b n) names ∙ ap inode_node same
  target_is n (tree number) (names, same) = let other : names_inode n ≡ false = grind (arith, nat_tests, names) in ap (λ (b : Bool). node_by b n) other ∙ ap tree_node same

  there_next : (n : DirIndex) (next : Target) → Contains (followed items) n → IsOpen items n.dir → IsNameOf n next → IsThere next
  there_next n (inode ino) among opened (names, same) = subst (IsNamedInode items) same (entry n among opened.named opened.directory names)
  there_next n (tree number) among opened is = tt

  module _ (has : NodeId → Bool) (reached : AreReached steps (inode_node FIRST_FREE_OBJECTID) has) (roots : ℕ → Bool) (root_at : ℕ) (keeps : KeepsNames roots items root_at) where
    -- the entry is one of a named directory
    abbrev is_open : DirIndex → Bool
    is_open n = has (inode_node n.dir) && is_dir n.dir

    abbrev opened_entries : List DirIndex
    opened_entries = filter is_open (followed items)

    abbrev links : List NodeLink
    links = map link_of opened_entries

    open_from : (n : DirIndex) → is_open n ≡ true → IsOpen items n.dir
    open_from n is =
        let parts = and_parts (has (inode_node n.dir)) (is_dir n.dir) is in
        let r = reached.sound (inode_node n.dir) parts.0 in
        record { named = named_from r.0 (inode_node n.dir) r.1; directory = dir_from n.dir parts.1 }

    open_to : (n : DirIndex) → IsOpen items n.dir → is_open n ≡ true
    open_to n o = and_from (has (inode_node n.dir)) (is_dir n.dir) (reached.whole (inode_node n.dir) (named_to n.dir o.named)) (dir_to n.dir o.directory)

    -- a link is an entry of a named directory
    entry_of : (link : NodeLink) → Contains links link → (n : DirIndex) × (link_of n ≡ link) × Contains (followed items) n × IsOpen items n.dir
    entry_of link among =
        let made = from_map link_of opened_entries link among in
        let kept = from_filter is_open (followed items) made.0 made.1 in
        (made.0, made.2, kept.0, open_from made.0 kept.1)

    -- an entry that leads to no inode leads to another tree
    tree_named : (n : DirIndex) → Contains (followed items) n → IsOpen items n.dir → names_inode n ≡ false → (b : Bool) → names_tree n ≡ b → b ≡ true
    tree_named n among opened other true is = refl
    tree_named n among opened other false is = absurd (keeps (BadBtrfs n.leaf Body) (bad_location n among opened other is refl))

    target_of : (n : DirIndex) → Contains (followed items) n → IsOpen items n.dir → (b : Bool) → names_inode n ≡ b → (next : Target) × IsNameOf n next × (target_node n ≡ node_of_target next)
    target_of n among opened true is = (inode n.location.objectid, (is, refl), ap (λ (b : Bool). node_by b n) is)
    target_of n among opened false is = (tree n.location.objectid, (tree_named n among opened is (names_tree n) refl, refl), ap (λ (b : Bool). node_by b n) is)

    sound : (path : NameList) (from : Target) (node : NodeId) → LinksLead links (node_of_target from) path node → (to : Target) × (node ≡ node_of_target to) × LeadsToTarget items from path to
    sound [] from node is = (from, sym is, refl)
    sound (name ∷ names) (tree number) node (link, among, dir, called, rest) =
        let e = entry_of link among in
        let s = space_of (inode_node e.0.dir) (tree_node number) (ap (λ (l : NodeLink). l.dir) e.1 ∙ dir) in
        absurd (omega (arith, s))
    sound (name ∷ names) (inode ino) node (link, among, dir, called, rest) =
        let e = entry_of link among in
        let n : DirIndex = e.0 in
        let at : n.dir ≡ ino = number_of (inode_node n.dir) (inode_node ino) (ap (λ (l : NodeLink). l.dir) e.1 ∙ dir) in
        let next = target_of n e.2 e.3 (names_inode n) refl in
        let target : link.target ≡ node_of_target next.0 = sym (ap (λ (l : NodeLink). l.target) e.1) ∙ next.2 in
        let later = sound names next.0 node (subst (λ (m : NodeId). LinksLead links m names node) target rest) in (
          later.0,
          later.1,
          (n, next.0, e.2, at, subst (IsDirectoryInode items) at e.3.directory, ap (λ (l : NodeLink). l.name) e.1 ∙ called, next.1, later.2),
        )

    whole : (path : NameList) (from to : Target) → IsThere from → LeadsToTarget items from path to → LinksLead links (node_of_target from) path (node_of_target to)
    whole [] from to there is = ap node_of_target is
    whole (name ∷ names) (tree number) to there leads = absurd leads
    whole (name ∷ names) (inode ino) to there (n, next, among, at, dir, called, names_it, rest) =
        let opened : IsOpen items n.dir = record { named = subst (IsNamedInode items) (sym at) there; directory = subst (IsDirectoryInode items) (sym at) dir } in
        let linked = in_map link_of opened_entries n (in_filter is_open (followed items) n among (open_to n opened)) in
        let later = whole names next to (there_next n next among opened names_it) rest in
        (link_of n, linked, ap inode_node at, called, subst (λ (m : NodeId). LinksLead links m names (node_of_target to)) (sym (target_is n next names_it)) later)

    -- no link's directory is what both entries name
    abbrev Apart : DirIndex → DirIndex → Type 0
    Apart m n = target_node m ≡ target_node n → (link : NodeLink) → Contains links link → link.dir ≢ target_node m

    apart : (m n : DirIndex) → AreIn (followed items) m n → IsOpen items m.dir → IsOpen items n.dir → Apart m n
    apart m n among open_m open_n same link linked dir =
        let e = entry_of link linked in
        let at : target_node m ≡ inode_node e.0.dir = sym dir ∙ sym (ap (λ (l : NodeLink). l.dir) e.1) in
        let first = inode_target (names_inode m) m e.0.dir at in
        let second = inode_target (names_inode n) n e.0.dir (sym same ∙ at) in
        keeps (BadBtrfs n.leaf DirTwice) (directory_twice m n among open_m open_n first.0 second.0 (first.1 ∙ sym second.1) (subst (IsDirectoryInode items) (sym second.1) e.3.directory) refl)

    -- the entries of one directory have different names
    abbrev OtherName : DirIndex → DirIndex → Type 0
    OtherName m n = inode_node m.dir ≡ inode_node n.dir → m.name ≢ n.name

    abbrev OfOpen : (DirIndex → DirIndex → Type 0) → DirIndex → DirIndex → Type 0
    OfOpen R m n = is_open m ≡ true → is_open n ≡ true → R m n

    once : AreNamedOnce links (inode_node FIRST_FREE_OBJECTID)
    once = record {
      not_root = λ link among same.
          let e = entry_of link among in
          let target = inode_target (names_inode e.0) e.0 FIRST_FREE_OBJECTID (ap (λ (l : NodeLink). l.target) e.1 ∙ same) in
          keeps (BadBtrfs e.0.leaf DirTwice) (root_named e.0 e.2 e.3 target.0 target.1 refl);
      directories = pairs_map (λ (a b : NodeLink). a.target ≡ b.target → (link : NodeLink) → Contains links link → link.dir ≢ a.target) link_of opened_entries
          (pairs_passing Apart is_open (followed items) (pairs_of (OfOpen Apart) (followed items) (λ m n among open_m open_n. apart m n among (open_from m open_m) (open_from n open_n))));
      names = pairs_map (λ (a b : NodeLink). a.dir ≡ b.dir → a.name ≢ b.name) link_of opened_entries
          (pairs_passing OtherName is_open (followed items)
          (AllPairs-filter (OfOpen OtherName) is_followed (dir_indexes items)
          (pairs_of (OfOpen OtherName) (dir_indexes items) (λ m n among open_m open_n same name.
          keeps (BadBtrfs n.leaf NameForm) (twice m n among (open_from n open_n) (number_of (inode_node m.dir) (inode_node n.dir) same) name refl)))));
    }

    tree_links : AreTreeLinks items links
    tree_links = record {
      once = once;
      sound = λ path node leads. sound path (inode FIRST_FREE_OBJECTID) node leads;
      whole = λ path to leads. whole path (inode FIRST_FREE_OBJECTID) to root leads;
    }

pub links_there : (items : List TreeItem) (roots : ℕ → Bool) (root_at : ℕ) → KeepsNames roots items root_at → (links : List NodeLink) × AreTreeLinks items links
links_there items roots root_at keeps =
    let r = reached_there (steps items) (inode_node FIRST_FREE_OBJECTID) in
    (links items r.0 r.1 roots root_at keeps, tree_links items r.0 r.1 roots root_at keeps)
