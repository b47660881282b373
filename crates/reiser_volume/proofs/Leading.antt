-- The links of a volume make a tree of paths.
use Rattle.reiser_volume.proofs.Imports.{◌≡◌, suc, ◌<◌, Bool, true, false, List, [], ◌∷◌, map, length, get_or, filter, Contains, AllPairs, if◌then◌else◌, refl, sym, ap, subst, ◌∙◌, true≢false, arith, list_all, get_or-map, length-map, All-contains, All-contains_itself, AllPass-from_list_all, Image, NameList, Kind, File, Symlink, Character, Block, Fifo, Socket, Subvolume, PathTo, NodeId, ArePaths, ItemKind, Stat, Indirect, Direct, Directory as Entries, are_entries, entries, ReiserItem, ObjectKey, Naming, root, same_key, object_key_of, items_of, may_have, is_directory, namings, namings_in, namings_by_kind, naming_by, is_listed, is_followed, IsNamed, node_of, FitsKey, AreObjects, IsDirectory, in_map, in_filter, from_map, from_filter, from_flat_map, same_key-self, Volume, AreLinks, AreNames, KeepsNameRules, IsOpened, links_in, LeadsToObject, IsAccepted, volume_items, link_of, HasPaths, links_one}
use Rattle.std.specs.List.{All}
use Rattle.fs_rows.specs.declared.row.Kind.TheVariants.{Directory}
use Rattle.std.specs.Prelude.{◌≢◌, Some}
use Rattle.std.proofs.lemmas.List.Kept.{AllPairs-filter}
use Rattle.fs_paths.specs.declared.node_link.NodeLink.{NodeLink}
use Rattle.fs_paths.specs.Links.{AreNamedOnce}
use Rattle.reiser_volume_objects.proofs.Nodes.{node_same}
use Rattle.fs_paths.specs.Links as tree

-- what holds of any two elements holds of those that are made of them
pairs_map : {X Y : Type 0} (any : X) (f : X → Y) (R : Y → Y → Type 0) (xs : List X) → AllPairs (λ a b. R (f a) (f b)) xs → AllPairs R (map f xs)
pairs_map any f R xs pairs i j d below within =
    let long = length-map xs f in
    let inside : j < length xs = omega (arith, within, long) in
    subst (λ b. R (get_or (map f xs) i d) b) (sym (get_or-map f xs j any d inside)) (subst (λ a. R a (f (get_or xs j any))) (sym (get_or-map f xs i any d (omega (arith, below, inside)))) (pairs i j any below inside))

-- what holds of each element
pub all_of : {X : Type 0} (P : X → Type 0) (xs : List X) → ((x : X) → Contains xs x → P x) → All P xs
all_of P xs each k d within = each (get_or xs k d) (All-contains_itself xs k d within)

module _ (ns : List Naming) where
  -- a way over the links is one over the entries
  pub up : (from : ObjectKey) (to : NodeId) (path : NameList) → tree.Leads (map link_of ns) (node_of from) path to → (key : ObjectKey) × (to ≡ node_of key) × LeadsToObject ns from path key
  up from to [] leads = (from, sym leads, refl)
  up from to (name ∷ names) leads =
      let m = from_map link_of ns leads.0 leads.1 in
      let n : Naming = m.0 in
      let rest = up n.target to names (subst (λ (l : NodeLink). tree.Leads (map link_of ns) l.target names to) (sym m.2) leads.4) in
      let dir : n.dir ≡ from = node_same n.dir from (ap (λ (l : NodeLink). l.dir) m.2 ∙ leads.2) in
      (rest.0, rest.1, (n, m.1, dir, ap (λ (l : NodeLink). l.name) m.2 ∙ leads.3, rest.2))

  pub down : (from key : ObjectKey) (path : NameList) → LeadsToObject ns from path key → tree.Leads (map link_of ns) (node_of from) path (node_of key)
  down from key [] leads = ap node_of leads
  down from key (name ∷ names) leads = (link_of leads.0, in_map link_of ns leads.0 leads.1, ap node_of leads.2, leads.3, down leads.0.target key names leads.4)

-- Both numbers of what a link names have 32 bits, and so have those of what a path leads to.
pub fits_end : (links : List NodeLink) (from to : NodeId) (path : NameList) → All (λ l. FitsKey l.target) links → FitsKey from → tree.Leads links from path to → FitsKey to
fits_end links from to [] all fits leads = subst FitsKey leads fits
fits_end links from to (name ∷ names) all fits leads = fits_end links leads.0.target to names all (All-contains (λ (l : NodeLink). FitsKey l.target) links leads.0 all leads.1) leads.4

-- the entries of an item are those of the object that it belongs to
item_entry : (i : ReiserItem) (kind : ItemKind) (n : Naming) → Contains (namings_by_kind kind i) n → (kind ≡ Entries) × (n.dir ≡ object_key_of i.head)
item_entry i Stat n among = absurd (omega (arith, among.1))
item_entry i Indirect n among = absurd (omega (arith, among.1))
item_entry i Direct n among = absurd (omega (arith, among.1))
item_entry i Entries n among = (refl, by (are_entries i.head.count i.body) among)
  where
    by : (b : Bool) → Contains (if b then map (naming_by i.leaf (object_key_of i.head)) (filter is_listed (entries i.head.count i.body)) else []) n → n.dir ≡ object_key_of i.head
    by false among = absurd (omega (arith, among.1))
    by true among = let m = from_map (naming_by i.leaf (object_key_of i.head)) (filter is_listed (entries i.head.count i.body)) n among in sym (ap (λ (x : Naming). x.dir) m.2)

only_directory : (kind : Kind) → is_directory kind ≡ true → kind ≡ Directory
only_directory Directory is = refl
only_directory File is = absurd (true≢false (sym is))
only_directory Symlink is = absurd (true≢false (sym is))
only_directory Character is = absurd (true≢false (sym is))
only_directory Block is = absurd (true≢false (sym is))
only_directory Fifo is = absurd (true≢false (sym is))
only_directory Socket is = absurd (true≢false (sym is))
only_directory Subvolume is = absurd (true≢false (sym is))

pub fits_each : {X : Type 0} (p : X → Bool) (xs : List X) (x : X) → list_all p xs ≡ true → Contains xs x → p x ≡ true
fits_each p xs x all among = All-contains (λ y. p y ≡ true) xs x (AllPass-from_list_all p xs all) among

-- an object that has entries is a directory
entries_directory : (items : List ReiserItem) (n : Naming) → AreObjects items → Contains (namings items) n → IsNamed items n.dir → IsDirectory items n.dir
entries_directory items n objects among named =
    let at = from_flat_map namings_in items n among in
    let i : ReiserItem = at.0 in
    let e = item_entry i i.head.kind n at.2 in
    let o = objects.each n.dir named in
    let own : Contains (items_of n.dir items) i = in_filter (λ x. same_key (object_key_of x.head) n.dir) items i at.1 (ap (same_key (object_key_of i.head)) e.1 ∙ same_key-self (object_key_of i.head)) in
    let fits : may_have o.kind i.head.kind ≡ true = fits_each (λ x. may_have o.kind x.head.kind) (items_of n.dir items) i o.fits own in
    let kind : o.kind ≡ Directory = only_directory o.kind (sym (ap (may_have o.kind) e.0) ∙ fits) in
    record { stat = o.stat; has_stat = o.has_stat; known = o.known ∙ ap (λ (k : Kind). Some k) kind }

module _ (items : List ReiserItem) (visible links : List Naming) (a : AreLinks items visible links) where
  link_visible : (n : Naming) → Contains links n → Contains visible n × (is_followed n ≡ true)
  link_visible n among = from_filter is_followed visible n (subst (λ (l : List Naming). Contains l n) a.are_links among)

  -- a link is an entry of a named directory
  pub link_entry : (n : Naming) → Contains links n → Contains (namings items) n × (is_followed n ≡ true) × IsNamed items n.dir
  link_entry n among =
      let v = link_visible n among in
      let e = from_filter (λ (m : Naming). a.has m.dir) (namings items) n (subst (λ (l : List Naming). Contains l n) a.are_visible v.0) in
      (e.0, v.1, (a.exact n.dir).0 e.1)

  -- what a path leads to is named
  pub leads_named : (from key : ObjectKey) (path : NameList) → IsNamed items from → LeadsToObject links from path key → IsNamed items key
  leads_named from key [] named leads = subst (IsNamed items) leads named
  leads_named from key (name ∷ names) named leads =
      let n : Naming = leads.0 in
      let e = link_entry n leads.1 in
      leads_named n.target key names (suc e.2.0, (n, in_filter is_followed (namings items) n e.0 e.1, refl, e.2.1)) leads.4

  module _ (objects : AreObjects items) (keys : List ObjectKey) (keeps : KeepsNameRules items visible links keys) where
    any : Naming
    any = record { leaf = 0; dir = root; target = root; name = [] }

    pub names_apart : AllPairs (λ m n. m.dir ≡ n.dir → m.name ≢ n.name) links
    names_apart = subst (AllPairs (λ (m n : Naming). m.dir ≡ n.dir → m.name ≢ n.name)) (sym a.are_links) (AllPairs-filter (λ (m n : Naming). m.dir ≡ n.dir → m.name ≢ n.name) is_followed visible keeps.once)

    pub named_once : AreNamedOnce (map link_of links) (node_of root)
    named_once = record {
      not_root = λ link among to.
          let m = from_map link_of links link among in
          keeps.root_once m.0 m.1 (node_same m.0.target root (ap (λ (l : NodeLink). l.target) m.2 ∙ to));
      directories = pairs_map any link_of (λ (x y : NodeLink). x.target ≡ y.target → (link : NodeLink) → Contains (map link_of links) link → link.dir ≢ x.target) links
          (λ i j d below within same link among to.
          let m = from_map link_of links link among in
          let first : Naming = get_or links i d in
          let second : Naming = get_or links j d in
          let one : first.target ≡ second.target = node_same first.target second.target same in
          let e = link_entry m.0 m.1 in
          let of : m.0.dir ≡ first.target = node_same m.0.dir first.target (ap (λ (l : NodeLink). l.dir) m.2 ∙ to) in
          keeps.directories_once i j d below within (subst (IsDirectory items) (of ∙ one) (entries_directory items m.0 objects e.0 e.2)) one);
      names = pairs_map any link_of (λ (x y : NodeLink). x.dir ≡ y.dir → x.name ≢ y.name) links
          (λ i j d below within same. names_apart i j d below within (node_same (get_or links i d).dir (get_or links j d).dir same));
    }

pub has_paths : (image : Image) (volume : Volume) (links : List NodeLink) (start : NodeId) (list : List PathTo) → IsAccepted image → IsOpened volume image → links ≡ map link_of (links_in volume) → All (λ l. FitsKey l.target) links → start ≡ node_of root → FitsKey start
    → (AreNamedOnce links start → ArePaths links start list) → HasPaths volume list
has_paths image volume links start list accepted opened is fit from fits made =
    let items = volume_items image in
    let names : AreNames items = accepted.names in
    let same : names.links ≡ links_in volume = links_one items names.visible names.links opened.visible (links_in volume) names.are_links opened.are_links in
    let once = named_once items names.visible names.links names.are_links accepted.objects names.keys names.keeps in
    let paths : ArePaths links start list = made (subst (λ (l : List NodeLink). AreNamedOnce l start) (sym is) (subst (AreNamedOnce (map link_of (links_in volume))) (sym from) (subst (λ (l : List Naming). AreNamedOnce (map link_of l) (node_of root)) same once))) in
    record {
      paths = subst (λ (l : List NodeLink). ArePaths l (node_of root) list) is (subst (λ (n : NodeId). ArePaths links n list) from paths);
      fit = all_of (λ (p : PathTo). FitsKey p.target) list (λ p among. fits_end links start p.target p.path fit fits (paths.leads p among));
    }
