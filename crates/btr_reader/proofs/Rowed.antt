-- The rows that are made for the paths of a file tree are its rows.
use Rattle.btr_reader.proofs.Imports.{◌≡◌, ℕ, ◌+◌, ◌<◌, ◌≤◌, ◌==◌, Bool, true, false, List, [], ◌∷◌, ◌++◌, map, length, get_or, take, count_by, Contains, Some, refl, sym, ap, subst, ◌∙◌, true≢false, if◌then◌else◌, arith, get_or-map, length-map, map-append, take_more, take_all, get_or_default, FIRST_FREE_OBJECTID, Image, Inode, MapRange, TreeItem, NameList, WholeRow, AscendsByPath, path_cmp, is_same_path, name_count, row_of, Row, Kind, PathTo, NodeId, AreNamedOnce, ArePaths, leads_to, first_path, in_map, from_map, same_node-true, inode_on, kind_of_mode, is_directory, Target, inode, tree, LeadsToTarget, KeepsNames, inode_node, tree_node, node_of_target, AreTreeLinks, row_by, bytes_at, made_inode, made_row, IsLeastPath, IsInodeRow, IsTreeRow, IsRowOf, AreRows, subvolume_row, top, both_ways, count_among, same_names, one_place, first_within, first_in, first_leads, is_least, same_first}
use Rattle.std.specs.Ordering.{is_le}
use Rattle.std.proofs.lemmas.Simd.{map-map}
use Rattle.fs_paths.specs.declared.node_link.NodeLink.{NodeLink}
use Rattle.fs_paths.proofs.Counts.{count_map}
use Rattle.btr_reader.proofs.Known.{own_on, is_known, leads_named}
use Rattle.btr_reader.proofs.RowMade.{path_is, tree_is, inode_is}

-- a node of an inode is no other tree
space_of : (a b : NodeId) → a ≡ b → a.space ≡ b.space
space_of a b is = ap (λ (n : NodeId). n.space) is

only_inode : (to : Target) (ino : ℕ) → node_of_target to ≡ inode_node ino → to ≡ inode ino
only_inode (inode other) ino is = ap (λ (n : NodeId). inode n.number) is
only_inode (tree number) ino is = let s = space_of (tree_node number) (inode_node ino) is in absurd (omega (arith, s))

-- whether a path leads to an inode
abbrev is_inode : PathTo → Bool
is_inode p = p.target.space == 0

-- the least path in the row of a path
abbrev least_in : List PathTo → PathTo → NameList
least_in list p = if is_inode p then first_path list p else p.path

module _ (image : Image) (ranges : List MapRange) (items : List TreeItem) (list : List PathTo) (p : PathTo) where
  abbrev by_kind : Bool → WholeRow
  by_kind b = if b then made_inode image ranges items list p else subvolume_row p.path

  made_is : made_row image ranges items list p ≡ by_kind (is_inode p)
  unfolding made_row
  made_is = refl

  least_by : (b : Bool) → (by_kind b).least ≡ (if b then first_path list p else p.path)
  least_by true = refl
  least_by false = refl

  pub least_is : (made_row image ranges items list p).least ≡ least_in list p
  least_is = ap (λ (w : WholeRow). w.least) made_is ∙ least_by (is_inode p)

  tree_made : (number : ℕ) → p.target ≡ tree_node number → made_row image ranges items list p ≡ subvolume_row p.path
  tree_made number to = tree_is image ranges items list p (ap (λ (n : NodeId). n.space == 0) to)

  -- the row with the inode and its kind
  inode_made : (ino : ℕ) (own : Inode) (kind : Kind) → p.target ≡ inode_node ino → inode_on items ino ≡ Some own → kind_of_mode own.mode ≡ Some kind
      → made_row image ranges items list p ≡ row_by own kind p.path (first_path list p) p.names (bytes_at image ranges items ino own kind)
  inode_made ino own kind to there known =
      let number : p.target.number ≡ ino = ap (λ (n : NodeId). n.number) to in
      inode_is image ranges items list p own kind (ap (λ (n : NodeId). n.space) to) (ap (inode_on items) number ∙ there) known
      ∙ ap (λ (n : ℕ). row_by own kind p.path (first_path list p) p.names (bytes_at image ranges items n own kind)) number

module _ (links : List NodeLink) (root : NodeId) (list : List PathTo) (are : ArePaths links root list) where
  -- of the paths to one inode, and of no others, the rows have this least path
  same_least : (p q : PathTo) → Contains list p → Contains list q → is_inode p ≡ true → (b : Bool) → is_inode q ≡ b
      → leads_to p.target q ≡ is_same_path (if b then first_path list q else q.path) (first_path list p)
  same_least p q among other own true is = same_first links root list are p q among other
  same_least p q among other own false is = both_ways (leads_to p.target q) (is_same_path q.path (first_path list p)) there back
    where
      apart : q.target ≡ p.target → ⊥
      apart to = true≢false (sym own ∙ (ap (λ (n : NodeId). n.space == 0) (sym to) ∙ is))

      there : leads_to p.target q ≡ true → is_same_path q.path (first_path list p) ≡ true
      there to = absurd (apart (same_node-true q.target p.target to))

      back : is_same_path q.path (first_path list p) ≡ true → leads_to p.target q ≡ true
      back same =
          let path : (get_or list other.0 q).path ≡ (get_or list p.least p).path = ap (λ (x : PathTo). x.path) other.2 ∙ same_names q.path (first_path list p) same in
          let place : other.0 ≡ p.least = one_place links root list are other.0 p.least q p other.1 (first_within links root list are p among) path in
          let at : q ≡ get_or list p.least p = sym other.2 ∙ (ap (λ (n : ℕ). get_or list n q) place ∙ get_or_default list p.least q p (first_within links root list are p among)) in
          absurd (apart (ap (λ (x : PathTo). x.target) at ∙ first_leads links root list are p among))

  pub names_counted : (p : PathTo) → Contains list p → is_inode p ≡ true → (least : PathTo → NameList) → ((q : PathTo) → least q ≡ least_in list q)
      → p.names ≡ count_by (λ q. is_same_path (least q) (first_path list p)) list
  names_counted p among own least is =
      are.names p among
      ∙ count_among (leads_to p.target) (λ q. is_same_path (least q) (first_path list p)) list
      (λ q other. same_least p q among other own (is_inode q) refl ∙ ap (λ (l : NameList). is_same_path l (first_path list p)) (sym (is q)))

module _ (image : Image) (ranges : List MapRange) (items : List TreeItem) (has_root : ℕ → Bool) (root_at : ℕ) (keeps : KeepsNames has_root items root_at) (links : List NodeLink)
    (lead : AreTreeLinks items links) (list : List PathTo) (are : ArePaths links (inode_node FIRST_FREE_OBJECTID) list) where
  abbrev rows : List WholeRow
  rows = map (made_row image ranges items list) list

  abbrev made : PathTo → WholeRow
  made p = made_row image ranges items list p

  leads_on : (p : PathTo) → Contains list p → (to : Target) × (p.target ≡ node_of_target to) × LeadsToTarget items top p.path to
  leads_on p among = lead.sound p.path p.target (are.leads p among)

  least_path : (p : PathTo) (ino : ℕ) → Contains list p → p.target ≡ inode_node ino → IsLeastPath items ino (first_path list p)
  least_path p ino among own =
      let q : PathTo = get_or list p.least p in
      let u = leads_on q (first_in links (inode_node FIRST_FREE_OBJECTID) list are p among) in
      let to : u.0 ≡ inode ino = only_inode u.0 ino (sym u.1 ∙ (first_leads links (inode_node FIRST_FREE_OBJECTID) list are p among ∙ own)) in
      record {
        leads = subst (LeadsToTarget items top q.path) to u.2;
        least = λ other leads.
            let w = are.whole other (inode_node ino) (lead.whole other (inode ino) leads) in
            subst (λ (b : NameList). is_le (path_cmp (first_path list p) b) ≡ true) w.2 (is_least links (inode_node FIRST_FREE_OBJECTID) list are p w.0 among w.1 (w.3 ∙ sym own));
      }

  names_are : (p : PathTo) (ino : ℕ) → Contains list p → p.target ≡ inode_node ino → p.names ≡ name_count rows (first_path list p)
  names_are p ino among own =
      names_counted links (inode_node FIRST_FREE_OBJECTID) list are p among (ap (λ (n : NodeId). n.space == 0) own) (λ q. (made q).least) (λ q. least_is image ranges items list q)
      ∙ sym (count_map (λ (row : WholeRow). is_same_path row.least (first_path list p)) made list)

  inode_row : (p : PathTo) (ino : ℕ) → Contains list p → p.target ≡ inode_node ino → LeadsToTarget items top p.path (inode ino) → IsInodeRow image ranges items rows ino (made p)
  inode_row p ino among own leads =
      let k = is_known has_root items root_at keeps ino (leads_named items p.path ino leads) in
      let on = own_on items ino k in
      subst (IsInodeRow image ranges items rows ino) (sym (inode_made image ranges items list p ino k.own k.kind own on k.known)) (record {
        leads = leads;
        own = k.own;
        has = on;
        fields = record { kind = k.known; mode = refl; uid = refl; gid = refl; atime = refl; mtime = refl; ctime = refl; sync = refl; immutable = refl; append = refl; nodump = refl; noatime = refl; major = refl; minor = refl };
        least = least_path p ino among own;
        names = ap (λ (n : ℕ). if is_directory k.kind then 0 else n) (names_are p ino among own);
        bytes = refl;
      })

  row_to : (p : PathTo) (to : Target) → Contains list p → p.target ≡ node_of_target to → LeadsToTarget items top p.path to → IsRowOf image ranges items rows to (made p)
  row_to p (inode ino) among own leads = inode_row p ino among own leads
  row_to p (tree number) among own leads = subst (IsTreeRow items number) (sym (tree_made image ranges items list p number own)) (record { leads = leads; is = refl })

  ascending : AscendsByPath rows
  ascending k d within =
      let long = length-map list made in
      let any : PathTo = record { path = []; target = inode_node FIRST_FREE_OBJECTID; least = 0; names = 0 } in
      let next : k + 1 < length list = omega (arith, within, long) in
      let this = get_or-map made list k any d (omega (arith, next)) in
      let after = get_or-map made list (k + 1) any d next in
      ap (λ (w : WholeRow). path_cmp w.path (get_or rows (k + 1) d).path) this
      ∙ (ap (λ (w : WholeRow). path_cmp (made (get_or list k any)).path w.path) after
      ∙ (ap (λ (a : NameList). path_cmp a (made (get_or list (k + 1) any)).path) (path_is image ranges items list (get_or list k any))
      ∙ (ap (λ (b : NameList). path_cmp (get_or list k any).path b) (path_is image ranges items list (get_or list (k + 1) any)) ∙ are.ascends k any next)))

  pub rows_are : AreRows image ranges items rows
  rows_are = record {
    ascends = ascending;
    each = λ row among.
        let m = from_map made list row among in
        let u = leads_on m.0 m.1 in
        (u.0, subst (IsRowOf image ranges items rows u.0) m.2 (row_to m.0 u.0 m.1 u.1 u.2));
    whole = λ path to leads.
        let w = are.whole path (node_of_target to) (lead.whole path to leads) in
        (made w.0, in_map made list w.0 w.1, path_is image ranges items list w.0 ∙ w.2);
  }

-- the rows of the first paths, with one more
pub rows_more : {X Y : Type 0} (f : X → Y) (list : List X) (i : ℕ) (p : X) (old new : List Y) (row : Y) → i < length list → p ≡ get_or list i p → old ≡ map f (take i list) → row ≡ f p → new ≡ old ++ row ∷ [] → new ≡ map f (take (i + 1) list)
rows_more f list i p old new row within at before own is =
    let more = take_more list i p within ∙ ap (λ q. take i list ++ q ∷ []) (sym at) in
    is ∙ (ap (λ l. l ++ row ∷ []) before ∙ (ap (λ y. map f (take i list) ++ y ∷ []) own ∙ (sym (map-append f (take i list) (p ∷ [])) ∙ ap (map f) (sym more))))

-- the rows of all paths
pub all_rows : (image : Image) (ranges : List MapRange) (items : List TreeItem) (list : List PathTo) (i : ℕ) (got : List Row) → length list ≤ i
    → got ≡ map (λ p. row_of (made_row image ranges items list p)) (take i list) → got ≡ map row_of (map (made_row image ranges items list) list)
all_rows image ranges items list i got all is =
    is ∙ (ap (map (λ p. row_of (made_row image ranges items list p))) (take_all i list all) ∙ sym (map-map row_of (made_row image ranges items list) list))

-- the paths of the links that a tree has
pub are_paths : (links own : List NodeLink) (root at : NodeId) (list : List PathTo) → links ≡ own → root ≡ at → AreNamedOnce own at → (AreNamedOnce links root → ArePaths links root list) → ArePaths own at list
are_paths links own root at list same here once made =
    subst (λ (n : NodeId). AreNamedOnce own n → ArePaths own n list) here (subst (λ (l : List NodeLink). AreNamedOnce l root → ArePaths l root list) same made) once
