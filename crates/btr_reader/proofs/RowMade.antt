-- The row that is made for a path of a file tree.
use Rattle.btr_reader.proofs.Imports.{◌≡◌, ℕ, ◌<◌, ◌≤◌, ◌==◌, Bool, true, false, List, map, length, get_or, take, Contains, Option, Some, None, unwrap_or, if◌then◌else◌, ⊎_elim, refl, sym, ap, subst, ◌∙◌, arith, slice_get, option_and_then, cases_lt, get_or-map, length-map, length-take, get_or-take, slice_get_within, get_or_from_slice_get, slice_get-get_or, FIRST_FREE_OBJECTID, Image, Inode, MapRange, TreeItem, NameList, row_of, Kind, File, Symlink, Row, PathTo, NodeId, ArePaths, first_path, NameTable, inode_on, kind_of_mode, IsNamedInode, Target, inode, tree, LeadsToTarget, inode_node, node_of_target, links_of, Content, wanted_inode, wanted_at, IsReadTree, bytes_at, kind_by_inode, made_inode, made_row, own_at, row_by, subvolume_row, first_before}
use Rattle.btr_reader.specs.Made.{no_inode}
use Rattle.btr_reader.proofs.Known.{IsKnown, own_on, is_known, not_long, leads_named}

no_some : {X : Type 0} (x : X) → None ≡ Some x → ⊥
no_some x is = cc is

same_some : {X : Type 0} (x y : X) → Some x ≡ Some y → x ≡ y
same_some x y is = cc is

-- a target in space 0 is an inode
inode_target : (to : Target) (node : NodeId) → node ≡ node_of_target to → node.space ≡ 0 → to ≡ inode node.number
inode_target (inode ino) node is space = ap (λ (n : NodeId). inode n.number) (sym is)
inode_target (tree number) node is space = let s = ap (λ (n : NodeId). n.space) is in absurd (omega (arith, s, space))

module _ (image : Image) (ranges : List MapRange) (items : List TreeItem) (list : List PathTo) (p : PathTo) where
  abbrev by : Bool → PathTo → Type 0
  by b q = (if b then made_inode image ranges items list q else subvolume_row q.path).path ≡ q.path

  path_by : (b : Bool) (q : PathTo) → by b q
  path_by true q = refl
  path_by false q = refl

  pub path_is : (made_row image ranges items list p).path ≡ p.path
  unfolding made_row
  path_is = path_by (p.target.space == 0) p

  -- the row of another tree
  pub tree_is : (p.target.space == 0) ≡ false → made_row image ranges items list p ≡ subvolume_row p.path
  unfolding made_row
  tree_is other = ap (λ (b : Bool). if b then made_inode image ranges items list p else subvolume_row p.path) other

  -- the row of an inode that is there and has this kind
  pub inode_is : (own : Inode) (kind : Kind) → p.target.space ≡ 0 → inode_on items p.target.number ≡ Some own → kind_of_mode own.mode ≡ Some kind
      → made_row image ranges items list p ≡ row_by own kind p.path (first_path list p) p.names (bytes_at image ranges items p.target.number own kind)
  unfolding made_row
  inode_is own kind space there known =
      let own_is : own_at items p.target.number ≡ own = ap (λ (o : Option Inode). unwrap_or o no_inode) there in
      let kind_is : kind_by_inode own ≡ kind = ap (λ (o : Option Kind). unwrap_or o File) known in
      ap (λ (n : ℕ). if n == 0 then made_inode image ranges items list p else subvolume_row p.path) space
      ∙ (ap (λ (i : Inode). row_by i (kind_by_inode i) p.path (first_path list p) p.names (bytes_at image ranges items p.target.number i (kind_by_inode i))) own_is
      ∙ ap (λ (k : Kind). row_by own k p.path (first_path list p) p.names (bytes_at image ranges items p.target.number own k)) kind_is)

module _ (names : NameTable) (named : NodeId → Bool) (contents : ℕ → Option Content) (image : Image) (ranges : List MapRange) (items : List TreeItem) (root_at : ℕ) (has_root : ℕ → Bool)
    (is_read : IsReadTree names named contents image ranges items root_at has_root) (list : List PathTo) (are : ArePaths (links_of names named) (inode_node FIRST_FREE_OBJECTID) list) (i : ℕ) (p : PathTo)
    (at : slice_get list i ≡ Some p) where
  among : Contains list p
  among = (i, slice_get_within list i p at, get_or_from_slice_get list i p p at)

  -- a path to an object in space 0 leads to a named inode
  target_named : p.target.space ≡ 0 → IsNamedInode items p.target.number
  target_named space =
      let leads = is_read.links.sound p.path p.target (are.leads p among) in
      leads_named items p.path p.target.number (subst (LeadsToTarget items (inode FIRST_FREE_OBJECTID) p.path) (inode_target leads.0 p.target leads.1 space) leads.2)

  target_known : p.target.space ≡ 0 → IsKnown items p.target.number
  target_known space = is_known has_root items root_at is_read.keeps p.target.number (target_named space)

  -- the inode is there, its kind is known, and the target of a symlink is not too long
  pub inode_there : p.target.space ≡ 0 → inode_on items p.target.number ≡ None → ⊥
  inode_there space none = let known = target_known space in no_some known.own (sym none ∙ own_on items p.target.number known)

  pub kind_there : (own : Inode) → p.target.space ≡ 0 → inode_on items p.target.number ≡ Some own → kind_of_mode own.mode ≡ None → ⊥
  kind_there own space there none =
      let known = target_known space in
      let same : own ≡ known.own = same_some own known.own (sym there ∙ own_on items p.target.number known) in
      no_some known.kind (sym none ∙ (ap (λ (i : Inode). kind_of_mode i.mode) same ∙ known.known))

  pub not_longer : (own : Inode) (kind : Kind) → p.target.space ≡ 0 → inode_on items p.target.number ≡ Some own → kind_of_mode own.mode ≡ Some kind → kind ≡ Symlink → own.size ≤ 4095
  not_longer own kind space there known link =
      ⊎_elim (λ long. absurd (not_long has_root items root_at is_read.keeps p.target.number own (target_named space) there (known ∙ ap (λ (k : Kind). Some k) link) long)) (λ not_more. not_more) (cases_lt 4095 own.size)

  -- of what is kept of it the plan tells
  pub target_wanted : (own : Inode) → p.target.space ≡ 0 → inode_on items p.target.number ≡ Some own → wanted_at named items p.target.number ≡ wanted_inode own
  target_wanted own space there =
      ap (λ (b : Bool). if b then option_and_then wanted_inode (inode_on items p.target.number) else None) (is_read.are_named.whole p.target.number (target_named space))
      ∙ ap (option_and_then wanted_inode) there

  module _ (rows : List Row) (before : rows ≡ map (λ q. row_of (made_row image ranges items list q)) (take i list)) where
    abbrev made : PathTo → Row
    made q = row_of (made_row image ranges items list q)

    within : i < length list
    within = slice_get_within list i p at

    long : length rows ≡ i
    long = let taken = length-take i list in let mapped = length-map (take i list) made in let same = ap (λ (l : List Row). length l) before in omega (arith, same, mapped, taken, within)

    -- the row at the place of the first path to the same object
    earlier : (row : Row) → p.least < length rows → slice_get rows p.least ≡ Some row → row.path ≡ first_path list p
    earlier row inside there =
        let low : p.least < i = omega (arith, inside, long) in
        let long_take = length-take i list in
        let own : row ≡ made (get_or list p.least p) =
        sym (get_or_from_slice_get rows p.least row row there)
        ∙ (ap (λ (l : List Row). get_or l p.least row) before
        ∙ (get_or-map made (take i list) p.least p row (omega (arith, low, within, long_take)) ∙ ap made (get_or-take i list p.least p low))) in
        ap (λ (r : Row). r.path) own ∙ path_is image ranges items list (get_or list p.least p)

    itself : length rows ≤ p.least → p.path ≡ first_path list p
    itself outside =
        let place = first_before (links_of names named) (inode_node FIRST_FREE_OBJECTID) list are p p among i within (get_or_from_slice_get list i p p at) refl in
        let same : p.least ≡ i = omega (arith, place, outside, long) in
        sym (ap (λ (q : PathTo). q.path) (ap (λ (n : ℕ). get_or list n p) same ∙ get_or_from_slice_get list i p p at))

    there_at : (k : ℕ) (d : Row) → k < length rows → slice_get rows k ≡ Some (get_or rows k d)
    there_at k d inside = slice_get-get_or rows k d inside

    pub least_is : (least : NameList) → (p.least < length rows → (row : Row) → slice_get rows p.least ≡ Some row → least ≡ row.path) → (length rows ≤ p.least → least ≡ p.path) → least ≡ first_path list p
    least_is least first own =
        ⊎_elim (λ inside. let row : Row = get_or rows p.least (made p) in let there = there_at p.least (made p) inside in first inside row there ∙ earlier row inside there) (λ outside. own outside ∙ itself outside) (cases_lt p.least (length rows))

    -- the row of the path, where it leads to an inode
    pub row_made : (own : Inode) (kind : Kind) (path least : NameList) (count : ℕ) (row : Row) → p.target.space ≡ 0 → inode_on items p.target.number ≡ Some own → kind_of_mode own.mode ≡ Some kind → path ≡ p.path
        → least ≡ first_path list p → count ≡ p.names → row ≡ row_of (row_by own kind path least count (bytes_at image ranges items p.target.number own kind)) → row ≡ made p
    row_made own kind path least count row space there known path_is least_is count_is is =
        is
        ∙ ((λ j. row_of (row_by own kind (path_is j) (least_is j) (count_is j) (bytes_at image ranges items p.target.number own kind))) ∙ ap row_of (sym (inode_is image ranges items list p own kind space there known)))
