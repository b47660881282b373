-- The rows of a volume are one list.
use Rattle.reiser_volume.proofs.Imports.{◌≡◌, ℕ, List, [], ◌∷◌, get_or, Contains, AllPairs, Some, ⊎_elim, sym, ap, subst, ◌∙◌, arith, cases_lt, get_or_default, Image, NameList, WholeRow, name_count, Kind, neither_above, ReiserItem, ObjectKey, Naming, ObjectStat, stat_of_object, root, kind_of_mode, AreNames, links_one, RowsAreOne, row_by, bytes_at, LeadsToObject, IsRow, IsLeastPath, superblock, volume_items}
use Rattle.std.specs.Prelude.{◌≢◌}
use Rattle.fs_paths.proofs.OneList.{rows_one}
use Rattle.reiser_volume.proofs.Leading.{names_apart}

-- no directory has one name twice
abbrev pub AreApart : List Naming → Type 0
AreApart links = AllPairs (λ m n. m.dir ≡ n.dir → m.name ≢ n.name) links

module _ (links : List Naming) (apart : AreApart links) where
  one_name : (m n : Naming) → Contains links m → Contains links n → m.dir ≡ n.dir → m.name ≡ n.name → m ≡ n
  one_name m n first second dir name =
      let at_first : get_or links first.0 m ≡ m = first.2 in
      let at_second : get_or links second.0 m ≡ n = get_or_default links second.0 m n second.1 ∙ second.2 in
      ⊎_elim
      (λ less. absurd (apart first.0 second.0 m less second.1 (ap (λ (x : Naming). x.dir) at_first ∙ (dir ∙ sym (ap (λ (x : Naming). x.dir) at_second))) (ap (λ (x : Naming). x.name) at_first ∙ (name ∙ sym (ap (λ (x : Naming). x.name) at_second)))))
      (λ not_less. ⊎_elim
      (λ more. absurd (apart second.0 first.0 m more first.1 (ap (λ (x : Naming). x.dir) at_second ∙ (sym dir ∙ sym (ap (λ (x : Naming). x.dir) at_first))) (ap (λ (x : Naming). x.name) at_second ∙ (sym name ∙ sym (ap (λ (x : Naming). x.name) at_first)))))
      (λ not_more. let same : first.0 ≡ second.0 = omega (arith, not_less, not_more) in sym at_first ∙ (ap (λ (k : ℕ). get_or links k m) same ∙ at_second))
      (cases_lt second.0 first.0))
      (cases_lt first.0 second.0)

  -- a path leads to one object
  pub leads_one : (from : ObjectKey) (path : NameList) (a b : ObjectKey) → LeadsToObject links from path a → LeadsToObject links from path b → a ≡ b
  leads_one from [] a b first second = sym first ∙ second
  leads_one from (name ∷ names) a b first second =
      let same : first.0 ≡ second.0 = one_name first.0 second.0 first.1 second.1 (first.2 ∙ sym second.2) (first.3 ∙ sym second.3) in
      leads_one first.0.target names a b first.4 (subst (λ (n : Naming). LeadsToObject links n.target names b) (sym same) second.4)

  -- an object has one least path
  pub least_one : (key : ObjectKey) (p q : NameList) → IsLeastPath links key p → IsLeastPath links key q → p ≡ q
  least_one key p q first second = neither_above p q (first.least q second.leads) (second.least p first.leads)

module _ (image : Image) (flags : ℕ) (items : List ReiserItem) where
  -- the row of an object with these names
  pub row_for : ObjectKey → ObjectStat → Kind → NameList → NameList → ℕ → WholeRow
  row_for key stat kind path least names = row_by flags stat kind path least names (bytes_at image items key stat kind)

  pub row_is : (links : List Naming) (rows : List WholeRow) (key : ObjectKey) (row : WholeRow) (r : IsRow image flags items links rows key row) → row ≡ row_for key r.stat row.kind row.path row.least (name_count rows row.least)
  unfolding row_for
  row_is links rows key row r = λ j. record {
    path = row.path;
    kind = row.kind;
    mode = r.fields.mode j;
    uid = r.fields.uid j;
    gid = r.fields.gid j;
    atime = r.fields.atime j;
    mtime = r.fields.mtime j;
    ctime = r.fields.ctime j;
    sync = r.fields.sync j;
    immutable = r.fields.immutable j;
    append = r.fields.append j;
    nodump = r.fields.nodump j;
    noatime = r.fields.noatime j;
    major = r.fields.major j;
    minor = r.fields.minor j;
    least = row.least;
    names = r.names j;
    bytes = r.bytes j;
  }

  module _ (links : List Naming) (apart : AreApart links) (rows others : List WholeRow) (a b : WholeRow) (p q : ObjectKey)
      (first : IsRow image flags items links rows p a) (second : IsRow image flags items links others q b) (same : a.path ≡ b.path) where
    one_object : p ≡ q
    one_object = leads_one links apart root a.path p q first.leads (subst (λ (path : NameList). LeadsToObject links root path q) (sym same) second.leads)

    pub one_least : a.least ≡ b.least
    one_least = least_one links apart p a.least b.least first.least (subst (λ (key : ObjectKey). IsLeastPath links key b.least) (sym one_object) second.least)

    pub one_row : ((path : NameList) → name_count rows path ≡ name_count others path) → a ≡ b
    one_row counts =
        let key : p ≡ q = one_object in
        let stated : Some first.stat ≡ Some second.stat = sym first.has_stat ∙ (ap (stat_of_object items) key ∙ second.has_stat) in
        let stat : first.stat ≡ second.stat = cc in
        let kinds : Some a.kind ≡ Some b.kind = sym first.fields.kind ∙ (ap (λ (s : ObjectStat). kind_of_mode s.fields.mode) stat ∙ second.fields.kind) in
        let kind : a.kind ≡ b.kind = cc in
        let least : a.least ≡ b.least = one_least in
        let names : name_count rows a.least ≡ name_count others b.least = counts a.least ∙ ap (name_count others) least in
        row_is links rows p a first ∙ ((λ j. row_for (key j) (stat j) (kind j) (same j) (least j) (names j)) ∙ sym (row_is links others q b second))

pub rows_are_one : RowsAreOne
rows_are_one image accepted rows others first second =
    let items = volume_items image in
    let flags = (superblock image).flags in
    let names : AreNames items = accepted.names in
    let same : first.links ≡ second.links = links_one items first.visible first.links second.visible second.links first.are_links second.are_links in
    let known : names.links ≡ first.links = links_one items names.visible names.links first.visible first.links names.are_links first.are_links in
    let apart : AreApart first.links = subst AreApart known (names_apart items names.visible names.links names.are_links accepted.objects names.keys names.keeps) in
    let each = λ (row : WholeRow) (among : Contains others row). (let e = second.each row among in subst (λ (links : List Naming). (key : ObjectKey) × IsRow image flags items links others key row) (sym same) e) in
    rows_one rows others first.ascends second.ascends
    (λ row among. let e = first.each row among in second.whole row.path e.0 (subst (λ (links : List Naming). LeadsToObject links root row.path e.0) same e.1.leads))
    (λ row among. let e = each row among in first.whole row.path e.0 e.1.leads)
    (λ a b among other path. let p = first.each a among in let q = each b other in one_least image flags items first.links apart rows others a b p.0 q.0 p.1 q.1 path)
    (λ counts a b among other path. let p = first.each a among in let q = each b other in one_row image flags items first.links apart rows others a b p.0 q.0 p.1 q.1 path counts)
