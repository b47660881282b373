-- The rows that are made for the paths of a volume are its rows.
use Rattle.reiser_volume.proofs.Imports.{◌≡◌, ℕ, ◌+◌, ◌<◌, ◌≤◌, ◌%◌, ◌^◌, true, List, [], ◌∷◌, ◌++◌, map, length, get_or, take, Contains, Option, Some, None, unwrap_or, refl, sym, ap, subst, ◌∙◌, if◌then◌else◌, arith, is_le, MatchOption, Result, Ok, Err, slice_get, map-map, get_or-map, length-map, length-take, get_or-take, map-append, take_more, slice_get_within, get_or_from_slice_get, All-contains, Image, VolAnswer, IsFaultOrMemory, NameList, WholeRow, AscendsByPath, path_cmp, is_same_path, name_count, row_of, Kind, File, PathTo, NodeId, ArePaths, first_path, first_in, first_leads, first_before, is_least, names_counted, count_map, count_same, in_map, from_map, ReiserItem, ObjectKey, Naming, ObjectStat, stat_of_object, root, kind_of_mode, is_directory, IsNamed, IsObject, KnownObject, Volume, IsContent, IsKnownAt, IsOfVolume, row_by, bytes_at, no_stat, stat_at, kind_by, whole_row, IsOpened, links_in, LeadsToObject, IsLeastPath, IsRow, IsAccepted, AreRowsOf, superblock, volume_items, link_of, HasPaths, node_of, key_at, FitsKey}
use Rattle.std.proofs.Math.Nat.{mod-eq_of_lt}
use Rattle.std.specs.Result.{MatchResult}
use Rattle.fs_rows.specs.declared.row.Row.{Row}
use Rattle.reiser_volume.proofs.Leading.{up, down, leads_named}

-- a node whose numbers have 32 bits stands for the object that it was made of
pub key_back : (node : NodeId) (key : ObjectKey) → FitsKey node → node ≡ node_of key → key_at node ≡ key
key_back node key fits is =
    let dir : node.space % 2 ^ 32 ≡ key.dir = mod-eq_of_lt fits.space ∙ ap (λ (n : NodeId). n.space) is in
    let object : node.number % 2 ^ 32 ≡ key.object = mod-eq_of_lt fits.number ∙ ap (λ (n : NodeId). n.number) is in
    λ j. record { dir = dir j; object = object j }

module _ (image : Image) (list : List PathTo) (p : PathTo) where
  pub path_is : (whole_row image list p).path ≡ p.path
  unfolding whole_row
  path_is = refl

  pub least_is : (whole_row image list p).least ≡ first_path list p
  unfolding whole_row
  least_is = refl

  -- the row with the stat data and the kind of its object
  pub row_is : (stat : ObjectStat) (kind : Kind) → stat_of_object (volume_items image) (key_at p.target) ≡ Some stat → kind_of_mode stat.fields.mode ≡ Some kind
      → whole_row image list p ≡ row_by (superblock image).flags stat kind p.path (first_path list p) p.names (bytes_at image (volume_items image) (key_at p.target) stat kind)
  unfolding whole_row
  row_is stat kind there known =
      let items = volume_items image in
      let key = key_at p.target in
      let same : stat_at items key ≡ stat = ap (λ (o : Option ObjectStat). unwrap_or o no_stat) there in
      let kind_same : kind_by stat ≡ kind = ap (λ (o : Option Kind). unwrap_or o File) known in
      ap (λ (s : ObjectStat). row_by (superblock image).flags s (kind_by s) p.path (first_path list p) p.names (bytes_at image items key s (kind_by s))) same
      ∙ ap (λ (k : Kind). row_by (superblock image).flags stat k p.path (first_path list p) p.names (bytes_at image items key stat k)) kind_same

module _ (image : Image) (volume : Volume) (list : List PathTo) (accepted : IsAccepted image) (opened : IsOpened volume image) (has : HasPaths volume list) where
  abbrev items : List ReiserItem
  items = volume_items image

  abbrev links : List Naming
  links = links_in volume

  abbrev rows : List WholeRow
  rows = map (whole_row image list) list

  abbrev are : ArePaths (map link_of links) (node_of root) list
  are = has.paths

  root_named : IsNamed items root
  root_named = (0, refl)

  leads_to_key : (p : PathTo) → Contains list p → (key : ObjectKey) × (key_at p.target ≡ key) × (p.target ≡ node_of key) × LeadsToObject links root p.path key
  leads_to_key p among =
      let u = up links root p.target p.path (are.leads p among) in
      (u.0, key_back p.target u.0 (All-contains (λ (q : PathTo). FitsKey q.target) list p has.fit among) u.1, u.1, u.2)

  pub path_named : (p : PathTo) → Contains list p → IsNamed items (key_at p.target)
  path_named p among =
      let u = leads_to_key p among in
      subst (IsNamed items) (sym u.1) (leads_named items opened.visible links opened.are_links root u.0 p.path root_named u.3)

  least_path : (p : PathTo) → Contains list p → IsLeastPath links (key_at p.target) (first_path list p)
  least_path p among =
      let q : PathTo = get_or list p.least p in
      let inside : Contains list q = first_in (map link_of links) (node_of root) list are p among in
      let to : q.target ≡ p.target = first_leads (map link_of links) (node_of root) list are p among in
      let u = leads_to_key q inside in
      let own = leads_to_key p among in
      record {
        leads = subst (LeadsToObject links root q.path) (sym u.1 ∙ ap key_at to) u.3;
        least = λ other leads.
            let w = are.whole other (node_of (key_at p.target)) (down links root (key_at p.target) other leads) in
            let same : w.0.target ≡ p.target = w.3 ∙ (ap node_of own.1 ∙ sym own.2) in
            subst (λ (b : NameList). is_le (path_cmp (first_path list p) b) ≡ true) w.2 (is_least (map link_of links) (node_of root) list are p w.0 among w.1 same);
      }

  names_are : (p : PathTo) → Contains list p → p.names ≡ name_count rows (first_path list p)
  names_are p among =
      names_counted (map link_of links) (node_of root) list are p among
      ∙ (count_same (λ (q : PathTo). is_same_path (first_path list q) (first_path list p)) (λ (q : PathTo). is_same_path (whole_row image list q).least (first_path list p)) list (λ q. ap (λ (l : NameList). is_same_path l (first_path list p)) (sym (least_is image list q)))
      ∙ sym (count_map (λ (row : WholeRow). is_same_path row.least (first_path list p)) (whole_row image list) list))

  row_of_path : (p : PathTo) → Contains list p → IsRow image (superblock image).flags items links rows (key_at p.target) (whole_row image list p)
  row_of_path p among =
      let key = key_at p.target in
      let o : IsObject items key = accepted.objects.each key (path_named p among) in
      let u = leads_to_key p among in
      subst (IsRow image (superblock image).flags items links rows key) (sym (row_is image list p o.stat o.kind o.has_stat o.known)) (record {
        leads = subst (LeadsToObject links root p.path) (sym u.1) u.3;
        stat = o.stat;
        has_stat = o.has_stat;
        fields = record { kind = o.known; mode = refl; uid = refl; gid = refl; atime = refl; mtime = refl; ctime = refl; sync = refl; immutable = refl; append = refl; nodump = refl; noatime = refl; major = refl; minor = refl };
        least = least_path p among;
        names = ap (λ (n : ℕ). if is_directory o.kind then 0 else n) (names_are p among);
        bytes = refl;
      })

  ascending : AscendsByPath rows
  ascending k d within =
      let long = length-map list (whole_row image list) in
      let any : PathTo = record { path = []; target = node_of root; least = 0; names = 0 } in
      let next : k + 1 < length list = omega (arith, within, long) in
      let this = get_or-map (whole_row image list) list k any d (omega (arith, next)) in
      let after = get_or-map (whole_row image list) list (k + 1) any d next in
      ap (λ (w : WholeRow). path_cmp w.path (get_or rows (k + 1) d).path) this
      ∙ (ap (λ (w : WholeRow). path_cmp (whole_row image list (get_or list k any)).path w.path) after
      ∙ (ap (λ (a : NameList). path_cmp a (whole_row image list (get_or list (k + 1) any)).path) (path_is image list (get_or list k any))
      ∙ (ap (λ (b : NameList). path_cmp (get_or list k any).path b) (path_is image list (get_or list (k + 1) any)) ∙ are.ascends k any next)))

  pub rows_are : AreRowsOf image rows
  rows_are = record {
    visible = opened.visible;
    links = links;
    are_links = opened.are_links;
    ascends = ascending;
    each = λ row among.
        let m = from_map (whole_row image list) list row among in
        (key_at m.0.target, subst (IsRow image (superblock image).flags items links rows (key_at m.0.target)) m.2 (row_of_path m.0 m.1));
    whole = λ path key leads.
        let w = are.whole path (node_of key) (down links root key path leads) in
        (whole_row image list w.0, in_map (whole_row image list) list w.0 w.1, path_is image list w.0 ∙ w.2);
  }

-- the rows of the first paths, with one more
pub rows_more : {X Y : Type 0} (f : X → Y) (list : List X) (i : ℕ) (p : X) (old new : List Y) (row : Y) → i < length list → p ≡ get_or list i p → old ≡ map f (take i list) → row ≡ f p → new ≡ old ++ row ∷ [] → new ≡ map f (take (i + 1) list)
rows_more f list i p old new row within at before own is =
    let more = take_more list i p within ∙ ap (λ q. take i list ++ q ∷ []) (sym at) in
    is ∙ (ap (λ l. l ++ row ∷ []) before ∙ (ap (λ y. map f (take i list) ++ y ∷ []) own ∙ (sym (map-append f (take i list) (p ∷ [])) ∙ ap (map f) (sym more))))

module _ (image : Image) (volume : Volume) (list : List PathTo) (accepted : IsAccepted image) (opened : IsOpened volume image) (has : HasPaths volume list) (i : ℕ) (p : PathTo) (at : slice_get list i ≡ Some p) (rows : List Row)
    (before : rows ≡ map (λ q. row_of (whole_row image list q)) (take i list)) where
  abbrev made : PathTo → Row
  made q = row_of (whole_row image list q)

  within : i < length list
  within = slice_get_within list i p at

  among : Contains list p
  among = (i, within, get_or_from_slice_get list i p p at)

  pub is_of : IsOfVolume image volume (key_at p.target)
  is_of = record { accepted = accepted; opened = opened; named = path_named image volume list accepted opened has p among }

  long : length rows ≡ i
  long = let taken = length-take i list in let mapped = length-map (take i list) made in let same = ap (λ (l : List Row). length l) before in omega (arith, same, mapped, taken, within)

  abbrev first : PathTo
  first = get_or list p.least p

  first_to : first.target ≡ p.target
  first_to = first_leads (map link_of (links_in volume)) (node_of root) list has.paths p among

  -- an earlier row of the same object is that of the first path to it
  earlier : (row : Row) → slice_get rows p.least ≡ Some row → row ≡ made first
  earlier row there =
      let inside : p.least < length rows = slice_get_within rows p.least row there in
      let low : p.least < i = omega (arith, inside, long) in
      let long_take = length-take i list in
      sym (get_or_from_slice_get rows p.least row row there)
      ∙ (ap (λ (l : List Row). get_or l p.least row) before
      ∙ (get_or-map made (take i list) p.least p row (omega (arith, low, within, long_take)) ∙ ap made (get_or-take i list p.least p low)))

  module _ (known : KnownObject) (is : IsKnownAt (volume_items image) (key_at p.target) known) where
    abbrev bytes : List ℕ
    bytes = bytes_at image (volume_items image) (key_at p.target) known.stat known.kind

    whole_is : (q : PathTo) → q.target ≡ p.target → whole_row image list q ≡ row_by (superblock image).flags known.stat known.kind q.path (first_path list q) q.names bytes
    whole_is q to =
        row_is image list q known.stat known.kind (ap (λ (n : NodeId). stat_of_object (volume_items image) (key_at n)) to ∙ is.stat) is.kind
        ∙ ap (λ (n : NodeId). row_by (superblock image).flags known.stat known.kind q.path (first_path list q) q.names (bytes_at image (volume_items image) (key_at n) known.stat known.kind)) to

    -- it has what a row of these bytes has
    first_has : (row : Row) → slice_get rows p.least ≡ Some row → IsContent known.kind bytes row.length row.mark row.target
    first_has row there =
        let own : row ≡ row_of (row_by (superblock image).flags known.stat known.kind first.path (first_path list first) first.names bytes) = earlier row there ∙ ap row_of (whole_is first first_to) in
        record { is_length = ap (λ (r : Row). r.length) own; is_mark = ap (λ (r : Row). r.mark) own; is_target = ap (λ (r : Row). r.target) own }

    pub content_there : {R : Type 0} (now : R → Row) (o : Option R) → MatchOption o (length rows ≤ p.least) (λ r. slice_get rows p.least ≡ Some (now r)) → MatchOption o (Unit {0}) (λ r. IsContent known.kind bytes (now r).length (now r).mark (now r).target)
    content_there now None found = tt
    content_there now (Some r) found = first_has (now r) found

    -- the row of the path
    pub row_made : (flags : ℕ) (path least : NameList) (names : ℕ) (row : Row) → flags ≡ (superblock image).flags → path ≡ p.path → least ≡ first_path list p → names ≡ p.names → row ≡ row_of (row_by flags known.stat known.kind path least names bytes) → row ≡ made p
    row_made flags path least names row flags_is path_is least_is names_is is =
        is
        ∙ ((λ j. row_of (row_by (flags_is j) known.stat known.kind (path_is j) (least_is j) (names_is j) bytes)) ∙ ap row_of (sym (whole_is p refl)))

  pub least_there : {R : Type 0} (now : R → Row) (o : Option R) (least : NameList) → MatchOption o (length rows ≤ p.least) (λ r. slice_get rows p.least ≡ Some (now r)) → MatchOption o (least ≡ p.path) (λ r. least ≡ (now r).path) → least ≡ first_path list p
  least_there now None least found is =
      let place = first_before (map link_of (links_in volume)) (node_of root) list has.paths p p among i within (get_or_from_slice_get list i p p at) refl in
      let same : p.least ≡ i = omega (arith, place, found, long) in
      is ∙ sym (ap (λ (q : PathTo). q.path) (ap (λ (n : ℕ). get_or list n p) same ∙ get_or_from_slice_get list i p p at))
  least_there now (Some r) least found is = is ∙ (ap (λ (row : Row). row.path) (earlier (now r) found) ∙ path_is image list first)

-- the rows of all paths
pub rows_answered : (image : Image) (volume : Volume) (list : List PathTo) → IsAccepted image → IsOpened volume image → HasPaths volume list → (r : Result (List Row) VolAnswer) → MatchResult r (λ rows. rows ≡ map (λ p. row_of (whole_row image list p)) list) IsFaultOrMemory
    → MatchResult r (λ rows. (whole : List WholeRow) × AreRowsOf image whole × (rows ≡ map row_of whole)) IsFaultOrMemory
rows_answered image volume list accepted opened has (Ok made_rows) made = (map (whole_row image list) list, rows_are image volume list accepted opened has, made ∙ sym (map-map row_of (whole_row image list) list))
rows_answered image volume list accepted opened has (Err e) fault = fault
