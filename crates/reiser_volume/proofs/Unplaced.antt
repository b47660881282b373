-- What the items of a volume say does not depend on the leaves that they lie in.
use Rattle.reiser_volume.proofs.Imports.{◌≡◌, ◌↔◌, ℕ, zero, suc, ◌/◌, ◌%◌, ◌==◌, Bool, true, false, cond, List, [], ◌∷◌, ◌++◌, map, filter, Option, Some, None, unwrap_or, if◌then◌else◌, refl, sym, ap, subst, ◌∙◌, option_map, option_or, map-append, map-map, Image, in_map, from_map, ItemKind, Stat, Indirect, Direct, Directory, EntryValue, are_entries, entries, ReiserItem, bytes_by, direct_by_kind, direct_byte, pointer_by_kind, named_block, file_byte, file_bytes, block_byte, NameList, WholeRow, ObjectKey, Naming, ObjectStat, stat_by_kind, first_stat, stat_of_object, root, same_key, object_key_of, items_of, has_bytes, is_listed, naming_by, namings_by_kind, namings_in, namings, is_followed, followed, IsReachedBy, IsNamed, AreLinks, links_one, unplaced, LeadsToObject, HasStat, IsRow, AreReiserRows}
use Rattle.reiser_volume_objects.specs.reiser_items.declared.stat.StatData.{StatData}
use Rattle.reiser_volume_objects.specs.reiser_items.Stat.{stat_of}

abbrev bare : ReiserItem → ReiserItem
bare i = record { leaf = 0; head = i.head; body = i.body }

abbrev bare_naming : Naming → Naming
bare_naming n = record { leaf = 0; dir = n.dir; target = n.target; name = n.name }

abbrev bare_stat : ObjectStat → ObjectStat
bare_stat s = record { leaf = 0; old_form = s.old_form; fields = s.fields }

filter_over : {X Y : Type 0} (f : X → Y) (p : Y → Bool) (xs : List X) → filter p (map f xs) ≡ map f (filter (λ x. p (f x)) xs)
filter_over f p [] = refl
filter_over f p (x ∷ xs) = by (p (f x)) (filter_over f p xs)
  where
    by : (b : Bool) → filter p (map f xs) ≡ map f (filter (λ y. p (f y)) xs) → cond b (f x ∷ filter p (map f xs)) (filter p (map f xs)) ≡ map f (cond b (x ∷ filter (λ y. p (f y)) xs) (filter (λ y. p (f y)) xs))
    by true rest = ap (λ l. f x ∷ l) rest
    by false rest = rest

items_bare : (key : ObjectKey) (items : List ReiserItem) → items_of key (unplaced items) ≡ unplaced (items_of key items)
items_bare key items = filter_over bare (λ i. same_key (object_key_of i.head) key) items

made_bare : (old : Bool) (leaf : ℕ) (o : Option StatData)
    → ◌≡◌ {A = Option ObjectStat} (option_map (λ fields. record { leaf = 0; old_form = old; fields = fields }) o) (option_map bare_stat (option_map (λ fields. record { leaf = leaf; old_form = old; fields = fields }) o))
made_bare old leaf None = refl
made_bare old leaf (Some fields) = refl

stat_bare : (kind : ItemKind) (i : ReiserItem) → stat_by_kind kind (bare i) ≡ option_map bare_stat (stat_by_kind kind i)
stat_bare Stat i = made_bare i.head.old i.leaf (stat_of i.head.old i.body)
stat_bare Indirect i = refl
stat_bare Direct i = refl
stat_bare Directory i = refl

or_bare : (a b : Option ObjectStat) → option_or (option_map bare_stat a) (option_map bare_stat b) ≡ option_map bare_stat (option_or a b)
or_bare None b = refl
or_bare (Some s) b = refl

first_bare : (items : List ReiserItem) → first_stat (unplaced items) ≡ option_map bare_stat (first_stat items)
first_bare [] = refl
first_bare (i ∷ items) =
    (λ j. option_or (stat_bare i.head.kind i j) (first_bare items j)) ∙ or_bare (stat_by_kind i.head.kind i) (first_stat items)

stat_same : (items : List ReiserItem) (key : ObjectKey) → stat_of_object (unplaced items) key ≡ option_map bare_stat (stat_of_object items key)
stat_same items key = ap first_stat (items_bare key items) ∙ first_bare (items_of key items)

entries_bare : (leaf : ℕ) (key : ObjectKey) (es : List EntryValue) (b : Bool) → (if b then map (naming_by 0 key) es else []) ≡ map bare_naming (if b then map (naming_by leaf key) es else [])
entries_bare leaf key es true = sym (map-map bare_naming (naming_by leaf key) es)
entries_bare leaf key es false = refl

kind_bare : (kind : ItemKind) (i : ReiserItem) → namings_by_kind kind (bare i) ≡ map bare_naming (namings_by_kind kind i)
kind_bare Stat i = refl
kind_bare Indirect i = refl
kind_bare Direct i = refl
kind_bare Directory i = entries_bare i.leaf (object_key_of i.head) (filter is_listed (entries i.head.count i.body)) (are_entries i.head.count i.body)

namings_bare : (items : List ReiserItem) → namings (unplaced items) ≡ map bare_naming (namings items)
namings_bare [] = refl
namings_bare (i ∷ items) = (λ j. kind_bare i.head.kind i j ++ namings_bare items j) ∙ sym (map-append bare_naming (namings_in i) (namings items))

followed_bare : (items : List ReiserItem) → followed (unplaced items) ≡ map bare_naming (followed items)
followed_bare items = ap (filter is_followed) (namings_bare items) ∙ filter_over bare_naming is_followed (namings items)

reached_to : (ns : List Naming) (steps : ℕ) (key : ObjectKey) → IsReachedBy ns steps key → IsReachedBy (map bare_naming ns) steps key
reached_to ns zero key r = r
reached_to ns (suc steps) key r = (bare_naming r.0, in_map bare_naming ns r.0 r.1, r.2, reached_to ns steps r.0.dir r.3)

reached_from : (ns : List Naming) (steps : ℕ) (key : ObjectKey) → IsReachedBy (map bare_naming ns) steps key → IsReachedBy ns steps key
reached_from ns zero key r = r
reached_from ns (suc steps) key r =
    let m = from_map bare_naming ns r.0 r.1 in
    (m.0, m.1, ap (λ (n : Naming). n.target) m.2 ∙ r.2, reached_from ns steps m.0.dir (subst (IsReachedBy (map bare_naming ns) steps) (sym (ap (λ (n : Naming). n.dir) m.2)) r.3))

named_same : (items : List ReiserItem) (key : ObjectKey) → IsNamed (unplaced items) key ↔ IsNamed items key
named_same items key = (
  λ n. (n.0, reached_from (followed items) n.0 key (subst (λ (ns : List Naming). IsReachedBy ns n.0 key) (followed_bare items) n.1)),
  λ n. (n.0, subst (λ (ns : List Naming). IsReachedBy ns n.0 key) (sym (followed_bare items)) (reached_to (followed items) n.0 key n.1)),
)

links_to : (items : List ReiserItem) (visible links : List Naming) → AreLinks items visible links → AreLinks (unplaced items) (map bare_naming visible) (map bare_naming links)
links_to items visible links a = record {
  has = a.has;
  exact = λ key. (λ h. (named_same items key).1 ((a.exact key).0 h), λ n. (a.exact key).1 ((named_same items key).0 n));
  are_visible = ap (map bare_naming) a.are_visible ∙ (sym (filter_over bare_naming (λ n. a.has n.dir) (namings items)) ∙ ap (filter (λ n. a.has n.dir)) (sym (namings_bare items)));
  are_links = ap (map bare_naming) a.are_links ∙ sym (filter_over bare_naming is_followed visible);
}

links_from : (items : List ReiserItem) (visible links : List Naming) (a : AreLinks (unplaced items) visible links) → AreLinks items (filter (λ n. a.has n.dir) (namings items)) (filter is_followed (filter (λ n. a.has n.dir) (namings items)))
links_from items visible links a = record {
  has = a.has;
  exact = λ key. (λ h. (named_same items key).0 ((a.exact key).0 h), λ n. (a.exact key).1 ((named_same items key).1 n));
  are_visible = refl;
  are_links = refl;
}

pub leads_to : (links : List Naming) (from : ObjectKey) (path : NameList) (key : ObjectKey) → LeadsToObject links from path key → LeadsToObject (map bare_naming links) from path key
leads_to links from [] key leads = leads
leads_to links from (name ∷ names) key leads = (bare_naming leads.0, in_map bare_naming links leads.0 leads.1, leads.2, leads.3, leads_to links leads.0.target names key leads.4)

pub leads_from : (links : List Naming) (from : ObjectKey) (path : NameList) (key : ObjectKey) → LeadsToObject (map bare_naming links) from path key → LeadsToObject links from path key
leads_from links from [] key leads = leads
leads_from links from (name ∷ names) key leads =
    let m = from_map bare_naming links leads.0 leads.1 in (
      m.0,
      m.1,
      ap (λ (n : Naming). n.dir) m.2 ∙ leads.2,
      ap (λ (n : Naming). n.name) m.2 ∙ leads.3,
      leads_from links m.0.target names key (subst (λ (from : ObjectKey). LeadsToObject (map bare_naming links) from names key) (sym (ap (λ (n : Naming). n.target) m.2)) leads.4),
    )

direct_bare : (kind : ItemKind) (i : ReiserItem) (n : ℕ) → direct_by_kind kind (bare i) n ≡ direct_by_kind kind i n
direct_bare Stat i n = refl
direct_bare Indirect i n = refl
direct_bare Direct i n = refl
direct_bare Directory i n = refl

byte_bare : (items : List ReiserItem) (n : ℕ) → direct_byte (unplaced items) n ≡ direct_byte items n
byte_bare [] n = refl
byte_bare (i ∷ items) n = λ j. option_or (direct_bare i.head.kind i n j) (byte_bare items n j)

pointer_bare : (kind : ItemKind) (i : ReiserItem) (k : ℕ) → pointer_by_kind kind (bare i) k ≡ pointer_by_kind kind i k
pointer_bare Stat i k = refl
pointer_bare Indirect i k = refl
pointer_bare Direct i k = refl
pointer_bare Directory i k = refl

block_bare : (items : List ReiserItem) (k : ℕ) → named_block (unplaced items) k ≡ named_block items k
block_bare [] k = refl
block_bare (i ∷ items) k = λ j. if pointer_bare i.head.kind i k j == 0 then block_bare items k j else pointer_bare i.head.kind i k j

pub bytes_bare : (image : Image) (items : List ReiserItem) (key : ObjectKey) (size : ℕ) → file_bytes image (items_of key (unplaced items)) size ≡ file_bytes image (items_of key items) size
bytes_bare image items key size =
    ap (λ (xs : List ReiserItem). file_bytes image xs size) (items_bare key items) ∙ (λ j. bytes_by size (λ n. whole (items_of key items) n j) 0)
  where
    whole : (xs : List ReiserItem) (n : ℕ) → file_byte image (unplaced xs) n ≡ file_byte image xs n
    whole xs n = λ j. unwrap_or (byte_bare xs n j) (block_byte image (block_bare xs (n / 4096) j) (n % 4096))

stat_behind : (o : Option ObjectStat) (t : ObjectStat) → option_map bare_stat o ≡ Some t → (s : ObjectStat) × (o ≡ Some s) × (bare_stat s ≡ t)
stat_behind None t is = cc
stat_behind (Some s) t is = (s, refl, cc)

-- what the stat data gives a row does not depend on its leaf
fields_to : (flags : ℕ) (s : ObjectStat) (row : WholeRow) → HasStat flags s row → HasStat flags (bare_stat s) row
fields_to flags s row f = record {
  kind = f.kind;
  mode = f.mode;
  uid = f.uid;
  gid = f.gid;
  atime = f.atime;
  mtime = f.mtime;
  ctime = f.ctime;
  sync = f.sync;
  immutable = f.immutable;
  append = f.append;
  nodump = f.nodump;
  noatime = f.noatime;
  major = f.major;
  minor = f.minor;
}

fields_from : (flags : ℕ) (s : ObjectStat) (row : WholeRow) → HasStat flags (bare_stat s) row → HasStat flags s row
fields_from flags s row f = record {
  kind = f.kind;
  mode = f.mode;
  uid = f.uid;
  gid = f.gid;
  atime = f.atime;
  mtime = f.mtime;
  ctime = f.ctime;
  sync = f.sync;
  immutable = f.immutable;
  append = f.append;
  nodump = f.nodump;
  noatime = f.noatime;
  major = f.major;
  minor = f.minor;
}

module _ (image : Image) (flags : ℕ) (items : List ReiserItem) (rows : List WholeRow) where
  row_to : (links : List Naming) (key : ObjectKey) (row : WholeRow) → IsRow image flags items links rows key row → IsRow image flags (unplaced items) (map bare_naming links) rows key row
  row_to links key row r = record {
    leads = leads_to links root row.path key r.leads;
    stat = bare_stat r.stat;
    has_stat = stat_same items key ∙ ap (option_map bare_stat) r.has_stat;
    fields = fields_to flags r.stat row r.fields;
    least = record { leads = leads_to links root row.least key r.least.leads; least = λ other leads. r.least.least other (leads_from links root other key leads) };
    names = r.names;
    bytes = r.bytes ∙ ap (λ (bytes : List ℕ). if has_bytes row.kind then bytes else []) (sym (bytes_bare image items key r.stat.fields.size));
  }

  row_from : (links : List Naming) (key : ObjectKey) (row : WholeRow) → IsRow image flags (unplaced items) (map bare_naming links) rows key row → IsRow image flags items links rows key row
  row_from links key row r =
      let s = stat_behind (stat_of_object items key) r.stat (sym (stat_same items key) ∙ r.has_stat) in
      record {
        leads = leads_from links root row.path key r.leads;
        stat = s.0;
        has_stat = s.1;
        fields = fields_from flags s.0 row (subst (λ (t : ObjectStat). HasStat flags t row) (sym s.2) r.fields);
        least = record { leads = leads_from links root row.least key r.least.leads; least = λ other leads. r.least.least other (leads_to links root other key leads) };
        names = r.names;
        bytes = r.bytes
            ∙ (ap (λ (t : ObjectStat). if has_bytes row.kind then file_bytes image (items_of key (unplaced items)) t.fields.size else []) (sym s.2)
            ∙ ap (λ (bytes : List ℕ). if has_bytes row.kind then bytes else []) (bytes_bare image items key s.0.fields.size));
      }

  pub rows_to : AreReiserRows image flags items rows → AreReiserRows image flags (unplaced items) rows
  rows_to h = record {
    visible = map bare_naming h.visible;
    links = map bare_naming h.links;
    are_links = links_to items h.visible h.links h.are_links;
    ascends = h.ascends;
    each = λ row among. let e = h.each row among in (e.0, row_to h.links e.0 row e.1);
    whole = λ path key leads. h.whole path key (leads_from h.links root path key leads);
  }

  pub rows_from : AreReiserRows image flags (unplaced items) rows → AreReiserRows image flags items rows
  rows_from h =
      let visible : List Naming = filter (λ n. h.are_links.has n.dir) (namings items) in
      let links : List Naming = filter is_followed visible in
      let are : AreLinks items visible links = links_from items h.visible h.links h.are_links in
      let same : h.links ≡ map bare_naming links = links_one (unplaced items) h.visible h.links (map bare_naming visible) (map bare_naming links) h.are_links (links_to items visible links are) in
      record {
        visible = visible;
        links = links;
        are_links = are;
        ascends = h.ascends;
        each = λ row among. let e = h.each row among in (e.0, row_from links e.0 row (subst (λ (l : List Naming). IsRow image flags (unplaced items) l rows e.0 row) same e.1));
        whole = λ path key leads. h.whole path key (subst (λ (l : List Naming). LeadsToObject l root path key) (sym same) (leads_to links root path key leads));
      }
