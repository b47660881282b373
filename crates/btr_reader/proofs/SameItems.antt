-- What the items of a file tree say does not depend on the leaves that they lie in, and of the disk on the bytes of extents alone.
use Rattle.btr_reader.proofs.Imports.{◌≡◌, ℕ, ◌+◌, ◌-◌, ◌<◌, nat_lt, nat_le, Bool, true, false, cond, ◌&&◌, List, [], ◌∷◌, ◌++◌, map, filter, Contains, Option, Some, None, if◌then◌else◌, refl, sym, ap, subst, ◌∙◌, arith, range_with_len, option_map, option_and_then, nat_tests, map-append, Image, DirEntryValue, FileExtentValue, file_extent_of, inode_of, Inode, MapRange, TreeItem, NameList, WholeRow, Kind, in_map, from_map, at_head, in_tail, extents_of, is_extent_of, extent_length, content_byte, covers, byte_from, file_byte, bytes_of_inode, DirIndex, is_inode_of, find_inode_item, inode_on, kind_of_mode, IsDirectoryInode, is_index, index_entry, naming_at, own_naming, dir_indexes, is_followed, followed, IsNamedInode, root, entry, Target, inode, tree, NamesTarget, LeadsToTarget, unplaced, SameExtents, ItemsDecideBtrfsRows, top, IsRowOf, AreRows, has_bytes}

-- what rows need of two trees, each over a disk and a map
record Agree (image : Image) (ranges : List MapRange) (items : List TreeItem) (other : Image) (elsewhere : List MapRange) (others : List TreeItem) : Type 0 where
  leads : (from : Target) (path : NameList) (to : Target) → LeadsToTarget items from path to → LeadsToTarget others from path to
  back : (from : Target) (path : NameList) (to : Target) → LeadsToTarget others from path to → LeadsToTarget items from path to
  inodes : (ino : ℕ) → inode_on others ino ≡ inode_on items ino
  bytes : (ino : ℕ) (own : Inode) (path : NameList) → LeadsToTarget items top path (inode ino) → bytes_of_inode other elsewhere others ino own.size ≡ bytes_of_inode image ranges items ino own.size

module _ (image : Image) (ranges : List MapRange) (items : List TreeItem) (other : Image) (elsewhere : List MapRange) (others : List TreeItem) (agree : Agree image ranges items other elsewhere others) where
  row_over : (rows : List WholeRow) (to : Target) (row : WholeRow) → IsRowOf image ranges items rows to row → IsRowOf other elsewhere others rows to row
  row_over rows (inode ino) row r = record {
    leads = agree.leads top row.path (inode ino) r.leads;
    own = r.own;
    has = agree.inodes ino ∙ r.has;
    fields = r.fields;
    least = record { leads = agree.leads top row.least (inode ino) r.least.leads; least = λ path leads. r.least.least path (agree.back top path (inode ino) leads) };
    names = r.names;
    bytes = r.bytes ∙ ap (λ (b : List ℕ). if has_bytes row.kind then b else []) (sym (agree.bytes ino r.own row.path r.leads));
  }
  row_over rows (tree number) row r = record { leads = agree.leads top row.path (tree number) r.leads; is = r.is }

  rows_over : (rows : List WholeRow) → AreRows image ranges items rows → AreRows other elsewhere others rows
  rows_over rows are = record {
    ascends = are.ascends;
    each = λ row among. (let e = are.each row among in (e.0, row_over rows e.0 row e.1));
    whole = λ path to leads. are.whole path to (agree.back top path to leads);
  }

-- a path leads to a named inode
abbrev IsStart : List TreeItem → Target → Type 0
IsStart items (inode ino) = IsNamedInode items ino
IsStart items (tree number) = Unit {0}

goes_on : (items : List TreeItem) (n : DirIndex) (next : Target) → Contains (followed items) n → IsNamedInode items n.dir → IsDirectoryInode items n.dir → NamesTarget n next → IsStart items next
goes_on items n (inode ino) among named directory (is, to) = subst (IsNamedInode items) to (entry n among named directory is)
goes_on items n (tree number) among named directory names = tt

leads_named : (items : List TreeItem) (from : Target) (path : NameList) (to : Target) → IsStart items from → LeadsToTarget items from path to → IsStart items to
leads_named items from [] to start leads = subst (IsStart items) leads start
leads_named items (tree number) (name ∷ names) to start leads = absurd leads
leads_named items (inode ino) (name ∷ names) to start (n, next, among, dir, directory, called, gives, leads) =
    leads_named items next names to (goes_on items n next among (subst (IsNamedInode items) (sym dir) start) (subst (IsDirectoryInode items) (sym dir) directory) gives) leads

-- the bytes of a file are those of its extents
below_end : (offset k long : ℕ) → (nat_le offset k && nat_lt k (offset + long)) ≡ true → k - offset < long
below_end offset k long h = grind (arith, nat_tests, h)

by_extent : (image other : Image) (ranges elsewhere : List MapRange) (i : TreeItem) (e : Option FileExtentValue) (k first second : ℕ)
    → ((x : FileExtentValue) (n : ℕ) → e ≡ Some x → n < extent_length x.content → content_byte other elsewhere x.content n ≡ content_byte image ranges x.content n)
    → second ≡ first → byte_from other elsewhere i e k second ≡ byte_from image ranges i e k first
by_extent image other ranges elsewhere i None k first second same rest = rest
by_extent image other ranges elsewhere i (Some e) k first second same rest = by (covers i.key.offset e.content k) refl
  where
    by : (b : Bool) → covers i.key.offset e.content k ≡ b
        → cond b (content_byte other elsewhere e.content (k - i.key.offset)) second ≡ cond b (content_byte image ranges e.content (k - i.key.offset)) first
    by true is = same e (k - i.key.offset) refl (below_end i.key.offset k (extent_length e.content) is)
    by false is = rest

byte_over : (image other : Image) (ranges elsewhere : List MapRange) (extents : List TreeItem)
    → ((i : TreeItem) (e : FileExtentValue) (n : ℕ) → Contains extents i → file_extent_of i.body ≡ Some e → n < extent_length e.content → content_byte other elsewhere e.content n ≡ content_byte image ranges e.content n)
    → (k : ℕ) → file_byte other elsewhere extents k ≡ file_byte image ranges extents k
byte_over image other ranges elsewhere [] same k = refl
byte_over image other ranges elsewhere (i ∷ extents) same k =
    by_extent image other ranges elsewhere i (file_extent_of i.body) k (file_byte image ranges extents k) (file_byte other elsewhere extents k)
    (λ e n is below. same i e n (at_head i extents) is below)
    (byte_over image other ranges elsewhere extents (λ x e n among is below. same x e n (in_tail i extents x among) is below) k)

-- the same items over two disks
other_disk : (image other : Image) (ranges elsewhere : List MapRange) (items : List TreeItem) → SameExtents image ranges other elsewhere items → Agree image ranges items other elsewhere items
other_disk image other ranges elsewhere items same = record {
  leads = λ from path to leads. leads;
  back = λ from path to leads. leads;
  inodes = λ ino. refl;
  bytes = λ ino own path leads.
      let named : IsNamedInode items ino = leads_named items top path (inode ino) root leads in
      λ j. map (λ k. byte_over image other ranges elsewhere (extents_of items ino) (λ i e n among is below. same ino i e n named among is below) k j) (range_with_len 0 own.size);
}

-- ---- the rows of one tree over two disks, where its files and symlinks have the same bytes on both
abbrev pub SameContents : Image → Image → List MapRange → List TreeItem → Type 0
SameContents image other ranges items =
    (ino : ℕ) (own : Inode) (kind : Kind) → IsNamedInode items ino → inode_on items ino ≡ Some own → kind_of_mode own.mode ≡ Some kind → has_bytes kind ≡ true
    → bytes_of_inode other ranges items ino own.size ≡ bytes_of_inode image ranges items ino own.size

pub same_bytes : (image other : Image) (ranges : List MapRange) (items : List TreeItem) (ino size : ℕ)
    → ((i : TreeItem) (e : FileExtentValue) (n : ℕ) → Contains (extents_of items ino) i → file_extent_of i.body ≡ Some e → n < extent_length e.content → content_byte other ranges e.content n ≡ content_byte image ranges e.content n)
    → bytes_of_inode other ranges items ino size ≡ bytes_of_inode image ranges items ino size
same_bytes image other ranges items ino size same = λ j. map (λ k. byte_over image other ranges ranges (extents_of items ino) same k j) (range_with_len 0 size)

module _ (image other : Image) (ranges : List MapRange) (items : List TreeItem) (same : SameContents image other ranges items) where
  bytes_by_kind : (ino : ℕ) (own : Inode) (kind : Kind) → IsNamedInode items ino → inode_on items ino ≡ Some own → kind_of_mode own.mode ≡ Some kind → (t : Bool) → has_bytes kind ≡ t
      → (if t then bytes_of_inode image ranges items ino own.size else []) ≡ (if t then bytes_of_inode other ranges items ino own.size else [])
  bytes_by_kind ino own kind named has known true is = sym (same ino own kind named has known is)
  bytes_by_kind ino own kind named has known false is = refl

  row_here : (rows : List WholeRow) (to : Target) (row : WholeRow) → IsRowOf image ranges items rows to row → IsRowOf other ranges items rows to row
  row_here rows (inode ino) row r = record {
    leads = r.leads;
    own = r.own;
    has = r.has;
    fields = r.fields;
    least = r.least;
    names = r.names;
    bytes = r.bytes ∙ bytes_by_kind ino r.own row.kind (leads_named items top row.path (inode ino) root r.leads) r.has r.fields.kind (has_bytes row.kind) refl;
  }
  row_here rows (tree number) row r = r

  pub rows_here : (rows : List WholeRow) → AreRows image ranges items rows → AreRows other ranges items rows
  rows_here rows are = record {
    ascends = are.ascends;
    each = λ row among. (let e = are.each row among in (e.0, row_here rows e.0 row e.1));
    whole = are.whole;
  }

abbrev bare : TreeItem → TreeItem
bare i = record { leaf = 0; key = i.key; body = i.body }

abbrev bare_naming : DirIndex → DirIndex
bare_naming n = record { leaf = 0; dir = n.dir; index = n.index; location = n.location; name = n.name }

filter_over : {X Y : Type 0} (f : X → Y) (p : Y → Bool) (xs : List X) → filter p (map f xs) ≡ map f (filter (λ x. p (f x)) xs)
filter_over f p [] = refl
filter_over f p (x ∷ xs) = by (p (f x)) (filter_over f p xs)
  where
    by : (b : Bool) → filter p (map f xs) ≡ map f (filter (λ y. p (f y)) xs) → cond b (f x ∷ filter p (map f xs)) (filter p (map f xs)) ≡ map f (cond b (x ∷ filter (λ y. p (f y)) xs) (filter (λ y. p (f y)) xs))
    by true rest = ap (λ l. f x ∷ l) rest
    by false rest = rest

item_bare : (items : List TreeItem) (ino : ℕ) → find_inode_item (unplaced items) ino ≡ option_map bare (find_inode_item items ino)
item_bare [] ino = refl
item_bare (i ∷ items) ino = by (is_inode_of ino i) (item_bare items ino)
  where
    by : (b : Bool) → find_inode_item (unplaced items) ino ≡ option_map bare (find_inode_item items ino) → cond b (Some (bare i)) (find_inode_item (unplaced items) ino) ≡ option_map bare (cond b (Some i) (find_inode_item items ino))
    by true rest = refl
    by false rest = rest

body_bare : (o : Option TreeItem) → option_and_then (λ (i : TreeItem). inode_of i.body) (option_map bare o) ≡ option_and_then (λ (i : TreeItem). inode_of i.body) o
body_bare None = refl
body_bare (Some i) = refl

inode_bare : (items : List TreeItem) (ino : ℕ) → inode_on (unplaced items) ino ≡ inode_on items ino
inode_bare items ino = ap (option_and_then (λ (i : TreeItem). inode_of i.body)) (item_bare items ino) ∙ body_bare (find_inode_item items ino)

at_bare : (i : TreeItem) (o : Option DirEntryValue) → naming_at (bare i) o ≡ map bare_naming (naming_at i o)
at_bare i None = refl
at_bare i (Some e) = refl

own_bare : (i : TreeItem) → own_naming (bare i) ≡ map bare_naming (own_naming i)
own_bare i = by (is_index i)
  where
    by : (b : Bool) → cond b (naming_at (bare i) (index_entry i.body)) [] ≡ map bare_naming (cond b (naming_at i (index_entry i.body)) [])
    by true = at_bare i (index_entry i.body)
    by false = refl

namings_bare : (items : List TreeItem) → dir_indexes (unplaced items) ≡ map bare_naming (dir_indexes items)
namings_bare [] = refl
namings_bare (i ∷ items) = (λ j. own_bare i j ++ namings_bare items j) ∙ sym (map-append bare_naming (own_naming i) (dir_indexes items))

followed_bare : (items : List TreeItem) → followed (unplaced items) ≡ map bare_naming (followed items)
followed_bare items = ap (filter is_followed) (namings_bare items) ∙ filter_over bare_naming is_followed (dir_indexes items)

names_to : (n : DirIndex) (to : Target) → NamesTarget n to → NamesTarget (bare_naming n) to
names_to n (inode ino) h = h
names_to n (tree number) h = h

names_from : (n : DirIndex) (to : Target) → NamesTarget (bare_naming n) to → NamesTarget n to
names_from n (inode ino) h = h
names_from n (tree number) h = h

directory_to : (items : List TreeItem) (ino : ℕ) → IsDirectoryInode items ino → IsDirectoryInode (unplaced items) ino
directory_to items ino (own, is, kind) = (own, inode_bare items ino ∙ is, kind)

directory_from : (items : List TreeItem) (ino : ℕ) → IsDirectoryInode (unplaced items) ino → IsDirectoryInode items ino
directory_from items ino (own, is, kind) = (own, sym (inode_bare items ino) ∙ is, kind)

leads_to : (items : List TreeItem) (from : Target) (path : NameList) (to : Target) → LeadsToTarget items from path to → LeadsToTarget (unplaced items) from path to
leads_to items from [] to leads = leads
leads_to items (tree number) (name ∷ names) to leads = absurd leads
leads_to items (inode ino) (name ∷ names) to (n, next, among, dir, directory, called, gives, leads) = (
  bare_naming n,
  next,
  subst (λ (ns : List DirIndex). Contains ns (bare_naming n)) (sym (followed_bare items)) (in_map bare_naming (followed items) n among),
  dir,
  directory_to items ino directory,
  called,
  names_to n next gives,
  leads_to items next names to leads,
)

leads_from : (items : List TreeItem) (from : Target) (path : NameList) (to : Target) → LeadsToTarget (unplaced items) from path to → LeadsToTarget items from path to
leads_from items from [] to leads = leads
leads_from items (tree number) (name ∷ names) to leads = absurd leads
leads_from items (inode ino) (name ∷ names) to (n, next, among, dir, directory, called, gives, leads) =
    let m = from_map bare_naming (followed items) n (subst (λ (ns : List DirIndex). Contains ns n) (followed_bare items) among) in (
      m.0,
      next,
      m.1,
      ap (λ (x : DirIndex). x.dir) m.2 ∙ dir,
      directory_from items ino directory,
      ap (λ (x : DirIndex). x.name) m.2 ∙ called,
      names_from m.0 next (subst (λ (x : DirIndex). NamesTarget x next) (sym m.2) gives),
      leads_from items next names to leads,
    )

from_bare : (image : Image) (ranges : List MapRange) (i : TreeItem) (e : Option FileExtentValue) (k first second : ℕ) → second ≡ first → byte_from image ranges (bare i) e k second ≡ byte_from image ranges i e k first
from_bare image ranges i None k first second rest = rest
from_bare image ranges i (Some e) k first second rest = ap (λ (n : ℕ). cond (covers i.key.offset e.content k) (content_byte image ranges e.content (k - i.key.offset)) n) rest

byte_bare : (image : Image) (ranges : List MapRange) (extents : List TreeItem) (k : ℕ) → file_byte image ranges (unplaced extents) k ≡ file_byte image ranges extents k
byte_bare image ranges [] k = refl
byte_bare image ranges (i ∷ extents) k = from_bare image ranges i (file_extent_of i.body) k (file_byte image ranges extents k) (file_byte image ranges (unplaced extents) k) (byte_bare image ranges extents k)

bytes_bare : (image : Image) (ranges : List MapRange) (items : List TreeItem) (ino size : ℕ) → bytes_of_inode image ranges (unplaced items) ino size ≡ bytes_of_inode image ranges items ino size
bytes_bare image ranges items ino size =
    ap (λ (extents : List TreeItem). map (file_byte image ranges extents) (range_with_len 0 size)) (filter_over bare (is_extent_of ino) items)
    ∙ (λ j. map (λ k. byte_bare image ranges (extents_of items ino) k j) (range_with_len 0 size))

-- items with their leaves, and without them
to_bare : (image : Image) (ranges : List MapRange) (items : List TreeItem) → Agree image ranges items image ranges (unplaced items)
to_bare image ranges items = record {
  leads = leads_to items;
  back = leads_from items;
  inodes = inode_bare items;
  bytes = λ ino own path leads. bytes_bare image ranges items ino own.size;
}

of_bare : (image : Image) (ranges : List MapRange) (items : List TreeItem) → Agree image ranges (unplaced items) image ranges items
of_bare image ranges items = record {
  leads = leads_from items;
  back = leads_to items;
  inodes = λ ino. sym (inode_bare items ino);
  bytes = λ ino own path leads. sym (bytes_bare image ranges items ino own.size);
}

pub items_decide_rows : ItemsDecideBtrfsRows
items_decide_rows image other ranges elsewhere items others rows same extents are =
    let here : AreRows other elsewhere items rows = rows_over image ranges items other elsewhere items (other_disk image other ranges elsewhere items extents) rows are in
    let bared : AreRows other elsewhere (unplaced items) rows = rows_over other elsewhere items other elsewhere (unplaced items) (to_bare other elsewhere items) rows here in
    rows_over other elsewhere (unplaced others) other elsewhere others (of_bare other elsewhere others) rows (subst (λ (l : List TreeItem). AreRows other elsewhere l rows) same bared)
