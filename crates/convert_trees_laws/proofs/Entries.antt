-- The entries of directories in a tree of the file tree's items.
use Rattle.convert_trees_laws.proofs.Imports.{◌≡◌, ◌≤◌, ◌<◌, ℕ, ◌+◌, ◌^◌, ◌==◌, ◌&&◌, not, Bool, true, false, cond, List, [], ◌∷◌, ◌++◌, append_assoc, length, map, count_by, Option, Some, None, refl, sym, ap, ◌∙◌, if◌then◌else◌, arith, AllByRecursion, IsDistinct, flat_map, is_lt, nat_tests, append-nil, map-append, sum_by-cons, DIR_INDEX, DIR_ITEM, INODE_EXTREF, INODE_REF, name_hash, keys, Kind, Directory, File, Symlink, Character, Block, Fifo, Socket, Subvolume, DirEntryValue, dir_entry_bytes, dir_entry_head, dir_items_of, key_layout, make_key, dir_items_read_back, index_entry, is_index, naming_at, dir_indexes, only_one, own_naming, DirIndex, Item, TreeItem, bare_item, made_from, extents_at, file_block, pieces_of, IndexedLink, Indexed, entry_items, entry_kind, entry_to, indexed_in, names_in, next_index, saved_entry, Source, content_items, file_extent_items, inline_in, kind_in, name_items, ino_of, object_items, size_in, fs_tree_items, extent_item, inline_extent, regular_extent, grouped, target_bytes, object_cmp, ino_of_key, ObjectKey, Naming, items_of, root, same_key, by_inode, accepted_is_small, Piece, EntriesAreThere, naming_by, namings_by, unplaced}
use Rattle.convert_trees_laws.proofs.FileBlocks.{starts, starts_none}
use Rattle.convert_trees_laws.proofs.Keys.{names_part}
use Rattle.convert_trees_laws.proofs.Rising.{IsOf, all_each, all_mapped, all_true}
use Rattle.convert_trees_laws.proofs.Short.{names_low}
use Rattle.convert_trees_laws.proofs.ShortTrees.{short}

abbrev told : Item → Option DirEntryValue → List DirIndex
told i None = []
told i (Some e) = record { leaf = 0; dir = i.0.objectid; index = i.0.offset; location = e.location; name = e.name } ∷ []

-- the entry that an item is
abbrev own : Item → List DirIndex
own i = if i.0.kind == DIR_INDEX then told i (index_entry i.1) else []

read_one : (i : TreeItem) → map unplaced (own_naming i) ≡ own (bare_item i)
read_one i = by (is_index i) (index_entry i.body)
  where
    by : (b : Bool) (e : Option DirEntryValue) → map unplaced (if b then naming_at i e else []) ≡ (if b then told (bare_item i) e else [])
    by true None = refl
    by true (Some e) = refl
    by false e = refl

pub read_all : (items : List TreeItem) → map unplaced (dir_indexes items) ≡ flat_map own (map bare_item items)
read_all [] = refl
read_all (i ∷ items) =
    map-append unplaced (own_naming i) (dir_indexes items)
    ∙ (ap (λ (l : List DirIndex). l ++ map unplaced (dir_indexes items)) (read_one i) ∙ ap (λ (l : List DirIndex). own (bare_item i) ++ l) (read_all items))

flat_append : {A B : Type 0} (f : A → List B) (xs ys : List A) → flat_map f (xs ++ ys) ≡ flat_map f xs ++ flat_map f ys
flat_append f [] ys = refl
flat_append {A} {B} f (x ∷ xs) ys = ap (λ (l : List B). f x ++ l) (flat_append f xs ys) ∙ sym (append_assoc (f x) (flat_map f xs) (flat_map f ys))

none : (items : List Item) → AllByRecursion (λ i. (i.0.kind == DIR_INDEX) ≡ false) items → flat_map own items ≡ []
none [] all = refl
none (i ∷ items) all = ap (λ (b : Bool). (if b then told i (index_entry i.1) else []) ++ flat_map own items) all.0 ∙ none items all.1

-- ---- indexes that are read back

index_read : (e : DirEntryValue) → dir_entry_head.fits e → index_entry (dir_entry_bytes e) ≡ Some e
index_read e fits = ap only_one (ap dir_items_of (sym (append-nil (dir_entry_bytes e))) ∙ dir_items_read_back e [] (fits, tt))

indexes_read : (ino : ℕ) (list : List Indexed) → AllByRecursion (λ (e : Indexed). dir_entry_head.fits e.1) list → flat_map own (map (λ (e : Indexed). (make_key ino DIR_INDEX e.0, dir_entry_bytes e.1)) list) ≡ map (naming_by ino) list
indexes_read ino [] all = refl
indexes_read ino (e ∷ list) all =
    ap (λ (x : Option DirEntryValue). told (make_key ino DIR_INDEX e.0, dir_entry_bytes e.1) x ++ flat_map own (map (λ (f : Indexed). (make_key ino DIR_INDEX f.0, dir_entry_bytes f.1)) list)) (index_read e.1 all.0)
    ∙ ap (λ (l : List DirIndex). naming_by ino e ∷ l) (indexes_read ino list all.1)

pub entries_read : (ino : ℕ) (list : List Indexed) → AllByRecursion (λ (e : Indexed). dir_entry_head.fits e.1) list → flat_map own (entry_items ino list) ≡ map (naming_by ino) list
entries_read ino list all =
    let first : List Item = map (λ g. (make_key ino DIR_ITEM g.0, flat_map (λ (e : Indexed). dir_entry_bytes e.1) g.1)) (grouped (λ (e : Indexed). name_hash e.1.name) list) in
    let second : List Item = map (λ (e : Indexed). (make_key ino DIR_INDEX e.0, dir_entry_bytes e.1)) list in
    flat_append own first second
    ∙ (ap (λ (l : List DirIndex). l ++ flat_map own second) (none first (all_mapped (λ i. (i.0.kind == DIR_INDEX) ≡ false) (λ (g : ℕ × List Indexed). (make_key ino DIR_ITEM g.0, flat_map (λ (e : Indexed). dir_entry_bytes e.1) g.1)) (grouped (λ (e : Indexed). name_hash e.1.name) list) (all_true _ (grouped (λ (e : Indexed). name_hash e.1.name) list) (λ g. refl))))
    ∙ indexes_read ino list all)

-- ---- entries fit

kind_low : (kind : Kind) → entry_kind kind < 256
kind_low File = omega arith
kind_low Directory = omega arith
kind_low Character = omega arith
kind_low Block = omega arith
kind_low Fifo = omega arith
kind_low Socket = omega arith
kind_low Symlink = omega arith
kind_low Subvolume = omega arith

count_low : (p : ObjectKey → Bool) (ks : List ObjectKey) → count_by p ks ≤ length ks
count_low p [] = omega arith
count_low p (k ∷ ks) = by (p k) (count_low p ks) (sum_by-cons (λ (x : ObjectKey). cond (p x) 1 0) k ks)
  where
    by : (b : Bool) → count_by p ks ≤ length ks → count_by p (k ∷ ks) ≡ cond b 1 0 + count_by p ks → count_by p (k ∷ ks) ≤ length (k ∷ ks)
    by true later is = omega (arith, later, is)
    by false later is = omega (arith, later, is)

pub inode_low : (all : List ObjectKey) (key : ObjectKey) → length all ≤ 2 ^ 37 → ino_of_key all key < 2 ^ 64
inode_low all key few = by (same_key key root)
  where
    by : (b : Bool) → (if b then 256 else 257 + count_by (λ k. is_lt (object_cmp k key) && not (same_key k root)) all) < 2 ^ 64
    by true = omega arith
    by false = let low = count_low (λ k. is_lt (object_cmp k key) && not (same_key k root)) all in omega (arith, low, few)

pub entry_fits : (ino : ℕ) (kind : Kind) (name : List ℕ) → ino < 2 ^ 64 → length name ≤ 255 → dir_entry_head.fits (entry_to ino kind name)
unfolding dir_entry_head key_layout
entry_fits ino kind name low short = let small = kind_low kind in (((((tt, (((tt, omega (arith, low)), omega arith), omega arith)), omega arith), omega arith), omega (arith, short)), small)

pub saved_fits : dir_entry_head.fits saved_entry
unfolding dir_entry_head key_layout
saved_fits = (((((tt, (((tt, omega arith), omega arith), omega arith)), omega arith), omega arith), omega arith), omega arith)

module _ (kind : ObjectKey → Kind) (all : List ObjectKey) (links : List Naming) (dir : ObjectKey) (few : length all ≤ 2 ^ 37) where
  abbrev listed : IndexedLink → Indexed
  listed e = (e.index, entry_to (ino_of_key all e.link.target) (kind e.link.target) e.link.name)

  each_fits : (es : List IndexedLink) (rest : List Indexed) → AllByRecursion (λ (e : Indexed). length e.1.name ≤ 255) (map listed es ++ rest) → AllByRecursion (λ (e : Indexed). dir_entry_head.fits e.1) rest
      → AllByRecursion (λ (e : Indexed). dir_entry_head.fits e.1) (map listed es ++ rest)
  each_fits [] rest low fits = fits
  each_fits (e ∷ es) rest low fits = (entry_fits (ino_of_key all e.link.target) (kind e.link.target) e.link.name (inode_low all e.link.target few) low.0, each_fits es rest low.1 fits)

  all_fit : AllByRecursion (λ (e : Indexed). length e.1.name ≤ 255) (indexed_in kind all links dir) → AllByRecursion (λ (e : Indexed). dir_entry_head.fits e.1) (indexed_in kind all links dir)
  all_fit low = each_fits (names_in links dir) (if same_key dir root then (next_index links dir, saved_entry) ∷ [] else []) low (saved (same_key dir root))
    where
      saved : (b : Bool) → AllByRecursion (λ (e : Indexed). dir_entry_head.fits e.1) (if b then (next_index links dir, saved_entry) ∷ [] else [])
      saved true = (saved_fits, tt)
      saved false = tt

-- ---- objects

module _ (s : Source) (distinct : IsDistinct starts s.pieces) (fit : (key : ObjectKey) → AllByRecursion (λ (e : Indexed). dir_entry_head.fits e.1) (indexed_in (kind_in s) s.keys s.links key)) where
  other_kind : (k : ℕ) → k ≤ 13 → (k == DIR_INDEX) ≡ false
  other_kind k low = grind (arith, nat_tests)

  data_none : (key : ObjectKey) → flat_map own (file_extent_items s key) ≡ []
  unfolding file_extent_items
  data_none key = by (inline_in s key)
    where
      by : (b : Bool) → flat_map own (if b then extent_item (ino_of s key) 0 (inline_extent (target_bytes (items_of key s.items) (size_in s key))) ∷ [] else extents_at (ino_of s key) file_block (pieces_of s.pieces (ino_of s key))) ≡ []
      by true = refl
      by false = none (extents_at (ino_of s key) file_block (pieces_of s.pieces (ino_of s key)))
          (all_mapped (λ i. (i.0.kind == DIR_INDEX) ≡ false) (λ (p : Piece). extent_item (ino_of s key) (file_block p) (regular_extent p.place p.count)) (pieces_of s.pieces (ino_of s key)) (all_true _ (pieces_of s.pieces (ino_of s key)) (λ p. refl)))

  content_read : (key : ObjectKey) (kind : Kind) → flat_map own (content_items s key kind) ≡ namings_by s key kind
  content_read key Directory = entries_read (ino_of s key) (indexed_in (kind_in s) s.keys s.links key) (fit key)
  content_read key File = data_none key
  content_read key Symlink = data_none key
  content_read key Character = refl
  content_read key Block = refl
  content_read key Fifo = refl
  content_read key Socket = refl
  content_read key Subvolume = refl

  object_read : (key : ObjectKey) → flat_map own (object_items s key) ≡ namings_by s key (kind_in s key)
  unfolding object_items
  object_read key =
      flat_append own (name_items s key) (content_items s key (kind_in s key))
      ∙ (ap (λ (l : List DirIndex). l ++ flat_map own (content_items s key (kind_in s key)))
      (none (name_items s key) (all_each (IsOf (ino_of s key) INODE_REF INODE_EXTREF) (λ i. (i.0.kind == DIR_INDEX) ≡ false) (name_items s key) (λ i of. other_kind i.0.kind of.high) (names_part s distinct key).each))
      ∙ content_read key (kind_in s key))

  objects_read : (ks : List ObjectKey) → flat_map own (flat_map (object_items s) ks) ≡ flat_map (λ key. namings_by s key (kind_in s key)) ks
  objects_read [] = refl
  objects_read (k ∷ ks) =
      flat_append own (object_items s k) (flat_map (object_items s) ks)
      ∙ (ap (λ (l : List DirIndex). l ++ flat_map own (flat_map (object_items s) ks)) (object_read k) ∙ ap (λ (l : List DirIndex). namings_by s k (kind_in s k) ++ l) (objects_read ks))

pub entries_are_there : EntriesAreThere
unfolding fs_tree_items
entries_are_there volume image o plan pieces items has read =
    let s : Source = made_from volume image o pieces in
    let few = (accepted_is_small image has.accepted).objects (keys volume.named) has.opened.are_keys in
    read_all items
    ∙ (ap (flat_map own) read
    ∙ objects_read s (starts_none image has.found o plan has.plan_ pieces has.placed)
    (λ key. all_fit (kind_in s) s.keys s.links key few (names_low (kind_in s) s.keys s.links key (short volume image o pieces has.accepted has.opened))) (by_inode s.keys))
