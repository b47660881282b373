-- Each directory index of the file tree's items has an entry.
use Rattle.convert_trees_laws.proofs.Imports.{◌≡◌, ◌≤◌, ◌<◌, ℕ, ◌+◌, ◌^◌, ◌&&◌, not, Bool, true, false, cond, List, [], ◌∷◌, ◌++◌, length, map, filter, count_by, Contains, Option, Some, None, refl, sym, ap, subst, ◌∙◌, if◌then◌else◌, arith, AllByRecursion, flat_map, is_lt, append-nil, sum_by-cons, DIR_INDEX, DIR_ITEM, INODE_EXTREF, INODE_REF, extref_hash, name_hash, keys, Image, in_map, Kind, Directory, File, Symlink, Character, Block, Fifo, Socket, Subvolume, DirEntryValue, dir_entry_bytes, dir_entry_head, dir_items_of, extref_bytes, inode_ref_bytes, key_layout, make_key, dir_items_read_back, index_entry, only_one, Item, TreeItem, bare_item, HasPieces, made_from, extents_at, file_block, pieces_of, IndexedLink, Indexed, entry_items, entry_kind, entry_to, extref, extrefs, indexed_in, inode_ref, inode_refs, names_in, names_of, next_index, parent_of, saved_entry, Source, content_items, file_extent_items, inline_in, kind_in, name_items, ino_of, object_items, size_in, fs_tree_items, name_items_other, name_items_root, extent_item, inline_extent, regular_extent, ascending, grouped, target_bytes, object_cmp, ino_of_key, ObjectKey, Naming, items_of, root, same_key, by_inode, Volume, accepted_is_small, Options, Piece, Plan, ReadAs}
use Rattle.convert_trees_laws.proofs.Rising.{all_append, all_each, all_flat, all_mapped, all_true}
use Rattle.convert_trees_laws.proofs.Short.{names_low}
use Rattle.convert_trees_laws.proofs.Known.{links_short}
use Rattle.convert_trees_laws.proofs.Lists.{all_in}

-- ---- entries fit

kind_low : (kind : Kind) → entry_kind kind < 256
kind_low File = omega arith
kind_low Directory = omega arith
kind_low Character = omega arith
kind_low Block = omega arith
kind_low Fifo = omega arith
kind_low Socket = omega arith
kind_low Symlink = omega arith
kind_low Subvolume = omega arith

count_low : (p : ObjectKey → Bool) (ks : List ObjectKey) → count_by p ks ≤ length ks
count_low p [] = omega arith
count_low p (k ∷ ks) = by (p k) (count_low p ks) (sum_by-cons (λ (x : ObjectKey). cond (p x) 1 0) k ks)
  where
    by : (b : Bool) → count_by p ks ≤ length ks → count_by p (k ∷ ks) ≡ cond b 1 0 + count_by p ks → count_by p (k ∷ ks) ≤ length (k ∷ ks)
    by true later is = omega (arith, later, is)
    by false later is = omega (arith, later, is)

inode_low : (all : List ObjectKey) (key : ObjectKey) → length all ≤ 2 ^ 37 → ino_of_key all key < 2 ^ 64
inode_low all key few = by (same_key key root)
  where
    by : (b : Bool) → (if b then 256 else 257 + count_by (λ k. is_lt (object_cmp k key) && not (same_key k root)) all) < 2 ^ 64
    by true = omega arith
    by false = let low = count_low (λ k. is_lt (object_cmp k key) && not (same_key k root)) all in omega (arith, low, few)

entry_fits : (ino : ℕ) (kind : Kind) (name : List ℕ) → ino < 2 ^ 64 → length name ≤ 255 → dir_entry_head.fits (entry_to ino kind name)
unfolding dir_entry_head key_layout
entry_fits ino kind name low short = let small = kind_low kind in (((((tt, (((tt, omega (arith, low)), omega arith), omega arith)), omega arith), omega arith), omega (arith, short)), small)

saved_fits : dir_entry_head.fits saved_entry
unfolding dir_entry_head key_layout
saved_fits = (((((tt, (((tt, omega arith), omega arith), omega arith)), omega arith), omega arith), omega arith), omega arith)

module _ (kind : ObjectKey → Kind) (all : List ObjectKey) (links : List Naming) (dir : ObjectKey) (few : length all ≤ 2 ^ 37) where
  abbrev listed : IndexedLink → Indexed
  listed e = (e.index, entry_to (ino_of_key all e.link.target) (kind e.link.target) e.link.name)

  each_fits : (es : List IndexedLink) (rest : List Indexed) → AllByRecursion (λ (e : Indexed). length e.1.name ≤ 255) (map listed es ++ rest) → AllByRecursion (λ (e : Indexed). dir_entry_head.fits e.1) rest
      → AllByRecursion (λ (e : Indexed). dir_entry_head.fits e.1) (map listed es ++ rest)
  each_fits [] rest low fits = fits
  each_fits (e ∷ es) rest low fits = (entry_fits (ino_of_key all e.link.target) (kind e.link.target) e.link.name (inode_low all e.link.target few) low.0, each_fits es rest low.1 fits)

  all_fit : AllByRecursion (λ (e : Indexed). length e.1.name ≤ 255) (indexed_in kind all links dir) → AllByRecursion (λ (e : Indexed). dir_entry_head.fits e.1) (indexed_in kind all links dir)
  all_fit low = each_fits (names_in links dir) (if same_key dir root then (next_index links dir, saved_entry) ∷ [] else []) low (saved (same_key dir root))
    where
      saved : (b : Bool) → AllByRecursion (λ (e : Indexed). dir_entry_head.fits e.1) (if b then (next_index links dir, saved_entry) ∷ [] else [])
      saved true = (saved_fits, tt)
      saved false = tt

-- ---- indexes

-- an index has an entry
abbrev IsReadable : Item → Type 0
IsReadable i = i.0.kind ≡ DIR_INDEX → index_entry i.1 ≡ None → ⊥

not_none : (e : DirEntryValue) (r : Option DirEntryValue) → r ≡ Some e → r ≡ None → ⊥
not_none e r some none = absurd (cc)

index_readable : (e : DirEntryValue) → dir_entry_head.fits e → index_entry (dir_entry_bytes e) ≡ None → ⊥
index_readable e fits = not_none e (index_entry (dir_entry_bytes e)) (ap only_one (ap dir_items_of (sym (append-nil (dir_entry_bytes e))) ∙ dir_items_read_back e [] (fits, tt)))

module _ (s : Source) (fit : (key : ObjectKey) → AllByRecursion (λ (e : Indexed). dir_entry_head.fits e.1) (indexed_in (kind_in s) s.keys s.links key)) where
  entries_readable : (ino : ℕ) (list : List Indexed) → AllByRecursion (λ (e : Indexed). dir_entry_head.fits e.1) list → AllByRecursion IsReadable (entry_items ino list)
  entries_readable ino list all =
      all_append IsReadable
      (map (λ g. (make_key ino DIR_ITEM g.0, flat_map (λ (e : Indexed). dir_entry_bytes e.1) g.1)) (grouped (λ (e : Indexed). name_hash e.1.name) list))
      (map (λ (e : Indexed). (make_key ino DIR_INDEX e.0, dir_entry_bytes e.1)) list)
      (all_mapped IsReadable (λ (g : ℕ × List Indexed). (make_key ino DIR_ITEM g.0, flat_map (λ (e : Indexed). dir_entry_bytes e.1) g.1)) (grouped (λ (e : Indexed). name_hash e.1.name) list)
      (all_true _ (grouped (λ (e : Indexed). name_hash e.1.name) list) (λ g is none. absurd (omega (arith, is)))))
      (all_mapped IsReadable (λ (e : Indexed). (make_key ino DIR_INDEX e.0, dir_entry_bytes e.1)) list
      (all_each (λ (e : Indexed). dir_entry_head.fits e.1) (λ (e : Indexed). IsReadable (make_key ino DIR_INDEX e.0, dir_entry_bytes e.1)) list (λ e fits is none. index_readable e.1 fits none) all))

  data_readable : (key : ObjectKey) → AllByRecursion IsReadable (file_extent_items s key)
  unfolding file_extent_items
  data_readable key = by (inline_in s key)
    where
      by : (b : Bool) → AllByRecursion IsReadable (if b then extent_item (ino_of s key) 0 (inline_extent (target_bytes (items_of key s.items) (size_in s key))) ∷ [] else extents_at (ino_of s key) file_block (pieces_of s.pieces (ino_of s key)))
      by true = (λ is none. absurd (omega (arith, is)), tt)
      by false = all_mapped IsReadable (λ (p : Piece). extent_item (ino_of s key) (file_block p) (regular_extent p.place p.count)) (pieces_of s.pieces (ino_of s key)) (all_true _ (pieces_of s.pieces (ino_of s key)) (λ p is none. absurd (omega (arith, is))))

  content_readable : (key : ObjectKey) (kind : Kind) → AllByRecursion IsReadable (content_items s key kind)
  content_readable key Directory = entries_readable (ino_of s key) (indexed_in (kind_in s) s.keys s.links key) (fit key)
  content_readable key File = data_readable key
  content_readable key Symlink = data_readable key
  content_readable key Character = tt
  content_readable key Block = tt
  content_readable key Fifo = tt
  content_readable key Socket = tt
  content_readable key Subvolume = tt

  refs_readable : (key : ObjectKey) → AllByRecursion IsReadable (inode_refs s.keys s.links key ++ extrefs s.keys s.links key)
  refs_readable key =
      let plain : List IndexedLink = filter (λ e. not e.extended) (names_of s.links key) in
      let far : List IndexedLink = ascending (parent_of s.keys) (filter (λ e. e.extended) (names_of s.links key)) in
      let hash : IndexedLink → ℕ = λ e. extref_hash (parent_of s.keys e) e.link.name in
      all_append IsReadable (inode_refs s.keys s.links key) (extrefs s.keys s.links key)
      (all_mapped IsReadable (λ (g : ℕ × List IndexedLink). (make_key (ino_of s key) INODE_REF g.0, flat_map (λ (e : IndexedLink). inode_ref_bytes (inode_ref e)) g.1)) (grouped (parent_of s.keys) plain)
      (all_true _ (grouped (parent_of s.keys) plain) (λ g is none. absurd (omega (arith, is)))))
      (all_mapped IsReadable (λ (g : ℕ × List IndexedLink). (make_key (ino_of s key) INODE_EXTREF g.0, flat_map (λ (e : IndexedLink). extref_bytes (extref s.keys e)) g.1)) (grouped hash far)
      (all_true _ (grouped hash far) (λ g is none. absurd (omega (arith, is)))))

  names_readable : (key : ObjectKey) → AllByRecursion IsReadable (name_items s key)
  names_readable key = by (same_key key root) refl
    where
      by : (b : Bool) → same_key key root ≡ b → AllByRecursion IsReadable (name_items s key)
      by true is = subst (AllByRecursion IsReadable) (sym (name_items_root s key is)) (λ at none. absurd (omega (arith, at)), tt)
      by false is = subst (AllByRecursion IsReadable) (sym (name_items_other s key s.keys s.links is refl refl)) (refs_readable key)

  object_readable : (key : ObjectKey) → AllByRecursion IsReadable (object_items s key)
  unfolding object_items
  object_readable key = (
    λ is none. absurd (omega (arith, is)),
    all_append IsReadable (name_items s key) (content_items s key (kind_in s key))
        (names_readable key)
        (content_readable key (kind_in s key)),
  )

  tree_readable : AllByRecursion IsReadable (fs_tree_items s)
  unfolding fs_tree_items
  tree_readable = all_flat IsReadable (object_items s) (by_inode s.keys) (all_true (λ key. AllByRecursion IsReadable (object_items s key)) (by_inode s.keys) object_readable)

-- each directory index of such a tree has an entry
pub indexes_readable : (volume : Volume) (image : Image) (o : Options) (plan : Plan) (pieces : List Piece) (items : List TreeItem) (i : TreeItem) → HasPieces volume image o plan pieces
    → ReadAs (made_from volume image o pieces) items → Contains items i → i.key.kind ≡ DIR_INDEX → index_entry i.body ≡ None → ⊥
indexes_readable volume image o plan pieces items i has read among is none =
    let s : Source = made_from volume image o pieces in
    let few = (accepted_is_small image has.accepted).objects (keys volume.named) has.opened.are_keys in
    let readable = tree_readable s
    (λ key. all_fit (kind_in s) s.keys s.links key few (names_low (kind_in s) s.keys s.links key (links_short volume image has.accepted has.opened))) in
    let there : Contains (fs_tree_items s) (bare_item i) = subst (λ (l : List Item). Contains l (bare_item i)) read (in_map bare_item items i among) in
    all_in IsReadable (fs_tree_items s) (bare_item i) readable there is none
