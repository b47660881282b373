-- What the inodes of the file tree tell is so.
use Rattle.convert_core_laws.proofs.Imports.{◌≡◌, ◌≢◌, ◌≤◌, ◌<◌, ℕ, ◌+◌, ◌*◌, ◌^◌, ◌==◌, ◌&&◌, Bool, true, false, not, cond, List, [], ◌∷◌, ◌++◌, length, map, filter, count_by, Option, Some, refl, sym, ap, subst, ◌∙◌, ⊎_elim, true≢false, arith, AllByRecursion, and_parts, eq-eqb, eqb-true, ne_eqb, sum_by-IsPermutation, sum_by-cons, INODE_NODATASUM, EXTENT_DATA, INODE_ITEM, INODE_REF, FS_TREE, keys, Image, file_extent_of, inode_bytes, inode_of, make_key, Inode, kind_of_mode, Item, BackName, IndexEntry, own_name, IsInode, directory_size, has_no_sums, inode_nbytes, is_of_inode, ref_name_count, nbytes_of, TreeOn, NodePointer, IsMaking, Making, HasPieces, AreSortedKeys, numbered, extents_at, file_block, is_owned_by, piece_bytes, pieces_of, Indexed, indexed_links, indexed_in, Source, nbytes_by, content_items, file_extent_items, inline_in, inode_in, kind_in, link_count, name_items, ino_of, object_items, size_by, size_in, stat_in, fs_tree_items, if_set, FilesAreHeld, InodesAreThere, sum_links, sum_mapped, length_bytes, has_bytes, is_directory, is_file, Kind, Directory, File, Symlink, Character, Block, Fifo, Socket, Subvolume, extent_item, inline_extent, regular_extent, inode_item, at_head, from_flat_map, from_map, head_or_tail, in_tail, from_filter, file_byte, target_bytes, items_of, root, same_key, IsNamed, ObjectKey, Naming, same_key-self, same_key-true, stays_in_tree, volume_items, HasBytes, directory_there, kind_is, root_known, tree_kind_is, all_in, good_link, one_object, root_number, size_of_inode, Piece, Walked, walked_tree}
use Rattle.std.proofs.Common.{flat_map, sum_by, Contains, if◌then◌else◌}
use Rattle.convert_core_laws.proofs.Holding.{StaysInTree, stays}
use Rattle.convert_core_laws.proofs.Owned.{any_extents, extents_found}
use Rattle.convert_core_laws.proofs.Pieces.{all_of_inode}
use Rattle.convert_core_laws.proofs.ByteReading.{inline_read, is_extent, regular_read}
use Rattle.convert_core_laws.proofs.Sound.{owner_is}
use Rattle.convert_core_laws.proofs.soundness.Uses.{piece_small}
use Rattle.convert_core_laws.proofs.soundness.Flags.{flag_bit, inode_reads}
use Rattle.convert_core_laws.proofs.soundness.Assembling.{Tells, count_is, flat_one, size_is}
use Rattle.convert_core_laws.proofs.soundness.NameLists.{kept_all, kept_flat, kept_none}
use Rattle.convert_core_laws.proofs.soundness.Names.{climbs, from_order, in_order, names_by_links, objects, tells_tree, to_back}
use Rattle.convert_core_laws.proofs.soundness.Objects.{indexes, listed, names, rest_behind, s}
use Rattle.convert_core_laws.proofs.soundness.Telling.{index_by}

pub some_same : {A : Type 0} (a b : A) → Some a ≡ Some b → a ≡ b
some_same a b e = cc

pub sum_on : {A : Type 0} (v w : A → ℕ) (xs : List A) → ((x : A) → Contains xs x → v x ≡ w x) → sum_by v xs ≡ sum_by w xs
sum_on v w [] same = refl
sum_on v w (x ∷ xs) same =
    let here = same x (at_head x xs) in
    let later = sum_on v w xs (λ y h. same y (in_tail x xs y h)) in
    let first = sum_by-cons v x xs in
    let second = sum_by-cons w x xs in
    omega (arith, here, later, first, second)

pub kept_twice : {A : Type 0} (p q : A → Bool) (xs : List A) → filter p (filter q xs) ≡ filter (λ x. p x && q x) xs
kept_twice p q [] = refl
kept_twice {A} p q (x ∷ xs) = by (p x) (q x) refl (kept_twice p q xs)
  where
    by : (a b : Bool) → p x ≡ a → filter p (filter q xs) ≡ filter (λ y. p y && q y) xs → filter p (cond b (x ∷ filter q xs) (filter q xs)) ≡ cond (a && b) (x ∷ filter (λ y. p y && q y) xs) (filter (λ y. p y && q y) xs)
    by true true is later = ap (λ (c : Bool). cond c (x ∷ filter p (filter q xs)) (filter p (filter q xs))) is ∙ ap (λ (l : List A). x ∷ l) later
    by false true is later = ap (λ (c : Bool). cond c (x ∷ filter p (filter q xs)) (filter p (filter q xs))) is ∙ later
    by true false is later = later
    by false false is later = later

-- the bytes that an item of an extent adds
abbrev own_bytes : Item → ℕ
own_bytes i = nbytes_of (file_extent_of i.1)

pub bytes_are : (t : TreeOn) (ino : ℕ) → inode_nbytes t ino ≡ sum_by own_bytes (filter (is_extent ino) t.items)
bytes_are t ino = ap (sum_by own_bytes) (kept_twice (is_of_inode ino) (λ (i : Item). i.0.kind == EXTENT_DATA) t.items)

-- a piece's extent adds its blocks
pub piece_adds : (place count ino block : ℕ) → 1 ≤ place → 4096 * place < 2 ^ 64 → 4096 * count < 2 ^ 64 → own_bytes (extent_item ino block (regular_extent place count)) ≡ 4096 * count
piece_adds place count ino block some low few =
    ap nbytes_of (regular_read place count low few) ∙ ap (λ (b : Bool). if b then 0 else 4096 * count) (ne_eqb (4096 * place) 0 (λ e. omega (arith, e, some)))

pub mode_in : (src : Source) (key : ObjectKey) → (inode_in src key).mode ≡ (stat_in src key).fields.mode
unfolding inode_in
mode_in src key = refl

pub made_once : (src : Source) (key : ObjectKey) → ((inode_in src key).generation ≡ 1) × ((inode_in src key).transid ≡ 1)
unfolding inode_in
made_once src key = (refl, refl)

pub nlink_in : (src : Source) (key : ObjectKey) → (inode_in src key).nlink ≡ link_count src key
unfolding inode_in
nlink_in src key = refl

bytes_in : (src : Source) (key : ObjectKey) → (inode_in src key).nbytes ≡ nbytes_by src key
unfolding inode_in
bytes_in src key = refl

module _ (image : Image) (m : Making) (made : IsMaking image m) where
  abbrev of : HasPieces m.volume image m.options m.plan m.pieces
  of = made.has_pieces

  abbrev src : Source
  src = s image m made

  abbrev all : List ObjectKey
  all = keys m.volume.named

  pub kind_told : (key : ObjectKey) → Contains all key → kind_of_mode (inode_in src key).mode ≡ Some (kind_in src key)
  kind_told key among =
      ap kind_of_mode (mode_in src key) ∙ tree_kind_is (stat_in src key).fields.mode (kind_in src key) (kind_is m.volume image of.accepted of.opened m.options m.pieces key among)

  one : (a b : ObjectKey) → Contains all a → Contains all b → ino_of src a ≡ ino_of src b → a ≡ b
  one = one_object m.volume image m.options m.plan m.pieces of

  pub root_kind : kind_in src root ≡ Directory
  root_kind = directory_there m.volume image of.accepted of.opened m.options m.pieces root of.accepted.objects.root_directory

  module _ (nodes : Walked) where
    abbrev pub tree : TreeOn
    tree = walked_tree FS_TREE nodes (fs_tree_items src)

    abbrev order : List ObjectKey
    order = objects image m made

    abbrev index_all : List IndexEntry
    index_all = flat_map (indexes image m made) order

    abbrev name_all : List BackName
    name_all = flat_map (names image m made) order

    abbrev tells : Tells (fs_tree_items src) index_all name_all
    tells = tells_tree image m made

    module _ (key : ObjectKey) (among : Contains (keys m.volume.named) key) where
      abbrev n : ℕ
      n = ino_of src key

      -- ---- the size of a directory

      abbrev in_own : IndexEntry → Bool
      in_own e = e.entry.dir == n

      of_other : (k : ObjectKey) → Contains order k → ino_of src k ≢ n → filter in_own (indexes image m made k) ≡ []
      of_other k h apart =
          kept_none in_own (indexes image m made k) (λ e l.
          let x = from_map (index_by (ino_of src k)) (listed image m made k (kind_in src k)) e l in
          subst (λ (y : IndexEntry). in_own y ≡ false) x.2 (ne_eqb (ino_of src k) n apart))

      own_indexes : filter in_own index_all ≡ indexes image m made key
      own_indexes =
          kept_flat (indexes image m made) in_own order
          ∙ (flat_one (ino_of src) (λ (k : ObjectKey). filter in_own (indexes image m made k)) order key (climbs image m made) (in_order image m made key among) of_other
          ∙ kept_all in_own (indexes image m made key) (λ e l.
          let x = from_map (index_by n) (listed image m made key (kind_in src key)) e l in
          subst (λ (y : IndexEntry). in_own y ≡ true) x.2 (eq-eqb n n refl)))

      size_told : kind_in src key ≡ Directory → (inode_in src key).size ≡ directory_size tree n
      size_told directory =
          let list : List Indexed = indexed_in (kind_in src) src.keys src.links key in
          let own : indexes image m made key ≡ map (index_by n) list = ap (λ (k : Kind). map (index_by n) (listed image m made key k)) directory in
          size_of_inode src key
          ∙ (ap (size_by src key) directory
          ∙ (ap (λ (k : ℕ). 2 * k) (sym (sum_mapped (index_by n) (λ (e : IndexEntry). length e.entry.name) list))
          ∙ (ap (λ (l : List IndexEntry). 2 * sum_by (λ e. length e.entry.name) l) (sym (own_indexes ∙ own)) ∙ sym (size_is tree index_all name_all tells n))))

      -- ---- the names of any other object

      abbrev of_own : BackName → ℕ
      of_own x = cond (x.inode == n) 1 0

      links_count : sum_by of_own (map (to_back image m made) (indexed_links src.links)) ≡ count_by (λ l. same_key l.target key) src.links
      links_count =
          sum_mapped (to_back image m made) of_own (indexed_links src.links)
          ∙ (sum_links (λ (l : Naming). cond (ino_of src l.target == n) 1 0) [] src.links
          ∙ sum_on (λ (l : Naming). cond (ino_of src l.target == n) 1 0) (λ (l : Naming). cond (same_key l.target key) 1 0) src.links (λ l h. ap (λ (b : Bool). cond b 1 0) (same l h (same_key l.target key) refl)))
        where
          same : (l : Naming) → Contains src.links l → (b : Bool) → same_key l.target key ≡ b → (ino_of src l.target == ino_of src key) ≡ b
          same l h true is = eq-eqb (ino_of src l.target) (ino_of src key) (ap (ino_of src) (same_key-true l.target key is))
          same l h false is =
              ne_eqb (ino_of src l.target) (ino_of src key)
              (λ e. true≢false (sym (same_key-self key) ∙ (ap (λ (k : ObjectKey). same_key k key) (sym (one l.target key (good_link m.volume image m.options m.plan m.pieces of l h).target_known among e)) ∙ is)))

      not_root : (kind_in src key ≡ Directory → ⊥) → (256 == n) ≡ false
      not_root other =
          ne_eqb 256 n (λ e. other (ap (kind_in src) (one key root among (root_known m.volume image of.accepted of.opened) (sym e ∙ sym (root_number m.volume image m.options m.plan m.pieces of))) ∙ root_kind))

      pub names_count : ref_name_count tree n ≡ cond (256 == n) 1 0 + count_by (λ l. same_key l.target key) src.links
      names_count =
          let first : sum_by of_own (own_name ∷ map (to_back image m made) (indexed_links src.links)) ≡ of_own own_name + sum_by of_own (map (to_back image m made) (indexed_links src.links)) = sum_by-cons of_own own_name (map (to_back image m made) (indexed_links src.links)) in
          let links = links_count in
          let moved = sum_by-IsPermutation of_own name_all (own_name ∷ map (to_back image m made) (indexed_links src.links)) (names_by_links image m made) in
          let count = count_is tree index_all name_all tells n in
          omega (arith, first, links, moved, count)

      pub count_told : (kind_in src key ≡ Directory → ⊥) → count_by (λ l. same_key l.target key) src.links ≡ ref_name_count tree n
      count_told other =
          let none : cond (256 == n) 1 0 ≡ 0 = ap {B = ℕ} (λ (b : Bool). cond b 1 0) (not_root other) in
          let all = names_count in
          omega (arith, none, all)

      pub nlink_other : (kind_in src key ≡ Directory → ⊥) → link_count src key ≡ count_by (λ l. same_key l.target key) src.links
      nlink_other other = by (kind_in src key) refl
        where
          by : (k : Kind) → kind_in src key ≡ k → (if is_directory k then 1 else count_by (λ l. same_key l.target key) src.links) ≡ count_by (λ l. same_key l.target key) src.links
          by Directory is = absurd (other is)
          by File is = refl
          by Symlink is = refl
          by Character is = refl
          by Block is = refl
          by Fifo is = refl
          by Socket is = refl
          by Subvolume is = refl

      -- ---- bytes

      pieces_add : (qs : List Piece) → AllByRecursion (Contains m.pieces) qs → sum_by own_bytes (extents_at n file_block qs) ≡ piece_bytes qs
      pieces_add qs inside =
          sum_mapped (λ (p : Piece). extent_item n (file_block p) (regular_extent p.place p.count)) own_bytes qs
          ∙ sum_on (λ (p : Piece). own_bytes (extent_item n (file_block p) (regular_extent p.place p.count))) (λ (p : Piece). 4096 * p.count) qs (λ p h.
          let is = piece_small image m made p (all_in (Contains m.pieces) qs p inside h) in
          let end = is.end in
          let high = is.high in
          piece_adds p.place p.count n (file_block p) (omega (arith, high)) (omega (arith, end)) (omega (arith, end)))

      extents_add : sum_by own_bytes (file_extent_items src key) ≡ nbytes_by src key
      unfolding file_extent_items
      extents_add = by (inline_in src key) refl
        where
          by : (b : Bool) → inline_in src key ≡ b
              → sum_by own_bytes (if b then extent_item (ino_of src key) 0 (inline_extent (target_bytes (items_of key src.items) (size_in src key))) ∷ [] else extents_at (ino_of src key) file_block (pieces_of src.pieces (ino_of src key)))
              ≡ (if b then size_in src key else piece_bytes (pieces_of src.pieces (ino_of src key)))
          by true is =
              let is_named : IsNamed (volume_items image) key = (of.opened.are_keys.exact key).0 among in
              let bytes : List ℕ = target_bytes (items_of key src.items) (size_in src key) in
              let st : StaysInTree image of.accepted key is_named = stays image of.accepted key is_named m.options.inline is in
              let low = st.short in
              let long : length bytes ≡ size_in src key = ap length st.bytes ∙ length_bytes (size_in src key) (file_byte image (items_of key src.items)) 0 in
              let i : Item = extent_item (ino_of src key) 0 (inline_extent bytes) in
              let first = sum_by-cons own_bytes i [] in
              let read : own_bytes i ≡ length bytes = ap nbytes_of (inline_read bytes (omega (arith, long, low))) in
              omega (arith, first, read, long)
          by false is = pieces_add (pieces_of m.pieces (ino_of src key)) (all_of_inode (Contains m.pieces) m.pieces (ino_of src key) (λ q k t. k))

      -- each extent of an object has its number
      own_object : (k : ObjectKey) (i : Item) → Contains (file_extent_items src k) i → i.0.objectid ≡ ino_of src k
      unfolding file_extent_items
      own_object k i h = by (inline_in src k) h
        where
          by : (b : Bool) → Contains (if b then extent_item (ino_of src k) 0 (inline_extent (target_bytes (items_of k src.items) (size_in src k))) ∷ [] else extents_at (ino_of src k) file_block (pieces_of src.pieces (ino_of src k))) i
              → i.0.objectid ≡ ino_of src k
          by true there =
              ⊎_elim (λ (e : extent_item (ino_of src k) 0 (inline_extent (target_bytes (items_of k src.items) (size_in src k))) ≡ i). sym (ap (λ (j : Item). j.0.objectid) e)) (λ (none : Contains [] i). absurd (omega (arith, none.1)))
              (head_or_tail (extent_item (ino_of src k) 0 (inline_extent (target_bytes (items_of k src.items) (size_in src k)))) [] i there)
          by false there = let at = from_map (λ (p : Piece). extent_item (ino_of src k) (file_block p) (regular_extent p.place p.count)) (pieces_of src.pieces (ino_of src k)) i there in sym (ap (λ (j : Item). j.0.objectid) at.2)

      sorted : AreSortedKeys image all
      sorted = record { accepted = of.accepted; are_keys = of.opened.are_keys; ascend = of.opened.ascends }

      -- an object without bytes has no extents
      no_extents : has_bytes (kind_in src key) ≡ false → filter (is_extent n) (fs_tree_items src) ≡ []
      no_extents none =
          let at = numbered image all sorted in
          ⊎_elim
          (λ of_key. by of_key.0 of_key.1 of_key.2 of_key.3 (file_extent_items src of_key.0) refl)
          (λ (empty : filter (is_extent n) (fs_tree_items src) ≡ []). empty)
          (any_extents src at.0 at.1 n)
        where
          by : (k : ObjectKey) → Contains all k → has_bytes (kind_in src k) ≡ true → filter (is_extent (ino_of src key)) (fs_tree_items src) ≡ file_extent_items src k → (l : List Item) → file_extent_items src k ≡ l → filter (is_extent (ino_of src key)) (fs_tree_items src) ≡ []
          by k in_k has are [] is = are ∙ is
          by k in_k has are (i ∷ l) is =
              let here : Contains (file_extent_items src k) i = subst (λ (xs : List Item). Contains xs i) (sym is) (at_head i l) in
              let kept = from_filter (is_extent (ino_of src key)) (fs_tree_items src) i (subst (λ (xs : List Item). Contains xs i) (sym are) here) in
              let object : i.0.objectid ≡ ino_of src key = eqb-true i.0.objectid (ino_of src key) (and_parts (i.0.objectid == ino_of src key) (i.0.kind == EXTENT_DATA) kept.1).0 in
              let same : k ≡ key = one k key in_k among (sym (own_object k i here) ∙ object) in
              absurd (true≢false (sym has ∙ (ap (λ (x : ObjectKey). has_bytes (kind_in src x)) same ∙ none)))

      no_pieces : FilesAreHeld → (kind_in src key ≡ File → ⊥) → pieces_of src.pieces n ≡ []
      no_pieces held no_file = by (pieces_of src.pieces n) refl
        where
          by : (l : List Piece) → pieces_of src.pieces (ino_of src key) ≡ l → pieces_of src.pieces (ino_of src key) ≡ []
          by [] is = is
          by (p ∷ l) is =
              let here : Contains (pieces_of m.pieces (ino_of src key)) p = subst (λ (xs : List Piece). Contains xs p) (sym is) (at_head p l) in
              let owned = all_in (λ (q : Piece). Contains m.pieces q × (is_owned_by (ino_of src key) q ≡ true)) (pieces_of m.pieces (ino_of src key)) p (all_of_inode (λ q. Contains m.pieces q × (is_owned_by (ino_of src key) q ≡ true)) m.pieces (ino_of src key) (λ q k t. (k, t))) here in
              let w = (held m.volume image m.options m.plan m.pieces of).each p (ino_of src key) (file_block p) owned.0 (owner_is (ino_of src key) p owned.1) in
              absurd (no_file (ap (kind_in src) (sym (one w.0 key w.1.named among w.2)) ∙ w.1.file))

      bytes_told : FilesAreHeld → nbytes_by src key ≡ inode_nbytes tree n
      bytes_told held = by (kind_in src key) refl ∙ sym (bytes_are tree n)
        where
          with_bytes : has_bytes (kind_in src key) ≡ true → nbytes_by src key ≡ sum_by own_bytes (filter (is_extent (ino_of src key)) (fs_tree_items src))
          with_bytes has =
              let at = numbered image all sorted in
              sym (ap (sum_by own_bytes) (extents_found src at.0 at.1 key among has) ∙ extents_add)

          without : (k : Kind) → kind_in src key ≡ k → has_bytes k ≡ false → (k ≡ File → ⊥) → inline_in src key ≡ false → nbytes_by src key ≡ sum_by own_bytes (filter (is_extent (ino_of src key)) (fs_tree_items src))
          without k is none no_file out =
              ap (λ (b : Bool). if b then size_in src key else piece_bytes (pieces_of src.pieces (ino_of src key))) out
              ∙ (ap piece_bytes (no_pieces held (λ e. no_file (sym is ∙ e))) ∙ ap (sum_by own_bytes) (sym (no_extents (ap has_bytes is ∙ none))))

          out_of : (k : Kind) → kind_in src key ≡ k → stays_in_tree src.inline (items_of key src.items) (size_in src key) k ≡ false → inline_in src key ≡ false
          out_of k is none = ap (stays_in_tree src.inline (items_of key src.items) (size_in src key)) is ∙ none

          by : (k : Kind) → kind_in src key ≡ k → nbytes_by src key ≡ sum_by own_bytes (filter (is_extent (ino_of src key)) (fs_tree_items src))
          by File is = with_bytes (ap has_bytes is)
          by Symlink is = with_bytes (ap has_bytes is)
          by Directory is = without Directory is refl (λ e. cc e) (out_of Directory is refl)
          by Character is = without Character is refl (λ e. cc e) (out_of Character is refl)
          by Block is = without Block is refl (λ e. cc e) (out_of Block is refl)
          by Fifo is = without Fifo is refl (λ e. cc e) (out_of Fifo is refl)
          by Socket is = without Socket is refl (λ e. cc e) (out_of Socket is refl)
          by Subvolume is = without Subvolume is refl (λ e. cc e) (out_of Subvolume is refl)

      -- ---- the inode

      directory_kind : kind_of_mode (inode_in src key).mode ≡ Some Directory → kind_in src key ≡ Directory
      directory_kind is = some_same (kind_in src key) Directory (sym (kind_told key among) ∙ is)

      only_files : has_no_sums (inode_in src key) ≡ true → kind_of_mode (inode_in src key).mode ≡ Some File
      only_files none = kind_told key among ∙ ap (λ (k : Kind). let r : Option Kind = Some k in r) (by (kind_in src key) refl)
        where
          off : (b : Bool) → (if_set b INODE_NODATASUM == 1) ≡ b
          off true = refl
          off false = refl

          bit : (is_file (kind_in src key) && not src.datasum) ≡ true
          bit = sym (off (is_file (kind_in src key) && not src.datasum)) ∙ (sym (ap (λ (x : ℕ). x == 1) (flag_bit src key)) ∙ none)

          file : (b : Bool) (k : Kind) → (is_file k && b) ≡ true → k ≡ File
          file b File t = refl
          file b Directory t = absurd (cc t)
          file b Symlink t = absurd (cc t)
          file b Character t = absurd (cc t)
          file b Block t = absurd (cc t)
          file b Fifo t = absurd (cc t)
          file b Socket t = absurd (cc t)
          file b Subvolume t = absurd (cc t)

          by : (k : Kind) → kind_in src key ≡ k → kind_in src key ≡ File
          by k is = file (not src.datasum) (kind_in src key) bit

      inode_told : FilesAreHeld → IsInode tree n (inode_in src key)
      inode_told held = record {
        directory = λ is. let d = directory_kind is in (nlink_in src key ∙ ap (λ (k : Kind). if is_directory k then 1 else count_by (λ l. same_key l.target key) src.links) d, size_told d);
        other = λ no_.
            let no_directory : kind_in src key ≡ Directory → ⊥ = λ d. no_ (kind_told key among ∙ ap (λ (k : Kind). let r : Option Kind = Some k in r) d) in
            nlink_in src key ∙ (nlink_other no_directory ∙ count_told no_directory);
        bytes = bytes_in src key ∙ bytes_told held;
        files = only_files;
      }

    -- ---- each inode item is that of an object

    pub record IsOfObject (ino : ℕ) (body : List ℕ) : Type 0 where
      pub key : ObjectKey
      pub among : Contains all key
      pub number : ino_of src key ≡ ino
      pub body_is : inode_bytes (inode_in src key) ≡ body

    of_items : (key : ObjectKey) (ino : ℕ) (body : List ℕ) → Contains all key → Contains (object_items src key) (make_key ino INODE_ITEM 0, body) → (ino_of src key ≡ ino) × (inode_bytes (inode_in src key) ≡ body)
    unfolding object_items
    of_items key ino body among h =
        let rest : List Item = name_items src key ++ content_items src key (kind_in src key) in
        ⊎_elim
        (λ (is : inode_item (ino_of src key) (inode_in src key) ≡ (make_key ino INODE_ITEM 0, body)). (ap (λ (i : Item). i.0.objectid) is, ap (λ (i : Item). i.1) is))
        (λ (later : Contains rest (make_key ino INODE_ITEM 0, body)).
        let low : INODE_REF ≤ 1 = all_in (λ (i : Item). 12 ≤ i.0.kind) rest (make_key ino INODE_ITEM 0, body) (rest_behind image m made key among) later in
        absurd (omega (arith, low)))
        (head_or_tail (inode_item (ino_of src key) (inode_in src key)) rest (make_key ino INODE_ITEM 0, body) h)

    of_object : (ino : ℕ) (body : List ℕ) → Contains (fs_tree_items src) (make_key ino INODE_ITEM 0, body) → IsOfObject ino body
    unfolding fs_tree_items
    of_object ino body h =
        let at = from_flat_map (object_items src) order (make_key ino INODE_ITEM 0, body) h in
        let among = from_order image m made at.0 at.1 in
        let is = of_items at.0 ino body among at.2 in
        record { key = at.0; among = among; number = is.0; body_is = is.1 }

    -- what holds of the inode of each object holds of each inode item
    pub each_object : InodesAreThere → HasBytes image → (P : ℕ → Inode → Type 0) → ((key : ObjectKey) → Contains (keys m.volume.named) key → P (ino_of src key) (inode_in src key))
        → (ino : ℕ) (body : List ℕ) (inode : Inode) → Contains (fs_tree_items src) (record { objectid = ino; kind = INODE_ITEM; offset = 0 }, body) → inode_of body ≡ Some inode → P ino inode
    each_object there bytes P each ino body inode h read =
        let o : IsOfObject ino body = of_object ino body h in
        let own : inode_of body ≡ Some (inode_in src o.key) = ap inode_of (sym o.body_is) ∙ inode_reads there m.volume image m.options m.plan m.pieces of bytes o.key o.among in
        subst (λ (i : Inode). P ino i) (some_same (inode_in src o.key) inode (sym own ∙ read)) (subst (λ (k : ℕ). P k (inode_in src o.key)) o.number (each o.key o.among))

    pub inodes_told : FilesAreHeld → InodesAreThere → HasBytes image → (ino : ℕ) (body : List ℕ) (inode : Inode) → Contains (fs_tree_items src) (record { objectid = ino; kind = INODE_ITEM; offset = 0 }, body) → inode_of body ≡ Some inode → IsInode tree ino inode
    inodes_told held there bytes = each_object there bytes (IsInode tree) (λ key among. inode_told key among held)
