-- What the items of one object of a file tree take in leaves.
use Rattle.convert_trees_laws.proofs.Imports.{◌≡◌, ◌≤◌, ℕ, ◌+◌, ◌*◌, ◌==◌, not, Bool, true, false, cond, List, [], ◌∷◌, ◌++◌, length, map, filter, sum_by, Option, Some, None, refl, ap, ◌∙◌, if◌then◌else◌, arith, option_map_or, length-take, nat_tests, sum_by-append, sum_by-cons, DIR_INDEX, DIR_ITEM, INODE_EXTREF, INODE_REF, DIR_ITEM_SIZE, INODE_EXTREF_SIZE, INODE_REF_SIZE, ITEM_SIZE, FILE_EXTENT_BYTES, INLINE_BYTES, INODE_BYTES, extref_hash, name_hash, Kind, Directory, File, Symlink, Character, Block, Fifo, Socket, Subvolume, dir_entry_bytes, extref_bytes, inode_ref_bytes, make_key, Item, weight, extent_item, inline_extent, regular_extent, ascending, grouped, inode_item, ascending_sum, sum_split, tail_block, target_bytes, ObjectKey, Naming, items_of, root, same_key, same_key-true, ino_of_key, Piece, extents_at, file_block, is_owned_by, owner_inode, pieces_of, IndexedLink, Indexed, indexed_links, entry_items, entry_to, extref, extrefs, indexed_in, inode_ref, inode_refs, names_in, names_of, next_index, parent_of, root_ref, saved_entry, Source, content_items, file_extent_items, inline_in, inode_in, kind_in, name_items, ino_of, object_items, size_in, name_items_other, name_items_root, bytes_in}
use Rattle.std.proofs.Common.{flat_map}
use Rattle.convert_trees_laws.proofs.Keys.{root_first}
use Rattle.convert_trees_laws.proofs.Short.{entry_long, far_long, flat_long, inline_long, inode_long, ref_long, regular_long, sum_alike, sum_mapped}
use Rattle.convert_trees_laws.proofs.FilesSums.{groups_weigh, kept_weigh, parts_weigh}

-- ---- lists of items

abbrev pub item_weight : Item → ℕ
item_weight i = weight (length i.1)

pub bytes_of_items : (items : List Item) → bytes_in items ≡ sum_by item_weight items
bytes_of_items items = sum_mapped (λ (i : Item). length i.1) weight items

-- items of groups take no more than an item for each element
groups_take : {A : Type 0} (n kind : ℕ) (number : A → ℕ) (bytes : A → List ℕ) (w : A → ℕ) (xs : List A) → ((x : A) → length (bytes x) ≡ w x)
    → sum_by item_weight (map (λ (g : ℕ × List A). (make_key n kind g.0, flat_map bytes g.1)) (grouped number xs)) ≤ sum_by (λ x. ITEM_SIZE + w x) xs
groups_take {A} n kind number bytes w xs each =
    let mapped = sum_mapped (λ (g : ℕ × List A). (make_key n kind g.0, flat_map bytes g.1)) item_weight (grouped number xs) in
    let alike = sum_alike (λ (g : ℕ × List A). item_weight (make_key n kind g.0, flat_map bytes g.1)) (λ (g : ℕ × List A). ITEM_SIZE + sum_by w g.1) (grouped number xs) (λ g. let long = flat_long bytes w g.1 each in omega (arith, long)) in
    let less = groups_weigh number w xs in
    omega (arith, mapped, alike, less)

each_takes : {A : Type 0} (f : A → Item) (w : A → ℕ) (xs : List A) → ((x : A) → item_weight (f x) ≡ w x) → sum_by item_weight (map f xs) ≡ sum_by w xs
each_takes f w xs each = sum_mapped f item_weight xs ∙ sum_alike (λ x. item_weight (f x)) w xs each

-- ---- names

abbrev letters_of : IndexedLink → ℕ
letters_of e = length e.link.name

-- a name takes a reference: at most the head of an item and an extended one
refs_take : (keys : List ObjectKey) (links : List Naming) (key : ObjectKey) → sum_by item_weight (inode_refs keys links key ++ extrefs keys links key) ≤ sum_by (λ e. ITEM_SIZE + INODE_EXTREF_SIZE + letters_of e) (names_of links key)
refs_take keys links key =
    let own : List IndexedLink = names_of links key in
    let far : List IndexedLink = filter (λ e. e.extended) own in
    let both = sum_by-append item_weight (inode_refs keys links key) (extrefs keys links key) in
    let first = groups_take (ino_of_key keys key) INODE_REF (parent_of keys) (λ e. inode_ref_bytes (inode_ref e)) (λ e. 10 + letters_of e) (filter (λ e. not e.extended) own) (λ e. ref_long (inode_ref e)) in
    let second = groups_take (ino_of_key keys key) INODE_EXTREF (λ e. extref_hash (parent_of keys e) e.link.name) (λ e. extref_bytes (extref keys e)) (λ e. 18 + letters_of e) (ascending (parent_of keys) far) (λ e. far_long (extref keys e)) in
    let order = ascending_sum (parent_of keys) (λ e. ITEM_SIZE + (INODE_EXTREF_SIZE + letters_of e)) far in
    let parts = parts_weigh (λ e. not e.extended) (λ e. e.extended) (λ e. ITEM_SIZE + (INODE_REF_SIZE + letters_of e)) (λ e. ITEM_SIZE + (INODE_EXTREF_SIZE + letters_of e)) (λ e. ITEM_SIZE + INODE_EXTREF_SIZE + letters_of e) own (λ e. by e.extended (letters_of e)) in
    omega (arith, both, first, second, order, parts)
  where
    by : (b : Bool) (n : ℕ) → cond (not b) (ITEM_SIZE + (INODE_REF_SIZE + n)) 0 + cond b (ITEM_SIZE + (INODE_EXTREF_SIZE + n)) 0 ≤ ITEM_SIZE + INODE_EXTREF_SIZE + n
    by true n = omega arith
    by false n = omega arith

-- ---- entries

-- an entry takes two items
entries_take : (ino : ℕ) (list : List Indexed) → sum_by item_weight (entry_items ino list) ≤ sum_by (λ (e : Indexed). 2 * (ITEM_SIZE + DIR_ITEM_SIZE) + 2 * length e.1.name) list
entries_take ino list =
    let w : Indexed → ℕ = λ e. 55 + length e.1.name in
    let both = sum_by-append item_weight (map (λ (g : ℕ × List Indexed). (make_key ino DIR_ITEM g.0, flat_map (λ (e : Indexed). dir_entry_bytes e.1) g.1)) (grouped (λ (e : Indexed). name_hash e.1.name) list)) (map (λ (e : Indexed). (make_key ino DIR_INDEX e.0, dir_entry_bytes e.1)) list) in
    let first = groups_take ino DIR_ITEM (λ (e : Indexed). name_hash e.1.name) (λ (e : Indexed). dir_entry_bytes e.1) (λ (e : Indexed). 30 + length e.1.name) list (λ e. entry_long e.1) in
    let second = each_takes (λ (e : Indexed). (make_key ino DIR_INDEX e.0, dir_entry_bytes e.1)) (λ (e : Indexed). ITEM_SIZE + (DIR_ITEM_SIZE + length e.1.name)) list (λ e. let long = entry_long e.1 in omega (arith, long)) in
    let twice = sum_split (λ (e : Indexed). ITEM_SIZE + (DIR_ITEM_SIZE + length e.1.name)) (λ (e : Indexed). ITEM_SIZE + (DIR_ITEM_SIZE + length e.1.name)) (λ (e : Indexed). 2 * (ITEM_SIZE + DIR_ITEM_SIZE) + 2 * length e.1.name) list (λ e. omega arith) in
    omega (arith, both, first, second, twice)

-- so do those of a directory; the root has one more, for the tree of the saved image
directory_takes : (kind : ObjectKey → Kind) (keys : List ObjectKey) (links : List Naming) (dir : ObjectKey) (ino : ℕ)
    → sum_by item_weight (entry_items ino (indexed_in kind keys links dir)) ≤ sum_by (λ e. 2 * (ITEM_SIZE + DIR_ITEM_SIZE) + 2 * letters_of e) (names_in links dir) + cond (same_key dir root) 138 0
directory_takes kind keys links dir ino =
    let told : IndexedLink → Indexed = λ e. (e.index, entry_to (ino_of_key keys e.link.target) (kind e.link.target) e.link.name) in
    let all = entries_take ino (indexed_in kind keys links dir) in
    let both = sum_by-append (λ (e : Indexed). 2 * (ITEM_SIZE + DIR_ITEM_SIZE) + 2 * length e.1.name) (map told (names_in links dir)) (if same_key dir root then (next_index links dir, saved_entry) ∷ [] else []) in
    let mapped = sum_mapped told (λ (e : Indexed). 2 * (ITEM_SIZE + DIR_ITEM_SIZE) + 2 * length e.1.name) (names_in links dir) in
    let last = saved (same_key dir root) in
    omega (arith, all, both, mapped, last)
  where
    saved : (b : Bool) → sum_by (λ (e : Indexed). 2 * (ITEM_SIZE + DIR_ITEM_SIZE) + 2 * length e.1.name) (if b then (next_index links dir, saved_entry) ∷ [] else []) ≡ cond b 138 0
    saved true = let one = sum_by-cons (λ (e : Indexed). 2 * (ITEM_SIZE + DIR_ITEM_SIZE) + 2 * length e.1.name) (next_index links dir, saved_entry) [] in omega (arith, one)
    saved false = refl

-- ---- extents

extents_take : (ino : ℕ) (pieces : List Piece) → sum_by item_weight (extents_at ino file_block (pieces_of pieces ino)) ≤ sum_by (λ p. cond (owner_inode p == ino) FILE_EXTENT_BYTES 0) pieces
extents_take ino pieces =
    let each = each_takes (λ (p : Piece). extent_item ino (file_block p) (regular_extent p.place p.count)) (λ p. FILE_EXTENT_BYTES) (pieces_of pieces ino) (λ p. let long = regular_long p.place p.count in omega (arith, long)) in
    let order = ascending_sum file_block (λ (p : Piece). FILE_EXTENT_BYTES) (filter (is_owned_by ino) pieces) in
    let kept = kept_weigh (is_owned_by ino) (λ p. owner_inode p == ino) (λ p. FILE_EXTENT_BYTES) pieces (λ p is. owned p.owner is) in
    omega (arith, each, order, kept)
  where
    owned : (o : Option (ℕ × ℕ)) → option_map_or (λ w. w.0 == ino) o false ≡ true → (option_map_or (λ w. w.0) o 0 == ino) ≡ true
    owned None is = absurd (cc)
    owned (Some w) is = is

-- ---- objects

module _ (s : Source) (key : ObjectKey) where
  -- what the names of an object take, the entries of a directory, the pieces of a file, and bytes that are inline
  abbrev pub names_weight : ℕ
  names_weight = sum_by (λ e. cond (ino_of_key s.keys e.link.target == ino_of s key) (ITEM_SIZE + INODE_EXTREF_SIZE + letters_of e) 0) (indexed_links s.links)

  abbrev pub entries_weight : ℕ
  entries_weight = sum_by (λ e. cond (ino_of_key s.keys e.link.dir == ino_of s key) (2 * (ITEM_SIZE + DIR_ITEM_SIZE) + 2 * letters_of e) 0) (indexed_links s.links)

  abbrev pub pieces_weight : ℕ
  pieces_weight = sum_by (λ p. cond (owner_inode p == ino_of s key) FILE_EXTENT_BYTES 0) s.pieces

  abbrev pub inline_weight : ℕ
  inline_weight = cond (inline_in s key) (INLINE_BYTES + size_in s key) 0

  -- the root has 37 more for its name, and 138 for the entry of the saved image
  abbrev pub root_weight : ℕ
  root_weight = cond (256 == ino_of s key) 175 0

  self : (n : ℕ) → (n == n) ≡ true
  self n = grind (arith, nat_tests)

  alike : (a : ObjectKey) → same_key a key ≡ true → (ino_of_key s.keys a == ino_of s key) ≡ true
  alike a is = ap (λ (k : ObjectKey). ino_of_key s.keys k == ino_of s key) (same_key-true a key is) ∙ self (ino_of s key)

  root_is : same_key key root ≡ true → root_weight ≡ 175
  root_is is = ap (λ (n : ℕ). cond (256 == n) 175 0) (root_first s.keys key is)

  names_take : sum_by item_weight (name_items s key) + cond (same_key key root) 138 0 ≤ names_weight + root_weight
  names_take = by (same_key key root) refl
    where
      by : (b : Bool) → same_key key root ≡ b → sum_by item_weight (name_items s key) + cond b 138 0 ≤ names_weight + root_weight
      by true is =
          let own = ap (sum_by item_weight) (name_items_root s key is) in
          let one = sum_by-cons item_weight root_ref [] in
          let long = ref_long (record { index = 0; name = 46 ∷ 46 ∷ [] }) in
          let all = root_is is in
          omega (arith, own, one, long, all)
      by false is =
          let own = ap (sum_by item_weight) (name_items_other s key s.keys s.links is refl refl) in
          let refs = refs_take s.keys s.links key in
          let kept = kept_weigh (λ (e : IndexedLink). same_key e.link.target key) (λ (e : IndexedLink). ino_of_key s.keys e.link.target == ino_of s key) (λ (e : IndexedLink). ITEM_SIZE + INODE_EXTREF_SIZE + letters_of e) (indexed_links s.links) (λ e is. alike e.link.target is) in
          omega (arith, own, refs, kept)

  data_takes : sum_by item_weight (file_extent_items s key) ≤ pieces_weight + inline_weight
  unfolding file_extent_items
  data_takes = by (inline_in s key)
    where
      by : (b : Bool) → sum_by item_weight (if b then extent_item (ino_of s key) 0 (inline_extent (target_bytes (items_of key s.items) (size_in s key))) ∷ [] else extents_at (ino_of s key) file_block (pieces_of s.pieces (ino_of s key)))
          ≤ pieces_weight + cond b (INLINE_BYTES + size_in s key) 0
      by true =
          let one = sum_by-cons item_weight (extent_item (ino_of s key) 0 (inline_extent (target_bytes (items_of key s.items) (size_in s key)))) [] in
          let long = inline_long (target_bytes (items_of key s.items) (size_in s key)) in
          let part = length-take (size_in s key) (tail_block (items_of key s.items) (size_in s key) 0) in
          omega (arith, one, long, part)
      by false = let all = extents_take (ino_of s key) s.pieces in omega (arith, all)

  content_takes : (kind : Kind) → sum_by item_weight (content_items s key kind) ≤ entries_weight + pieces_weight + inline_weight + cond (same_key key root) 138 0
  content_takes Directory =
      let all = directory_takes (kind_in s) s.keys s.links key (ino_of s key) in
      let kept = kept_weigh (λ (e : IndexedLink). same_key e.link.dir key) (λ (e : IndexedLink). ino_of_key s.keys e.link.dir == ino_of s key) (λ (e : IndexedLink). 2 * (ITEM_SIZE + DIR_ITEM_SIZE) + 2 * letters_of e) (indexed_links s.links) (λ e is. alike e.link.dir is) in
      omega (arith, all, kept)
  content_takes File = let all = data_takes in omega (arith, all)
  content_takes Symlink = let all = data_takes in omega (arith, all)
  content_takes Character = omega arith
  content_takes Block = omega arith
  content_takes Fifo = omega arith
  content_takes Socket = omega arith
  content_takes Subvolume = omega arith

  pub object_takes : sum_by item_weight (object_items s key) ≤ INODE_BYTES + names_weight + entries_weight + pieces_weight + inline_weight + root_weight
  unfolding object_items
  object_takes =
      let first = sum_by-cons item_weight (inode_item (ino_of s key) (inode_in s key)) (name_items s key ++ content_items s key (kind_in s key)) in
      let both = sum_by-append item_weight (name_items s key) (content_items s key (kind_in s key)) in
      let long = inode_long (inode_in s key) in
      let names = names_take in
      let content = content_takes (kind_in s key) in
      omega (arith, first, both, long, names, content)
