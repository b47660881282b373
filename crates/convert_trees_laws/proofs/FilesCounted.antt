-- The file tree takes no more than was counted.
use Rattle.convert_trees_laws.proofs.Imports.{◌≡◌, ◌≤◌, ℕ, ◌+◌, ◌*◌, not, Bool, true, false, cond, List, [], ◌∷◌, ◌++◌, length, length-append, filter, sum_by, take, drop, refl, sym, ap, subst, ◌∙◌, ⊎_elim, arith, length-take, length-drop, length_permutation, sum_by-cons, DIR_ITEM_SIZE, INODE_EXTREF_SIZE, ITEM_SIZE, FILE_EXTENT_BYTES, INODE_BYTES, NAME_BYTES, keys, Image, sum_split, contains_cases, ObjectKey, Naming, root, same_key, same_key-self, ino_of_key, AreNumbered, by_inode, links_in, volume_items, Counts, Piece, file_tree_bytes, counts_of, AreSortedKeys, WerePlaced, at_places, blocks_of_units, sum_fewer, numbered, owner_inode, IndexedLink, indexed_links, Source, ino_of, object_items, fs_tree_items, IsMaking, Making, made_from, FileTreeIsCounted, bytes_in}
use Rattle.std.specs.Prelude.{Contains}
use Rattle.convert_trees_laws.proofs.Keys.{inodes_climb}
use Rattle.convert_trees_laws.proofs.Rising.{Climb}
use Rattle.convert_trees_laws.proofs.Short.{sum_links}
use Rattle.convert_trees_laws.proofs.FilesInline.{inline_counted}
use Rattle.convert_trees_laws.proofs.FilesObjects.{bytes_of_items, entries_weight, inline_weight, item_weight, names_weight, object_takes, pieces_weight, root_weight}
use Rattle.convert_trees_laws.proofs.FilesSums.{all_weigh, one_weighs, sum_flat}

-- ---- sums over the objects by their inodes

part_weighs : {A : Type 0} (p : A → Bool) (w : A → ℕ) (xs : List A) → sum_by w (filter p xs) ≤ sum_by w xs
part_weighs p w [] = omega arith
part_weighs {A} p w (x ∷ xs) = by (p x) (part_weighs p w xs) (sum_by-cons w x xs)
  where
    by : (b : Bool) → sum_by w (filter p xs) ≤ sum_by w xs → sum_by w (x ∷ xs) ≡ w x + sum_by w xs → sum_by w (cond b (x ∷ filter p xs) (filter p xs)) ≤ sum_by w (x ∷ xs)
    by true later whole = let one = sum_by-cons w x (filter p xs) in omega (arith, later, whole, one)
    by false later whole = omega (arith, later, whole)

-- the others, and the root, are no more than all
others_weigh : (w : ObjectKey → ℕ) (ks : List ObjectKey) → Contains ks root → w root + sum_by w (filter (λ key. not (same_key key root)) ks) ≤ sum_by w ks
others_weigh w [] h = absurd (omega (arith, h.1))
others_weigh w (k ∷ ks) h =
    ⊎_elim
    (λ (same : k ≡ root).
    let is : same_key k root ≡ true = ap (λ (j : ObjectKey). same_key j root) same ∙ same_key-self root in
    let drops : sum_by w (filter (λ key. not (same_key key root)) (k ∷ ks)) ≡ sum_by w (filter (λ key. not (same_key key root)) ks)
    = ap (λ (b : Bool). sum_by w (cond (not b) (k ∷ filter (λ key. not (same_key key root)) ks) (filter (λ key. not (same_key key root)) ks))) is in
    let own : w k ≡ w root = ap w same in
    let part = part_weighs (λ (key : ObjectKey). not (same_key key root)) w ks in
    let whole = sum_by-cons w k ks in
    omega (arith, drops, own, part, whole))
    (λ (later : Contains ks root). by (not (same_key k root)) (others_weigh w ks later) (sum_by-cons w k ks))
    (contains_cases root k ks h)
  where
    by : (b : Bool) → w root + sum_by w (filter (λ key. not (same_key key root)) ks) ≤ sum_by w ks → sum_by w (k ∷ ks) ≡ w k + sum_by w ks
        → w root + sum_by w (cond b (k ∷ filter (λ key. not (same_key key root)) ks) (filter (λ key. not (same_key key root)) ks)) ≤ sum_by w (k ∷ ks)
    by true less whole = let one = sum_by-cons w k (filter (λ key. not (same_key key root)) ks) in omega (arith, less, whole, one)
    by false less whole = omega (arith, less, whole)

all_once : (w : ObjectKey → ℕ) (ks : List ObjectKey) → Contains ks root → sum_by w (by_inode ks) ≤ sum_by w ks
all_once w ks h =
    let first = sum_by-cons w root (filter (λ key. not (same_key key root)) ks) in
    let less = others_weigh w ks h in
    omega (arith, first, less)

-- ---- sums of numbers

sum_same : {A : Type 0} (n : ℕ) (xs : List A) → sum_by (λ x. n) xs ≡ length xs * n
sum_same n [] = omega arith
sum_same n (x ∷ xs) = let one = sum_by-cons (λ y. n) x xs in let later = sum_same n xs in omega (arith, one, later)

-- a name and an entry for each link
links_weigh : (links : List Naming) → sum_by (λ n. ITEM_SIZE + INODE_EXTREF_SIZE + length n.name) links + sum_by (λ n. 2 * (ITEM_SIZE + DIR_ITEM_SIZE) + 2 * length n.name) links ≡ NAME_BYTES * length links + 3 * sum_by (λ n. length n.name) links
links_weigh [] = refl
links_weigh (n ∷ links) =
    let first = sum_by-cons (λ (m : Naming). ITEM_SIZE + INODE_EXTREF_SIZE + length m.name) n links in
    let second = sum_by-cons (λ (m : Naming). 2 * (ITEM_SIZE + DIR_ITEM_SIZE) + 2 * length m.name) n links in
    let third = sum_by-cons (λ (m : Naming). length m.name) n links in
    let later = links_weigh links in
    omega (arith, first, second, third, later)

module _ (s : Source) (at : ℕ) (are : AreNumbered at s.keys) (has_root : Contains s.keys root) where
  abbrev all : List ObjectKey
  all = by_inode s.keys

  climb : Climb (ino_of s) all
  climb = inodes_climb s.keys at are

  split_sum : (f g : ObjectKey → ℕ) → sum_by (λ key. f key + g key) all ≡ sum_by f all + sum_by g all
  split_sum f g = sum_split f g (λ key. f key + g key) all (λ key. refl)

  tree_takes : sum_by item_weight (fs_tree_items s)
      ≤ 175 + INODE_BYTES * length s.keys + NAME_BYTES * length s.links + 3 * sum_by (λ n. length n.name) s.links + FILE_EXTENT_BYTES * length s.pieces + sum_by (inline_weight s) s.keys
  unfolding fs_tree_items
  tree_takes =
      let flat = sum_flat (object_items s) item_weight all in
      let each = sum_fewer (λ key. sum_by item_weight (object_items s key)) (λ key. INODE_BYTES + names_weight s key + entries_weight s key + pieces_weight s key + inline_weight s key + root_weight s key) all (object_takes s) in
      let one = split_sum (λ key. INODE_BYTES + names_weight s key + entries_weight s key + pieces_weight s key + inline_weight s key) (root_weight s) in
      let two = split_sum (λ key. INODE_BYTES + names_weight s key + entries_weight s key + pieces_weight s key) (inline_weight s) in
      let three = split_sum (λ key. INODE_BYTES + names_weight s key + entries_weight s key) (pieces_weight s) in
      let four = split_sum (λ key. INODE_BYTES + names_weight s key) (entries_weight s) in
      let five = split_sum (λ key. INODE_BYTES) (names_weight s) in
      let inodes = all_once (λ key. INODE_BYTES) s.keys has_root in
      let objects = sum_same INODE_BYTES s.keys in
      let names = all_weigh (ino_of s) (λ (e : IndexedLink). ino_of_key s.keys e.link.target) (λ (e : IndexedLink). ITEM_SIZE + INODE_EXTREF_SIZE + length e.link.name) (indexed_links s.links) all climb in
      let told = all_weigh (ino_of s) (λ (e : IndexedLink). ino_of_key s.keys e.link.dir) (λ (e : IndexedLink). 2 * (ITEM_SIZE + DIR_ITEM_SIZE) + 2 * length e.link.name) (indexed_links s.links) all climb in
      let name_links = sum_links (λ (n : Naming). ITEM_SIZE + INODE_EXTREF_SIZE + length n.name) [] s.links in
      let told_links = sum_links (λ (n : Naming). 2 * (ITEM_SIZE + DIR_ITEM_SIZE) + 2 * length n.name) [] s.links in
      let links = links_weigh s.links in
      let extents = all_weigh (ino_of s) owner_inode (λ (p : Piece). FILE_EXTENT_BYTES) s.pieces all climb in
      let many = sum_same FILE_EXTENT_BYTES s.pieces in
      let inlines = all_once (inline_weight s) s.keys has_root in
      let root_once = one_weighs (ino_of s) 256 175 all climb in
      omega (arith, flat, each, one, two, three, four, five, inodes, objects, names, told, name_links, told_links, links, extents, many, inlines, root_once)

-- ---- pieces

few_at_places : (ps : List Piece) (bs : List ℕ) → length (at_places ps bs) ≤ length ps
few_at_places [] bs = omega arith
few_at_places (p ∷ ps) [] = omega arith
few_at_places (p ∷ ps) (b ∷ bs) = let later = few_at_places ps bs in omega (arith, later)

-- there are no more of them at their places than before
placed_few : (kept : ℕ) (units : List ℕ) (old new : List Piece) → WerePlaced kept units old new → length new ≤ length old
placed_few kept units old new are =
    let many = length_permutation (take kept old ++ at_places (drop kept old) (blocks_of_units units)) new are.same in
    let both = length-append (take kept old) (at_places (drop kept old) (blocks_of_units units)) in
    let first = length-take kept old in
    let rest = length-drop kept old in
    let few = few_at_places (drop kept old) (blocks_of_units units) in
    omega (arith, many, both, first, rest, few)

-- ---- the law

module _ (image : Image) (m : Making) (made : IsMaking image m) where
  abbrev s : Source
  s = made_from m.volume image m.options m.pieces

  abbrev named : List ObjectKey
  named = keys m.volume.named

  sorted : AreSortedKeys image named
  sorted = record { accepted = made.has_pieces.accepted; are_keys = made.has_pieces.opened.are_keys; ascend = made.has_pieces.opened.ascends }

  abbrev counted : Counts
  counted = counts_of m.options.inline image named (links_in m.volume)

  pieces_few : length m.pieces ≤ counted.pieces
  pieces_few =
      let few = placed_few made.has_pieces.found.kept m.plan.data_ made.has_pieces.found.items.items m.pieces made.has_pieces.placed in
      let same = ap length made.has_pieces.counted.pieces_are in
      omega (arith, few, same)

  by_counts : bytes_in (fs_tree_items s) ≤ file_tree_bytes counted
  by_counts =
      let at = numbered image named sorted in
      let has_root : Contains named root = (made.has_pieces.opened.are_keys.exact root).1 (0, refl) in
      let bytes = bytes_of_items (fs_tree_items s) in
      let tree = tree_takes s at.0 at.1 has_root in
      let few = pieces_few in
      let inlines = inline_counted m.options.inline (volume_items image) named named in
      omega (arith, bytes, tree, few, inlines)

  pub is_counted : bytes_in (fs_tree_items s) ≤ file_tree_bytes made.has_pieces.found.counts
  is_counted = subst (λ (c : Counts). bytes_in (fs_tree_items s) ≤ file_tree_bytes c) (sym made.has_pieces.counted.counts_are) by_counts

pub file_tree_is_counted : FileTreeIsCounted
file_tree_is_counted image m made = is_counted image m made
