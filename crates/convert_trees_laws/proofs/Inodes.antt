-- The inodes of objects in a tree of the file tree's items.
use Rattle.convert_trees_laws.proofs.Imports.{◌≡◌, ◌≤◌, ◌<◌, ℕ, ◌==◌, ◌&&◌, not, Bool, true, false, List, [], ◌∷◌, ◌++◌, map, filter, Option, Some, None, refl, sym, ap, subst, ◌∙◌, ⊎_elim, if◌then◌else◌, arith, AllByRecursion, flat_map, cases_Bool, not_from_false, nat_tests, EXTENT_DATA, INODE_ITEM, INODE_REF, keys, in_filter, contains_cases, contains_head, contains_tail, find_inode_item, Item, TreeItem, bare_item, made_from, AreSortedKeys, numbered, Source, content_items, inode_in, kind_in, name_items, ino_of, object_items, fs_tree_items, inode_item, ObjectKey, root, same_key, same_key-true, by_inode, InodesAreThere}
use Rattle.std.specs.Prelude.{Contains}
use Rattle.convert_trees_laws.proofs.FileBlocks.{starts_none}
use Rattle.convert_trees_laws.proofs.Keys.{inodes_climb, rest_part}
use Rattle.convert_trees_laws.proofs.Rising.{Climb, IsOf, all_each}

-- an item is that of an inode
abbrev is_inode : ℕ → Item → Bool
is_inode ino i = (i.0.objectid == ino) && ((i.0.kind == INODE_ITEM) && (i.0.offset == 0))

-- the first one of these
abbrev first_inode : List Item → ℕ → Option Item
first_inode [] ino = None
first_inode (i ∷ items) ino = if is_inode ino i then Some i else first_inode items ino

-- the item in a leaf
record IsRead (items : List TreeItem) (ino : ℕ) (i : Item) : Type 0 where
  item : TreeItem
  found : find_inode_item items ino ≡ Some item
  bare : bare_item item ≡ i

same_item : (a b : Item) → (let o : Option Item = Some a in o) ≡ Some b → a ≡ b
same_item a b is = cc

none_item : (b : Item) → (let o : Option Item = None in o) ≡ Some b → ⊥
none_item b is = absurd (cc)

read_of : (items : List TreeItem) (ino : ℕ) (i : Item) → first_inode (map bare_item items) ino ≡ Some i → IsRead items ino i
read_of [] ino i is = absurd (none_item i is)
read_of (t ∷ items) ino i is = by (is_inode ino (bare_item t)) refl (read_of items ino i) is
  where
    by : (b : Bool) → is_inode ino (bare_item t) ≡ b → (first_inode (map bare_item items) ino ≡ Some i → IsRead items ino i) → (if b then Some (bare_item t) else first_inode (map bare_item items) ino) ≡ Some i → IsRead (t ∷ items) ino i
    by true test later here = record { item = t; found = ap (λ (c : Bool). if c then Some t else find_inode_item items ino) test; bare = same_item (bare_item t) i here }
    by false test later there =
        let rest = later there in
        record { item = rest.item; found = ap (λ (c : Bool). if c then Some t else find_inode_item items ino) test ∙ rest.found; bare = rest.bare }

skipped : (xs ys : List Item) (ino : ℕ) → AllByRecursion (λ i. is_inode ino i ≡ false) xs → first_inode (xs ++ ys) ino ≡ first_inode ys ino
skipped [] ys ino all = refl
skipped (x ∷ xs) ys ino all = ap (λ (c : Bool). if c then Some x else first_inode (xs ++ ys) ino) all.0 ∙ skipped xs ys ino all.1

module _ (s : Source) where
  abbrev own : ObjectKey → Item
  own key = inode_item (ino_of s key) (inode_in s key)

  other_kind : (ino n k o : ℕ) → 12 ≤ k → ((n == ino) && ((k == 1) && (o == 0))) ≡ false
  other_kind ino n k o low = grind (arith, nat_tests)

  other_object : (ino n : ℕ) → n < ino → ((n == ino) && ((1 == 1) && (0 == 0))) ≡ false
  other_object ino n less = grind (arith, nat_tests)

  own_test : (n : ℕ) → ((n == n) && ((1 == 1) && (0 == 0))) ≡ true
  own_test n = grind (arith, nat_tests)

  -- behind the objects before it an object's own inode is the first
  inode_at : (ks : List ObjectKey) (key : ObjectKey) → ((k : ObjectKey) → AllByRecursion (IsOf (ino_of s k) INODE_REF EXTENT_DATA) (name_items s k ++ content_items s k (kind_in s k))) → Climb (ino_of s) ks → Contains ks key
      → first_inode (flat_map (object_items s) ks) (ino_of s key) ≡ Some (own key)
  unfolding object_items
  inode_at [] key parts up h = absurd (omega (arith, h.1))
  inode_at (k ∷ ks) key parts up h =
      ⊎_elim
      (λ (same : k ≡ key).
      subst (λ (x : ObjectKey). first_inode (flat_map (object_items s) (k ∷ ks)) (ino_of s x) ≡ Some (own x)) same
      (ap (λ (c : Bool). if c then Some (own k) else first_inode ((name_items s k ++ content_items s k (kind_in s k)) ++ flat_map (object_items s) ks) (ino_of s k)) (own_test (ino_of s k))))
      (λ (later : Contains ks key).
      skipped (object_items s k) (flat_map (object_items s) ks) (ino_of s key) (
        other_object (ino_of s key) (ino_of s k) (above ks up.0 key later),
        all_each (IsOf (ino_of s k) INODE_REF EXTENT_DATA) (λ i. is_inode (ino_of s key) i ≡ false) (name_items s k ++ content_items s k (kind_in s k)) (λ i of. other_kind (ino_of s key) i.0.objectid i.0.kind i.0.offset of.low) (parts k),
      )
      ∙ inode_at ks key parts up.1 later)
      (contains_cases key k ks h)
    where
      above : (ys : List ObjectKey) → AllByRecursion (λ y. ino_of s k < ino_of s y) ys → (y : ObjectKey) → Contains ys y → ino_of s k < ino_of s y
      above [] all y h = absurd (omega (arith, h.1))
      above (z ∷ zs) all y h = ⊎_elim (λ (same : z ≡ y). subst (λ (x : ObjectKey). ino_of s k < ino_of s x) same all.0) (λ (later : Contains zs y). above zs all.1 y later) (contains_cases y z zs h)

in_order : (all : List ObjectKey) (key : ObjectKey) → Contains all key → Contains (by_inode all) key
in_order all key h =
    ⊎_elim
    (λ (t : same_key key root ≡ true). subst (λ (k : ObjectKey). Contains (root ∷ filter (λ x. not (same_key x root)) all) k) (sym (same_key-true key root t)) (contains_head root (filter (λ x. not (same_key x root)) all)))
    (λ (f : same_key key root ≡ false). contains_tail key root (filter (λ x. not (same_key x root)) all) (in_filter (λ x. not (same_key x root)) all key h (not_from_false (same_key key root) f)))
    (cases_Bool (same_key key root))

pub inodes_are_there : InodesAreThere
unfolding fs_tree_items
inodes_are_there volume image o plan pieces items key has read named =
    let s : Source = made_from volume image o pieces in
    let sorted : AreSortedKeys image (keys volume.named) = record { accepted = has.accepted; are_keys = has.opened.are_keys; ascend = has.opened.ascends } in
    let at = numbered image (keys volume.named) sorted in
    let distinct = starts_none image has.found o plan has.plan_ pieces has.placed in
    let first = ap (λ (is : List Item). first_inode is (ino_of s key)) read ∙ inode_at s (by_inode s.keys) key (λ k. (rest_part s distinct k).each) (inodes_climb s.keys at.0 at.1) (in_order s.keys key named) in
    let found = read_of items (ino_of s key) (inode_item (ino_of s key) (inode_in s key)) first in
    (found.item, found.found, found.bare)
