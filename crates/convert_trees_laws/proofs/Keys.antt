-- The keys of the file tree.
use Rattle.convert_trees_laws.proofs.Imports.{◌≡◌, ◌≤◌, ◌<◌, ℕ, ◌+◌, ◌*◌, ◌==◌, ◌&&◌, not, Bool, true, false, cond, List, [], ◌∷◌, ◌++◌, append_assoc, length, map, filter, get_or, count_by, Option, Some, None, refl, sym, ap, subst, ⊎_elim, if◌then◌else◌, arith, All, AllPairs, slice_get, AllByRecursion, IsDistinct, flat_map, option_map_or, is_lt, cases_lt, nat_tests, append-nil, sum_by_push, DIR_INDEX, DIR_ITEM, EXTENT_DATA, INODE_EXTREF, INODE_ITEM, INODE_REF, FIRST_FREE_OBJECTID, keys, extref_hash, Kind, Directory, File, Symlink, Character, Block, Fifo, Socket, Subvolume, extref_bytes, file_extent_bytes, inode_bytes, inode_ref_bytes, Item, extent_item, inline_extent, ascending, grouped, inode_item, rising_grouped, ascending_filter, ascending_sorted, target_bytes, ObjectKey, Naming, items_of, root, same_key, same_key-true, same_key-self, object_cmp, ino_of_key, AreNumbered, by_inode, Piece, AreSortedKeys, all_head, all_tail, pairs_head, pairs_tail, numbered, extents_at, file_block, is_owned_by, pieces_of, IndexedLink, Indexed, entries_behind, entry_behind, entry_to, extref, extrefs, indexed_in, inode_ref, inode_refs, names_in, names_of, next_index, parent_of, root_ref, saved_entry, Source, content_items, file_extent_items, inline_in, inode_in, kind_in, name_items, ino_of, object_items, size_in, fs_tree_items, name_items_root, name_items_other, made_from, FileKeysAscend}
use Rattle.std.proofs.lemmas.Option.{slice_get-get_or}
use Rattle.convert_steps.proofs.reiser_volume.Numbered.{inode_before, inode_behind, inode_of_root}
use Rattle.convert_trees_laws.proofs.Apart.{at_most_one}
use Rattle.convert_trees_laws.proofs.FileBlocks.{same_start, starts, starts_none}
use Rattle.convert_trees_laws.proofs.Rising.{Climb, IsOf, IsPart, Rise, all_each, all_true, climb_groups, climb_mapped, climb_once, climb_push, no_part, part_append, part_of_kind, part_one, rise_ascends, rise_objects}
use Rattle.convert_trees_laws.proofs.SmallTrees.{entries_part, extents_part}

-- ---- inodes

-- what rises among the elements that pass a test
module _ {A : Type 0} (f : A → ℕ) (p : A → Bool) where
  kept_all : (n : ℕ) (ys : List A) → All (λ y. p y ≡ true → n < f y) ys → AllByRecursion (λ y. n < f y) (filter p ys)
  kept_all n [] all = tt
  kept_all n (y ∷ ys) all = by (p y) refl (kept_all n ys (all_tail (λ z. p z ≡ true → n < f z) y ys all))
    where
      by : (b : Bool) → p y ≡ b → AllByRecursion (λ z. n < f z) (filter p ys) → AllByRecursion (λ z. n < f z) (cond b (y ∷ filter p ys) (filter p ys))
      by true is later = (all_head (λ z. p z ≡ true → n < f z) y ys all is, later)
      by false is later = later

  climb_kept : (xs : List A) → AllPairs (λ a b. p a ≡ true → p b ≡ true → f a < f b) xs → Climb f (filter p xs)
  climb_kept [] pairs = tt
  climb_kept (x ∷ xs) pairs = by (p x) refl (climb_kept xs (pairs_tail (λ a b. p a ≡ true → p b ≡ true → f a < f b) x xs pairs))
    where
      by : (b : Bool) → p x ≡ b → Climb f (filter p xs) → Climb f (cond b (x ∷ filter p xs) (filter p xs))
      by true is later = (kept_all (f x) xs (λ k d h. pairs_head (λ a b. p a ≡ true → p b ≡ true → f a < f b) x xs pairs k d h is), later)
      by false is later = later

not_false : (b : Bool) → not b ≡ true → b ≡ false
not_false false is = refl
not_false true is = absurd (cc)

-- any other object is behind the root
behind_root : (all : List ObjectKey) (key : ObjectKey) → same_key key root ≡ false → 257 ≤ ino_of_key all key
behind_root all key is =
    let told = ap (λ (b : Bool). if b then 256 else 257 + count_by (λ k. is_lt (object_cmp k key) && not (same_key k root)) all) is in
    omega (arith, told)

pub root_first : (all : List ObjectKey) (key : ObjectKey) → same_key key root ≡ true → ino_of_key all key ≡ 256
root_first all key is = ap (λ (b : Bool). if b then 256 else 257 + count_by (λ k. is_lt (object_cmp k key) && not (same_key k root)) all) is

module _ (all : List ObjectKey) (at : ℕ) (are : AreNumbered at all) where
  inode_less : (i j : ℕ) (a b : ObjectKey) → i < j → slice_get all i ≡ Some a → slice_get all j ≡ Some b → same_key a root ≡ false → same_key b root ≡ false → ino_of_key all a < ino_of_key all b
  inode_less i j a b order at_a at_b other_a other_b =
      let low_a = behind_root all a other_a in
      let low_b = behind_root all b other_b in
      ⊎_elim
      (λ (before : j < at). let one = inode_before all at are i a at_a (omega (arith, before, order)) in let other = inode_before all at are j b at_b before in omega (arith, one, other, order))
      (λ (not_before : at ≤ j). ⊎_elim
      (λ (behind : at < i). let one = inode_behind all at are i a at_a behind in let other = inode_behind all at are j b at_b (omega (arith, behind, order)) in omega (arith, one, other, order))
      (λ (not_behind : i ≤ at). ⊎_elim
      (λ (less : i < at). ⊎_elim
      (λ (more : at < j). let one = inode_before all at are i a at_a less in let other = inode_behind all at are j b at_b more in omega (arith, one, other, less, more))
      (λ (here : j ≤ at). let root_b = inode_of_root all at are j b at_b (omega (arith, here, not_before)) in absurd (omega (arith, root_b, low_b)))
      (cases_lt at j))
      (λ (here : at ≤ i). let root_a = inode_of_root all at are i a at_a (omega (arith, here, not_behind)) in absurd (omega (arith, root_a, low_a)))
      (cases_lt i at))
      (cases_lt at i))
      (cases_lt j at)

  pub inodes_climb : Climb (ino_of_key all) (by_inode all)
  inodes_climb =
      let first : ino_of_key all root ≡ 256 = root_first all root (same_key-self root) in (
        kept_all (ino_of_key all) (λ key. not (same_key key root)) (ino_of_key all root) all (λ k d h is. let low = behind_root all (get_or all k d) (not_false (same_key (get_or all k d) root) is) in omega (arith, low, first)),
        climb_kept (ino_of_key all) (λ key. not (same_key key root)) all
            (λ i j d order inside in_a in_b. inode_less i j (get_or all i d) (get_or all j d) order (slice_get-get_or all i d (omega (arith, order, inside))) (slice_get-get_or all j d inside)
            (not_false (same_key (get_or all i d) root) in_a) (not_false (same_key (get_or all j d) root) in_b)),
      )

-- ---- indexes of entries

-- the indexes rise between two numbers
record IsBetween (lo hi : ℕ) (es : List IndexedLink) : Type 0 where
  climb : Climb (λ (e : IndexedLink). e.index) es
  low : AllByRecursion (λ e. lo ≤ e.index) es
  high : AllByRecursion (λ e. e.index < hi) es
  order : lo ≤ hi

one_more : (before : List Naming) (n : Naming) (dir : ObjectKey) (b : Bool) → same_key n.dir dir ≡ b → next_index (before ++ n ∷ []) dir ≡ next_index before dir + cond b 1 0
one_more before n dir b is =
    let sum = sum_by_push (λ (m : Naming). cond (same_key m.dir dir) 1 0) before n in
    let one = ap {B = ℕ} (λ (c : Bool). cond c 1 0) is in
    omega (arith, sum, one)

between : (dir : ObjectKey) (before ls : List Naming) → IsBetween (next_index before dir) (next_index (before ++ ls) dir) (filter (λ e. same_key e.link.dir dir) (entries_behind before ls))
between dir before [] =
    let same = ap (λ (l : List Naming). next_index l dir) (append-nil before) in
    record { climb = tt; low = tt; high = tt; order = omega (arith, same) }
between dir before (n ∷ ls) =
    by (same_key n.dir dir) refl
    (subst (λ (l : List Naming). IsBetween (next_index (before ++ n ∷ []) dir) (next_index l dir) (filter (λ e. same_key e.link.dir dir) (entries_behind (before ++ n ∷ []) ls))) (append_assoc before (n ∷ []) ls) (between dir (before ++ n ∷ []) ls))
  where
    by : (b : Bool) → same_key n.dir dir ≡ b → IsBetween (next_index (before ++ n ∷ []) dir) (next_index (before ++ n ∷ ls) dir) (filter (λ e. same_key e.link.dir dir) (entries_behind (before ++ n ∷ []) ls))
        → IsBetween (next_index before dir) (next_index (before ++ n ∷ ls) dir) (cond b (entry_behind before n ∷ filter (λ e. same_key e.link.dir dir) (entries_behind (before ++ n ∷ []) ls)) (filter (λ e. same_key e.link.dir dir) (entries_behind (before ++ n ∷ []) ls)))
    by true is later =
        let more = one_more before n dir true is in
        let own : (entry_behind before n).index ≡ next_index before dir = ap (next_index before) (same_key-true n.dir dir is) in
        let top = later.order in
        record {
          climb = (all_each (λ e. next_index (before ++ n ∷ []) dir ≤ e.index) (λ e. (entry_behind before n).index < e.index) _ (λ e le. omega (arith, le, own, more)) later.low, later.climb);
          low = (omega (arith, own), all_each (λ e. next_index (before ++ n ∷ []) dir ≤ e.index) (λ e. next_index before dir ≤ e.index) _ (λ e le. omega (arith, le, more)) later.low);
          high = (omega (arith, own, more, top), later.high);
          order = omega (arith, more, top);
        }
    by false is later =
        let more = one_more before n dir false is in
        let top = later.order in
        record {
          climb = later.climb;
          low = all_each (λ e. next_index (before ++ n ∷ []) dir ≤ e.index) (λ e. next_index before dir ≤ e.index) _ (λ e le. omega (arith, le, more)) later.low;
          high = later.high;
          order = omega (arith, more, top);
        }

entries_climb : (kind : ObjectKey → Kind) (all : List ObjectKey) (links : List Naming) (dir : ObjectKey) → Climb (λ (e : Indexed). e.0) (indexed_in kind all links dir)
entries_climb kind all links dir = by (same_key dir root)
  where
    named : IndexedLink → Indexed
    named e = (e.index, entry_to (ino_of_key all e.link.target) (kind e.link.target) e.link.name)

    low : (es : List IndexedLink) → AllByRecursion (λ e. e.index < next_index links dir) es → AllByRecursion (λ (e : Indexed). e.0 < next_index links dir) (map (λ e. (e.index, entry_to (ino_of_key all e.link.target) (kind e.link.target) e.link.name)) es)
    low [] below = tt
    low (e ∷ es) below = (below.0, low es below.1)

    by : (b : Bool) → Climb (λ (e : Indexed). e.0) (map (λ e. (e.index, entry_to (ino_of_key all e.link.target) (kind e.link.target) e.link.name)) (names_in links dir) ++ (if b then (next_index links dir, saved_entry) ∷ [] else []))
    by true =
        let are = between dir [] links in
        climb_push (λ (e : Indexed). e.0) (map (λ e. (e.index, entry_to (ino_of_key all e.link.target) (kind e.link.target) e.link.name)) (names_in links dir)) (next_index links dir, saved_entry)
        (climb_mapped (λ (e : Indexed). e.0) (λ e. (e.index, entry_to (ino_of_key all e.link.target) (kind e.link.target) e.link.name)) (names_in links dir) are.climb) (low (names_in links dir) are.high)
    by false =
        let are = between dir [] links in
        subst (Climb (λ (e : Indexed). e.0)) (sym (append-nil (map (λ e. (e.index, entry_to (ino_of_key all e.link.target) (kind e.link.target) e.link.name)) (names_in links dir))))
        (climb_mapped (λ (e : Indexed). e.0) (λ e. (e.index, entry_to (ino_of_key all e.link.target) (kind e.link.target) e.link.name)) (names_in links dir) are.climb)

-- ---- extents

-- the pieces of an inode begin at different blocks of the file
blocks_once : (pieces : List Piece) (ino : ℕ) → IsDistinct starts pieces → Climb file_block (pieces_of pieces ino)
blocks_once pieces ino distinct =
    climb_once file_block (pieces_of pieces ino) (ascending_sorted file_block (filter (is_owned_by ino) pieces))
    (λ n. subst (λ (xs : List Piece). length xs ≤ 1) (sym (ascending_filter file_block n (filter (is_owned_by ino) pieces)))
    (at_most_one starts (λ p. file_block p == n) (is_owned_by ino) (λ p q in_p is_p in_q is_q. same n p.owner q.owner in_p is_p in_q is_q) pieces distinct))
  where
    equal : (n a b c d : ℕ) → (a == ino) ≡ true → (b == n) ≡ true → (c == ino) ≡ true → (d == n) ≡ true → ((a == c) && (b == d)) ≡ true
    equal n a b c d one two three four = grind (arith, nat_tests)

    same : (n : ℕ) (x y : Option (ℕ × ℕ)) → option_map_or (λ w. w.0 == ino) x false ≡ true → (option_map_or (λ w. w.1) x 0 == n) ≡ true → option_map_or (λ w. w.0 == ino) y false ≡ true → (option_map_or (λ w. w.1) y 0 == n) ≡ true → same_start x y ≡ true
    same n None y in_x is_x in_y is_y = in_x
    same n (Some a) None in_x is_x in_y is_y = in_y
    same n (Some a) (Some b) in_x is_x in_y is_y = equal n a.0 a.1 b.0 b.1 in_x is_x in_y is_y

-- ---- objects

widened : (n a b c d : ℕ) (items : List Item) → c ≤ a → b ≤ d → IsPart n a b items → IsPart n c d items
widened n a b c d items low high part = record {
  each = all_each (IsOf n a b) (IsOf n c d) items (λ i of. let bottom = of.low in let top = of.high in record { object = of.object; low = omega (arith, bottom, low); high = omega (arith, top, high) }) part.each;
  rise = part.rise;
}

module _ (s : Source) (distinct : IsDistinct starts s.pieces) (key : ObjectKey) where
  refs_part : IsPart (ino_of s key) INODE_REF INODE_EXTREF (inode_refs s.keys s.links key ++ extrefs s.keys s.links key)
  refs_part =
      let plain : List IndexedLink = filter (λ e. not e.extended) (names_of s.links key) in
      let far : List IndexedLink = ascending (parent_of s.keys) (filter (λ e. e.extended) (names_of s.links key)) in
      let hash : IndexedLink → ℕ = λ e. extref_hash (parent_of s.keys e) e.link.name in
      part_append (ino_of s key) INODE_REF INODE_REF INODE_EXTREF INODE_EXTREF (inode_refs s.keys s.links key) (extrefs s.keys s.links key) (omega arith) (omega arith) (omega arith)
      (part_of_kind (ino_of s key) INODE_REF (λ (g : ℕ × List IndexedLink). g.0) (λ (g : ℕ × List IndexedLink). flat_map (λ (e : IndexedLink). inode_ref_bytes (inode_ref e)) g.1) (grouped (parent_of s.keys) plain) (climb_groups (grouped (parent_of s.keys) plain) (rising_grouped (parent_of s.keys) plain)))
      (part_of_kind (ino_of s key) INODE_EXTREF (λ (g : ℕ × List IndexedLink). g.0) (λ (g : ℕ × List IndexedLink). flat_map (λ (e : IndexedLink). extref_bytes (extref s.keys e)) g.1) (grouped hash far) (climb_groups (grouped hash far) (rising_grouped hash far)))

  pub names_part : IsPart (ino_of s key) INODE_REF INODE_EXTREF (name_items s key)
  names_part = by (same_key key root) refl
    where
      by : (b : Bool) → same_key key root ≡ b → IsPart (ino_of s key) INODE_REF INODE_EXTREF (name_items s key)
      by true is =
          subst (IsPart (ino_of s key) INODE_REF INODE_EXTREF) (sym (name_items_root s key is))
          (subst (λ (n : ℕ). IsPart n INODE_REF INODE_EXTREF (root_ref ∷ [])) (sym (root_first s.keys key is))
          (widened FIRST_FREE_OBJECTID INODE_REF INODE_REF INODE_REF INODE_EXTREF (root_ref ∷ []) (omega arith) (omega arith) (part_one FIRST_FREE_OBJECTID INODE_REF FIRST_FREE_OBJECTID (inode_ref_bytes (record { index = 0; name = 46 ∷ 46 ∷ [] })))))
      by false is = subst (IsPart (ino_of s key) INODE_REF INODE_EXTREF) (sym (name_items_other s key s.keys s.links is refl refl)) refs_part

  data_part : IsPart (ino_of s key) DIR_ITEM EXTENT_DATA (file_extent_items s key)
  unfolding file_extent_items
  data_part = widened (ino_of s key) EXTENT_DATA EXTENT_DATA DIR_ITEM EXTENT_DATA (file_extent_items s key) (omega arith) (omega arith) (by (inline_in s key))
    where
      by : (b : Bool) → IsPart (ino_of s key) EXTENT_DATA EXTENT_DATA
          (if b then extent_item (ino_of s key) 0 (inline_extent (target_bytes (items_of key s.items) (size_in s key))) ∷ [] else extents_at (ino_of s key) file_block (pieces_of s.pieces (ino_of s key)))
      by true = part_one (ino_of s key) EXTENT_DATA (4096 * 0) (file_extent_bytes (inline_extent (target_bytes (items_of key s.items) (size_in s key))))
      by false = extents_part (ino_of s key) file_block (pieces_of s.pieces (ino_of s key)) (blocks_once s.pieces (ino_of s key) distinct)

  content_part : (kind : Kind) → IsPart (ino_of s key) DIR_ITEM EXTENT_DATA (content_items s key kind)
  content_part Directory =
      widened (ino_of s key) DIR_ITEM DIR_INDEX DIR_ITEM EXTENT_DATA (content_items s key Directory) (omega arith) (omega arith)
      (entries_part (ino_of s key) (indexed_in (kind_in s) s.keys s.links key) (entries_climb (kind_in s) s.keys s.links key))
  content_part File = data_part
  content_part Symlink = data_part
  content_part Character = no_part (ino_of s key) DIR_ITEM EXTENT_DATA
  content_part Block = no_part (ino_of s key) DIR_ITEM EXTENT_DATA
  content_part Fifo = no_part (ino_of s key) DIR_ITEM EXTENT_DATA
  content_part Socket = no_part (ino_of s key) DIR_ITEM EXTENT_DATA
  content_part Subvolume = no_part (ino_of s key) DIR_ITEM EXTENT_DATA

  -- what stands behind the item of the inode
  pub rest_part : IsPart (ino_of s key) INODE_REF EXTENT_DATA (name_items s key ++ content_items s key (kind_in s key))
  rest_part = part_append (ino_of s key) INODE_REF INODE_EXTREF DIR_ITEM EXTENT_DATA (name_items s key) (content_items s key (kind_in s key)) (omega arith) (omega arith) (omega arith) names_part (content_part (kind_in s key))

  object_part : IsPart (ino_of s key) INODE_ITEM EXTENT_DATA (object_items s key)
  unfolding object_items
  object_part =
      part_append (ino_of s key) INODE_ITEM INODE_ITEM INODE_REF EXTENT_DATA (inode_item (ino_of s key) (inode_in s key) ∷ []) (name_items s key ++ content_items s key (kind_in s key)) (omega arith) (omega arith) (omega arith)
      (part_one (ino_of s key) INODE_ITEM 0 (inode_bytes (inode_in s key))) rest_part

tree_rises : (s : Source) (at : ℕ) → AreNumbered at s.keys → IsDistinct starts s.pieces → Rise (fs_tree_items s)
unfolding fs_tree_items
tree_rises s at are distinct =
    rise_objects INODE_ITEM EXTENT_DATA (ino_of s) (object_items s) (by_inode s.keys) (inodes_climb s.keys at are) (all_true (λ key. IsPart (ino_of s key) INODE_ITEM EXTENT_DATA (object_items s key)) (by_inode s.keys) (object_part s distinct))

pub file_keys_ascend : FileKeysAscend
file_keys_ascend volume image o plan pieces has =
    let sorted : AreSortedKeys image (keys volume.named) = record { accepted = has.accepted; are_keys = has.opened.are_keys; ascend = has.opened.ascends } in
    let at = numbered image (keys volume.named) sorted in
    rise_ascends (fs_tree_items (made_from volume image o pieces)) (tree_rises (made_from volume image o pieces) at.0 at.1 (starts_none image has.found o plan has.plan_ pieces has.placed))
