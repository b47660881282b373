-- The extents of one object among the items of the file tree.
use Rattle.convert_core_laws.proofs.Imports.{◌≡◌, ◌≢◌, ◌<◌, ℕ, ◌*◌, ◌==◌, ◌&&◌, not, inl, inr, ◌⊎◌, Bool, true, false, List, [], ◌∷◌, ◌++◌, map, filter, refl, sym, ap, subst, ◌∙◌, ⊎_elim, arith, Contains, AllByRecursion, flat_map, cases_Bool, cases_eq, not_from_false, nat_tests, append-nil, filter-append, DIR_INDEX, DIR_ITEM, EXTENT_DATA, INODE_EXTREF, INODE_REF, extref_hash, name_hash, dir_entry_bytes, extref_bytes, inode_ref_bytes, make_key, Item, extents_at, file_block, pieces_of, IndexedLink, Indexed, extref, extrefs, indexed_in, inode_ref, inode_refs, names_of, parent_of, root_ref, Source, content_items, file_extent_items, inline_in, inode_in, kind_in, name_items, ino_of, object_items, size_in, fs_tree_items, inodes_climb, root_first, Climb, all_append, all_each, all_mapped, all_true, has_bytes, Kind, Directory, File, Symlink, Character, Block, Fifo, Socket, Subvolume, extent_item, inline_extent, regular_extent, ascending, grouped, inode_item, from_filter, in_filter, contains_cases, contains_head, contains_tail, target_bytes, ObjectKey, items_of, root, same_key, same_key-true, AreNumbered, by_inode, Piece}
use Rattle.std.proofs.Common.{if◌then◌else◌}
use Rattle.std.proofs.lemmas.Option.{get_or_from_slice_get, slice_get_within}
use Rattle.convert_core_laws.proofs.ByteReading.{filter_all, filter_none, is_extent}

no_and : (b : Bool) → (b && false) ≡ false
no_and true = refl
no_and false = refl

other_object : (m n k : ℕ) → m ≢ n → ((m == n) && (k == EXTENT_DATA)) ≡ false
other_object m n k apart = grind (arith, nat_tests)

own_object : (n : ℕ) → ((n == n) && (EXTENT_DATA == EXTENT_DATA)) ≡ true
own_object n = grind (arith, nat_tests)

-- an item is of an object
abbrev pub IsOf : ℕ → Item → Type 0
IsOf n i = i.0.objectid ≡ n

module _ (s : Source) (key : ObjectKey) where
  abbrev n : ℕ
  n = ino_of s key

  names_of_object : AllByRecursion (IsOf n) (name_items s key)
  unfolding name_items
  names_of_object = by (same_key key root) refl
    where
      by : (b : Bool) → same_key key root ≡ b → AllByRecursion (IsOf n) (if b then root_ref ∷ [] else inode_refs s.keys s.links key ++ extrefs s.keys s.links key)
      by true is = (sym (root_first s.keys key is), tt)
      by false is =
          let plain : List IndexedLink = filter (λ e. not e.extended) (names_of s.links key) in
          let far : List IndexedLink = ascending (parent_of s.keys) (filter (λ e. e.extended) (names_of s.links key)) in
          let hash : IndexedLink → ℕ = λ e. extref_hash (parent_of s.keys e) e.link.name in
          all_append (IsOf n) (inode_refs s.keys s.links key) (extrefs s.keys s.links key)
          (all_mapped (IsOf n) (λ (g : ℕ × List IndexedLink). (make_key n INODE_REF g.0, flat_map (λ e. inode_ref_bytes (inode_ref e)) g.1)) (grouped (parent_of s.keys) plain) (all_true _ (grouped (parent_of s.keys) plain) (λ g. refl)))
          (all_mapped (IsOf n) (λ (g : ℕ × List IndexedLink). (make_key n INODE_EXTREF g.0, flat_map (λ e. extref_bytes (extref s.keys e)) g.1)) (grouped hash far) (all_true _ (grouped hash far) (λ g. refl)))

  names_no_extents : AllByRecursion (λ i. is_extent n i ≡ false) (name_items s key)
  unfolding name_items
  names_no_extents = by (same_key key root)
    where
      by : (b : Bool) → AllByRecursion (λ i. is_extent n i ≡ false) (if b then root_ref ∷ [] else inode_refs s.keys s.links key ++ extrefs s.keys s.links key)
      by true = (no_and (256 == n), tt)
      by false =
          let plain : List IndexedLink = filter (λ e. not e.extended) (names_of s.links key) in
          let far : List IndexedLink = ascending (parent_of s.keys) (filter (λ e. e.extended) (names_of s.links key)) in
          let hash : IndexedLink → ℕ = λ e. extref_hash (parent_of s.keys e) e.link.name in
          all_append (λ i. is_extent n i ≡ false) (inode_refs s.keys s.links key) (extrefs s.keys s.links key)
          (all_mapped (λ i. is_extent n i ≡ false) (λ (g : ℕ × List IndexedLink). (make_key n INODE_REF g.0, flat_map (λ e. inode_ref_bytes (inode_ref e)) g.1)) (grouped (parent_of s.keys) plain) (all_true _ (grouped (parent_of s.keys) plain) (λ g. no_and (n == n))))
          (all_mapped (λ i. is_extent n i ≡ false) (λ (g : ℕ × List IndexedLink). (make_key n INODE_EXTREF g.0, flat_map (λ e. extref_bytes (extref s.keys e)) g.1)) (grouped hash far) (all_true _ (grouped hash far) (λ g. no_and (n == n))))

  -- what an object's extents are, for any test of the key
  data_each : (P : Item → Type 0) → ((k : ℕ) (body : List ℕ) → P (make_key n EXTENT_DATA k, body)) → AllByRecursion P (file_extent_items s key)
  unfolding file_extent_items
  data_each P each = by (inline_in s key)
    where
      by : (b : Bool) → AllByRecursion P (if b then extent_item n 0 (inline_extent (target_bytes (items_of key s.items) (size_in s key))) ∷ [] else extents_at n file_block (pieces_of s.pieces n))
      by true = (each (4096 * 0) _, tt)
      by false = all_mapped P (λ (p : Piece). extent_item n (file_block p) (regular_extent p.place p.count)) (pieces_of s.pieces n) (all_true _ (pieces_of s.pieces n) (λ p. each (4096 * file_block p) _))

  content_of_object : (kind : Kind) → AllByRecursion (IsOf n) (content_items s key kind)
  content_of_object Directory =
      let list : List Indexed = indexed_in (kind_in s) s.keys s.links key in
      all_append (IsOf n) (map (λ (g : ℕ × List Indexed). (make_key n DIR_ITEM g.0, flat_map (λ (e : Indexed). dir_entry_bytes e.1) g.1)) (grouped (λ (e : Indexed). name_hash e.1.name) list)) (map (λ (e : Indexed). (make_key n DIR_INDEX e.0, dir_entry_bytes e.1)) list)
      (all_mapped (IsOf n) (λ (g : ℕ × List Indexed). (make_key n DIR_ITEM g.0, flat_map (λ (e : Indexed). dir_entry_bytes e.1) g.1)) (grouped (λ (e : Indexed). name_hash e.1.name) list) (all_true _ (grouped (λ (e : Indexed). name_hash e.1.name) list) (λ g. refl)))
      (all_mapped (IsOf n) (λ (e : Indexed). (make_key n DIR_INDEX e.0, dir_entry_bytes e.1)) list (all_true _ list (λ e. refl)))
  content_of_object File = data_each (IsOf n) (λ k body. refl)
  content_of_object Symlink = data_each (IsOf n) (λ k body. refl)
  content_of_object Character = tt
  content_of_object Block = tt
  content_of_object Fifo = tt
  content_of_object Socket = tt
  content_of_object Subvolume = tt

  pub of_object : AllByRecursion (IsOf n) (object_items s key)
  unfolding object_items
  of_object = (refl, all_append (IsOf n) (name_items s key) (content_items s key (kind_in s key)) names_of_object (content_of_object (kind_in s key)))

  no_extent_each : (k : ℕ) (list : List Indexed) → (k == EXTENT_DATA) ≡ false → AllByRecursion (λ i. is_extent n i ≡ false) (map (λ (e : Indexed). (make_key n k e.0, dir_entry_bytes e.1)) list)
  no_extent_each k list other =
      all_mapped (λ i. is_extent n i ≡ false) (λ (e : Indexed). (make_key n k e.0, dir_entry_bytes e.1)) list (all_true _ list (λ e. ap (λ (b : Bool). (n == n) && b) other ∙ no_and (n == n)))

  -- the extents of an object are those of its bytes
  abbrev pub extents_in : Kind → List Item
  extents_in kind = if has_bytes kind then file_extent_items s key else []

  content_extents : (kind : Kind) → filter (is_extent n) (content_items s key kind) ≡ extents_in kind
  content_extents File = filter_all (is_extent n) (file_extent_items s key) (data_each (λ i. is_extent n i ≡ true) (λ k body. own_object n))
  content_extents Symlink = filter_all (is_extent n) (file_extent_items s key) (data_each (λ i. is_extent n i ≡ true) (λ k body. own_object n))
  content_extents Directory =
      let list : List Indexed = indexed_in (kind_in s) s.keys s.links key in
      filter_none (is_extent n) (content_items s key Directory)
      (all_append (λ i. is_extent n i ≡ false) (map (λ (g : ℕ × List Indexed). (make_key n DIR_ITEM g.0, flat_map (λ (e : Indexed). dir_entry_bytes e.1) g.1)) (grouped (λ (e : Indexed). name_hash e.1.name) list)) (map (λ (e : Indexed). (make_key n DIR_INDEX e.0, dir_entry_bytes e.1)) list)
      (all_mapped (λ i. is_extent n i ≡ false) (λ (g : ℕ × List Indexed). (make_key n DIR_ITEM g.0, flat_map (λ (e : Indexed). dir_entry_bytes e.1) g.1)) (grouped (λ (e : Indexed). name_hash e.1.name) list) (all_true _ (grouped (λ (e : Indexed). name_hash e.1.name) list) (λ g. no_and (n == n))))
      (no_extent_each DIR_INDEX list refl))
  content_extents Character = refl
  content_extents Block = refl
  content_extents Fifo = refl
  content_extents Socket = refl
  content_extents Subvolume = refl

  own_extents : filter (is_extent n) (object_items s key) ≡ extents_in (kind_in s key)
  unfolding object_items
  own_extents =
      ap (λ (b : Bool). if b then inode_item n (inode_in s key) ∷ filter (is_extent n) (name_items s key ++ content_items s key (kind_in s key)) else filter (is_extent n) (name_items s key ++ content_items s key (kind_in s key))) (no_and (n == n))
      ∙ (filter-append (is_extent n) (name_items s key) (content_items s key (kind_in s key))
      ∙ (ap (λ (l : List Item). l ++ filter (is_extent n) (content_items s key (kind_in s key))) (filter_none (is_extent n) (name_items s key) names_no_extents) ∙ content_extents (kind_in s key)))

module _ (s : Source) (ino : ℕ) where
  foreign : (k : ObjectKey) → ino_of s k ≢ ino → filter (is_extent ino) (object_items s k) ≡ []
  foreign k apart =
      filter_none (is_extent ino) (object_items s k)
      (all_each (IsOf (ino_of s k)) (λ i. is_extent ino i ≡ false) (object_items s k) (λ i of. other_object i.0.objectid ino i.0.kind (λ same. apart (sym of ∙ same))) (of_object s k))

  -- objects with other numbers have none
  nowhere : (ks : List ObjectKey) → AllByRecursion (λ k. ino_of s k ≢ ino) ks → filter (is_extent ino) (flat_map (object_items s) ks) ≡ []
  nowhere [] apart = refl
  nowhere (k ∷ ks) apart =
      filter-append (is_extent ino) (object_items s k) (flat_map (object_items s) ks)
      ∙ (ap (λ (l : List Item). l ++ filter (is_extent ino) (flat_map (object_items s) ks)) (foreign k apart.0) ∙ nowhere ks apart.1)

  -- the one object with this number, or none
  whose : (ks : List ObjectKey) → ((key : ObjectKey) × Contains ks key × (ino_of s key ≡ ino)) ⊎ AllByRecursion (λ k. ino_of s k ≢ ino) ks
  whose [] = inr tt
  whose (k ∷ ks) =
      ⊎_elim (λ (here : ino_of s k ≡ ino). inl (k, contains_head k ks, here))
      (λ (other : ino_of s k ≢ ino). ⊎_elim (λ later. inl (later.0, contains_tail later.0 k ks later.1, later.2)) (λ none. inr (other, none)) (whose ks))
      (cases_eq (ino_of s k) ino)

  found : (ks : List ObjectKey) (key : ObjectKey) → ino_of s key ≡ ino → Climb (ino_of s) ks → Contains ks key → filter (is_extent ino) (flat_map (object_items s) ks) ≡ extents_in s key (kind_in s key)
  found [] key is up h = absurd (omega (arith, h.1))
  found (k ∷ ks) key is up h =
      ⊎_elim
      (λ (same : k ≡ key).
      let here : ino_of s k ≡ ino = ap (ino_of s) same ∙ is in
      filter-append (is_extent ino) (object_items s k) (flat_map (object_items s) ks)
      ∙ (ap (λ (l : List Item). filter (is_extent ino) (object_items s k) ++ l) (nowhere ks (all_each (λ y. ino_of s k < ino_of s y) (λ y. ino_of s y ≢ ino) ks (λ y less same_. omega (arith, less, same_, here)) up.0))
      ∙ (append-nil (filter (is_extent ino) (object_items s k))
      ∙ (ap (λ (n : ℕ). filter (is_extent n) (object_items s k)) (sym here) ∙ (ap (λ (x : ObjectKey). filter (is_extent (ino_of s x)) (object_items s x)) same ∙ own_extents s key)))))
      (λ (later : Contains ks key).
      filter-append (is_extent ino) (object_items s k) (flat_map (object_items s) ks)
      ∙ (ap (λ (l : List Item). l ++ filter (is_extent ino) (flat_map (object_items s) ks)) (foreign k (λ same. let less = above ks up.0 key later in omega (arith, less, same, is))) ∙ found ks key is up.1 later))
      (contains_cases key k ks h)
    where
      above : (ys : List ObjectKey) → AllByRecursion (λ y. ino_of s k < ino_of s y) ys → (y : ObjectKey) → Contains ys y → ino_of s k < ino_of s y
      above [] all y h = absurd (omega (arith, h.1))
      above (z ∷ zs) all y h = ⊎_elim (λ (same : z ≡ y). subst (λ (w : ObjectKey). ino_of s k < ino_of s w) same all.0) (λ (later : Contains zs y). above zs all.1 y later) (contains_cases y z zs h)

in_order : (all : List ObjectKey) (key : ObjectKey) → Contains all key → Contains (by_inode all) key
in_order all key h =
    ⊎_elim
    (λ (t : same_key key root ≡ true). subst (λ (k : ObjectKey). Contains (root ∷ filter (λ x. not (same_key x root)) all) k) (sym (same_key-true key root t)) (contains_head root (filter (λ x. not (same_key x root)) all)))
    (λ (f : same_key key root ≡ false). contains_tail key root (filter (λ x. not (same_key x root)) all) (in_filter (λ x. not (same_key x root)) all key h (not_from_false (same_key key root) f)))
    (cases_Bool (same_key key root))

from_order : (all : List ObjectKey) (key : ObjectKey) → Contains all root → Contains (by_inode all) key → Contains all key
from_order all key has h =
    ⊎_elim (λ (same : root ≡ key). subst (λ (k : ObjectKey). Contains all k) same has) (λ (later : Contains (filter (λ x. not (same_key x root)) all) key). (from_filter (λ x. not (same_key x root)) all key later).0)
    (contains_cases key root (filter (λ x. not (same_key x root)) all) h)

module _ (s : Source) (at : ℕ) (are : AreNumbered at s.keys) where
  -- the extents of a named file or symlink are those that were made of it
  pub extents_found : (key : ObjectKey) → Contains s.keys key → has_bytes (kind_in s key) ≡ true → filter (is_extent (ino_of s key)) (fs_tree_items s) ≡ file_extent_items s key
  unfolding fs_tree_items
  extents_found key named has =
      found s (ino_of s key) (by_inode s.keys) key refl (inodes_climb s.keys at are) (in_order s.keys key named) ∙ ap (λ (b : Bool). if b then file_extent_items s key else []) has

  -- those of any inode are a named file's or symlink's, or there are none
  pub any_extents : (ino : ℕ) → ((key : ObjectKey) × Contains s.keys key × (has_bytes (kind_in s key) ≡ true) × (filter (is_extent ino) (fs_tree_items s) ≡ file_extent_items s key)) ⊎ (filter (is_extent ino) (fs_tree_items s) ≡ [])
  unfolding fs_tree_items
  any_extents ino =
      ⊎_elim
      (λ of.
      let key : ObjectKey = of.0 in
      let is = found s ino (by_inode s.keys) key of.2 (inodes_climb s.keys at are) of.1 in
      ⊎_elim
      (λ (has : has_bytes (kind_in s key) ≡ true). inl (key, from_order s.keys key has_root of.1, has, is ∙ ap (λ (b : Bool). if b then file_extent_items s key else []) has))
      (λ (none : has_bytes (kind_in s key) ≡ false). inr (is ∙ ap (λ (b : Bool). if b then file_extent_items s key else []) none))
      (cases_Bool (has_bytes (kind_in s key))))
      (λ none. inr (nowhere s ino (by_inode s.keys) none)) (whose s ino (by_inode s.keys))
    where
      has_root : Contains s.keys root
      has_root = (at, slice_get_within s.keys at root are.has_root, get_or_from_slice_get s.keys at root root are.has_root)
