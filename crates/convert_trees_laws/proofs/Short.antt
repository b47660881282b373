-- The items of file trees are short.
use Rattle.convert_trees_laws.proofs.Imports.{◌≡◌, ◌≤◌, ℕ, ◌+◌, ◌==◌, ◌&&◌, not, nat_lt, Bool, true, false, cond, List, [], ◌∷◌, ◌++◌, length, length-append, map, filter, take, sum_by, refl, sym, ap, subst, ◌∙◌, if◌then◌else◌, arith, AllByRecursion, flat_map, nat_tests, length-take, sum_by-append, sum_by-cons, DIR_INDEX, DIR_ITEM, INODE_EXTREF, INODE_REF, name_hash, extref_hash, contains_head, contains_tail, Kind, DirEntryValue, dir_entry_bytes, dir_entry_head, ExtrefValue, extref_bytes, extref_head, disk_range_layout, file_extent_bytes, file_extent_head, inode_bytes, inode_layout, InodeRefValue, inode_ref_bytes, inode_ref_head, key_layout, make_key, stamp_layout, Inode, extent_item, inline_extent, regular_extent, ascending, grouped, of_number, inode_item, Above, Rising, of_number_grouped, other, rising_grouped, same_test, ascending_sum, ObjectKey, Naming, root, same_key, same_key-true, same_key-self, crowd_of, extended, extended_crowd_of, ino_of_key, reference_size, saved_name, flips, Piece, extents_at, IndexedLink, Indexed, entries_behind, entry_behind, entry_items, entry_to, extref, extrefs, indexed_in, inode_ref, inode_refs, names_in, names_of, next_index, parent_of, saved_entry, IsShort}
use Rattle.std.specs.Prelude.{Contains}
use Rattle.convert_steps.proofs.reiser_volume_names.Sums.{weight_push}
use Rattle.convert_trees_laws.proofs.Rising.{all_append, all_each, all_mapped, all_true}

-- ---- lengths of bodies

pub inode_long : (i : Inode) → length (inode_bytes i) ≡ 160
unfolding inode_layout stamp_layout
inode_long i = omega arith

pub inode_short : (n : ℕ) (i : Inode) → IsShort (inode_item n i)
inode_short n i = let long = inode_long i in omega (arith, long)

pub ref_long : (r : InodeRefValue) → length (inode_ref_bytes r) ≡ 10 + length r.name
unfolding inode_ref_head
ref_long r = omega arith

pub far_long : (r : ExtrefValue) → length (extref_bytes r) ≡ 18 + length r.name
unfolding extref_head
far_long r = omega arith

pub entry_long : (e : DirEntryValue) → length (dir_entry_bytes e) ≡ 30 + length e.name
unfolding dir_entry_head key_layout
entry_long e = omega arith

pub regular_long : (place count : ℕ) → length (file_extent_bytes (regular_extent place count)) ≡ 53
unfolding file_extent_head disk_range_layout
regular_long place count = omega arith

pub inline_long : (bytes : List ℕ) → length (file_extent_bytes (inline_extent bytes)) ≡ 21 + length bytes
unfolding file_extent_head
inline_long bytes = omega arith

pub extents_short : (ino : ℕ) (at : Piece → ℕ) (pieces : List Piece) → AllByRecursion IsShort (extents_at ino at pieces)
extents_short ino at pieces = all_mapped IsShort (λ (p : Piece). extent_item ino (at p) (regular_extent p.place p.count)) pieces (all_true _ pieces (λ p. let long = regular_long p.place p.count in omega (arith, long)))

pub inline_short : (ino size : ℕ) (bytes : List ℕ) → size ≤ 3900 → IsShort (extent_item ino 0 (inline_extent (take size bytes)))
inline_short ino size bytes few = let long = inline_long (take size bytes) in let part = length-take size bytes in omega (arith, long, part, few)

-- ---- sums

pub flat_long : {A : Type 0} (f : A → List ℕ) (w : A → ℕ) (xs : List A) → ((x : A) → length (f x) ≡ w x) → length (flat_map f xs) ≡ sum_by w xs
flat_long f w [] each = refl
flat_long f w (x ∷ xs) each =
    let first = each x in
    let later = flat_long f w xs each in
    let both = length-append (f x) (flat_map f xs) in
    let sum = sum_by-cons w x xs in
    omega (arith, first, later, both, sum)

pub sum_kept : {A : Type 0} (p : A → Bool) (w : A → ℕ) (xs : List A) → sum_by w (filter p xs) ≡ sum_by (λ x. cond (p x) (w x) 0) xs
sum_kept p w [] = refl
sum_kept {A} p w (x ∷ xs) = by (p x) (sum_kept p w xs) ∙ sym (sum_by-cons (λ y. cond (p y) (w y) 0) x xs)
  where
    by : (b : Bool) → sum_by w (filter p xs) ≡ sum_by (λ y. cond (p y) (w y) 0) xs → sum_by w (cond b (x ∷ filter p xs) (filter p xs)) ≡ cond b (w x) 0 + sum_by (λ y. cond (p y) (w y) 0) xs
    by true later = let first = sum_by-cons w x (filter p xs) in omega (arith, first, later)
    by false later = omega (arith, later)

pub sum_alike : {A : Type 0} (v w : A → ℕ) (xs : List A) → ((x : A) → v x ≡ w x) → sum_by v xs ≡ sum_by w xs
sum_alike v w [] same = refl
sum_alike v w (x ∷ xs) same =
    let here = same x in
    let later = sum_alike v w xs same in
    let first = sum_by-cons v x xs in
    let second = sum_by-cons w x xs in
    omega (arith, here, later, first, second)

pub sum_mapped : {A B : Type 0} (f : A → B) (w : B → ℕ) (xs : List A) → sum_by w (map f xs) ≡ sum_by (λ x. w (f x)) xs
sum_mapped f w [] = refl
sum_mapped f w (x ∷ xs) =
    let later = sum_mapped f w xs in
    let first = sum_by-cons w (f x) (map f xs) in
    let second = sum_by-cons (λ y. w (f y)) x xs in
    omega (arith, later, first, second)

-- a sum over entries that asks for their links alone
pub sum_links : (w : Naming → ℕ) (before ls : List Naming) → sum_by (λ (e : IndexedLink). w e.link) (entries_behind before ls) ≡ sum_by w ls
sum_links w before [] = refl
sum_links w before (n ∷ ls) =
    let later = sum_links w (before ++ n ∷ []) ls in
    let first = sum_by-cons (λ (e : IndexedLink). w e.link) (entry_behind before n) (entries_behind (before ++ n ∷ []) ls) in
    let second = sum_by-cons w n ls in
    omega (arith, later, first, second)

-- ---- groups

self : (n : ℕ) → (n == n) ≡ true
self n = grind (arith, nat_tests)

own_groups : {A : Type 0} (groups : List (ℕ × List A)) → Rising groups → AllByRecursion (λ g. of_number g.0 groups ≡ g.1) groups
own_groups [] up = tt
own_groups {A} (g ∷ groups) up = (ap (λ (b : Bool). cond b g.1 (of_number g.0 groups)) (self g.0), later groups up.0 (own_groups groups up.1))
  where
    later : (hs : List (ℕ × List A)) → Above g.0 hs → AllByRecursion (λ h. of_number h.0 groups ≡ h.1) hs → AllByRecursion (λ h. of_number h.0 (g ∷ groups) ≡ h.1) hs
    later [] above all = tt
    later (h ∷ hs) above all = (ap (λ (b : Bool). cond b g.1 (of_number h.0 groups)) (same_test h.0 g.0 ∙ other g.0 h.0 above.0) ∙ all.0, later hs above.1 all.1)

-- items of groups, where the elements of no number take too much
groups_short : {A : Type 0} (n kind : ℕ) (number : A → ℕ) (bytes : A → List ℕ) (w : A → ℕ) (xs : List A) → ((x : A) → length (bytes x) ≡ w x) → ((m : ℕ) → sum_by w (filter (λ x. number x == m) xs) ≤ 3900)
    → AllByRecursion IsShort (map (λ (g : ℕ × List A). (make_key n kind g.0, flat_map bytes g.1)) (grouped number xs))
groups_short {A} n kind number bytes w xs each few =
    all_mapped IsShort (λ (g : ℕ × List A). (make_key n kind g.0, flat_map bytes g.1)) (grouped number xs)
    (all_each (λ g. of_number g.0 (grouped number xs) ≡ g.1) (λ (g : ℕ × List A). IsShort (make_key n kind g.0, flat_map bytes g.1)) (grouped number xs)
    (λ g is. bound g (of_number_grouped number g.0 xs) is)
    (own_groups (grouped number xs) (rising_grouped number xs)))
  where
    bound : (g : ℕ × List A) → of_number g.0 (grouped number xs) ≡ filter (λ x. number x == g.0) xs → of_number g.0 (grouped number xs) ≡ g.1 → length (flat_map bytes g.1) + 126 ≤ 4096
    bound g told is =
        let long = flat_long bytes w g.1 each in
        let few_here = few g.0 in
        let same = ap (sum_by w) (sym told ∙ is) in
        omega (arith, long, few_here, same)

-- ---- references

module _ (all : List ObjectKey) (one : (a b : ObjectKey) → Contains all a → Contains all b → ino_of_key all a ≡ ino_of_key all b → a ≡ b) (key : ObjectKey) (m : ℕ) where
  abbrev plain_weight : IndexedLink → ℕ
  plain_weight e = cond (same_key e.link.target key) (cond (not e.extended) (cond (parent_of all e == m) (10 + length e.link.name) 0) 0) 0

  grows : (before : List Naming) (n : Naming) (dir : ObjectKey) → reference_size before dir key ≤ reference_size (before ++ n ∷ []) dir key
  grows before n dir =
      let push = weight_push (λ (x : Naming). same_key x.dir dir && same_key x.target key) (λ (x : Naming). 10 + length x.name) before n in
      omega (arith, push)

  equal : (a b : ℕ) → (a == b) ≡ true → a ≡ b
  equal a b is = grind (arith, nat_tests)

  not_less : (a b : ℕ) → nat_lt a b ≡ false → b ≤ a
  not_less a b is = grind (arith, nat_tests)

  own_size : (before : List Naming) (n : Naming) → n.target ≡ key → reference_size (before ++ n ∷ []) n.dir key ≡ reference_size before n.dir key + (10 + length n.name)
  own_size before n target =
      let push = weight_push (λ (x : Naming). same_key x.dir n.dir && same_key x.target key) (λ (x : Naming). 10 + length x.name) before n in
      push ∙ ap (λ (b : Bool). reference_size before n.dir key + (if b then 10 + length n.name else 0)) (ap (λ (b : Bool). b && same_key n.target key) (same_key-self n.dir) ∙ (ap (λ (k : ObjectKey). same_key k key) target ∙ same_key-self key))

  refs_few : (before ls : List Naming) (acc : ℕ) → ((n : Naming) → Contains ls n → Contains all n.dir) → acc ≤ 3900 → ((dir : ObjectKey) → Contains all dir → ino_of_key all dir ≡ m → acc ≤ reference_size before dir key)
      → acc + sum_by plain_weight (entries_behind before ls) ≤ 3900
  refs_few before [] acc known few sizes = omega (arith, few)
  refs_few before (n ∷ ls) acc known few sizes =
      let first = sum_by-cons plain_weight (entry_behind before n) (entries_behind (before ++ n ∷ []) ls) in
      let whole = cases (same_key n.target key) (entry_behind before n).extended (ino_of_key all n.dir == m) refl refl refl (λ more. refs_few (before ++ n ∷ []) ls more (λ x h. known x (contains_tail x n ls h))) in
      omega (arith, first, whole)
    where
      rest : ℕ
      rest = sum_by plain_weight (entries_behind (before ++ n ∷ []) ls)

      larger : (dir : ObjectKey) → Contains all dir → ino_of_key all dir ≡ m → acc ≤ reference_size (before ++ n ∷ []) dir key
      larger dir among is = let was = sizes dir among is in let more = grows before n dir in omega (arith, was, more)

      cases : (t x q : Bool) → same_key n.target key ≡ t → (entry_behind before n).extended ≡ x → (ino_of_key all n.dir == m) ≡ q
          → ((more : ℕ) → more ≤ 3900 → ((dir : ObjectKey) → Contains all dir → ino_of_key all dir ≡ m → more ≤ reference_size (before ++ n ∷ []) dir key) → more + sum_by plain_weight (entries_behind (before ++ n ∷ []) ls) ≤ 3900)
          → acc + (cond t (cond (not x) (cond q (10 + length n.name) 0) 0) 0 + sum_by plain_weight (entries_behind (before ++ n ∷ []) ls)) ≤ 3900
      cases false x q is_t is_x is_q later = let got = later acc few larger in omega (arith, got)
      cases true true q is_t is_x is_q later = let got = later acc few larger in omega (arith, got)
      cases true false false is_t is_x is_q later = let got = later acc few larger in omega (arith, got)
      cases true false true is_t is_x is_q later =
          let target : n.target ≡ key = same_key-true n.target key is_t in
          let here : Contains all n.dir = known n (contains_head n ls) in
          let inode = equal (ino_of_key all n.dir) m is_q in
          let was = sizes n.dir here inode in
          let size = own_size before n target in
          let low : reference_size (before ++ n ∷ []) n.dir key ≤ 3900 = subst (λ (k : ObjectKey). reference_size (before ++ n ∷ []) n.dir k ≤ 3900) target (not_less 3900 (reference_size (before ++ n ∷ []) n.dir n.target) is_x) in
          let top : acc + (10 + length n.name) ≤ reference_size (before ++ n ∷ []) n.dir key = omega (arith, was, size) in
          let got = later (acc + (10 + length n.name)) (omega (arith, top, low)) (λ dir among is. subst (λ (k : ObjectKey). acc + (10 + length n.name) ≤ reference_size (before ++ n ∷ []) k key) (one n.dir dir here among (inode ∙ sym is)) top) in
          omega (arith, got)

  refs_sum : (links : List Naming) → ((n : Naming) → Contains links n → Contains all n.dir) → sum_by (λ (e : IndexedLink). 10 + length e.link.name) (filter (λ e. parent_of all e == m) (filter (λ e. not e.extended) (names_of links key))) ≤ 3900
  refs_sum links known =
      let few = refs_few [] links 0 known (omega arith) (λ dir among is. omega arith) in
      let one_ = sum_kept (λ (e : IndexedLink). parent_of all e == m) (λ (e : IndexedLink). 10 + length e.link.name) (filter (λ e. not e.extended) (names_of links key)) in
      let two = sum_kept (λ (e : IndexedLink). not e.extended) (λ (e : IndexedLink). cond (parent_of all e == m) (10 + length e.link.name) 0) (names_of links key) in
      let three = sum_kept (λ (e : IndexedLink). same_key e.link.target key) (λ (e : IndexedLink). cond (not e.extended) (cond (parent_of all e == m) (10 + length e.link.name) 0) 0) (entries_behind [] links) in
      omega (arith, few, one_, two, three)

  -- ---- extended references

  abbrev far_hash : IndexedLink → ℕ
  far_hash e = extref_hash (parent_of all e) e.link.name

  abbrev far_weight : IndexedLink → ℕ
  far_weight e = cond (same_key e.link.target key) (cond e.extended (cond (far_hash e == m) (18 + length e.link.name) 0) 0) 0

  abbrev crowd_weight : Naming → ℕ
  crowd_weight n = cond (same_key n.target key && (extref_hash (ino_of_key all n.dir) n.name == m)) (18 + length n.name) 0

  far_same : (before ls : List Naming) → sum_by far_weight (entries_behind before ls) ≡ sum_by crowd_weight (extended before ls)
  far_same before [] = refl
  far_same before (n ∷ ls) =
      sum_by-cons far_weight (entry_behind before n) (entries_behind (before ++ n ∷ []) ls)
      ∙ cases (same_key n.target key) (nat_lt 3900 (reference_size (before ++ n ∷ []) n.dir n.target)) (extref_hash (ino_of_key all n.dir) n.name == m) refl refl (far_same (before ++ n ∷ []) ls)
    where
      cases : (t x h : Bool) → same_key n.target key ≡ t → (extref_hash (ino_of_key all n.dir) n.name == m) ≡ h → sum_by far_weight (entries_behind (before ++ n ∷ []) ls) ≡ sum_by crowd_weight (extended (before ++ n ∷ []) ls)
          → cond t (cond x (cond h (18 + length n.name) 0) 0) 0 + sum_by far_weight (entries_behind (before ++ n ∷ []) ls) ≡ sum_by crowd_weight ((if x then n ∷ [] else []) ++ extended (before ++ n ∷ []) ls)
      cases true false h is_t is_h later = omega (arith, later)
      cases false false h is_t is_h later = omega (arith, later)
      cases t true h is_t is_h later =
          let first = sum_by-cons crowd_weight n (extended (before ++ n ∷ []) ls) in
          let weight : crowd_weight n ≡ cond t (cond h (18 + length n.name) 0) 0 = ap (λ (b : Bool). cond (b && (extref_hash (ino_of_key all n.dir) n.name == m)) (18 + length n.name) 0) is_t ∙ (ap (λ (b : Bool). cond (t && b) (18 + length n.name) 0) is_h ∙ split t h) in
          omega (arith, later, first, weight)
        where
          split : (t h : Bool) → cond (t && h) (18 + length n.name) 0 ≡ cond t (cond h (18 + length n.name) 0) 0
          split true h = refl
          split false h = refl

  far_sum : (links : List Naming) → extended_crowd_of links all key m ≤ 3900 → sum_by (λ (e : IndexedLink). 18 + length e.link.name) (filter (λ e. far_hash e == m) (ascending (parent_of all) (filter (λ e. e.extended) (names_of links key)))) ≤ 3900
  far_sum links few =
      let one_ = sum_kept (λ (e : IndexedLink). far_hash e == m) (λ (e : IndexedLink). 18 + length e.link.name) (ascending (parent_of all) (filter (λ e. e.extended) (names_of links key))) in
      let order = ascending_sum (parent_of all) (λ (e : IndexedLink). cond (far_hash e == m) (18 + length e.link.name) 0) (filter (λ e. e.extended) (names_of links key)) in
      let two = sum_kept (λ (e : IndexedLink). e.extended) (λ (e : IndexedLink). cond (far_hash e == m) (18 + length e.link.name) 0) (names_of links key) in
      let three = sum_kept (λ (e : IndexedLink). same_key e.link.target key) (λ (e : IndexedLink). cond e.extended (cond (far_hash e == m) (18 + length e.link.name) 0) 0) (entries_behind [] links) in
      let same = far_same [] links in
      let crowd = sum_kept (λ (n : Naming). same_key n.target key && (extref_hash (ino_of_key all n.dir) n.name == m)) (λ (n : Naming). 18 + length n.name) (extended [] links) in
      omega (arith, few, one_, order, two, three, same, crowd)

pub refs_short : (all : List ObjectKey) (links : List Naming) (key : ObjectKey) → ((a b : ObjectKey) → Contains all a → Contains all b → ino_of_key all a ≡ ino_of_key all b → a ≡ b) → ((n : Naming) → Contains links n → Contains all n.dir)
    → ((m : ℕ) → extended_crowd_of links all key m ≤ 3900) → AllByRecursion IsShort (inode_refs all links key ++ extrefs all links key)
refs_short all links key one known few =
    all_append IsShort (inode_refs all links key) (extrefs all links key)
    (groups_short (ino_of_key all key) INODE_REF (parent_of all) (λ (e : IndexedLink). inode_ref_bytes (inode_ref e)) (λ (e : IndexedLink). 10 + length e.link.name) (filter (λ e. not e.extended) (names_of links key)) (λ e. ref_long (inode_ref e)) (λ m. refs_sum all one key m links known))
    (groups_short (ino_of_key all key) INODE_EXTREF (λ (e : IndexedLink). extref_hash (parent_of all e) e.link.name) (λ (e : IndexedLink). extref_bytes (extref all e)) (λ (e : IndexedLink). 18 + length e.link.name) (ascending (parent_of all) (filter (λ e. e.extended) (names_of links key))) (λ e. far_long (extref all e))
    (λ m. far_sum all one key m links (few m)))

-- the items of entries with short names, where those of no hash take too much
pub entry_items_short : (ino : ℕ) (list : List Indexed) → AllByRecursion (λ (e : Indexed). length e.1.name ≤ 255) list → ((m : ℕ) → sum_by (λ (e : Indexed). 30 + length e.1.name) (filter (λ e. name_hash e.1.name == m) list) ≤ 3900)
    → AllByRecursion IsShort (entry_items ino list)
entry_items_short ino list low few =
    all_append IsShort (map (λ g. (make_key ino DIR_ITEM g.0, flat_map (λ (e : Indexed). dir_entry_bytes e.1) g.1)) (grouped (λ (e : Indexed). name_hash e.1.name) list)) (map (λ (e : Indexed). (make_key ino DIR_INDEX e.0, dir_entry_bytes e.1)) list)
    (groups_short ino DIR_ITEM (λ (e : Indexed). name_hash e.1.name) (λ (e : Indexed). dir_entry_bytes e.1) (λ (e : Indexed). 30 + length e.1.name) list (λ e. entry_long e.1) few)
    (all_mapped IsShort (λ (e : Indexed). (make_key ino DIR_INDEX e.0, dir_entry_bytes e.1)) list (all_each (λ (e : Indexed). length e.1.name ≤ 255) (λ (e : Indexed). IsShort (make_key ino DIR_INDEX e.0, dir_entry_bytes e.1)) list (λ e short. let long = entry_long e.1 in omega (arith, long, short)) low))

-- ---- entries

module _ (kind : ObjectKey → Kind) (all : List ObjectKey) (links : List Naming) (dir : ObjectKey) where
  abbrev told : IndexedLink → Indexed
  told e = (e.index, entry_to (ino_of_key all e.link.target) (kind e.link.target) e.link.name)

  crowd_sum : (m : ℕ) → crowd_of links dir m ≤ 3900 → sum_by (λ (e : Indexed). 30 + length e.1.name) (filter (λ e. name_hash e.1.name == m) (indexed_in kind all links dir)) ≤ 3900
  crowd_sum m few =
      let one = sum_kept (λ (e : Indexed). name_hash e.1.name == m) (λ (e : Indexed). 30 + length e.1.name) (indexed_in kind all links dir) in
      let parts = sum_by-append w (map told (names_in links dir)) (if same_key dir root then (next_index links dir, saved_entry) ∷ [] else []) in
      let mapped = sum_mapped told w (names_in links dir) in
      let kept = sum_kept (λ (e : IndexedLink). same_key e.link.dir dir) (λ (e : IndexedLink). w (told e)) (entries_behind [] links) in
      let linked = sum_links (λ (n : Naming). cond (same_key n.dir dir) (cond (name_hash n.name == m) (30 + length n.name) 0) 0) [] links in
      let crowd = sum_kept (λ (n : Naming). same_key n.dir dir && (name_hash n.name == m)) (λ (n : Naming). 30 + length n.name) links in
      let alike = sum_alike (λ (n : Naming). cond (same_key n.dir dir && (name_hash n.name == m)) (30 + length n.name) 0) (λ (n : Naming). cond (same_key n.dir dir) (cond (name_hash n.name == m) (30 + length n.name) 0) 0) links (λ n. split (same_key n.dir dir) (name_hash n.name == m) (30 + length n.name)) in
      let saved = last (same_key dir root) (same_key root dir) (name_hash saved_name == m) (flips dir root) in
      omega (arith, few, one, parts, mapped, kept, linked, crowd, alike, saved)
    where
      w : Indexed → ℕ
      w e = cond (name_hash e.1.name == m) (30 + length e.1.name) 0

      split : (t h : Bool) (n : ℕ) → cond (t && h) n 0 ≡ cond t (cond h n 0) 0
      split true h n = refl
      split false h n = refl

      last : (a b h : Bool) → a ≡ b → sum_by (λ (e : Indexed). cond (name_hash e.1.name == m) (30 + length e.1.name) 0) (if a then (next_index links dir, saved_entry) ∷ [] else []) ≡ (if b && (name_hash saved_name == m) then 30 + length saved_name else 0)
      last true true h same = let first = sum_by-cons (λ (e : Indexed). cond (name_hash e.1.name == m) (30 + length e.1.name) 0) (next_index links dir, saved_entry) [] in omega (arith, first)
      last false false h same = refl
      last true false h same = absurd (cc)
      last false true h same = absurd (cc)

  -- the names are short
  pub names_low : ((n : Naming) → Contains links n → length n.name ≤ 255) → AllByRecursion (λ (e : Indexed). length e.1.name ≤ 255) (indexed_in kind all links dir)
  names_low short =
      all_append (λ (e : Indexed). length e.1.name ≤ 255) (map told (names_in links dir)) (if same_key dir root then (next_index links dir, saved_entry) ∷ [] else [])
      (all_mapped (λ (e : Indexed). length e.1.name ≤ 255) told (names_in links dir) (kept (entries_behind [] links) (listed [] links short)))
      (last (same_key dir root))
    where
      listed : (before ls : List Naming) → ((n : Naming) → Contains ls n → length n.name ≤ 255) → AllByRecursion (λ (e : IndexedLink). length e.link.name ≤ 255) (entries_behind before ls)
      listed before [] low = tt
      listed before (n ∷ ls) low = (low n (contains_head n ls), listed (before ++ n ∷ []) ls (λ x h. low x (contains_tail x n ls h)))

      kept : (es : List IndexedLink) → AllByRecursion (λ (e : IndexedLink). length e.link.name ≤ 255) es → AllByRecursion (λ (e : IndexedLink). length e.link.name ≤ 255) (filter (λ e. same_key e.link.dir dir) es)
      kept [] all = tt
      kept (e ∷ es) all = by (same_key e.link.dir dir) (kept es all.1)
        where
          by : (b : Bool) → AllByRecursion (λ (f : IndexedLink). length f.link.name ≤ 255) (filter (λ f. same_key f.link.dir dir) es) → AllByRecursion (λ (f : IndexedLink). length f.link.name ≤ 255) (cond b (e ∷ filter (λ f. same_key f.link.dir dir) es) (filter (λ f. same_key f.link.dir dir) es))
          by true later = (all.0, later)
          by false later = later

      last : (b : Bool) → AllByRecursion (λ (e : Indexed). length e.1.name ≤ 255) (if b then (next_index links dir, saved_entry) ∷ [] else [])
      last true = (omega arith, tt)
      last false = tt

  pub entries_short : (ino : ℕ) → ((n : Naming) → Contains links n → length n.name ≤ 255) → ((m : ℕ) → crowd_of links dir m ≤ 3900) → AllByRecursion IsShort (entry_items ino (indexed_in kind all links dir))
  entries_short ino short few = entry_items_short ino (indexed_in kind all links dir) (names_low short) (λ m. crowd_sum m (few m))
