-- What the items of one inode tell is what the tree tells of it.
use Rattle.btr_check_files.proofs.Imports.{◌≡◌, ℕ, ◌*◌, ◌==◌, Bool, true, false, cond, List, [], ◌∷◌, ◌++◌, if◌then◌else◌, length, map, filter, refl, sym, ap, ◌∙◌, arith, ne_eqb, eqb-true, filter-append, sum_by-IsPermutation, length-filter, flat_map, sum_by, IsPermutation, DirEntryValue, dir_items_of, ExtrefValue, extrefs_of, InodeRefValue, inode_refs_of, Item, DIR_INDEX, EXTENT_DATA, INODE_EXTREF, INODE_REF, BackName, IndexEntry, entry_of, index_entries, or_none, ref_names, extents_of, letters_in, names_in, extref_name, index_by, ref_name, told_by, TreeOn}
use Rattle.btr_check_rules.specs.Inodes.{directory_size, extents_in, is_of_inode, ref_name_count}
use Rattle.btr_check_files.proofs.Gathered.{gathered, parted}

-- ---- filters of what elements give

all_pass : {A B : Type 0} (f : A → B) (p : B → Bool) → ((x : A) → p (f x) ≡ true) → (xs : List A) → filter p (map f xs) ≡ map f xs
all_pass f p passes [] = refl
all_pass {A} {B} f p passes (x ∷ xs) = ap (λ (b : Bool). cond b (f x ∷ filter p (map f xs)) (filter p (map f xs))) (passes x) ∙ ap (λ (z : List B). f x ∷ z) (all_pass f p passes xs)

none_pass : {A B : Type 0} (f : A → B) (p : B → Bool) → ((x : A) → p (f x) ≡ false) → (xs : List A) → filter p (map f xs) ≡ []
none_pass f p fails [] = refl
none_pass {A} {B} f p fails (x ∷ xs) = ap (λ (b : Bool). cond b (f x ∷ filter p (map f xs)) (filter p (map f xs))) (fails x) ∙ none_pass f p fails xs

-- what passes a test is given by the elements that pass another one
filter_flat : {A B : Type 0} (p : B → Bool) (q : A → Bool) (g : A → List B) → ((x : A) → q x ≡ true → filter p (g x) ≡ g x) → ((x : A) → q x ≡ false → filter p (g x) ≡ [])
    → (xs : List A) → filter p (flat_map g xs) ≡ flat_map g (filter q xs)
filter_flat p q g all none [] = refl
filter_flat {A} {B} p q g all none (x ∷ xs) = filter-append p (g x) (flat_map g xs) ∙ by (filter_flat p q g all none xs) (q x) (all x) (none x)
  where
    by : filter p (flat_map g xs) ≡ flat_map g (filter q xs) → (b : Bool) → (b ≡ true → filter p (g x) ≡ g x) → (b ≡ false → filter p (g x) ≡ [])
        → filter p (g x) ++ filter p (flat_map g xs) ≡ flat_map g (cond b (x ∷ filter q xs) (filter q xs))
    by same true one zero = ap (λ (z : List B). z ++ filter p (flat_map g xs)) (one refl) ∙ ap (λ (z : List B). g x ++ z) same
    by same false one zero = ap (λ (z : List B). z ++ filter p (flat_map g xs)) (zero refl) ∙ same

-- two filters in the other order
filter_turned : {A : Type 0} (p q : A → Bool) (xs : List A) → filter p (filter q xs) ≡ filter q (filter p xs)
filter_turned p q [] = refl
filter_turned {A} p q (x ∷ xs) = by (filter_turned p q xs) (p x) (q x) refl refl
  where
    by : filter p (filter q xs) ≡ filter q (filter p xs) → (b c : Bool) → p x ≡ b → q x ≡ c
        → filter p (cond c (x ∷ filter q xs) (filter q xs)) ≡ filter q (cond b (x ∷ filter p xs) (filter p xs))
    by same true true first second =
        ap (λ (b : Bool). cond b (x ∷ filter p (filter q xs)) (filter p (filter q xs))) first
        ∙ (ap (λ (z : List A). x ∷ z) same ∙ sym (ap (λ (c : Bool). cond c (x ∷ filter q (filter p xs)) (filter q (filter p xs))) second))
    by same true false first second = same ∙ sym (ap (λ (c : Bool). cond c (x ∷ filter q (filter p xs)) (filter q (filter p xs))) second)
    by same false true first second = ap (λ (b : Bool). cond b (x ∷ filter p (filter q xs)) (filter p (filter q xs))) first ∙ same
    by same false false first second = same

-- ---- what one item tells of an inode

module _ (ino : ℕ) (i : Item) where
  names_own : is_of_inode ino i ≡ true → filter (λ (n : BackName). n.inode == ino) (told_by i) ≡ told_by i
  names_own is = by (i.0.kind == INODE_REF) (i.0.kind == INODE_EXTREF)
    where
      by : (b c : Bool) → filter (λ (n : BackName). n.inode == ino) (if b then map (ref_name i.0.objectid i.0.offset) (or_none (inode_refs_of i.1)) else (if c then map (extref_name i.0.objectid) (or_none (extrefs_of i.1)) else []))
          ≡ (if b then map (ref_name i.0.objectid i.0.offset) (or_none (inode_refs_of i.1)) else (if c then map (extref_name i.0.objectid) (or_none (extrefs_of i.1)) else []))
      by true c = all_pass (ref_name i.0.objectid i.0.offset) (λ (n : BackName). n.inode == ino) (λ (e : InodeRefValue). is) (or_none (inode_refs_of i.1))
      by false true = all_pass (extref_name i.0.objectid) (λ (n : BackName). n.inode == ino) (λ (e : ExtrefValue). is) (or_none (extrefs_of i.1))
      by false false = refl

  names_other : is_of_inode ino i ≡ false → filter (λ (n : BackName). n.inode == ino) (told_by i) ≡ []
  names_other is = by (i.0.kind == INODE_REF) (i.0.kind == INODE_EXTREF)
    where
      by : (b c : Bool) → filter (λ (n : BackName). n.inode == ino) (if b then map (ref_name i.0.objectid i.0.offset) (or_none (inode_refs_of i.1)) else (if c then map (extref_name i.0.objectid) (or_none (extrefs_of i.1)) else [])) ≡ []
      by true c = none_pass (ref_name i.0.objectid i.0.offset) (λ (n : BackName). n.inode == ino) (λ (e : InodeRefValue). is) (or_none (inode_refs_of i.1))
      by false true = none_pass (extref_name i.0.objectid) (λ (n : BackName). n.inode == ino) (λ (e : ExtrefValue). is) (or_none (extrefs_of i.1))
      by false false = refl

  entries_own : is_of_inode ino i ≡ true → filter (λ (e : IndexEntry). e.entry.dir == ino) (index_by i) ≡ index_by i
  entries_own is = by (i.0.kind == DIR_INDEX)
    where
      by : (b : Bool) → filter (λ (e : IndexEntry). e.entry.dir == ino) (if b then map (λ (e : DirEntryValue). record { entry = entry_of i e; index = i.0.offset }) (or_none (dir_items_of i.1)) else [])
          ≡ (if b then map (λ (e : DirEntryValue). record { entry = entry_of i e; index = i.0.offset }) (or_none (dir_items_of i.1)) else [])
      by true = all_pass (λ (e : DirEntryValue). record { entry = entry_of i e; index = i.0.offset }) (λ (e : IndexEntry). e.entry.dir == ino) (λ (e : DirEntryValue). is) (or_none (dir_items_of i.1))
      by false = refl

  entries_other : is_of_inode ino i ≡ false → filter (λ (e : IndexEntry). e.entry.dir == ino) (index_by i) ≡ []
  entries_other is = by (i.0.kind == DIR_INDEX)
    where
      by : (b : Bool) → filter (λ (e : IndexEntry). e.entry.dir == ino) (if b then map (λ (e : DirEntryValue). record { entry = entry_of i e; index = i.0.offset }) (or_none (dir_items_of i.1)) else []) ≡ []
      by true = none_pass (λ (e : DirEntryValue). record { entry = entry_of i e; index = i.0.offset }) (λ (e : IndexEntry). e.entry.dir == ino) (λ (e : DirEntryValue). is) (or_none (dir_items_of i.1))
      by false = refl

-- ---- the whole tree

module _ (t : TreeOn) where
  apart : (i : Item) → (i.0.kind == INODE_REF) ≡ true → (i.0.kind == INODE_EXTREF) ≡ false
  apart i first = let is : i.0.kind ≡ INODE_REF = eqb-true _ _ first in ne_eqb i.0.kind INODE_EXTREF (λ other. omega arith)

  pub told_names : IsPermutation (flat_map told_by t.items) (ref_names t)
  told_names =
      parted (λ (i : Item). i.0.kind == INODE_REF) (λ (i : Item). i.0.kind == INODE_EXTREF) (λ (i : Item). map (ref_name i.0.objectid i.0.offset) (or_none (inode_refs_of i.1)))
      (λ (i : Item). map (extref_name i.0.objectid) (or_none (extrefs_of i.1))) apart t.items

  pub told_entries : flat_map index_by t.items ≡ index_entries t
  told_entries = gathered (λ (i : Item). i.0.kind == DIR_INDEX) (λ (i : Item). map (λ (e : DirEntryValue). record { entry = entry_of i e; index = i.0.offset }) (or_none (dir_items_of i.1))) t.items

  module _ (ino : ℕ) where
    pub count_is : ref_name_count t ino ≡ names_in (filter (is_of_inode ino) t.items)
    count_is =
        sum_by-IsPermutation (λ (n : BackName). cond (n.inode == ino) 1 0) (flat_map told_by t.items) (ref_names t) told_names
        ∙ (sym (length-filter (λ (n : BackName). n.inode == ino) (flat_map told_by t.items))
        ∙ ap (λ (z : List BackName). length z) (filter_flat (λ (n : BackName). n.inode == ino) (is_of_inode ino) told_by (names_own ino) (names_other ino) t.items))

    pub entries_are : filter (λ (e : IndexEntry). e.entry.dir == ino) (index_entries t) ≡ flat_map index_by (filter (is_of_inode ino) t.items)
    entries_are =
        ap (filter (λ (e : IndexEntry). e.entry.dir == ino)) (sym told_entries) ∙ filter_flat (λ (e : IndexEntry). e.entry.dir == ino) (is_of_inode ino) index_by (entries_own ino) (entries_other ino) t.items

    pub size_is : directory_size t ino ≡ 2 * letters_in (filter (is_of_inode ino) t.items)
    size_is = ap (λ (z : List IndexEntry). 2 * sum_by (λ (e : IndexEntry). length e.entry.name) z) entries_are

    pub extents_are : extents_in t ino ≡ extents_of (filter (is_of_inode ino) t.items)
    extents_are = filter_turned (is_of_inode ino) (λ (i : Item). i.0.kind == EXTENT_DATA) t.items
