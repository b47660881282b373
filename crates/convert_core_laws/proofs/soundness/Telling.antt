-- What lists of items tell of names, by their parts.
use Rattle.convert_core_laws.proofs.Imports.{◌≡◌, ℕ, ◌==◌, Bool, true, false, List, [], ◌∷◌, ◌++◌, map, Option, Some, refl, sym, ap, subst, ◌∙◌, nat_lt, arith, is_some, AllByRecursion, eqb-true, append-nil, All-from_recursion, DIR_INDEX, DIR_ITEM, INODE_EXTREF, INODE_REF, extref_hash, name_hash, DirEntryValue, dir_entry_bytes, dir_entry_head, dir_items_of, ExtrefValue, extref_bytes, extref_head, extrefs_of, FileExtentValue, file_extent_bytes, file_extent_of, InodeRefValue, inode_ref_bytes, inode_ref_head, inode_refs_of, make_key, Inode, dir_items_read_back, extrefs_read_back, inode_refs_read_back, Item, BackName, NamedEntry, IndexEntry, entry_of, or_none, IsEntry, IsOnForm, Indexed, entry_items, all_append, all_mapped, extent_item, grouped, in_group, inode_item, ref_item}
use Rattle.std.proofs.Common.{flat_map, if◌then◌else◌}
use Rattle.btr_reader.specs.btr_keys.Repeated.{RecordsReadBack}
use Rattle.convert_trees_laws.proofs.InodeRead.{inode_read}
use Rattle.convert_core_laws.proofs.soundness.NameLists.{flat_append, flat_mapped}

-- ---- what an item tells

abbrev pub hashed_of : Item → List NamedEntry
hashed_of i = map (entry_of i) (or_none (dir_items_of i.1))

abbrev pub indexed_of : Item → List IndexEntry
indexed_of i = map (λ e. record { entry = entry_of i e; index = i.0.offset }) (or_none (dir_items_of i.1))

abbrev pub ref_of : Item → List BackName
ref_of i = map (λ (e : InodeRefValue). record { inode = i.0.objectid; dir = i.0.offset; index = e.index; name = e.name }) (or_none (inode_refs_of i.1))

abbrev pub far_of : Item → List BackName
far_of i = map (λ (e : ExtrefValue). record { inode = i.0.objectid; dir = e.parent; index = e.index; name = e.name }) (or_none (extrefs_of i.1))

abbrev pub if_kind : {X : Type 0} → ℕ → (Item → List X) → Item → List X
if_kind kind f i = if i.0.kind == kind then f i else []

-- What items tell: entries by their hashes, entries by their indexes, and the names of inode refs and extrefs.
pub record Told (items : List Item) (hashed : List NamedEntry) (indexed : List IndexEntry) (refs fars : List BackName) : Type 0 where
  pub hash_is : flat_map (if_kind DIR_ITEM hashed_of) items ≡ hashed
  pub index_is : flat_map (if_kind DIR_INDEX indexed_of) items ≡ indexed
  pub ref_is : flat_map (if_kind INODE_REF ref_of) items ≡ refs
  pub far_is : flat_map (if_kind INODE_EXTREF far_of) items ≡ fars
  pub forms : AllByRecursion IsOnForm items

joined_is : {X : Type 0} (f : Item → List X) (xs ys : List Item) (a b : List X) → flat_map f xs ≡ a → flat_map f ys ≡ b → flat_map f (xs ++ ys) ≡ a ++ b
joined_is {X} f xs ys a b one two = flat_append f xs ys ∙ (ap (λ (l : List X). l ++ flat_map f ys) one ∙ ap (λ (l : List X). a ++ l) two)

pub told_append : (xs ys : List Item) (h h' : List NamedEntry) (x x' : List IndexEntry) (r r' f f' : List BackName) → Told xs h x r f → Told ys h' x' r' f' → Told (xs ++ ys) (h ++ h') (x ++ x') (r ++ r') (f ++ f')
told_append xs ys h h' x x' r r' f f' one two = record {
  hash_is = joined_is (if_kind DIR_ITEM hashed_of) xs ys h h' one.hash_is two.hash_is;
  index_is = joined_is (if_kind DIR_INDEX indexed_of) xs ys x x' one.index_is two.index_is;
  ref_is = joined_is (if_kind INODE_REF ref_of) xs ys r r' one.ref_is two.ref_is;
  far_is = joined_is (if_kind INODE_EXTREF far_of) xs ys f f' one.far_is two.far_is;
  forms = all_append IsOnForm xs ys one.forms two.forms;
}

pub told_none : Told [] [] [] [] []
told_none = record { hash_is = refl; index_is = refl; ref_is = refl; far_is = refl; forms = tt }

-- ---- items that tell no name

pub told_inode : (n : ℕ) (inode : Inode) → Told (inode_item n inode ∷ []) [] [] [] []
told_inode n inode = record {
  hash_is = refl;
  index_is = refl;
  ref_is = refl;
  far_is = refl;
  forms = (
    record {
      kind = refl;
      inode = λ e. (refl, ap is_some (inode_read inode).read);
      refs = λ e. absurd (omega (arith, e));
      extrefs = λ e. absurd (omega (arith, e));
      attributes = λ e. absurd (omega (arith, e));
      hashed = λ e. absurd (omega (arith, e));
      indexed = λ e. absurd (omega (arith, e));
      extent = λ e. absurd (omega (arith, e));
    },
    tt,
  );
}

pub told_extent : (n block : ℕ) (extent : FileExtentValue) → file_extent_of (file_extent_bytes extent) ≡ Some extent → Told (extent_item n block extent ∷ []) [] [] [] []
told_extent n block extent read = record {
  hash_is = refl;
  index_is = refl;
  ref_is = refl;
  far_is = refl;
  forms = (
    record {
      kind = refl;
      inode = λ e. absurd (omega (arith, e));
      refs = λ e. absurd (omega (arith, e));
      extrefs = λ e. absurd (omega (arith, e));
      attributes = λ e. absurd (omega (arith, e));
      hashed = λ e. absurd (omega (arith, e));
      indexed = λ e. absurd (omega (arith, e));
      extent = λ e. ap is_some read;
    },
    tt,
  );
}

-- ---- groups

-- a group has some elements, all of its number
pub record IsGroup {A : Type 0} (number : A → ℕ) (P : A → Type 0) (g : ℕ × List A) : Type 0 where
  pub first : A
  pub others : List A
  pub is : g.1 ≡ first ∷ others
  pub each : AllByRecursion (λ x. (number x ≡ g.0) × P x) g.1

module _ {A : Type 0} (number : A → ℕ) (P : A → Type 0) where
  group_in : (n : ℕ) (x : A) (groups : List (ℕ × List A)) → number x ≡ n → P x → AllByRecursion (IsGroup number P) groups → AllByRecursion (IsGroup number P) (in_group n x groups)
  group_in n x [] is p all = (record { first = x; others = []; is = refl; each = ((is, p), tt) }, tt)
  group_in n x (g ∷ groups) is p all = by (n == g.0) (nat_lt n g.0) refl (group_in n x groups is p all.1)
    where
      by : (e l : Bool) → (n == g.0) ≡ e → AllByRecursion (IsGroup number P) (in_group n x groups)
          → AllByRecursion (IsGroup number P) (if e then (n, x ∷ g.1) ∷ groups else (if l then (n, x ∷ []) ∷ (g ∷ groups) else g ∷ in_group n x groups))
      by true l same later = (
        record {
          first = x;
          others = g.1;
          is = refl;
          each = ((is, p), subst (λ (m : ℕ). AllByRecursion (λ y. (number y ≡ m) × P y) g.1) (sym (eqb-true n g.0 same)) all.0.each);
        },
        all.1,
      )
      by false true same later = (record { first = x; others = []; is = refl; each = ((is, p), tt) }, all)
      by false false same later = (all.0, later)

  pub groups_are : (xs : List A) → AllByRecursion P xs → AllByRecursion (IsGroup number P) (grouped number xs)
  groups_are [] all = tt
  groups_are (x ∷ xs) all = group_in (number x) x (grouped number xs) refl all.0 (groups_are xs all.1)

pub mapped_twice : {A B C : Type 0} (f : A → B) (h : B → C) (xs : List A) → map h (map f xs) ≡ map (λ x. h (f x)) xs
mapped_twice f h [] = refl
mapped_twice {A} {B} {C} f h (x ∷ xs) = ap (λ (l : List C). h (f x) ∷ l) (mapped_twice f h xs)

pub mapped_same : {A B : Type 0} (f h : A → B) (xs : List A) → AllByRecursion (λ x. f x ≡ h x) xs → map f xs ≡ map h xs
mapped_same f h [] all = refl
mapped_same {A} {B} f h (x ∷ xs) all = ap (λ (y : B). y ∷ map f xs) all.0 ∙ ap (λ (l : List B). h x ∷ l) (mapped_same f h xs all.1)

weaker : {A : Type 0} (P Q : A → Type 0) (xs : List A) → ((x : A) → P x → Q x) → AllByRecursion P xs → AllByRecursion Q xs
weaker P Q [] to all = tt
weaker P Q (x ∷ xs) to all = (to x all.0, weaker P Q xs to all.1)

-- the records of a group are read back
read_group : {A V : Type 0} (read : List ℕ → Option (List V)) (spell : V → List ℕ) (fits : V → Type 0) → RecordsReadBack read spell fits → (value : A → V) (xs : List A) (first : A) (others : List A) → xs ≡ first ∷ others
    → AllByRecursion (λ x. fits (value x)) xs → read (flat_map (λ x. spell (value x)) xs) ≡ Some (map value xs)
read_group {A} {V} read spell fits back value xs first others is all =
    let own : AllByRecursion (λ (x : A). fits (value x)) (first ∷ others) = subst (AllByRecursion (λ (x : A). fits (value x))) is all in
    subst (λ (l : List A). read (flat_map (λ x. spell (value x)) l) ≡ Some (map value l)) (sym is)
    (ap read (sym (flat_mapped value spell (first ∷ others))) ∙ back (value first) (map value others) (all_mapped fits value (first ∷ others) own))

-- ---- inode refs

-- an inode ref with one name
pub told_ref : (n parent : ℕ) (value : InodeRefValue) → inode_ref_head.fits value → Told (ref_item n parent value.index value.name ∷ []) [] [] (record { inode = n; dir = parent; index = value.index; name = value.name } ∷ []) []
told_ref n parent value fits =
    let read : inode_refs_of (inode_ref_bytes value) ≡ Some (value ∷ []) = ap inode_refs_of (sym (append-nil (inode_ref_bytes value))) ∙ inode_refs_read_back value [] (fits, tt) in
    let as_name : InodeRefValue → BackName = λ e. record { inode = n; dir = parent; index = e.index; name = e.name } in
    record {
      hash_is = refl;
      index_is = refl;
      ref_is = ap (λ (r : Option (List InodeRefValue)). map as_name (or_none r) ++ []) read;
      far_is = refl;
      forms = (
        record {
          kind = refl;
          inode = λ e. absurd (omega (arith, e));
          refs = λ e. ap is_some read;
          extrefs = λ e. absurd (omega (arith, e));
          attributes = λ e. absurd (omega (arith, e));
          hashed = λ e. absurd (omega (arith, e));
          indexed = λ e. absurd (omega (arith, e));
          extent = λ e. absurd (omega (arith, e));
        },
        tt,
      );
    }

module _ {A : Type 0} (n : ℕ) (number : A → ℕ) (value : A → InodeRefValue) where
  abbrev pub ref_group : ℕ × List A → Item
  ref_group g = (make_key n INODE_REF g.0, flat_map (λ x. inode_ref_bytes (value x)) g.1)

  abbrev pub ref_name : A → BackName
  ref_name x = record { inode = n; dir = number x; index = (value x).index; name = (value x).name }

  abbrev pub FitsRef : A → Type 0
  FitsRef x = inode_ref_head.fits (value x)

  one_ref_group : (g : ℕ × List A) → IsGroup number FitsRef g → Told (ref_group g ∷ []) [] [] (map ref_name g.1) []
  one_ref_group g of =
      let read : inode_refs_of (flat_map (λ x. inode_ref_bytes (value x)) g.1) ≡ Some (map value g.1) =
      read_group inode_refs_of inode_ref_bytes inode_ref_head.fits inode_refs_read_back value g.1 of.first of.others of.is (weaker (λ (x : A). (number x ≡ g.0) × FitsRef x) FitsRef g.1 (λ x h. h.1) of.each) in
      let as_name : InodeRefValue → BackName = λ e. record { inode = n; dir = g.0; index = e.index; name = e.name } in
      let named : map as_name (map value g.1) ≡ map ref_name g.1 =
      mapped_twice value as_name g.1
      ∙ mapped_same (λ (x : A). as_name (value x)) ref_name g.1
      (weaker (λ (x : A). (number x ≡ g.0) × FitsRef x) (λ (x : A). as_name (value x) ≡ ref_name x) g.1 (λ x h. ap (λ (d : ℕ). let b : BackName = record { inode = n; dir = d; index = (value x).index; name = (value x).name } in b) (sym h.0)) of.each) in
      record {
        hash_is = refl;
        index_is = refl;
        ref_is = append-nil (ref_of (ref_group g)) ∙ (ap (λ (r : Option (List InodeRefValue)). map as_name (or_none r)) read ∙ named);
        far_is = refl;
        forms = (
          record {
            kind = refl;
            inode = λ e. absurd (omega (arith, e));
            refs = λ e. ap is_some read;
            extrefs = λ e. absurd (omega (arith, e));
            attributes = λ e. absurd (omega (arith, e));
            hashed = λ e. absurd (omega (arith, e));
            indexed = λ e. absurd (omega (arith, e));
            extent = λ e. absurd (omega (arith, e));
          },
          tt,
        );
      }

  ref_groups : (groups : List (ℕ × List A)) → AllByRecursion (IsGroup number FitsRef) groups → Told (map ref_group groups) [] [] (flat_map (λ g. map ref_name g.1) groups) []
  ref_groups [] all = told_none
  ref_groups (g ∷ groups) all = told_append (ref_group g ∷ []) (map ref_group groups) [] [] [] [] (map ref_name g.1) (flat_map (λ h. map ref_name h.1) groups) [] [] (one_ref_group g all.0) (ref_groups groups all.1)

  pub told_refs : (xs : List A) → AllByRecursion FitsRef xs → Told (map ref_group (grouped number xs)) [] [] (flat_map (λ g. map ref_name g.1) (grouped number xs)) []
  told_refs xs fit = ref_groups (grouped number xs) (groups_are number FitsRef xs fit)

-- ---- extrefs

module _ {A : Type 0} (n : ℕ) (value : A → ExtrefValue) where
  abbrev hash_of : A → ℕ
  hash_of x = extref_hash (value x).parent (value x).name

  abbrev pub far_group : ℕ × List A → Item
  far_group g = (make_key n INODE_EXTREF g.0, flat_map (λ x. extref_bytes (value x)) g.1)

  abbrev pub far_name : A → BackName
  far_name x = record { inode = n; dir = (value x).parent; index = (value x).index; name = (value x).name }

  abbrev pub FitsFar : A → Type 0
  FitsFar x = extref_head.fits (value x)

  one_far_group : (g : ℕ × List A) → IsGroup hash_of FitsFar g → Told (far_group g ∷ []) [] [] [] (map far_name g.1)
  one_far_group g of =
      let read : extrefs_of (flat_map (λ x. extref_bytes (value x)) g.1) ≡ Some (map value g.1) =
      read_group extrefs_of extref_bytes extref_head.fits extrefs_read_back value g.1 of.first of.others of.is (weaker (λ (x : A). (hash_of x ≡ g.0) × FitsFar x) FitsFar g.1 (λ x h. h.1) of.each) in
      let as_name : ExtrefValue → BackName = λ e. record { inode = n; dir = e.parent; index = e.index; name = e.name } in
      record {
        hash_is = refl;
        index_is = refl;
        ref_is = refl;
        far_is = append-nil (far_of (far_group g)) ∙ (ap (λ (r : Option (List ExtrefValue)). map as_name (or_none r)) read ∙ mapped_twice value as_name g.1);
        forms = (
          record {
            kind = refl;
            inode = λ e. absurd (omega (arith, e));
            refs = λ e. absurd (omega (arith, e));
            extrefs = λ e. (
              map value g.1,
              read,
              All-from_recursion (λ (v : ExtrefValue). extref_hash v.parent v.name ≡ g.0) (map value g.1)
                  (all_mapped (λ (v : ExtrefValue). extref_hash v.parent v.name ≡ g.0) value g.1 (weaker (λ (x : A). (hash_of x ≡ g.0) × FitsFar x) (λ (x : A). hash_of x ≡ g.0) g.1 (λ x h. h.0) of.each)),
            );
            attributes = λ e. absurd (omega (arith, e));
            hashed = λ e. absurd (omega (arith, e));
            indexed = λ e. absurd (omega (arith, e));
            extent = λ e. absurd (omega (arith, e));
          },
          tt,
        );
      }

  far_groups : (groups : List (ℕ × List A)) → AllByRecursion (IsGroup hash_of FitsFar) groups → Told (map far_group groups) [] [] [] (flat_map (λ g. map far_name g.1) groups)
  far_groups [] all = told_none
  far_groups (g ∷ groups) all = told_append (far_group g ∷ []) (map far_group groups) [] [] [] [] [] [] (map far_name g.1) (flat_map (λ h. map far_name h.1) groups) (one_far_group g all.0) (far_groups groups all.1)

  pub told_fars : (xs : List A) → AllByRecursion FitsFar xs → Told (map far_group (grouped hash_of xs)) [] [] [] (flat_map (λ g. map far_name g.1) (grouped hash_of xs))
  told_fars xs fit = far_groups (grouped hash_of xs) (groups_are hash_of FitsFar xs fit)

-- ---- entries of a directory

module _ (n : ℕ) where
  abbrev pub entry_by : Indexed → NamedEntry
  entry_by e = record { dir = n; name = e.1.name; location = e.1.location; kind = e.1.kind }

  abbrev pub index_by : Indexed → IndexEntry
  index_by e = record { entry = entry_by e; index = e.0 }

  -- it fits, and is on the form of entries
  pub record FitsEntry (e : Indexed) : Type 0 where
    pub fits : dir_entry_head.fits e.1
    pub entry : IsEntry e.1

  abbrev hash_by : Indexed → ℕ
  hash_by e = name_hash e.1.name

  abbrev hash_group : ℕ × List Indexed → Item
  hash_group g = (make_key n DIR_ITEM g.0, flat_map (λ (e : Indexed). dir_entry_bytes e.1) g.1)

  abbrev index_item : Indexed → Item
  index_item e = (make_key n DIR_INDEX e.0, dir_entry_bytes e.1)

  one_hash_group : (g : ℕ × List Indexed) → IsGroup hash_by FitsEntry g → Told (hash_group g ∷ []) (map entry_by g.1) [] [] []
  one_hash_group g of =
      let value : Indexed → DirEntryValue = λ e. e.1 in
      let read : dir_items_of (flat_map (λ (e : Indexed). dir_entry_bytes e.1) g.1) ≡ Some (map value g.1) =
      read_group dir_items_of dir_entry_bytes dir_entry_head.fits dir_items_read_back value g.1 of.first of.others of.is (weaker (λ (x : Indexed). (hash_by x ≡ g.0) × FitsEntry x) (λ (x : Indexed). dir_entry_head.fits x.1) g.1 (λ x h. h.1.fits) of.each) in
      record {
        hash_is = append-nil (hashed_of (hash_group g)) ∙ (ap (λ (r : Option (List DirEntryValue)). map (entry_of (hash_group g)) (or_none r)) read ∙ mapped_twice value (entry_of (hash_group g)) g.1);
        index_is = refl;
        ref_is = refl;
        far_is = refl;
        forms = (
          record {
            kind = refl;
            inode = λ e. absurd (omega (arith, e));
            refs = λ e. absurd (omega (arith, e));
            extrefs = λ e. absurd (omega (arith, e));
            attributes = λ e. absurd (omega (arith, e));
            hashed = λ e. (
              map value g.1,
              read,
              All-from_recursion (λ (v : DirEntryValue). (name_hash v.name ≡ g.0) × IsEntry v) (map value g.1)
                  (all_mapped (λ (v : DirEntryValue). (name_hash v.name ≡ g.0) × IsEntry v) value g.1
                  (weaker (λ (x : Indexed). (hash_by x ≡ g.0) × FitsEntry x) (λ (x : Indexed). (hash_by x ≡ g.0) × IsEntry x.1) g.1 (λ x h. (h.0, h.1.entry)) of.each)),
            );
            indexed = λ e. absurd (omega (arith, e));
            extent = λ e. absurd (omega (arith, e));
          },
          tt,
        );
      }

  hash_groups : (groups : List (ℕ × List Indexed)) → AllByRecursion (IsGroup hash_by FitsEntry) groups → Told (map hash_group groups) (flat_map (λ g. map entry_by g.1) groups) [] [] []
  hash_groups [] all = told_none
  hash_groups (g ∷ groups) all = told_append (hash_group g ∷ []) (map hash_group groups) (map entry_by g.1) (flat_map (λ h. map entry_by h.1) groups) [] [] [] [] [] [] (one_hash_group g all.0) (hash_groups groups all.1)

  one_index : (e : Indexed) → FitsEntry e → Told (index_item e ∷ []) [] (index_by e ∷ []) [] []
  one_index e of =
      let read : dir_items_of (dir_entry_bytes e.1) ≡ Some (e.1 ∷ []) = ap dir_items_of (sym (append-nil (dir_entry_bytes e.1))) ∙ dir_items_read_back e.1 [] (of.fits, tt) in
      record {
        hash_is = refl;
        index_is = append-nil (indexed_of (index_item e)) ∙ ap (λ (r : Option (List DirEntryValue)). map (λ (v : DirEntryValue). let x : IndexEntry = record { entry = entry_of (index_item e) v; index = e.0 } in x) (or_none r)) read;
        ref_is = refl;
        far_is = refl;
        forms = (
          record {
            kind = refl;
            inode = λ k. absurd (omega (arith, k));
            refs = λ k. absurd (omega (arith, k));
            extrefs = λ k. absurd (omega (arith, k));
            attributes = λ k. absurd (omega (arith, k));
            hashed = λ k. absurd (omega (arith, k));
            indexed = λ k. (e.1, read, of.entry);
            extent = λ k. absurd (omega (arith, k));
          },
          tt,
        );
      }

  index_list : (list : List Indexed) → AllByRecursion FitsEntry list → Told (map index_item list) [] (map index_by list) [] []
  index_list [] all = told_none
  index_list (e ∷ list) all = told_append (index_item e ∷ []) (map index_item list) [] [] (index_by e ∷ []) (map index_by list) [] [] [] [] (one_index e all.0) (index_list list all.1)

  -- the entries in the order of their hashes
  abbrev pub hash_entries : List Indexed → List NamedEntry
  hash_entries list = flat_map (λ g. map entry_by g.1) (grouped hash_by list)

  pub told_entries : (list : List Indexed) → AllByRecursion FitsEntry list → Told (entry_items n list) (hash_entries list) (map index_by list) [] []
  told_entries list all =
      let hashed : List NamedEntry = hash_entries list in
      subst (λ (h : List NamedEntry). Told (entry_items n list) h (map index_by list) [] []) (append-nil hashed)
      (told_append (map hash_group (grouped hash_by list)) (map index_item list) hashed [] [] (map index_by list) [] [] [] [] (hash_groups (grouped hash_by list) (groups_are hash_by FitsEntry list all)) (index_list list all))
