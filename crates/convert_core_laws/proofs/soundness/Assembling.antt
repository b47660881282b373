-- A tree has its names where its items tell the same ones in each way.
use Rattle.convert_core_laws.proofs.Imports.{◌≡◌, ◌≢◌, ◌<◌, ℕ, ◌*◌, ◌==◌, true, false, cond, List, [], ◌∷◌, ◌++◌, map, filter, count_by, length, Some, refl, sym, ap, ap₂, subst, ◌∙◌, ⊎_elim, arith, All, All-from_recursion, AllByRecursion, IsPermutation, append-nil, map-append, IsPermutation-append, IsPermutation-refl, IsPermutation-trans, sum_by-IsPermutation, DIR_INDEX, DIR_ITEM, INODE_EXTREF, INODE_ITEM, INODE_REF, at_head, head_or_tail, in_tail, inode_of, Inode, Item, AreTreeNames, IsInode, IsTreeEntry, BackName, NamedEntry, IndexEntry, IsThere, back_name, hashed_entries, index_entries, names_inode_item, own_name, ref_names, IsOnForm, directory_size, ref_name_count, TreeOn, Climb, all_append, all_from_contains, all_in}
use Rattle.std.proofs.Common.{flat_map, Contains, sum_by}
use Rattle.convert_core_laws.proofs.soundness.NameLists.{flat_append, flat_kept, middle_swap}
use Rattle.convert_core_laws.proofs.soundness.Telling.{Told, far_of, hashed_of, if_kind, indexed_of, ref_of}

abbrev pub entry_part : IndexEntry → NamedEntry
entry_part e = e.entry

-- What items tell: these entries by their indexes, the same ones by their hashes, and these names of inodes.
pub record Tells (items : List Item) (indexes : List IndexEntry) (names : List BackName) : Type 0 where
  pub index : flat_map (if_kind DIR_INDEX indexed_of) items ≡ indexes
  pub hashed : IsPermutation (map entry_part indexes) (flat_map (if_kind DIR_ITEM hashed_of) items)
  pub refs : IsPermutation names (flat_map (if_kind INODE_REF ref_of) items ++ flat_map (if_kind INODE_EXTREF far_of) items)
  pub forms : AllByRecursion IsOnForm items

pub tells_of : (items : List Item) (h : List NamedEntry) (x : List IndexEntry) (r f names : List BackName) → Told items h x r f → IsPermutation (map entry_part x) h → IsPermutation names (r ++ f) → Tells items x names
tells_of items h x r f names told entries back = record {
  index = told.index_is;
  hashed = subst (IsPermutation (map entry_part x)) (sym told.hash_is) entries;
  refs = subst (IsPermutation names) (sym (ap₂ (λ (a b : List BackName). a ++ b) told.ref_is told.far_is)) back;
  forms = told.forms;
}

pub tells_none : Tells [] [] []
tells_none = record { index = refl; hashed = IsPermutation-refl []; refs = IsPermutation-refl []; forms = tt }

pub tells_append : (xs ys : List Item) (a b : List IndexEntry) (m n : List BackName) → Tells xs a m → Tells ys b n → Tells (xs ++ ys) (a ++ b) (m ++ n)
tells_append xs ys a b m n one two =
    let rx : List BackName = flat_map (if_kind INODE_REF ref_of) xs in
    let ry : List BackName = flat_map (if_kind INODE_REF ref_of) ys in
    let fx : List BackName = flat_map (if_kind INODE_EXTREF far_of) xs in
    let fy : List BackName = flat_map (if_kind INODE_EXTREF far_of) ys in
    let hx : List NamedEntry = flat_map (if_kind DIR_ITEM hashed_of) xs in
    let hy : List NamedEntry = flat_map (if_kind DIR_ITEM hashed_of) ys in
    record {
      index = flat_append (if_kind DIR_INDEX indexed_of) xs ys ∙ (ap (λ (l : List IndexEntry). l ++ flat_map (if_kind DIR_INDEX indexed_of) ys) one.index ∙ ap (λ (l : List IndexEntry). a ++ l) two.index);
      hashed =
          subst (λ (l : List NamedEntry). IsPermutation l (flat_map (if_kind DIR_ITEM hashed_of) (xs ++ ys))) (sym (map-append entry_part a b))
          (subst (IsPermutation (map entry_part a ++ map entry_part b)) (sym (flat_append (if_kind DIR_ITEM hashed_of) xs ys)) (IsPermutation-append (map entry_part a) hx (map entry_part b) hy one.hashed two.hashed));
      refs =
          subst (IsPermutation (m ++ n)) (sym (ap₂ (λ (r f : List BackName). r ++ f) (flat_append (if_kind INODE_REF ref_of) xs ys) (flat_append (if_kind INODE_EXTREF far_of) xs ys)))
          (IsPermutation-trans (m ++ n) ((rx ++ fx) ++ (ry ++ fy)) ((rx ++ ry) ++ (fx ++ fy)) (IsPermutation-append m (rx ++ fx) n (ry ++ fy) one.refs two.refs) (middle_swap rx fx ry fy));
      forms = all_append IsOnForm xs ys one.forms two.forms;
    }

pub tells_flat : {K : Type 0} (f : K → List Item) (g : K → List IndexEntry) (h : K → List BackName) (ks : List K) → ((k : K) → Contains ks k → Tells (f k) (g k) (h k)) → Tells (flat_map f ks) (flat_map g ks) (flat_map h ks)
tells_flat f g h [] each = tells_none
tells_flat f g h (k ∷ ks) each = tells_append (f k) (flat_map f ks) (g k) (flat_map g ks) (h k) (flat_map h ks) (each k (at_head k ks)) (tells_flat f g h ks (λ l i. each l (in_tail k ks l i)))

-- ---- the names of a tree

module _ (t : TreeOn) (indexes : List IndexEntry) (names : List BackName) (tells : Tells t.items indexes names) where
  pub entries_are : index_entries t ≡ indexes
  entries_are = flat_kept (λ (i : Item). i.0.kind == DIR_INDEX) indexed_of t.items ∙ tells.index

  hashed_are : hashed_entries t ≡ flat_map (if_kind DIR_ITEM hashed_of) t.items
  hashed_are = flat_kept (λ (i : Item). i.0.kind == DIR_ITEM) hashed_of t.items

  refs_are : ref_names t ≡ flat_map (if_kind INODE_REF ref_of) t.items ++ flat_map (if_kind INODE_EXTREF far_of) t.items
  refs_are = ap₂ (λ (a b : List BackName). a ++ b) (flat_kept (λ (i : Item). i.0.kind == INODE_REF) ref_of t.items) (flat_kept (λ (i : Item). i.0.kind == INODE_EXTREF) far_of t.items)

  refs_told : IsPermutation names (ref_names t)
  refs_told = subst (IsPermutation names) (sym refs_are) tells.refs

  forms : All IsOnForm t.items
  forms = All-from_recursion IsOnForm t.items tells.forms

  -- the letters of a directory
  pub size_is : (ino : ℕ) → directory_size t ino ≡ 2 * sum_by (λ e. length e.entry.name) (filter (λ e. e.entry.dir == ino) indexes)
  size_is ino = ap (λ (l : List IndexEntry). 2 * sum_by (λ e. length e.entry.name) (filter (λ e. e.entry.dir == ino) l)) entries_are

  -- the names of an inode
  pub count_is : (ino : ℕ) → ref_name_count t ino ≡ count_by (λ n. n.inode == ino) names
  count_is ino = sum_by-IsPermutation (λ (n : BackName). cond (n.inode == ino) 1 0) names (ref_names t) refs_told

  pub have_names : (roots : List Item) → IsPermutation (own_name ∷ map back_name (filter names_inode_item indexes)) names
      → ((e : IndexEntry) → Contains indexes e → names_inode_item e ≡ false → IsTreeEntry roots t.number e)
      → ((e : IndexEntry) → Contains indexes e → IsThere t e.entry.dir × (names_inode_item e ≡ true → IsThere t e.entry.location.objectid))
      → ((ino : ℕ) (body : List ℕ) (inode : Inode) → Contains t.items (record { objectid = ino; kind = INODE_ITEM; offset = 0 }, body) → inode_of body ≡ Some inode → IsInode t ino inode) → AreTreeNames roots t
  have_names roots same trees there inodes = record {
    forms = forms;
    entries = subst (λ (l : List IndexEntry). IsPermutation (map entry_part l) (hashed_entries t)) (sym entries_are) (subst (IsPermutation (map entry_part indexes)) (sym hashed_are) tells.hashed);
    names = subst (λ (l : List IndexEntry). IsPermutation (own_name ∷ map back_name (filter names_inode_item l)) (ref_names t)) (sym entries_are)
        (IsPermutation-trans (own_name ∷ map back_name (filter names_inode_item indexes)) names (ref_names t) same refs_told);
    trees = subst (All (λ e. names_inode_item e ≡ false → IsTreeEntry roots t.number e)) (sym entries_are) (all_from_contains (λ e. names_inode_item e ≡ false → IsTreeEntry roots t.number e) indexes trees);
    there = subst (All (λ e. IsThere t e.entry.dir × (names_inode_item e ≡ true → IsThere t e.entry.location.objectid))) (sym entries_are)
        (all_from_contains (λ e. IsThere t e.entry.dir × (names_inode_item e ≡ true → IsThere t e.entry.location.objectid)) indexes there);
    inodes = inodes;
  }

-- ---- one of some parts

module _ {K : Type 0} (number : K → ℕ) where
  above : (k : K) (ks : List K) → AllByRecursion (λ l. number k < number l) ks → (l : K) → Contains ks l → number k < number l
  above k ks all l h = all_in (λ (m : K). number k < number m) ks l all h

  -- where the others give nothing, the list is what one part gives
  pub flat_one : {Y : Type 0} (f : K → List Y) (ks : List K) (key : K) → Climb number ks → Contains ks key → ((k : K) → Contains ks k → number k ≢ number key → f k ≡ []) → flat_map f ks ≡ f key
  flat_one f [] key up h none = absurd (omega (arith, h.1))
  flat_one {Y} f (k ∷ ks) key up h none =
      ⊎_elim
      (λ (same : k ≡ key).
      ap (λ (l : List Y). f k ++ l) (rest ks up.0 (λ l i. none l (in_tail k ks l i)) same) ∙ (append-nil (f k) ∙ ap f same))
      (λ (later : Contains ks key).
      ap (λ (l : List Y). l ++ flat_map f ks) (none k (at_head k ks) (λ e. let less = above k ks up.0 key later in omega (arith, less, e)))
      ∙ flat_one f ks key up.1 later (λ l i. none l (in_tail k ks l i)))
      (head_or_tail k ks key h)
    where
      rest : (ls : List K) → AllByRecursion (λ l. number k < number l) ls → ((l : K) → Contains ls l → number l ≢ number key → f l ≡ []) → k ≡ key → flat_map f ls ≡ []
      rest [] all empty same = refl
      rest (l ∷ ls) all empty same =
          ap (λ (x : List Y). x ++ flat_map f ls) (empty l (at_head l ls) (λ e. let less = all.0 in let at = ap number same in omega (arith, less, e, at)))
          ∙ rest ls all.1 (λ m i. empty m (in_tail l ls m i)) same
