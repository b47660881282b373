-- What a pass over the names of a tree decides of part 2.
use Rattle.btr_check_files.proofs.Imports.{◌≡◌, inl, inr, ⊎_elim, ℕ, ◌==◌, true, false, List, ◌++◌, map, sym, ap, ◌∙◌, subst, arith, ne_eqb, Contains, eqb-true, flat_map-append, All-contains, IsPermutation-sym, IsPermutation-trans, flat_map, IsPermutation, dir_items_of, extrefs_of, inode_refs_of, Item, TreeItem, bare_item, DIR_ITEM, INODE_EXTREF, INODE_REF, BackName, IndexEntry, KeepsNames, NamedEntry, entries_in, entry_of, given_names, hashed_entries, index_entries, names_of, or_none, ref_names, Recount, TreeOn, file_trees, recount, Files, KeepsFiles, part_number, given, named, HasOtherEntries, HasOtherNames, TellOther, TellSame, TellsOther, extref_name, hashed_by, hashed_in, ref_name, told_by, told_in}
use Rattle.std.proofs.lemmas.List.Folds.{flat_map-map}
use Rattle.btr_check_rules.specs.btr_reader.outside.History.{Image}
use Rattle.btr_check_names.proofs.Permuting.{filter_permutation}
use Rattle.btr_check_walk.specs.Answers.{FailsIn}
use Rattle.btr_check_walk.specs.Walks.{IsRefused}
use Rattle.btr_check_files.proofs.Gathered.{gathered, parted}

-- the entries of the items of a tree, and the names
module _ (t : TreeOn) (items : List TreeItem) (same : t.items ≡ map bare_item items) where
  hashed_are : hashed_in items ≡ hashed_entries t
  hashed_are =
      sym (flat_map-map hashed_by bare_item items)
      ∙ (ap (flat_map hashed_by) (sym same)
      ∙ gathered (λ (i : Item). i.0.kind == DIR_ITEM) (λ (i : Item). map (entry_of i) (or_none (dir_items_of i.1))) t.items)

  apart : (i : Item) → (i.0.kind == INODE_REF) ≡ true → (i.0.kind == INODE_EXTREF) ≡ false
  apart i first = let is : i.0.kind ≡ INODE_REF = eqb-true _ _ first in ne_eqb i.0.kind INODE_EXTREF (λ other. omega arith)

  told_are : IsPermutation (told_in items) (ref_names t)
  told_are =
      subst (λ (z : List BackName). IsPermutation z (ref_names t)) (sym (sym (flat_map-map told_by bare_item items) ∙ ap (flat_map told_by) (sym same)))
      (parted (λ (i : Item). i.0.kind == INODE_REF) (λ (i : Item). i.0.kind == INODE_EXTREF) (λ (i : Item). map (ref_name i.0.objectid i.0.offset) (or_none (inode_refs_of i.1)))
      (λ (i : Item). map (extref_name i.0.objectid) (or_none (extrefs_of i.1))) apart t.items)

  -- where both tell the same, they do so of each directory and each inode
  pub entries_kept : TellSame (index_entries t) items → (a : ℕ) → IsPermutation (entries_in a (map (λ (e : IndexEntry). e.entry) (index_entries t))) (entries_in a (hashed_entries t))
  entries_kept tell a =
      filter_permutation (λ (e : NamedEntry). e.dir == a) (named (index_entries t)) (hashed_entries t) (subst (IsPermutation (named (index_entries t))) hashed_are tell.hashed)

  pub names_kept : TellSame (index_entries t) items → (a : ℕ) → IsPermutation (names_of a (given_names t)) (names_of a (ref_names t))
  names_kept tell a =
      filter_permutation (λ (n : BackName). n.inode == a) (given (index_entries t)) (ref_names t) (IsPermutation-trans _ _ _ tell.told told_are)

  -- where they do not, the part fails there
  pub names_fail : (r : Recount) (part ino : ℕ) → TellOther (index_entries t) items part ino → (part ≡ part_number Files) × ¬ KeepsNames r t ino
  names_fail r part ino other = (
    other.0,
    λ keeps. ⊎_elim
        (λ (entries : ¬ IsPermutation (entries_in ino (named (index_entries t))) (entries_in ino (hashed_in items))). entries (subst (λ (z : List NamedEntry). IsPermutation (entries_in ino (named (index_entries t))) (entries_in ino z)) (sym hashed_are) keeps.entries))
        (λ (names : ¬ IsPermutation (names_of ino (given (index_entries t))) (names_of ino (told_in items))). names (IsPermutation-trans _ _ _ keeps.names (filter_permutation (λ (n : BackName). n.inode == ino) (ref_names t) (told_in items) (IsPermutation-sym _ _ told_are))))
        other.1,
  )

  -- the same where a walk met what can't be any more
  pub names_refused : (r : Recount) (part ino : ℕ) → IsRefused (TellsOther (index_entries t)) items part ino → (part ≡ part_number Files) × ¬ KeepsNames r t ino
  names_refused r part ino refused =
      let first : List TreeItem = refused.0 in
      let later : List TreeItem = refused.1 in
      let whole : items ≡ first ++ later = refused.2 in
      let told = refused.4 in
      names_fail r part ino (
        told.0,
        ⊎_elim
            (λ (other : HasOtherEntries (index_entries t) (hashed_in first) ino). inl (λ perm. other (hashed_in later)
            (subst (λ (z : List NamedEntry). IsPermutation (entries_in ino (named (index_entries t))) (entries_in ino z))
            (ap hashed_in whole ∙ flat_map-append (λ (i : TreeItem). hashed_by (bare_item i)) first later) perm)))
            (λ (other : HasOtherNames (index_entries t) (told_in first) ino). inr (λ perm. other (told_in later)
            (subst (λ (z : List BackName). IsPermutation (names_of ino (given (index_entries t))) (names_of ino z))
            (ap told_in whole ∙ flat_map-append (λ (i : TreeItem). told_by (bare_item i)) first later) perm)))
            told.1,
      )

-- Part 2 of a volume fails where a file tree of it fails.
pub files_fail : (image : Image) (t : TreeOn) (part ino : ℕ) → Contains (file_trees (recount image)) t → part ≡ part_number Files → ¬ KeepsFiles (recount image) t ino → FailsIn image part ino
files_fail image t part ino has is fails =
    (Files, sym is, λ all. fails (All-contains (λ (u : TreeOn). KeepsFiles (recount image) u ino) (file_trees (recount image)) t all has))
