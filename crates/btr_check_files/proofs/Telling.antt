-- What the items of a tree tell of names, and what a table noted of it.
use Rattle.btr_check_files.proofs.Imports.{◌≡◌, ◌≢◌, ◌⊎◌, inl, inr, ℕ, ◌==◌, Bool, true, false, List, [], ◌∷◌, ◌++◌, map, if◌then◌else◌, length, Option, None, Some, refl, sym, ap, ap₂, ◌∙◌, subst, arith, eq-eqb, ne_eqb, append-nil, flat_map-append, IsPermutation-refl, MatchOption, IsPermutation, dir_items_of, extrefs_of, inode_refs_of, Item, TreeItem, bare_item, DIR_ITEM, INODE_EXTREF, INODE_REF, BackName, IndexEntry, NamedEntry, entries_in, names_of, or_none, Files, part_number, entry_by, chosen, AreNames, NamesMet, back_names, given, hashed_of, named, told_of, unmet, HasNoted, HasOtherEntries, HasOtherNames, NotesBoth, NotesEntries, NotesNames, TellOther, TellSame, TellsOther, extref_name, hashed_by, hashed_in, ref_name, told_by, told_in}
use Rattle.std.proofs.Math.ListN.{replicate}

-- ---- items by their kinds

abbrev entries_told : Item → List NamedEntry
entries_told i = map (entry_by i.0.objectid) (or_none (dir_items_of i.1))

abbrev refs_told : Item → List BackName
refs_told i = map (ref_name i.0.objectid i.0.offset) (or_none (inode_refs_of i.1))

abbrev extrefs_told : Item → List BackName
extrefs_told i = map (extref_name i.0.objectid) (or_none (extrefs_of i.1))

hashed_at : (i : Item) (b : Bool) → (i.0.kind == DIR_ITEM) ≡ b → hashed_by i ≡ (if b then entries_told i else [])
hashed_at i b is = ap (λ (z : Bool). if z then entries_told i else []) is

told_at : (i : Item) (b c : Bool) → (i.0.kind == INODE_REF) ≡ b → (i.0.kind == INODE_EXTREF) ≡ c → told_by i ≡ (if b then refs_told i else (if c then extrefs_told i else []))
told_at i b c first second = ap₂ (λ (y z : Bool). if y then refs_told i else (if z then extrefs_told i else [])) first second

module _ (entries : List IndexEntry) (old new : NamesMet) (hashed : List NamedEntry) (told : List BackName) (i : Item) where
  -- what was noted of an item that tells this and that
  both_noted : (more : List NamedEntry) (names : List BackName) → hashed_by i ≡ more → told_by i ≡ names → (r : Bool)
      → (r ≡ true → IsPermutation (hashed_of new) (hashed ++ more) × IsPermutation (told_of new) (told ++ names))
      → (r ≡ false → HasOtherEntries entries (hashed ++ more) i.0.objectid ⊎ HasOtherNames entries (told ++ names) i.0.objectid)
      → NotesBoth entries new (hashed ++ hashed_by i) (told ++ told_by i) i.0.objectid r
  both_noted more names first second r good bad =
      subst (λ (z : List NamedEntry). NotesBoth entries new (hashed ++ z) (told ++ told_by i) i.0.objectid r) (sym first)
      (subst (λ (z : List BackName). NotesBoth entries new (hashed ++ more) (told ++ z) i.0.objectid r) (sym second) (by r good bad))
    where
      by : (r : Bool) → (r ≡ true → IsPermutation (hashed_of new) (hashed ++ more) × IsPermutation (told_of new) (told ++ names))
          → (r ≡ false → HasOtherEntries entries (hashed ++ more) i.0.objectid ⊎ HasOtherNames entries (told ++ names) i.0.objectid)
          → NotesBoth entries new (hashed ++ more) (told ++ names) i.0.objectid r
      by true good bad = good refl
      by false good bad = bad refl

  entries_good : (more : List NamedEntry) (r : Bool) → NotesEntries entries new more i.0.objectid r → r ≡ true → IsPermutation (hashed_of new) more
  entries_good more true noted so = noted
  entries_good more false noted so = absurd cc

  entries_bad : (more : List NamedEntry) (r : Bool) → NotesEntries entries new more i.0.objectid r → r ≡ false → HasOtherEntries entries more i.0.objectid
  entries_bad more true noted so = absurd cc
  entries_bad more false noted so = noted

  names_good : (more : List BackName) (r : Bool) → NotesNames entries new more i.0.objectid r → r ≡ true → IsPermutation (told_of new) more
  names_good more true noted so = noted
  names_good more false noted so = absurd cc

  names_bad : (more : List BackName) (r : Bool) → NotesNames entries new more i.0.objectid r → r ≡ false → HasOtherNames entries more i.0.objectid
  names_bad more true noted so = absurd cc
  names_bad more false noted so = noted

  same_told : told_of new ≡ told_of old → IsPermutation (told_of old) told → IsPermutation (told_of new) (told ++ [])
  same_told same before = subst (IsPermutation (told_of new)) (sym (append-nil told)) (subst (λ (z : List BackName). IsPermutation z told) (sym same) before)

  same_hashed : hashed_of new ≡ hashed_of old → IsPermutation (hashed_of old) hashed → IsPermutation (hashed_of new) (hashed ++ [])
  same_hashed same before = subst (IsPermutation (hashed_of new)) (sym (append-nil hashed)) (subst (λ (z : List NamedEntry). IsPermutation z hashed) (sym same) before)

  -- a dir item
  pub item_entries : i.0.kind ≡ DIR_ITEM → (r : Bool) → told_of new ≡ told_of old → IsPermutation (told_of old) told → NotesEntries entries new (hashed ++ entries_told i) i.0.objectid r
      → NotesBoth entries new (hashed ++ hashed_by i) (told ++ told_by i) i.0.objectid r
  item_entries is r same before noted =
      both_noted (entries_told i) [] (hashed_at i true (eq-eqb i.0.kind DIR_ITEM is))
      (told_at i false false (ne_eqb i.0.kind INODE_REF (λ other. omega arith)) (ne_eqb i.0.kind INODE_EXTREF (λ other. omega arith))) r
      (λ so. (entries_good (hashed ++ entries_told i) r noted so, same_told same before))
      (λ not_so. inl (entries_bad (hashed ++ entries_told i) r noted not_so))

  -- a reference
  pub item_refs : i.0.kind ≡ INODE_REF → (r : Bool) → hashed_of new ≡ hashed_of old → IsPermutation (hashed_of old) hashed → NotesNames entries new (told ++ refs_told i) i.0.objectid r
      → NotesBoth entries new (hashed ++ hashed_by i) (told ++ told_by i) i.0.objectid r
  item_refs is r same before noted =
      both_noted [] (refs_told i) (hashed_at i false (ne_eqb i.0.kind DIR_ITEM (λ other. omega arith)))
      (told_at i true false (eq-eqb i.0.kind INODE_REF is) (ne_eqb i.0.kind INODE_EXTREF (λ other. omega arith))) r
      (λ so. (same_hashed same before, names_good (told ++ refs_told i) r noted so))
      (λ not_so. inr (names_bad (told ++ refs_told i) r noted not_so))

  pub item_extrefs : i.0.kind ≡ INODE_EXTREF → (r : Bool) → hashed_of new ≡ hashed_of old → IsPermutation (hashed_of old) hashed → NotesNames entries new (told ++ extrefs_told i) i.0.objectid r
      → NotesBoth entries new (hashed ++ hashed_by i) (told ++ told_by i) i.0.objectid r
  item_extrefs is r same before noted =
      both_noted [] (extrefs_told i) (hashed_at i false (ne_eqb i.0.kind DIR_ITEM (λ other. omega arith)))
      (told_at i false true (ne_eqb i.0.kind INODE_REF (λ other. omega arith)) (eq-eqb i.0.kind INODE_EXTREF is)) r
      (λ so. (same_hashed same before, names_good (told ++ extrefs_told i) r noted so))
      (λ not_so. inr (names_bad (told ++ extrefs_told i) r noted not_so))

  -- an item of another kind
  pub item_other : i.0.kind ≢ DIR_ITEM → i.0.kind ≢ INODE_REF → i.0.kind ≢ INODE_EXTREF → IsPermutation (hashed_of new) hashed → IsPermutation (told_of new) told
      → NotesBoth entries new (hashed ++ hashed_by i) (told ++ told_by i) i.0.objectid true
  item_other no_item no_ref no_extref before told_before =
      both_noted [] [] (hashed_at i false (ne_eqb i.0.kind DIR_ITEM no_item)) (told_at i false false (ne_eqb i.0.kind INODE_REF no_ref) (ne_eqb i.0.kind INODE_EXTREF no_extref)) true
      (λ so. (subst (IsPermutation (hashed_of new)) (sym (append-nil hashed)) before, subst (IsPermutation (told_of new)) (sym (append-nil told)) told_before))
      (λ not_so. absurd cc)

-- ---- all items up to one

hashed_more : (items : List TreeItem) (x : TreeItem) → hashed_in items ++ hashed_by (bare_item x) ≡ hashed_in (items ++ x ∷ [])
hashed_more items x =
    ap (λ (z : List NamedEntry). hashed_in items ++ z) (sym (append-nil (hashed_by (bare_item x)))) ∙ sym (flat_map-append (λ (i : TreeItem). hashed_by (bare_item i)) items (x ∷ []))

told_more : (items : List TreeItem) (x : TreeItem) → told_in items ++ told_by (bare_item x) ≡ told_in (items ++ x ∷ [])
told_more items x =
    ap (λ (z : List BackName). told_in items ++ z) (sym (append-nil (told_by (bare_item x)))) ∙ sym (flat_map-append (λ (i : TreeItem). told_by (bare_item i)) items (x ∷ []))

module _ (begun old new : NamesMet) (items : List TreeItem) (x : TreeItem) (has : HasNoted begun old items) where
  both_more : (r : Bool) → NotesBoth old.entries new (hashed_in items ++ hashed_by (bare_item x)) (told_in items ++ told_by (bare_item x)) x.key.objectid r
      → NotesBoth begun.entries new (hashed_in (items ++ x ∷ [])) (told_in (items ++ x ∷ [])) x.key.objectid r
  both_more r noted =
      subst (λ (z : List NamedEntry). NotesBoth begun.entries new z (told_in (items ++ x ∷ [])) x.key.objectid r) (hashed_more items x)
      (subst (λ (z : List BackName). NotesBoth begun.entries new (hashed_in items ++ hashed_by (bare_item x)) z x.key.objectid r) (told_more items x)
      (subst (λ (z : List IndexEntry). NotesBoth z new (hashed_in items ++ hashed_by (bare_item x)) (told_in items ++ told_by (bare_item x)) x.key.objectid r) has.entries noted))

  pub item_noted : new.entries ≡ old.entries → (r : Bool) → NotesBoth old.entries new (hashed_in items ++ hashed_by (bare_item x)) (told_in items ++ told_by (bare_item x)) x.key.objectid r
      → r ≡ true → HasNoted begun new (items ++ x ∷ [])
  item_noted same r noted so =
      let both : NotesBoth begun.entries new (hashed_in (items ++ x ∷ [])) (told_in (items ++ x ∷ [])) x.key.objectid true =
      subst (λ (b : Bool). NotesBoth begun.entries new (hashed_in (items ++ x ∷ [])) (told_in (items ++ x ∷ [])) x.key.objectid b) so (both_more r noted) in
      record { names = has.names; entries = same ∙ has.entries; hashed = both.0; told = both.1 }

  pub item_refused : (r : Bool) → NotesBoth old.entries new (hashed_in items ++ hashed_by (bare_item x)) (told_in items ++ told_by (bare_item x)) x.key.objectid r
      → r ≡ false → TellsOther begun.entries (items ++ x ∷ []) (part_number Files) x.key.objectid
  item_refused r noted not_so =
      (refl, subst (λ (b : Bool). NotesBoth begun.entries new (hashed_in (items ++ x ∷ [])) (told_in (items ++ x ∷ [])) x.key.objectid b) not_so (both_more r noted))

-- ---- all items

module _ (begun now : NamesMet) (items : List TreeItem) (has : HasNoted begun now items) where
  pub without_entry : (dir : ℕ) → ¬ IsPermutation (entries_in dir (named now.entries)) (entries_in dir (hashed_in items)) → TellOther begun.entries items (part_number Files) dir
  without_entry dir other =
      (refl, inl (subst (λ (z : List IndexEntry). ¬ IsPermutation (entries_in dir (named z)) (entries_in dir (hashed_in items))) has.entries other))

  pub all_noted : IsPermutation (named now.entries) (hashed_in items) → (o : Option ℕ)
      → MatchOption o (IsPermutation (given now.entries) (told_in items)) (λ ino. ¬ IsPermutation (names_of ino (given now.entries)) (names_of ino (told_in items)))
      → MatchOption o (TellSame begun.entries items) (TellOther begun.entries items (part_number Files))
  all_noted same None told = record {
    hashed = subst (λ (z : List IndexEntry). IsPermutation (named z) (hashed_in items)) has.entries same;
    told = subst (λ (z : List IndexEntry). IsPermutation (given z) (told_in items)) has.entries told;
  }
  all_noted same (Some ino) other =
      (refl, inr (subst (λ (z : List IndexEntry). ¬ IsPermutation (names_of ino (given z)) (names_of ino (told_in items))) has.entries other))

-- ---- nothing was noted yet

chosen_none : {A : Type 0} (xs : List A) → chosen (replicate (length xs) false) xs ≡ []
chosen_none [] = refl
chosen_none (x ∷ xs) = chosen_none xs

pub none_noted : (list : List IndexEntry) → AreNames list → HasNoted (unmet list) (unmet list) []
none_noted list names = record {
  names = names;
  entries = refl;
  hashed = subst (λ (z : List IndexEntry). IsPermutation (named z) []) (sym (chosen_none list)) (IsPermutation-refl []);
  told = subst (λ (z : List IndexEntry). IsPermutation (back_names z) []) (sym (chosen_none list)) (IsPermutation-refl []);
}
