-- One more item of a tree of files.
use Rattle.btr_check_sums.proofs.Imports.{ap₂, ◌≡◌, ◌≢◌, ◌≤◌, ◌⊎◌, ◌==◌, ℕ, Bool, true, false, not, ◌&&◌, ◌||◌, List, [], ◌∷◌, ◌++◌, Option, None, Some, if◌then◌else◌, inl, inr, refl, sym, ap, subst, ◌∙◌, ⊎_elim, arith, eqb-true, nat_tests, All-contains, Contains-append_left, Contains-push, Contains-push_cases, All, Contains, is_among, has_no_sums, Inode, Key, Item, EXTENT_DATA, INODE_ITEM, Grows, HasInodeIn, HasUse, HoldsUses, IsOwnerOf, IsUseOf, MeetsData, TellsSums, data_by, data_in, owner_by, sums_by, is_bare, is_data, is_laid, is_laid_in, is_wanted, is_written_at}
use Rattle.btr_check_rules.specs.btr_reader.btr_keys.FileExtent.{ContentValue, FileExtentValue, Inline, Prealloc, Regular, file_extent_of}
use Rattle.btr_check_rules.specs.btr_reader.btr_keys.Inode.{inode_of}
use Rattle.btr_check_rules.specs.btr_reader.btr_reader_contents.Extents.{is_hole}
use Rattle.btr_check_sums.specs.declared.tree_uses.Owner.{Owner}
use Rattle.btr_check_sums.specs.declared.tree_uses.TreeUses.{TreeUses}
use Rattle.btr_check_sums.specs.declared.use_of_data.DataOf.{DataOf}
use Rattle.btr_check_sums.specs.declared.use_of_data.Uses.{Uses}
use Rattle.btr_check_sums.proofs.KeyOrder.{Precedes}

some_same : {A : Type 0} {a b : A} → Some a ≡ Some b → a ≡ b
some_same e = cc

none_some : {A : Type 0} {a : A} → None ≡ Some a → ⊥
none_some e = absurd (cc e)

other_numbers : (a b : ℕ) → (a == b) ≡ false → a ≡ b → ⊥
other_numbers a b test same = grind (arith, nat_tests)

abbrev pub inode_key : ℕ → Key
inode_key ino = record { objectid = ino; kind = INODE_ITEM; offset = 0 }

abbrev key_of : ℕ → ℕ → ℕ → Key
key_of objectid kind offset = record { objectid = objectid; kind = kind; offset = offset }

pub is_inode_key : (k : Key) → k.kind ≡ INODE_ITEM → k.offset ≡ 0 → k ≡ inode_key k.objectid
is_inode_key k kind offset = ap₂ (λ (x y : ℕ). key_of k.objectid x y) kind offset

-- what a file extent has on the disk keeps whether its inode has checksums
placed_sums : (b : Bool) (made x : DataOf) → (if b then None else Some made) ≡ Some x → made ≡ x
placed_sums true made x is = absurd (cc is)
placed_sums false made x is = cc

in_sums : (compression : ℕ) (content : ContentValue) (is_read : Bool) (s : Option Bool) (x : DataOf) → data_in compression content is_read s ≡ Some x → x.sums ≡ s
in_sums compression (Inline bytes) is_read s x is = absurd (cc is)
in_sums compression (Regular range) is_read s x is = sym (ap (λ (y : DataOf). y.sums) (placed_sums (is_hole range) _ x is))
in_sums compression (Prealloc range) is_read s x is = sym (ap (λ (y : DataOf). y.sums) (placed_sums (is_hole range) _ x is))

data_sums : (e : Option FileExtentValue) (is_read : Bool) (s : Option Bool) (x : DataOf) → data_by e is_read s ≡ Some x → x.sums ≡ s
data_sums None is_read s x is = absurd (cc is)
data_sums (Some e) is_read s x is = in_sums e.compression e.content is_read s x is

or_turned : (a b : Bool) → (a || b) ≡ (b || a)
or_turned true true = refl
or_turned true false = refl
or_turned false true = refl
or_turned false false = refl

module _ (xs : List Item) (i : Item) (before : All (λ j. Precedes j.0 i.0) xs) where
  abbrev more : List Item
  more = xs ++ i ∷ []

  -- ---- inodes

  -- the last item is that of the inode
  abbrev pub IsInodeItem : ℕ → Inode → Type 0
  IsInodeItem ino inode = (body : List ℕ) × (i ≡ (inode_key ino, body)) × (inode_of body ≡ Some inode)

  inode_kept : (ino : ℕ) (inode : Inode) → HasInodeIn xs ino inode → HasInodeIn more ino inode
  inode_kept ino inode has = record { body = has.body; there = Contains-append_left xs (i ∷ []) (inode_key ino, has.body) has.there; reads = has.reads }

  inode_cases : (ino : ℕ) (inode : Inode) → HasInodeIn more ino inode → HasInodeIn xs ino inode ⊎ IsInodeItem ino inode
  inode_cases ino inode has =
      ⊎_elim
      (λ (old : Contains xs (inode_key ino, has.body)). inl (record { body = has.body; there = old; reads = has.reads }))
      (λ (is : i ≡ (inode_key ino, has.body)). inr (has.body, is, has.reads))
      (Contains-push_cases xs i (inode_key ino, has.body) has.there)

  -- where no inode of this number comes, all that is told of it stays
  sums_kept : (ino : ℕ) → ((inode : Inode) → ¬ IsInodeItem ino inode) → (s : Option Bool) → TellsSums xs ino s → TellsSums more ino s
  sums_kept ino never None none = λ inode has. ⊎_elim (λ (old : HasInodeIn xs ino inode). none inode old) (λ (new : IsInodeItem ino inode). never inode new) (inode_cases ino inode has)
  sums_kept ino never (Some b) told = (told.0, inode_kept ino told.0 told.1, told.2)

  sums_back : (ino : ℕ) → ((inode : Inode) → ¬ IsInodeItem ino inode) → (s : Option Bool) → TellsSums more ino s → TellsSums xs ino s
  sums_back ino never None none = λ inode has. none inode (inode_kept ino inode has)
  sums_back ino never (Some b) told = (
    told.0,
    ⊎_elim (λ (old : HasInodeIn xs ino told.0). old) (λ (new : IsInodeItem ino told.0). absurd (never told.0 new)) (inode_cases ino told.0 told.1),
    told.2,
  )

  -- no inode item comes behind a file extent of the inode
  behind_extent : (j : Item) → Contains xs j → j.0.kind ≡ EXTENT_DATA → (inode : Inode) → ¬ IsInodeItem j.0.objectid inode
  behind_extent j has kind inode new =
      let precedes : Precedes j.0 (inode_key j.0.objectid) = subst (λ (x : Item). Precedes j.0 x.0) new.1 (All-contains (λ (x : Item). Precedes x.0 i.0) xs j before has) in
      let low = precedes.kind refl in
      omega (arith, low, kind)

  no_inode : i.0.kind ≡ EXTENT_DATA → (ino : ℕ) (inode : Inode) → ¬ IsInodeItem ino inode
  no_inode kind ino inode new = let same = ap (λ (x : Item). x.0.kind) new.1 in omega (arith, kind, same)

  -- ---- uses

  use_kept : (is_read : Bool) (x : DataOf) → IsUseOf is_read xs x → IsUseOf is_read more x
  use_kept is_read x was = record {
    item = was.item;
    there = Contains-append_left xs (i ∷ []) was.item was.there;
    kind = was.kind;
    x_is = was.x_is;
    sums = sums_kept was.item.0.objectid (behind_extent was.item was.there was.kind) x.sums was.sums;
  }

  -- the last item is a file extent with this place on the disk
  pub record IsNew (is_read : Bool) (x : DataOf) : Type 0 where
    pub kind : i.0.kind ≡ EXTENT_DATA
    pub x_is : data_by (file_extent_of i.1) is_read x.sums ≡ Some x
    pub sums : TellsSums more i.0.objectid x.sums

  use_cases : (is_read : Bool) (x : DataOf) → IsUseOf is_read more x → IsUseOf is_read xs x ⊎ IsNew is_read x
  use_cases is_read x was =
      ⊎_elim
      (λ (old : Contains xs was.item). inl (record {
        item = was.item;
        there = old;
        kind = was.kind;
        x_is = was.x_is;
        sums = sums_back was.item.0.objectid (behind_extent was.item old was.kind) x.sums was.sums;
      }))
      (λ (is : i ≡ was.item). inr (record {
        kind = subst (λ (j : Item). j.0.kind ≡ EXTENT_DATA) (sym is) was.kind;
        x_is = subst (λ (j : Item). data_by (file_extent_of j.1) is_read x.sums ≡ Some x) (sym is) was.x_is;
        sums = subst (λ (j : Item). TellsSums more j.0.objectid x.sums) (sym is) was.sums;
      }))
      (Contains-push_cases xs i was.item was.there)

  -- ---- the inode in hand

  -- the items of an inode that is known stand before the last item
  number_low : (ino : ℕ) (inode : Inode) → HasInodeIn xs ino inode → ino ≤ i.0.objectid
  number_low ino inode has = (All-contains (λ (x : Item). Precedes x.0 i.0) xs (inode_key ino, has.body) before has.there).object

  hand_true : (o : Owner) (ino : ℕ) → o.number ≡ ino → (if o.number == ino then Some o.sums else None) ≡ Some o.sums
  hand_true o ino same =
      let test : (o.number == ino) ≡ true = grind (arith, nat_tests) in
      ap (λ (b : Bool). if b then Some o.sums else None) test

  sums_told : (owner : Option Owner) → IsOwnerOf owner xs → TellsSums xs i.0.objectid (sums_by owner i.0.objectid)
  sums_told None of = λ inode has. let last = of.last i.0.objectid inode has in cc (last.1)
  sums_told (Some o) of = by (o.number == i.0.objectid) refl
    where
      by : (b : Bool) → (o.number == i.0.objectid) ≡ b → TellsSums xs i.0.objectid (if b then Some o.sums else None)
      by true is =
          let known = of.known o refl in
          let same : o.number ≡ i.0.objectid = eqb-true o.number i.0.objectid is in
          (known.0, subst (λ (n : ℕ). HasInodeIn xs n known.0) same known.1, of.only o refl known.0 known.1)
      by false is = λ inode has.
          let last = of.last i.0.objectid inode has in
          let own : o ≡ last.0 = cc (last.1) in
          let high : i.0.objectid ≤ o.number = subst (λ (p : Owner). i.0.objectid ≤ p.number) (sym own) last.2 in
          let known = of.known o refl in
          let low = number_low o.number known.0 known.1 in
          other_numbers o.number i.0.objectid is (omega (arith, high, low))

  same_sums : (owner : Option Owner) → IsOwnerOf owner xs → (s : Option Bool) → TellsSums xs i.0.objectid s → s ≡ sums_by owner i.0.objectid
  same_sums None of None none = refl
  same_sums None of (Some b) told = let last = of.last i.0.objectid told.0 told.1 in cc (last.1)
  same_sums (Some o) of None none = by (o.number == i.0.objectid) refl
    where
      by : (b : Bool) → (o.number == i.0.objectid) ≡ b → None ≡ (if b then Some o.sums else None)
      by true is =
          let known = of.known o refl in
          absurd (none known.0 (subst (λ (n : ℕ). HasInodeIn xs n known.0) (eqb-true o.number i.0.objectid is) known.1))
      by false is = refl
  same_sums (Some o) of (Some b) told =
      let last = of.last i.0.objectid told.0 told.1 in
      let own : o ≡ last.0 = cc (last.1) in
      let high : i.0.objectid ≤ o.number = subst (λ (p : Owner). i.0.objectid ≤ p.number) (sym own) last.2 in
      let known = of.known o refl in
      let low = number_low o.number known.0 known.1 in
      let same : o.number ≡ i.0.objectid = omega (arith, high, low) in
      let sums : o.sums ≡ not (has_no_sums told.0) = of.only o refl told.0 (subst (λ (n : ℕ). HasInodeIn xs n told.0) (sym same) told.1) in
      ap (λ (x : Bool). Some x) (told.2 ∙ sym sums) ∙ sym (hand_true o i.0.objectid same)

  -- it stays where no inode item comes
  owner_kept : (owner : Option Owner) → ((ino : ℕ) (inode : Inode) → ¬ IsInodeItem ino inode) → IsOwnerOf owner xs → IsOwnerOf owner more
  owner_kept owner never of = record {
    known = λ o is. let known = of.known o is in (known.0, inode_kept o.number known.0 known.1);
    only = λ o is inode has.
        ⊎_elim (λ (old : HasInodeIn xs o.number inode). of.only o is inode old) (λ (new : IsInodeItem o.number inode). absurd (never o.number inode new)) (inode_cases o.number inode has);
    last = λ ino inode has.
        ⊎_elim (λ (old : HasInodeIn xs ino inode). of.last ino inode old) (λ (new : IsInodeItem ino inode). absurd (never ino inode new)) (inode_cases ino inode has);
  }

  -- and else is the new one
  owner_new : (body : List ℕ) (inode : Inode) → i ≡ (inode_key i.0.objectid, body) → inode_of body ≡ Some inode
      → IsOwnerOf (Some (record { number = i.0.objectid; sums = not (has_no_sums inode) })) more
  owner_new body inode is reads = record {
    known = λ o same. (inode, subst (λ (p : Owner). HasInodeIn more p.number inode) (own o same) there);
    only = λ o same other has.
        subst (λ (p : Owner). p.sums ≡ not (has_no_sums other)) (own o same)
        (ap (λ (x : Inode). not (has_no_sums x)) (only_one other (subst (λ (p : Owner). HasInodeIn more p.number other) (sym (own o same)) has)));
    last = λ ino other has. (
      record { number = i.0.objectid; sums = not (has_no_sums inode) },
      refl,
      ⊎_elim (λ (old : HasInodeIn xs ino other). number_low ino other old) (λ (new : IsInodeItem ino other). let same = ap (λ (x : Item). x.0.objectid) new.1 in omega (arith, same)) (inode_cases ino other has),
    );
  }
    where
      own : (o : Owner) → Some (record { number = i.0.objectid; sums = not (has_no_sums inode) }) ≡ Some o → record { number = i.0.objectid; sums = not (has_no_sums inode) } ≡ o
      own o same = cc

      there : HasInodeIn more i.0.objectid inode
      there = record { body = body; there = subst (λ (x : Item). Contains more x) is (Contains-push xs i); reads = reads }

      only_one : (other : Inode) → HasInodeIn more i.0.objectid other → inode ≡ other
      only_one other has =
          ⊎_elim
          (λ (old : HasInodeIn xs i.0.objectid other).
          let precedes : Precedes (inode_key i.0.objectid) i.0 = All-contains (λ (x : Item). Precedes x.0 i.0) xs (inode_key i.0.objectid, old.body) before old.there in
          let kind : INODE_ITEM ≡ i.0.kind = sym (ap (λ (x : Item). x.0.kind) is) in
          let offset = ap (λ (x : Item). x.0.offset) is in
          let low = precedes.offset refl kind in
          absurd (omega (arith, low, offset)))
          (λ (new : IsInodeItem i.0.objectid other).
          let bodies : body ≡ new.0 = ap (λ (x : Item). x.1) (sym is ∙ new.1) in
          some_same (sym reads ∙ (ap inode_of bodies ∙ new.2)))
          (inode_cases i.0.objectid other has)

  -- ---- sets

  or_true : (a b : Bool) → (a || b) ≡ true → (a ≡ true) ⊎ (b ≡ true)
  or_true true b is = inl refl
  or_true false b is = inr is

  or_left : (a b : Bool) → a ≡ true → (a || b) ≡ true
  or_left true b is = refl
  or_left false b is = absurd (cc is)

  or_right : (a b : Bool) → b ≡ true → (a || b) ≡ true
  or_right true b is = refl
  or_right false b is = is

  grows_same : (begun now : ℕ → Bool) (passes : ℕ → DataOf → Bool) (is_read : Bool) → ((x : DataOf) → ¬ IsNew is_read x) → Grows begun now passes is_read xs → Grows begun now passes is_read more
  grows_same begun now passes is_read none grows n = (
    λ is. ⊎_elim (λ (old : begun n ≡ true). inl old) (λ (was : HasUse is_read xs (passes n)). inr (was.0, use_kept is_read was.0 was.1, was.2)) ((grows n).0 is),
    λ is.
        ⊎_elim (λ (old : begun n ≡ true). (grows n).1 (inl old))
        (λ (was : HasUse is_read more (passes n)).
        ⊎_elim (λ (old : IsUseOf is_read xs was.0). (grows n).1 (inr (was.0, old, was.2))) (λ (new : IsNew is_read was.0). absurd (none was.0 new)) (use_cases is_read was.0 was.1)) is,
  )

  grows_one : (begun now after : ℕ → Bool) (passes : ℕ → DataOf → Bool) (is_read : Bool) (x : DataOf) → IsUseOf is_read more x → ((y : DataOf) → IsNew is_read y → x ≡ y)
      → ((n : ℕ) → after n ≡ (passes n x || now n)) → Grows begun now passes is_read xs → Grows begun after passes is_read more
  grows_one begun now after passes is_read x was only is grows n = (
    λ has.
        ⊎_elim (λ (here : passes n x ≡ true). inr (x, was, here))
        (λ (there : now n ≡ true). ⊎_elim (λ (old : begun n ≡ true). inl old) (λ (o : HasUse is_read xs (passes n)). inr (o.0, use_kept is_read o.0 o.1, o.2)) ((grows n).0 there))
        (or_true (passes n x) (now n) (sym (is n) ∙ has)),
    λ has.
        is n
        ∙ ⊎_elim (λ (old : begun n ≡ true). or_right (passes n x) (now n) ((grows n).1 (inl old)))
        (λ (o : HasUse is_read more (passes n)).
        ⊎_elim (λ (old : IsUseOf is_read xs o.0). or_right (passes n x) (now n) ((grows n).1 (inr (o.0, old, o.2))))
        (λ (new : IsNew is_read o.0). or_left (passes n x) (now n) (subst (λ (y : DataOf). passes n y ≡ true) (sym (only o.0 new)) o.2)) (use_cases is_read o.0 o.1)) has,
  )

  -- ---- the item

  nothing_new : i.0.kind ≢ EXTENT_DATA → (is_read : Bool) (x : DataOf) → ¬ IsNew is_read x
  nothing_new other is_read x new = other new.kind

  without : (begun now after : TreeUses) → ((is_read : Bool) (x : DataOf) → ¬ IsNew is_read x) → after.is_read ≡ now.is_read → after.uses ≡ now.uses → IsOwnerOf after.owner more → HoldsUses begun now xs → HoldsUses begun after more
  without begun now after none read uses owner held = record {
    read_is = read ∙ held.read_is;
    owner = owner;
    data_is = subst (λ (u : Uses). Grows (is_among begun.uses.data) (is_among u.data) (λ n x. is_data x n) begun.is_read more) (sym uses)
        (grows_same (is_among begun.uses.data) (is_among now.uses.data) (λ n x. is_data x n) begun.is_read (none begun.is_read) held.data_is);
    wanted_is = subst (λ (u : Uses). Grows (is_among begun.uses.wanted) (is_among u.wanted) (λ n x. is_wanted x n) begun.is_read more) (sym uses)
        (grows_same (is_among begun.uses.wanted) (is_among now.uses.wanted) (λ n x. is_wanted x n) begun.is_read (none begun.is_read) held.wanted_is);
    bare_is = subst (λ (u : Uses). Grows (is_among begun.uses.bare) (is_among u.bare) (λ n x. is_bare x n) begun.is_read more) (sym uses)
        (grows_same (is_among begun.uses.bare) (is_among now.uses.bare) (λ n x. is_bare x n) begun.is_read (none begun.is_read) held.bare_is);
    written_is = subst (λ (u : Uses). Grows (is_among begun.uses.written) (is_among u.written) (λ s x. is_written_at x s) begun.is_read more) (sym uses)
        (grows_same (is_among begun.uses.written) (is_among now.uses.written) (λ s x. is_written_at x s) begun.is_read (none begun.is_read) held.written_is);
    laid_is = λ test.
        subst (λ (u : Uses). Grows (λ n. is_laid_in test begun.uses.laid.items n) (λ n. is_laid_in test u.laid.items n) (λ n x. test x.range.disk_bytenr && is_laid x n) begun.is_read more) (sym uses)
        (grows_same (λ n. is_laid_in test begun.uses.laid.items n) (λ n. is_laid_in test now.uses.laid.items n) (λ n x. test x.range.disk_bytenr && is_laid x n) begun.is_read (none begun.is_read) (held.laid_is test));
  }

  -- an item that is neither a file extent nor an inode item that can be read
  pub other_item : (begun now : TreeUses) → i.0.kind ≢ EXTENT_DATA → ((ino : ℕ) (inode : Inode) → ¬ IsInodeItem ino inode) → HoldsUses begun now xs → HoldsUses begun now more
  other_item begun now other never held = without begun now now (nothing_new other) refl refl (owner_kept now.owner never held.owner) held

  -- an inode item
  pub inode_item : (begun now after : TreeUses) → i.0 ≡ inode_key i.0.objectid → after.is_read ≡ now.is_read → after.uses ≡ now.uses
      → after.owner ≡ owner_by now.owner i.0.objectid (inode_of i.1) → HoldsUses begun now xs → HoldsUses begun after more
  inode_item begun now after key read uses owner held =
      without begun now after (nothing_new (λ kind. let same = ap (λ (k : Key). k.kind) key in omega (arith, kind, same))) read uses
      (subst (λ (o : Option Owner). IsOwnerOf o more) (sym owner) (by (inode_of i.1) refl)) held
    where
      whole : (body : List ℕ) → i.1 ≡ body → i ≡ (inode_key i.0.objectid, body)
      whole body is = ap (λ (k : Key). (k, i.1)) key ∙ ap (λ (b : List ℕ). (inode_key i.0.objectid, b)) is

      by : (o : Option Inode) → inode_of i.1 ≡ o → IsOwnerOf (owner_by now.owner i.0.objectid o) more
      by None is = owner_kept now.owner (λ ino inode new. let body = ap (λ (x : Item). x.1) new.1 in none_some (sym is ∙ (ap inode_of body ∙ new.2))) held.owner
      by (Some inode) is = owner_new i.1 inode (whole i.1 refl) is

  -- a file extent
  pub extent_item : (begun now after : TreeUses) → i.0.kind ≡ EXTENT_DATA → after.is_read ≡ now.is_read → after.owner ≡ now.owner
      → MeetsData (data_by (file_extent_of i.1) now.is_read (sums_by now.owner i.0.objectid)) now.uses after.uses → HoldsUses begun now xs → HoldsUses begun after more
  extent_item begun now after kind read owner meets held =
      by (data_by (file_extent_of i.1) begun.is_read (sums_by now.owner i.0.objectid)) refl
      (subst (λ (b : Bool). MeetsData (data_by (file_extent_of i.1) b (sums_by now.owner i.0.objectid)) now.uses after.uses) held.read_is meets)
    where
      owned : IsOwnerOf after.owner more
      owned = subst (λ (o : Option Owner). IsOwnerOf o more) (sym owner) (owner_kept now.owner (no_inode kind) held.owner)

      new_is : (x : DataOf) → IsNew begun.is_read x → data_by (file_extent_of i.1) begun.is_read (sums_by now.owner i.0.objectid) ≡ Some x
      new_is x new =
          let same : x.sums ≡ (sums_by now.owner i.0.objectid) = same_sums now.owner held.owner x.sums (sums_back i.0.objectid (no_inode kind i.0.objectid) x.sums new.sums) in
          subst (λ (s : Option Bool). data_by (file_extent_of i.1) begun.is_read s ≡ Some x) same new.x_is

      by : (d : Option DataOf) → data_by (file_extent_of i.1) begun.is_read (sums_by now.owner i.0.objectid) ≡ d → MeetsData d now.uses after.uses → HoldsUses begun after more
      by None is same =
          let none : (x : DataOf) → ¬ IsNew begun.is_read x = λ x new. none_some (sym is ∙ new_is x new) in
          record {
            read_is = read ∙ held.read_is;
            owner = owned;
            data_is = subst (λ (u : Uses). Grows (is_among begun.uses.data) (is_among u.data) (λ n x. is_data x n) begun.is_read more) (sym same)
                (grows_same (is_among begun.uses.data) (is_among now.uses.data) (λ n x. is_data x n) begun.is_read none held.data_is);
            wanted_is = subst (λ (u : Uses). Grows (is_among begun.uses.wanted) (is_among u.wanted) (λ n x. is_wanted x n) begun.is_read more) (sym same)
                (grows_same (is_among begun.uses.wanted) (is_among now.uses.wanted) (λ n x. is_wanted x n) begun.is_read none held.wanted_is);
            bare_is = subst (λ (u : Uses). Grows (is_among begun.uses.bare) (is_among u.bare) (λ n x. is_bare x n) begun.is_read more) (sym same)
                (grows_same (is_among begun.uses.bare) (is_among now.uses.bare) (λ n x. is_bare x n) begun.is_read none held.bare_is);
            written_is = subst (λ (u : Uses). Grows (is_among begun.uses.written) (is_among u.written) (λ s x. is_written_at x s) begun.is_read more) (sym same)
                (grows_same (is_among begun.uses.written) (is_among now.uses.written) (λ s x. is_written_at x s) begun.is_read none held.written_is);
            laid_is = λ test.
                subst (λ (u : Uses). Grows (λ n. is_laid_in test begun.uses.laid.items n) (λ n. is_laid_in test u.laid.items n) (λ n x. test x.range.disk_bytenr && is_laid x n) begun.is_read more) (sym same)
                (grows_same (λ n. is_laid_in test begun.uses.laid.items n) (λ n. is_laid_in test now.uses.laid.items n) (λ n x. test x.range.disk_bytenr && is_laid x n) begun.is_read none (held.laid_is test));
          }
      by (Some x) is adds =
          let sums : x.sums ≡ (sums_by now.owner i.0.objectid) = data_sums (file_extent_of i.1) begun.is_read (sums_by now.owner i.0.objectid) x is in
          let was : IsUseOf begun.is_read more x = record {
            item = i;
            there = Contains-push xs i;
            kind = kind;
            x_is = subst (λ (s : Option Bool). data_by (file_extent_of i.1) begun.is_read s ≡ Some x) (sym sums) is;
            sums = subst (TellsSums more i.0.objectid) (sym sums) (sums_kept i.0.objectid (no_inode kind i.0.objectid) (sums_by now.owner i.0.objectid) (sums_told now.owner held.owner));
          } in
          let only : (y : DataOf) → IsNew begun.is_read y → x ≡ y = λ y new. some_same (sym is ∙ new_is y new) in
          record {
            read_is = read ∙ held.read_is;
            owner = owned;
            data_is = grows_one (is_among begun.uses.data) (is_among now.uses.data) (is_among after.uses.data) (λ n y. is_data y n) begun.is_read x was only adds.data_is held.data_is;
            wanted_is = grows_one (is_among begun.uses.wanted) (is_among now.uses.wanted) (is_among after.uses.wanted) (λ n y. is_wanted y n) begun.is_read x was only adds.wanted_is held.wanted_is;
            bare_is = grows_one (is_among begun.uses.bare) (is_among now.uses.bare) (is_among after.uses.bare) (λ n y. is_bare y n) begun.is_read x was only adds.bare_is held.bare_is;
            written_is = grows_one (is_among begun.uses.written) (is_among now.uses.written) (is_among after.uses.written) (λ s y. is_written_at y s) begun.is_read x was only adds.written_is held.written_is;
            laid_is = λ test.
                grows_one (λ n. is_laid_in test begun.uses.laid.items n) (λ n. is_laid_in test now.uses.laid.items n) (λ n. is_laid_in test after.uses.laid.items n) (λ n y. test y.range.disk_bytenr && is_laid y n) begun.is_read x was only
                (λ n. adds.laid_is test n ∙ or_turned (is_laid_in test now.uses.laid.items n) (test x.range.disk_bytenr && is_laid x n)) (held.laid_is test);
          }
