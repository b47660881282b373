-- One more item of an inode, in its tally.
use Rattle.btr_check_files.proofs.Imports.{◌≡◌, ◌≢◌, ◌<◌, ℕ, ◌+◌, ◌-◌, ◌*◌, ◌^◌, ◌==◌, ◌&&◌, Bool, true, false, cond, List, [], ◌∷◌, ◌++◌, length, map, if◌then◌else◌, Some, None, refl, sym, ap, ◌∙◌, subst, arith, eq-eqb, ne_eqb, min, eqb-true, Decides-and, Decides-like, append-nil, length-append, length-map, All-contains, All-nil, Contains-push, filter-append, sum_by-append, sum_by-cons, flat_map, sum_by, DirEntryValue, dir_items_of, extrefs_of, FileExtentValue, file_extent_of, inode_refs_of, Item, DIR_INDEX, EXTENT_DATA, INODE_EXTREF, INODE_ITEM, INODE_REF, BackName, IndexEntry, entry_of, or_none, IsTallyOf, TellsOwn, capped, entry_letters, extents_of, letters_in, names_in, extref_name, index_by, ref_name, told_by, flat_map-append}
use Rattle.btr_check_rules.specs.btr_reader.btr_keys.declared.inode.Inode.{Inode}
use Rattle.std.specs.Bool.{Decides}
use Rattle.btr_check_rules.specs.btr_reader.btr_reader_names.Inodes.{kind_of_mode}
use Rattle.btr_check_rules.specs.btr_reader.btr_reader_walk.btr_keys.btrfs_format.declared.object.TheConstants.{FIRST_FREE_OBJECTID}
use Rattle.btr_check_rules.specs.btr_reader.btr_super.declared.superblock.Super.{Super}
use Rattle.btr_check_rules.specs.btr_reader.fs_rows.declared.row.Kind.TheVariants.{Directory}
use Rattle.btr_check_rules.specs.Files.{EndsInFile}
use Rattle.btr_check_items.specs.Runs.{AreCovering, AreKept, IsRunOf, KeepsItem, TellsBytes}
use Rattle.btr_check_files.specs.declared.tally.Tally.{Tally}

-- ---- what one item tells

told_at : (i : Item) (b c : Bool) → (i.0.kind == INODE_REF) ≡ b → (i.0.kind == INODE_EXTREF) ≡ c
    → told_by i ≡ (if b then map (ref_name i.0.objectid i.0.offset) (or_none (inode_refs_of i.1)) else (if c then map (extref_name i.0.objectid) (or_none (extrefs_of i.1)) else []))
told_at i b c first second =
    ap (λ (y : Bool). if y then map (ref_name i.0.objectid i.0.offset) (or_none (inode_refs_of i.1)) else (if i.0.kind == INODE_EXTREF then map (extref_name i.0.objectid) (or_none (extrefs_of i.1)) else [])) first
    ∙ ap (λ (z : Bool). if b then map (ref_name i.0.objectid i.0.offset) (or_none (inode_refs_of i.1)) else (if z then map (extref_name i.0.objectid) (or_none (extrefs_of i.1)) else [])) second

index_at : (i : Item) (b : Bool) → (i.0.kind == DIR_INDEX) ≡ b
    → index_by i ≡ (if b then map (λ (e : DirEntryValue). record { entry = entry_of i e; index = i.0.offset }) (or_none (dir_items_of i.1)) else [])
index_at i b is = ap (λ (z : Bool). if z then map (λ (e : DirEntryValue). record { entry = entry_of i e; index = i.0.offset }) (or_none (dir_items_of i.1)) else []) is

pub ref_count : (i : Item) → i.0.kind ≡ INODE_REF → length (told_by i) ≡ length (or_none (inode_refs_of i.1))
ref_count i is =
    ap (λ (z : List BackName). length z) (told_at i true false (eq-eqb i.0.kind INODE_REF is) (ne_eqb i.0.kind INODE_EXTREF (λ other. omega arith)))
    ∙ length-map (or_none (inode_refs_of i.1)) (ref_name i.0.objectid i.0.offset)

pub extref_count : (i : Item) → i.0.kind ≡ INODE_EXTREF → length (told_by i) ≡ length (or_none (extrefs_of i.1))
extref_count i is =
    ap (λ (z : List BackName). length z) (told_at i false true (ne_eqb i.0.kind INODE_REF (λ other. omega arith)) (eq-eqb i.0.kind INODE_EXTREF is))
    ∙ length-map (or_none (extrefs_of i.1)) (extref_name i.0.objectid)

pub no_names : (i : Item) → i.0.kind ≢ INODE_REF → i.0.kind ≢ INODE_EXTREF → length (told_by i) ≡ 0
no_names i no_ref no_extref = ap (λ (z : List BackName). length z) (told_at i false false (ne_eqb i.0.kind INODE_REF no_ref) (ne_eqb i.0.kind INODE_EXTREF no_extref))

abbrev letters : List IndexEntry → ℕ
letters entries = sum_by (λ (e : IndexEntry). length e.entry.name) entries

sum_by_map : {A B : Type 0} (f : B → ℕ) (g : A → B) (xs : List A) → sum_by f (map g xs) ≡ sum_by (λ x. f (g x)) xs
sum_by_map f g [] = refl
sum_by_map {A} {B} f g (x ∷ xs) = sum_by-cons f (g x) (map g xs) ∙ (ap (λ (n : ℕ). f (g x) + n) (sum_by_map f g xs) ∙ sym (sum_by-cons (λ (y : A). f (g y)) x xs))

pub index_letters : (i : Item) → i.0.kind ≡ DIR_INDEX → letters (index_by i) ≡ entry_letters (or_none (dir_items_of i.1))
index_letters i is =
    ap letters (index_at i true (eq-eqb i.0.kind DIR_INDEX is))
    ∙ sum_by_map (λ (e : IndexEntry). length e.entry.name) (λ (e : DirEntryValue). record { entry = entry_of i e; index = i.0.offset }) (or_none (dir_items_of i.1))

pub no_letters : (i : Item) → i.0.kind ≢ DIR_INDEX → letters (index_by i) ≡ 0
no_letters i other = ap letters (index_at i false (ne_eqb i.0.kind DIR_INDEX other))

-- ---- with those before

names_more : (own : List Item) (i : Item) → names_in (own ++ i ∷ []) ≡ names_in own + length (told_by i)
names_more own i =
    ap (λ (z : List BackName). length z) (flat_map-append told_by own (i ∷ []) ∙ ap (λ (z : List BackName). flat_map told_by own ++ z) (append-nil (told_by i)))
    ∙ length-append (flat_map told_by own) (told_by i)

letters_more : (own : List Item) (i : Item) → letters_in (own ++ i ∷ []) ≡ letters_in own + letters (index_by i)
letters_more own i =
    ap letters (flat_map-append index_by own (i ∷ []) ∙ ap (λ (z : List IndexEntry). flat_map index_by own ++ z) (append-nil (index_by i)))
    ∙ sum_by-append (λ (e : IndexEntry). length e.entry.name) (flat_map index_by own) (index_by i)

extents_at : (own : List Item) (i : Item) (b : Bool) → (i.0.kind == EXTENT_DATA) ≡ b → extents_of (own ++ i ∷ []) ≡ extents_of own ++ cond b (i ∷ []) []
extents_at own i b is =
    filter-append (λ (j : Item). j.0.kind == EXTENT_DATA) own (i ∷ []) ∙ ap (λ (z : Bool). extents_of own ++ cond z (i ∷ []) []) is

pub extents_more : (own : List Item) (i : Item) → i.0.kind ≡ EXTENT_DATA → extents_of (own ++ i ∷ []) ≡ extents_of own ++ i ∷ []
extents_more own i is = extents_at own i true (eq-eqb i.0.kind EXTENT_DATA is)

extents_same : (own : List Item) (i : Item) → i.0.kind ≢ EXTENT_DATA → extents_of (own ++ i ∷ []) ≡ extents_of own
extents_same own i other = extents_at own i false (ne_eqb i.0.kind EXTENT_DATA other) ∙ append-nil (extents_of own)

capped_more : (n m a b : ℕ) → n ≡ capped a → m ≡ min (n + b) (2 ^ 64 - 1) → m ≡ capped (a + b)
capped_more n m a b is more = omega (arith, is, more)

capped_both : (n m k a b : ℕ) → n ≡ capped a → k ≡ capped b → m ≡ min (n + k) (2 ^ 64 - 1) → m ≡ capped (a + b)
capped_both n m k a b is other more = omega (arith, is, other, more)

capped_none : (n a b : ℕ) → n ≡ capped a → b ≡ 0 → n ≡ capped (a + b)
capped_none n a b is none = omega (arith, is, none)

-- ---- tallies

-- an inode alone
pub tally_first : (s : Super) (t : Tally) (i : Item) → i.0.kind ≡ INODE_ITEM → kind_of_mode t.inode.mode ≡ Some t.kind → t.names ≡ 0 → t.letters ≡ 0 → AreKept s t.inode [] → IsRunOf [] t.extents
    → IsTallyOf s (i ∷ []) t
tally_first s t i is kind names let_ters kept run =
    let none : extents_of (i ∷ []) ≡ [] = extents_same [] i (λ other. omega arith) in
    let name_sum : names_in (i ∷ []) ≡ 0 + length (told_by i) = names_more [] i in
    let none_told : length (told_by i) ≡ 0 = no_names i (λ other. omega arith) (λ other. omega arith) in
    let no_name : names_in (i ∷ []) ≡ 0 = omega (arith, name_sum, none_told) in
    let letter_sum : letters_in (i ∷ []) ≡ 0 + letters (index_by i) = letters_more [] i in
    let none_indexed : letters (index_by i) ≡ 0 = no_letters i (λ other. omega arith) in
    let no_letter : letters_in (i ∷ []) ≡ 0 = omega (arith, letter_sum, none_indexed) in
    record {
      kind = kind;
      names = omega (arith, names, no_name);
      letters = omega (arith, let_ters, no_letter);
      kept = subst (AreKept s t.inode) (sym none) kept;
      run = subst (λ (z : List Item). IsRunOf z t.extents) (sym none) run;
    }

module _ (s : Super) (own : List Item) (t : Tally) (i : Item) (is_tally : IsTallyOf s own t) where
  tally_more : (u : Tally) → u.inode ≡ t.inode → u.kind ≡ t.kind → u.extents ≡ t.extents → i.0.kind ≢ EXTENT_DATA
      → u.names ≡ capped (names_in own + length (told_by i)) → u.letters ≡ capped (letters_in own + letters (index_by i)) → IsTallyOf s (own ++ i ∷ []) u
  tally_more u inode kind extents other names let_ters =
      let same : extents_of (own ++ i ∷ []) ≡ extents_of own = extents_same own i other in
      record {
        kind = ap (λ (n : Inode). kind_of_mode n.mode) inode ∙ (is_tally.kind ∙ ap Some (sym kind));
        names = names ∙ ap capped (sym (names_more own i));
        letters = let_ters ∙ ap capped (sym (letters_more own i));
        kept = subst (AreKept s u.inode) (sym same) (subst (λ (n : Inode). AreKept s n (extents_of own)) (sym inode) is_tally.kept);
        run = subst (λ (z : List Item). IsRunOf z u.extents) (sym same) (subst (IsRunOf (extents_of own)) (sym extents) is_tally.run);
      }

  pub tally_names : (u : Tally) (n m : ℕ) → u.inode ≡ t.inode → u.kind ≡ t.kind → u.extents ≡ t.extents → i.0.kind ≢ EXTENT_DATA
      → n ≡ length (told_by i) → m ≡ capped (letters (index_by i)) → u.names ≡ min (t.names + n) (2 ^ 64 - 1) → u.letters ≡ min (t.letters + m) (2 ^ 64 - 1) → IsTallyOf s (own ++ i ∷ []) u
  tally_names u n m inode kind extents other count let_ters names sum =
      tally_more u inode kind extents other
      (capped_more t.names u.names (names_in own) (length (told_by i)) is_tally.names (names ∙ ap (λ (k : ℕ). min (t.names + k) (2 ^ 64 - 1)) count))
      (capped_both t.letters u.letters m (letters_in own) (letters (index_by i)) is_tally.letters let_ters sum)

  pub tally_extent : (u : Tally) → u.inode ≡ t.inode → u.kind ≡ t.kind → u.names ≡ t.names → u.letters ≡ t.letters → i.0.kind ≡ EXTENT_DATA
      → AreKept s t.inode (extents_of own ++ i ∷ []) → IsRunOf (extents_of own ++ i ∷ []) u.extents → IsTallyOf s (own ++ i ∷ []) u
  tally_extent u inode kind names let_ters is kept run = record {
    kind = ap (λ (n : Inode). kind_of_mode n.mode) inode ∙ (is_tally.kind ∙ ap Some (sym kind));
    names = names ∙ (capped_none t.names (names_in own) (length (told_by i)) is_tally.names (no_names i (λ other. omega arith) (λ other. omega arith)) ∙ ap capped (sym (names_more own i)));
    letters = let_ters ∙ (capped_none t.letters (letters_in own) (letters (index_by i)) is_tally.letters (no_letters i (λ other. omega arith)) ∙ ap capped (sym (letters_more own i)));
    kept = subst (AreKept s u.inode) (sym (extents_more own i is)) (subst (λ (n : Inode). AreKept s n (extents_of own ++ i ∷ [])) (sym inode) kept);
    run = subst (λ (z : List Item). IsRunOf z u.extents) (sym (extents_more own i is)) run;
  }

  pub no_tally : i.0.kind ≡ EXTENT_DATA → ¬ AreKept s t.inode (extents_of own ++ i ∷ []) → ¬ AreKept s t.inode (extents_of (own ++ i ∷ []))
  no_tally is bad = λ kept. bad (subst (AreKept s t.inode) (extents_more own i is) kept)

-- ---- what an inode tells

-- the number of a field is a count, where it is one that was capped
pub field_is : (n field count : ℕ) → n ≡ capped count → field < 2 ^ 32 → Decides (field == n) (field ≡ count)
field_is n field count is small = (
  (λ so. let same : field ≡ n = eqb-true _ _ so in omega (arith, is)),
  (λ same. eq-eqb field n (omega (arith, is))),
)

pub told_by_all : (s : Super) (ino : ℕ) (inode : Inode) (own : List Item) (links size bytes covers root : Bool) → Decides links (inode.nlink ≡ names_in own)
    → Decides size (kind_of_mode inode.mode ≡ Some Directory → inode.size ≡ 2 * letters_in own) → Decides bytes (TellsBytes inode (extents_of own)) → Decides covers (AreCovering s inode (extents_of own))
    → Decides root (ino ≡ FIRST_FREE_OBJECTID → (kind_of_mode inode.mode ≡ Some Directory) × (names_in own ≡ 1))
    → Decides (links && (size && (bytes && (covers && root)))) (TellsOwn s ino inode own)
told_by_all s ino inode own links size bytes covers root by_links by_size by_bytes by_covers by_root =
    Decides-like (links && (size && (bytes && (covers && root))))
    (λ all. record { links = all.0; size = all.1.0; bytes = all.1.1.0; covering = all.1.1.1.0; root = all.1.1.1.1 })
    (λ (tells : TellsOwn s ino inode own). (tells.links, (tells.size, (tells.bytes, (tells.covering, tells.root)))))
    (Decides-and links _ by_links (Decides-and size _ by_size (Decides-and bytes _ by_bytes (Decides-and covers root by_covers by_root))))

-- ---- extents that are none

pub none_kept : (s : Super) (inode : Inode) → AreKept s inode []
none_kept s inode = record {
  each = All-nil (KeepsItem s inode);
  apart = λ i j d less within. absurd (omega arith);
  ends = All-nil EndsInFile;
}

pub unread_extent : (s : Super) (inode : Inode) (items : List Item) (i : Item) → file_extent_of i.1 ≡ None → ¬ AreKept s inode (items ++ i ∷ [])
unread_extent s inode items i none = λ kept.
    let own = All-contains (KeepsItem s inode) (items ++ i ∷ []) i kept.each (Contains-push items i) in
    no_value own.0 (sym none ∙ own.1)
  where
    no_value : (e : FileExtentValue) → None ≡ Some e → ⊥
    no_value e is = absurd cc

-- ---- the root directory, and sizes of directories

some_is : {A : Type 0} (x y : A) → Some x ≡ Some y → x ≡ y
some_is x y e = cc

module _ (s : Super) (own : List Item) (t : Tally) (is_tally : IsTallyOf s own t) where
  is_kind : kind_of_mode t.inode.mode ≡ Some Directory → t.kind ≡ Directory
  is_kind is = some_is t.kind Directory (sym is_tally.kind ∙ is)

  pub size_decides : t.kind ≡ Directory → t.inode.size < 2 ^ 64 → (r : Bool) → r ≡ (t.inode.size == 2 * t.letters) → Decides r (kind_of_mode t.inode.mode ≡ Some Directory → t.inode.size ≡ 2 * letters_in own)
  size_decides is small r test = (
    (λ so directory. let same : t.inode.size ≡ 2 * t.letters = eqb-true _ _ (sym test ∙ so) in omega (arith, is_tally.letters)),
    (λ tells. test ∙ (let same : t.inode.size ≡ 2 * letters_in own = tells (is_tally.kind ∙ ap Some is) in eq-eqb t.inode.size (2 * t.letters) (omega (arith, is_tally.letters)))),
  )

  pub size_other : t.kind ≢ Directory → Decides true (kind_of_mode t.inode.mode ≡ Some Directory → t.inode.size ≡ 2 * letters_in own)
  size_other other = ((λ so is. absurd (other (is_kind is))), (λ tells. refl))

  pub root_decides : (ino : ℕ) → ino ≡ FIRST_FREE_OBJECTID → t.kind ≡ Directory → (r : Bool) → r ≡ (t.names == 1) → Decides r (ino ≡ FIRST_FREE_OBJECTID → (kind_of_mode t.inode.mode ≡ Some Directory) × (names_in own ≡ 1))
  root_decides ino root is r test = (
    (λ so same_root. let same : t.names ≡ 1 = eqb-true _ _ (sym test ∙ so) in (is_tally.kind ∙ ap Some is, omega (arith, is_tally.names))),
    (λ tells. test ∙ (let same : names_in own ≡ 1 = (tells root).1 in eq-eqb t.names 1 (omega (arith, is_tally.names)))),
  )

  pub root_none : (ino : ℕ) → ino ≡ FIRST_FREE_OBJECTID → t.kind ≢ Directory → Decides false (ino ≡ FIRST_FREE_OBJECTID → (kind_of_mode t.inode.mode ≡ Some Directory) × (names_in own ≡ 1))
  root_none ino root other = ((λ no. absurd cc), (λ tells. absurd (other (is_kind (tells root).0))))

  pub root_other : (ino : ℕ) → ino ≢ FIRST_FREE_OBJECTID → Decides true (ino ≡ FIRST_FREE_OBJECTID → (kind_of_mode t.inode.mode ≡ Some Directory) × (names_in own ≡ 1))
  root_other ino other = ((λ so is. absurd (other is)), (λ tells. refl))
