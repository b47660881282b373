-- The names of an object, and the entries of a directory, by the spots of a volume.
use Rattle.file_items.proofs.Imports.{◌≡◌, ◌<◌, ◌≤◌, ℕ, zero, suc, ◌+◌, ◌^◌, Bool, true, false, cond, not, List, [], ◌∷◌, ◌++◌, length, filter, map, take, get_or, count_by, nat_lt, Some, None, AllPairs, Contains, refl, sym, ap, subst, ◌∙◌, if◌then◌else◌, arith, slice_get, map-append, filter-append, filter_passes, sum_by_push, sum_by-cons, slice_get_within, get_or_from_slice_get, slice_get-get_or, INODE_ITEM, Kind, Image, DirEntryValue, make_key, Key, Item, is_under, Spot, take_push, told_at, told_long, places_count, links_one, capped, ObjectKey, Naming, same_key, root, same_key-true, accepted_is_small, InodeNumbers, Volume, IsOpened, links_in, IsAccepted, volume_items, HasName, HasNames, HasEntry, HasEntries, IsKnown, IndexedLink, indexed_links, names_of, names_in, next_index, ref_record, far_record, Indexed, letters, hash_record, index_record, indexed, indexed_in, saved_entry, root_ref, inode_refs, extrefs, Source, name_items, IsObjectAt, LinkIndex}
use Rattle.file_items.specs.declared.directory.Directory.{Directory}
use Rattle.file_items.specs.declared.object_names.ObjectNames.{ObjectNames}
use Rattle.file_items.proofs.Linked.{entry_at, entries_told, spots_rise, spots_before}

-- the names of an accepted volume are short
pub name_short : (volume : Volume) (image : Image) (i : ℕ) (n : Naming) → IsAccepted image → IsOpened volume image → slice_get (links_in volume) i ≡ Some n → length n.name < 65536
name_short volume image i n accepted opened there =
    let same = links_one (volume_items image) accepted.names.visible accepted.names.links opened.visible (links_in volume) accepted.names.are_links opened.are_links in
    let among : Contains (links_in volume) n = (i, slice_get_within (links_in volume) i n there, get_or_from_slice_get (links_in volume) i n n there) in
    let short = accepted.names.keeps.short n (subst (λ (l : List Naming). Contains l n) (sym same) among) in
    omega (arith, short)

module _ (volume : Volume) (index : LinkIndex) (numbers : InodeNumbers) (image : Image) (known : IsKnown volume index numbers image) (place : ℕ) (key : ObjectKey) (at : IsObjectAt volume place key) where
  abbrev links : List Naming
  links = links_in volume

  -- the spots of an object tell its names
  pub names_told : (spots : List Spot) → spots ≡ filter (is_under place) index.by_target → map (λ spot. slice_get (indexed_links links) spot.number) spots ≡ map (λ (e : IndexedLink). Some e) (names_of links key)
  names_told spots is = entries_told links (λ n. n.target) key spots (ap (map (λ (s : Spot). s.number)) is ∙ known.index_is.targets place key at)

  -- those of a directory its entries
  pub entries_of_dir : (spots : List Spot) → spots ≡ filter (is_under place) index.by_dir → map (λ spot. slice_get (indexed_links links) spot.number) spots ≡ map (λ (e : IndexedLink). Some e) (names_in links key)
  entries_of_dir spots is = entries_told links (λ n. n.dir) key spots (ap (map (λ (s : Spot). s.number)) is ∙ known.index_is.dirs place key at)

  -- the index of an entry of a directory
  pub index_is : (number : ℕ) (e : IndexedLink) (found : ℕ) → slice_get (indexed_links links) number ≡ Some e → e.link.dir ≡ key
      → (AllPairs (λ (a b : Spot). a.number < b.number) (filter (is_under place) index.by_dir) → found ≡ 2 + count_by (λ (spot : Spot). nat_lt spot.number number) (filter (is_under place) index.by_dir)) → found ≡ e.index
  index_is number e found there dir counted =
      let spots : List Spot = filter (is_under place) index.by_dir in
      let places = known.index_is.dirs place key at in
      let own = entry_at [] links number e there in
      counted (spots_rise links key spots places) ∙ (spots_before links key spots number places ∙ sym (ap (λ (f : IndexedLink). f.index) own.is ∙ ap (next_index (take number links)) dir))

-- an entry at the place of a spot
pub record IsTold (links : List Naming) (es : List IndexedLink) (i number : ℕ) : Type 0 where
  pub entry : IndexedLink
  pub there : slice_get (indexed_links links) number ≡ Some entry
  pub at : slice_get es i ≡ Some entry
  pub more : take (i + 1) es ≡ take i es ++ entry ∷ []

pub told_here : (links : List Naming) (es : List IndexedLink) (spots : List Spot) (i : ℕ) (spot : Spot) → map (λ s. slice_get (indexed_links links) s.number) spots ≡ map (λ (e : IndexedLink). Some e) es → slice_get spots i ≡ Some spot → IsTold links es i spot.number
told_here links es spots i spot told here =
    let long = told_long (λ (s : Spot). slice_get (indexed_links links) s.number) spots es told in
    let within = slice_get_within spots i spot here in
    by links es spots i spot told here (omega (arith, long, within))
  where
    no_entry : IndexedLink
    no_entry = record { link = record { leaf = 0; dir = record { dir = 0; object = 0 }; target = record { dir = 0; object = 0 }; name = [] }; index = 0; extended = false }

    by : (links : List Naming) (es : List IndexedLink) (spots : List Spot) (i : ℕ) (spot : Spot) → map (λ s. slice_get (indexed_links links) s.number) spots ≡ map (λ (e : IndexedLink). Some e) es → slice_get spots i ≡ Some spot → i < length es → IsTold links es i spot.number
    by links es spots i spot told here inside =
        let e : IndexedLink = get_or es i no_entry in
        let at = slice_get-get_or es i no_entry inside in
        let one : i + 1 ≡ suc i = omega arith in
        record {
          entry = e;
          there = told_at (λ (s : Spot). slice_get (indexed_links links) s.number) spots es i spot told here ∙ at;
          at = at;
          more = ap (λ (k : ℕ). take k es) one ∙ take_push i es no_entry inside;
        }

-- whether a name is extended
pub flag_is : (links : List Naming) (flags : List Bool) (number : ℕ) (e : IndexedLink) (flag : Bool) → flags ≡ map (λ (f : IndexedLink). f.extended) (indexed_links links) → slice_get (indexed_links links) number ≡ Some e → slice_get flags number ≡ Some flag → flag ≡ e.extended
flag_is links flags number e flag are there found = some_same flag e.extended (sym found ∙ (ap (λ (l : List Bool). slice_get l number) are ∙ mapped (indexed_links links) number e there))
  where
    some_same : (a b : Bool) → Some a ≡ Some b → a ≡ b
    some_same a b is = cc

    mapped : (es : List IndexedLink) (i : ℕ) (e : IndexedLink) → slice_get es i ≡ Some e → slice_get (map (λ (f : IndexedLink). f.extended) es) i ≡ Some e.extended
    mapped [] i e there = let never : None ≡ Some e = there in absurd cc
    mapped (f ∷ es) zero e there = let same : f ≡ e = cc in ap (λ (g : IndexedLink). Some g.extended) same
    mapped (f ∷ es) (suc i) e there = mapped es i e there

-- one name more among those that were gathered
pub names_more : (all : List ObjectKey) (ino : ℕ) (done more : List IndexedLink) (e : IndexedLink) (old new : ObjectNames) → HasNames all ino done old → HasName all ino e old new → more ≡ done ++ e ∷ [] → HasNames all ino more new
names_more all ino done more e old new has one more_is = record {
  refs =
      one.refs ∙ (ap (λ (l : List Item). l ++ (if e.extended then [] else ref_record all ino e ∷ [])) has.refs
      ∙ (plain e.extended refl ∙ ap (λ (l : List IndexedLink). map (ref_record all ino) (filter (λ f. not f.extended) l)) (sym more_is)));
  far =
      one.far ∙ (ap (λ (l : List Item). l ++ (if e.extended then far_record all e ∷ [] else [])) has.far
      ∙ (far e.extended refl ∙ ap (λ (l : List IndexedLink). map (far_record all) (filter (λ f. f.extended) l)) (sym more_is)));
}
  where
    plain : (b : Bool) → e.extended ≡ b → map (ref_record all ino) (filter (λ f. not f.extended) done) ++ (if b then [] else ref_record all ino e ∷ []) ≡ map (ref_record all ino) (filter (λ f. not f.extended) (done ++ e ∷ []))
    plain b is = by b is ∙ sym (ap (map (ref_record all ino)) (filter-append (λ (f : IndexedLink). not f.extended) done (e ∷ [])) ∙ map-append (ref_record all ino) (filter (λ f. not f.extended) done) (filter (λ f. not f.extended) (e ∷ [])))
      where
        by : (b : Bool) → e.extended ≡ b → map (ref_record all ino) (filter (λ f. not f.extended) done) ++ (if b then [] else ref_record all ino e ∷ []) ≡ map (ref_record all ino) (filter (λ f. not f.extended) done) ++ map (ref_record all ino) (filter (λ f. not f.extended) (e ∷ []))
        by b is = ap (λ (c : Bool). map (ref_record all ino) (filter (λ f. not f.extended) done) ++ (if c then [] else ref_record all ino e ∷ [])) (sym is) ∙ flip e.extended
          where
            flip : (c : Bool) → map (ref_record all ino) (filter (λ f. not f.extended) done) ++ (if c then [] else ref_record all ino e ∷ []) ≡ map (ref_record all ino) (filter (λ f. not f.extended) done) ++ map (ref_record all ino) (cond (not c) (e ∷ []) [])
            flip true = refl
            flip false = refl

    far : (b : Bool) → e.extended ≡ b → map (far_record all) (filter (λ f. f.extended) done) ++ (if b then far_record all e ∷ [] else []) ≡ map (far_record all) (filter (λ f. f.extended) (done ++ e ∷ []))
    far b is = ap (λ (c : Bool). map (far_record all) (filter (λ f. f.extended) done) ++ (if c then far_record all e ∷ [] else [])) (sym is) ∙ (flip e.extended
        ∙ sym (ap (map (far_record all)) (filter-append (λ (f : IndexedLink). f.extended) done (e ∷ [])) ∙ map-append (far_record all) (filter (λ f. f.extended) done) (filter (λ f. f.extended) (e ∷ []))))
      where
        flip : (c : Bool) → map (far_record all) (filter (λ f. f.extended) done) ++ (if c then far_record all e ∷ [] else []) ≡ map (far_record all) (filter (λ f. f.extended) done) ++ map (far_record all) (cond c (e ∷ []) [])
        flip true = refl
        flip false = refl

-- the entry that is made of a link
pub entry_made : (ino ino' kind kind' : ℕ) (location : Key) (name name' : List ℕ) (value : DirEntryValue) → value ≡ record { location = location; transid = 1; data_length = 0; kind = kind; name = name } → location ≡ make_key ino INODE_ITEM 0 → ino ≡ ino' → kind ≡ kind' → name ≡ name'
    → value ≡ record { location = make_key ino' INODE_ITEM 0; transid = 1; data_length = 0; kind = kind'; name = name' }
entry_made ino ino' kind kind' location name name' value is location_is ino_is kind_is name_is =
    is ∙ (ap (λ (l : Key). made l kind name) (location_is ∙ ap (λ (i : ℕ). make_key i INODE_ITEM 0) ino_is) ∙ (ap (λ (k : ℕ). made (make_key ino' INODE_ITEM 0) k name) kind_is ∙ ap (made (make_key ino' INODE_ITEM 0) kind') name_is))
  where
    made : Key → ℕ → List ℕ → DirEntryValue
    made l k n = record { location = l; transid = 1; data_length = 0; kind = k; name = n }

-- one entry more among those that were taken
pub entries_more : (ino : ℕ) (done more : List Indexed) (e : Indexed) (old new : Directory) → HasEntries ino done old → HasEntry ino e old new → more ≡ done ++ e ∷ [] → HasEntries ino more new
entries_more ino done more e old new has one more_is = record {
  hashed = one.hashed ∙ (ap (λ (l : List Item). l ++ hash_record ino e ∷ []) has.hashed ∙ (sym (map-append (hash_record ino) done (e ∷ [])) ∙ ap (map (hash_record ino)) (sym more_is)));
  indexes = one.indexes ∙ (ap (λ (l : List Item). l ++ index_record ino e ∷ []) has.indexes ∙ (sym (map-append (index_record ino) done (e ∷ [])) ∙ ap (map (index_record ino)) (sym more_is)));
  letters_are = one.letters_are ∙ (summed old.letters (letters done) (length e.1.name) has.letters_are ∙ ap capped (sym (sum_by_push (λ (f : Indexed). length f.1.name) done e) ∙ ap letters (sym more_is)));
}
  where
    summed : (a t n : ℕ) → a ≡ capped t → capped (a + n) ≡ capped (t + n)
    summed a t n is = omega arith

-- an entry of a directory stands in it
pub dir_of : (links : List Naming) (key : ObjectKey) (i : ℕ) (e : IndexedLink) → slice_get (names_in links key) i ≡ Some e → e.link.dir ≡ key
dir_of links key i e there = same_key-true e.link.dir key (passes (indexed_links links) i e there)
  where
    passes : (es : List IndexedLink) (i : ℕ) (e : IndexedLink) → slice_get (filter (λ f. same_key f.link.dir key) es) i ≡ Some e → same_key e.link.dir key ≡ true
    passes es i e there =
        let all = filter_passes (λ (f : IndexedLink). same_key f.link.dir key) es in
        let within = slice_get_within (filter (λ f. same_key f.link.dir key) es) i e there in
        subst (λ (f : IndexedLink). same_key f.link.dir key ≡ true) (get_or_from_slice_get (filter (λ f. same_key f.link.dir key) es) i e e there) (all i e within)

count_is : {A : Type 0} (p : A → Bool) (xs : List A) → count_by p xs ≡ length (filter p xs)
count_is p [] = refl
count_is {A} p (x ∷ xs) = sum_by-cons (λ y. cond (p y) 1 0) x xs ∙ by (count_is p xs) (p x)
  where
    by : count_by p xs ≡ length (filter p xs) → (b : Bool) → cond b 1 0 + count_by p xs ≡ length (cond b (x ∷ filter p xs) (filter p xs))
    by later true = omega (arith, later)
    by later false = omega (arith, later)

count_low : {A : Type 0} (p : A → Bool) (xs : List A) → count_by p xs ≤ length xs
count_low p [] = omega arith
count_low {A} p (x ∷ xs) = by (count_low p xs) (p x) refl
  where
    by : count_by p xs ≤ length xs → (b : Bool) → p x ≡ b → count_by p (x ∷ xs) ≤ length (x ∷ xs)
    by later b is = let first = sum_by-cons (λ y. cond (p y) 1 0) x xs ∙ ap (λ (c : Bool). cond c 1 0 + count_by p xs) is in bound b later first
      where
        bound : (b : Bool) → count_by p xs ≤ length xs → count_by p (x ∷ xs) ≡ cond b 1 0 + count_by p xs → count_by p (x ∷ xs) ≤ length (x ∷ xs)
        bound true later first = omega (arith, later, first)
        bound false later first = omega (arith, later, first)

-- the spots of a directory are as many as its links
pub dir_count : (volume : Volume) (index : LinkIndex) (numbers : InodeNumbers) (image : Image) → IsKnown volume index numbers image → (place : ℕ) (key : ObjectKey) → IsObjectAt volume place key → (spots : List Spot) → spots ≡ filter (is_under place) index.by_dir
    → 2 + length spots ≡ next_index (links_in volume) key
dir_count volume index numbers image known place key at spots is =
    let places = ap (map (λ (s : Spot). s.number)) is ∙ known.index_is.dirs place key at in
    let long : length spots ≡ count_by (λ n. same_key n.dir key) (links_in volume) = sym (long_map spots) ∙ (ap length places ∙ (places_count (λ n. same_key n.dir key) 0 (links_in volume) ∙ sym (count_is (λ n. same_key n.dir key) (links_in volume)))) in
    omega (arith, long)
  where
    long_map : (xs : List Spot) → length (map (λ (s : Spot). s.number) xs) ≡ length xs
    long_map [] = refl
    long_map (x ∷ xs) = let later = long_map xs in omega (arith, later)

pub index_small : (volume : Volume) (image : Image) (key : ObjectKey) → IsAccepted image → IsOpened volume image → next_index (links_in volume) key < 2 ^ 63
index_small volume image key accepted opened =
    let links = (accepted_is_small image accepted).links opened.visible (links_in volume) opened.are_links in
    let low = count_low (λ n. same_key n.dir key) (links_in volume) in
    omega (arith, links, low)

-- the root's entries with that of the saved image
pub with_saved : (kind : ObjectKey → Kind) (all : List ObjectKey) (links : List Naming) (key : ObjectKey) → same_key key root ≡ true
    → map (indexed kind all) (names_in links key) ++ (next_index links key, saved_entry) ∷ [] ≡ indexed_in kind all links key
with_saved kind all links key is = sym (ap (λ (b : Bool). map (indexed kind all) (names_in links key) ++ (if b then (next_index links key, saved_entry) ∷ [] else [])) is)

-- the names of the root, and those of any other object
pub name_items_root : (s : Source) (key : ObjectKey) → same_key key root ≡ true → name_items s key ≡ root_ref ∷ []
unfolding name_items
name_items_root s key is = ap (λ (b : Bool). if b then root_ref ∷ [] else inode_refs s.keys s.links key ++ extrefs s.keys s.links key) is

pub name_items_other : (s : Source) (key : ObjectKey) (all : List ObjectKey) (links : List Naming) → same_key key root ≡ false → s.keys ≡ all → s.links ≡ links → name_items s key ≡ inode_refs all links key ++ extrefs all links key
unfolding name_items
name_items_other s key all links is keys_are links_are =
    ap (λ (b : Bool). if b then root_ref ∷ [] else inode_refs s.keys s.links key ++ extrefs s.keys s.links key) is
    ∙ (ap (λ (k : List ObjectKey). inode_refs k s.links key ++ extrefs k s.links key) keys_are ∙ ap (λ (l : List Naming). inode_refs all l key ++ extrefs all l key) links_are)
