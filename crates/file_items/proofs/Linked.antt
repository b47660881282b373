-- The links of a volume by the places of their directories and objects.
use Rattle.file_items.proofs.Imports.{◌≡◌, ◌≢◌, ◌<◌, ℕ, zero, suc, ◌+◌, ◌==◌, ◌&&◌, Bool, true, false, cond, List, [], ◌∷◌, ◌++◌, length, filter, map, take, get_or, count_by, nat_lt, Some, None, AllPairs, refl, sym, ap, subst, ◌∙◌, if◌then◌else◌, append_assoc, ⊎_elim, arith, slice_get, All, AllByRecursion, nat_tests, append-nil, map-append, length-take, filter-append, All-push, All-from_recursion, slice_get_within, get_or_from_slice_get, slice_get-get_or, IndexMap, keys, Image, ascending, is_under, Spot, take_push, places_push, places_map, places_hold, places_before, places_rise, count_map, pairs_map, ascending_filter, ascending_all, reference_size, tally, capped, ObjectKey, Naming, same_key, same_key-true, same_key-self, and_left, and_right, Volume, IsOpened, links_in, AreBelow, TellsPlaces, IndexedLink, entry_behind, entries_behind, indexed_links, next_index, same_names, AreSizes}
use Rattle.std.proofs.lemmas.Bool.{cases_lt}
use Rattle.btr_item_list.specs.Places.{places_from}
use Rattle.reiser_volume.proofs.reiser_volume_names.Sums.{weight_push}
use Rattle.file_items.specs.declared.link_index.RefKey.{RefKey}

pub unequal : (a b : ObjectKey) → (a ≡ b → ⊥) → same_key a b ≡ false
unequal a b apart = by (same_key a b) refl
  where
    by : (c : Bool) → same_key a b ≡ c → same_key a b ≡ false
    by true is = absurd (apart (same_key-true a b is))
    by false is = is

-- places are the same where their keys are
pub same_places : (all : List ObjectKey) (i j : ℕ) (a b : ObjectKey) → AllPairs (λ (a b : ObjectKey). a ≢ b) all → slice_get all i ≡ Some a → slice_get all j ≡ Some b → (i == j) ≡ same_key a b
same_places all i j a b once at_i at_j = ⊎_elim (λ less. below i j a b less at_i at_j) (λ more. ⊎_elim (λ less. above less) (λ more_too. level (omega (arith, more, more_too))) (cases_lt j i)) (cases_lt i j)
  where
    different : (i j : ℕ) (a b : ObjectKey) → i < j → slice_get all i ≡ Some a → slice_get all j ≡ Some b → a ≡ b → ⊥
    different i j a b less at_i at_j same = once i j a less (slice_get_within all j b at_j) (get_or_from_slice_get all i a a at_i ∙ (same ∙ sym (get_or_from_slice_get all j b a at_j)))

    lower : (i j : ℕ) → i < j → (i == j) ≡ false
    lower i j less = grind (arith, nat_tests)

    higher : (i j : ℕ) → j < i → (i == j) ≡ false
    higher i j less = grind (arith, nat_tests)

    equal : (i : ℕ) → (i == i) ≡ true
    equal i = grind (arith, nat_tests)

    some_same : (a b : ObjectKey) → Some a ≡ Some b → a ≡ b
    some_same a b is = cc

    below : (i j : ℕ) (a b : ObjectKey) → i < j → slice_get all i ≡ Some a → slice_get all j ≡ Some b → (i == j) ≡ same_key a b
    below i j a b less at_i at_j = lower i j less ∙ sym (unequal a b (different i j a b less at_i at_j))

    above : j < i → (i == j) ≡ same_key a b
    above less = higher i j less ∙ sym (unequal a b (λ same. different j i b a less at_j at_i (sym same)))

    level : i ≡ j → (i == j) ≡ same_key a b
    level same =
        let one : a ≡ b = some_same a b (sym at_i ∙ (ap (slice_get all) same ∙ at_j)) in
        ap (λ (k : ℕ). i == k) (sym same) ∙ (equal i ∙ sym (ap (λ (k : ObjectKey). same_key a k) (sym one) ∙ same_key-self a))

-- one link more under what it stands under
pub spot_more : (volume : Volume) (key_of : Naming → ObjectKey) (links : List Naming) (spots new : List Spot) (n under : ℕ) (x : Naming) → AllPairs (λ (a b : ObjectKey). a ≢ b) (keys volume.named)
    → TellsPlaces key_of volume (take n links) spots → slice_get links n ≡ Some x → slice_get (keys volume.named) under ≡ Some (key_of x) → new ≡ spots ++ record { of = under; number = n } ∷ []
    → TellsPlaces key_of volume (take (n + 1) links) new
spot_more volume key_of links spots new n under x once before there at new_is = λ place key here.
    let s : Spot = record { of = under; number = n } in
    let within = slice_get_within links n x there in
    let more : take (n + 1) links ≡ take n links ++ x ∷ [] = ap (λ (k : ℕ). take k links) one ∙ (take_push n links x within ∙ ap (λ (m : Naming). take n links ++ m ∷ []) (get_or_from_slice_get links n x x there)) in
    ap (λ (l : List Spot). map (λ (t : Spot). t.number) (filter (is_under place) l)) new_is
    ∙ (ap (map (λ (t : Spot). t.number)) (filter-append (is_under place) spots (s ∷ []))
    ∙ (map-append (λ (t : Spot). t.number) (filter (is_under place) spots) (filter (is_under place) (s ∷ []))
    ∙ (ap (λ (l : List ℕ). l ++ map (λ (t : Spot). t.number) (filter (is_under place) (s ∷ []))) (before place key here)
    ∙ (ap (λ (l : List ℕ). places_from (λ m. same_key (key_of m) key) 0 (take n links) ++ l) (own (under == place) (same_key (key_of x) key) (long within) (same_places (keys volume.named) under place (key_of x) key once at here))
    ∙ (sym (places_push (λ m. same_key (key_of m) key) 0 (take n links) x) ∙ ap (places_from (λ m. same_key (key_of m) key) 0) (sym more))))))
  where
    one : n + 1 ≡ suc n
    one = omega arith

    long : n < length links → n ≡ 0 + length (take n links)
    long within = let count = length-take n links in omega (arith, count, within)

    own : (a b : Bool) → n ≡ 0 + length (take n links) → a ≡ b → map (λ (t : Spot). t.number) (cond a (record { of = under; number = n } ∷ []) []) ≡ (if b then (0 + length (take n links)) ∷ [] else [])
    own true b count same = ap (λ (k : ℕ). k ∷ []) count ∙ ap (λ (c : Bool). if c then (0 + length (take n links)) ∷ [] else []) same
    own false b count same = ap (λ (c : Bool). if c then (0 + length (take n links)) ∷ [] else []) same

-- links as entries, with one more
pub entries_push : (before ls : List Naming) (n : Naming) → entries_behind before (ls ++ n ∷ []) ≡ entries_behind before ls ++ entry_behind (before ++ ls) n ∷ []
entries_push before [] n = ap (λ (l : List Naming). entry_behind l n ∷ []) (sym (append-nil before))
entries_push before (x ∷ ls) n =
    ap (λ (l : List IndexedLink). entry_behind before x ∷ l) (entries_push (before ++ x ∷ []) ls n ∙ ap (λ (l : List Naming). entries_behind (before ++ x ∷ []) ls ++ entry_behind l n ∷ []) (append_assoc before (x ∷ []) ls))

pub entries_links : (before ls : List Naming) → map (λ (e : IndexedLink). e.link) (entries_behind before ls) ≡ ls
entries_links before [] = refl
entries_links before (x ∷ ls) = ap (λ (l : List Naming). x ∷ l) (entries_links (before ++ x ∷ []) ls)

-- an entry is its link's, with the index that it has behind those before it
pub record IsEntry (before ls : List Naming) (i : ℕ) (e : IndexedLink) : Type 0 where
  pub link : slice_get ls i ≡ Some e.link
  pub is : e ≡ entry_behind (before ++ take i ls) e.link

pub entry_at : (before ls : List Naming) (i : ℕ) (e : IndexedLink) → slice_get (entries_behind before ls) i ≡ Some e → IsEntry before ls i e
entry_at before [] i e there = let never : None ≡ Some e = there in absurd cc
entry_at before (x ∷ ls) zero e there =
    let same : entry_behind before x ≡ e = cc in
    let link : x ≡ e.link = ap (λ (f : IndexedLink). f.link) same in
    record {
      link = ap (λ (n : Naming). Some n) link;
      is = sym same ∙ (ap (λ (l : List Naming). entry_behind l x) (sym (append-nil before)) ∙ ap (entry_behind (before ++ [])) link);
    }
entry_at before (x ∷ ls) (suc i) e there =
    let later = entry_at (before ++ x ∷ []) ls i e there in
    record { link = later.link; is = later.is ∙ ap (λ (l : List Naming). entry_behind l e.link) (append_assoc before (x ∷ []) (take i ls)) }

map_twice : {A B C : Type 0} (f : B → C) (g : A → B) (xs : List A) → map (λ x. f (g x)) xs ≡ map f (map g xs)
map_twice f g [] = refl
map_twice {A} {B} {C} f g (x ∷ xs) = ap (λ (l : List C). f (g x) ∷ l) (map_twice f g xs)

-- what the spots under an object tell of all entries
pub entries_told : (links : List Naming) (key_of : Naming → ObjectKey) (key : ObjectKey) (spots : List Spot) → map (λ spot. spot.number) spots ≡ places_from (λ n. same_key (key_of n) key) 0 links
    → map (λ spot. slice_get (indexed_links links) spot.number) spots ≡ map (λ (e : IndexedLink). Some e) (filter (λ e. same_key (key_of e.link) key) (indexed_links links))
entries_told links key_of key spots places =
    map_twice (slice_get (indexed_links links)) (λ (spot : Spot). spot.number) spots
    ∙ (ap (map (slice_get (indexed_links links))) (places ∙ (ap (places_from (λ n. same_key (key_of n) key) 0) (sym (entries_links [] links)) ∙ places_map (λ n. same_key (key_of n) key) (λ (e : IndexedLink). e.link) 0 (indexed_links links)))
    ∙ places_hold (λ e. same_key (key_of e.link) key) 0 (indexed_links links) (indexed_links links) (λ k. let same : 0 + k ≡ k = omega arith in ap (slice_get (indexed_links links)) same))

-- the spots of a directory ascend
pub spots_rise : (links : List Naming) (key : ObjectKey) (spots : List Spot) → map (λ spot. spot.number) spots ≡ places_from (λ n. same_key n.dir key) 0 links → AllPairs (λ (a b : Spot). a.number < b.number) spots
spots_rise links key spots places = pairs_map (λ (spot : Spot). spot.number) spots (subst (λ (l : List ℕ). AllPairs (λ (a b : ℕ). a < b) l) (sym places) (places_rise (λ n. same_key n.dir key) 0 links))

-- how many of them come before a link
pub spots_before : (links : List Naming) (key : ObjectKey) (spots : List Spot) (m : ℕ) → map (λ spot. spot.number) spots ≡ places_from (λ n. same_key n.dir key) 0 links
    → 2 + count_by (λ (spot : Spot). nat_lt spot.number m) spots ≡ next_index (take m links) key
spots_before links key spots m places =
    ap (λ (k : ℕ). 2 + k) (count_map (λ (k : ℕ). nat_lt k m) (λ (spot : Spot). spot.number) spots ∙ (ap (count_by (λ (k : ℕ). nat_lt k m)) places ∙ before))
  where
    zero_in : 0 + m ≡ m
    zero_in = omega arith

    before : count_by (λ (k : ℕ). nat_lt k m) (places_from (λ n. same_key n.dir key) 0 links) ≡ count_by (λ n. same_key n.dir key) (take m links)
    before = ap (λ (j : ℕ). count_by (λ (k : ℕ). nat_lt k j) (places_from (λ n. same_key n.dir key) 0 links)) (sym zero_in) ∙ places_before (λ n. same_key n.dir key) 0 m links

pub no_naming : Naming
no_naming = record { leaf = 0; dir = record { dir = 0; object = 0 }; target = record { dir = 0; object = 0 }; name = [] }

pub link_there : (links : List Naming) (n : ℕ) → n < length links → slice_get links n ≡ Some (get_or links n no_naming)
link_there links n within = slice_get-get_or links n no_naming within

-- one link more of an opened volume
pub spot_step : (volume : Volume) (image : Image) (key_of : Naming → ObjectKey) (spots new : List Spot) (n under : ℕ) → IsOpened volume image → n < length (links_in volume)
    → ((x : Naming) → slice_get (links_in volume) n ≡ Some x → slice_get (keys volume.named) under ≡ Some (key_of x))
    → TellsPlaces key_of volume (take n (links_in volume)) spots → new ≡ spots ++ record { of = under; number = n } ∷ [] → TellsPlaces key_of volume (take (n + 1) (links_in volume)) new
spot_step volume image key_of spots new n under opened within ends before new_is =
    let there = link_there (links_in volume) n within in
    spot_more volume key_of (links_in volume) spots new n under (get_or (links_in volume) n no_naming) opened.are_keys.once before there (ends (get_or (links_in volume) n no_naming) there) new_is

pub below_step : (spots new : List Spot) (n under : ℕ) → AreBelow n spots → new ≡ spots ++ record { of = under; number = n } ∷ [] → AreBelow (n + 1) new
below_step spots new n under below new_is =
    subst (AreBelow (n + 1)) (sym new_is) (All-push (λ (s : Spot). s.number < n + 1) spots (record { of = under; number = n }) (λ k d h. let less = below k d h in omega (arith, less)) (omega arith))

-- the links in order
pub places_sorted : (volume : Volume) (key_of : Naming → ObjectKey) (links : List Naming) (spots sorted : List Spot) → TellsPlaces key_of volume links spots → sorted ≡ ascending (λ spot. spot.of) spots → TellsPlaces key_of volume links sorted
places_sorted volume key_of links spots sorted tells is = λ place key at.
    ap (map (λ (s : Spot). s.number)) (ap (filter (is_under place)) is ∙ ascending_filter (λ (s : Spot). s.of) place spots) ∙ tells place key at

pub below_sorted : (n : ℕ) (spots sorted : List Spot) → AreBelow n spots → sorted ≡ ascending (λ spot. spot.of) spots → AreBelow n sorted
below_sorted n spots sorted below is =
    subst (AreBelow n) (sym is) (All-from_recursion (λ (s : Spot). s.number < n) (ascending (λ s. s.of) spots) (ascending_all (λ (s : Spot). s.of) (λ s. s.number < n) spots (places_to (λ (s : Spot). s.number < n) spots below)))
  where
    places_to : (P : Spot → Type 0) (xs : List Spot) → All P xs → AllByRecursion P xs
    places_to P [] all = tt
    places_to P (x ∷ xs) all = (all 0 x (omega arith), places_to P xs (λ k d h. all (suc k) d (omega (arith, h))))

-- what a link takes of an inode ref
module _ {S : Type 0} (all : List ObjectKey) (once : AllPairs (λ (a b : ObjectKey). a ≢ b) all) (old new : IndexMap RefKey ℕ S) (links : List Naming) (n : ℕ) (x : Naming) (dir object size now : ℕ)
    (there : slice_get links n ≡ Some x) (at_dir : slice_get all dir ≡ Some x.dir) (at_object : slice_get all object ≡ Some x.target) (size_is : size ≡ capped (length x.name + 10))
    (now_is : now ≡ capped (tally same_names old (record { dir = dir; object = object }) + size)) (before : AreSizes all old (take n links)) where
  one_more : take (n + 1) links ≡ take n links ++ x ∷ []
  one_more = ap (λ (k : ℕ). take k links) one ∙ (take_push n links x (slice_get_within links n x there) ∙ ap (λ (m : Naming). take n links ++ m ∷ []) (get_or_from_slice_get links n x x there))
    where
      one : n + 1 ≡ suc n
      one = omega arith

  pushed : (d o : ObjectKey) → reference_size (take n links ++ x ∷ []) d o ≡ reference_size (take n links) d o + (if same_key x.dir d && same_key x.target o then 10 + length x.name else 0)
  pushed d o = weight_push (λ (m : Naming). same_key m.dir d && same_key m.target o) (λ (m : Naming). 10 + length m.name) (take n links) x

  twice : (t len s sum y : ℕ) → y ≡ capped t → s ≡ capped (len + 10) → sum ≡ capped (y + s) → sum ≡ capped (t + (10 + len))
  twice t len s sum y was sizes is = omega arith

  own : (d o : ObjectKey) → (same_key x.dir d && same_key x.target o) ≡ true → x.dir ≡ d → x.target ≡ o → now ≡ capped (reference_size (take n links ++ x ∷ []) d o)
  own d o test same_d same_o =
      let was = before (record { dir = dir; object = object }) d o (at_dir ∙ ap (λ (k : ObjectKey). Some k) same_d) (at_object ∙ ap (λ (k : ObjectKey). Some k) same_o) in
      let push = pushed d o ∙ ap (λ (b : Bool). reference_size (take n links) d o + (if b then 10 + length x.name else 0)) test in
      twice (reference_size (take n links) d o) (length x.name) size now (tally same_names old (record { dir = dir; object = object })) was size_is now_is ∙ ap capped (sym push)

  pub size_now : now ≡ capped (reference_size (take n links ++ x ∷ []) x.dir x.target)
  size_now = own x.dir x.target (ap (λ (b : Bool). b && same_key x.target x.target) (same_key-self x.dir) ∙ same_key-self x.target) refl refl

  pub sizes_more : ((q : RefKey) → tally same_names new q ≡ (if same_names (record { dir = dir; object = object }) q then capped (tally same_names old (record { dir = dir; object = object }) + size) else tally same_names old q))
      → AreSizes all new (take (n + 1) links)
  sizes_more grows = λ q d o at_d at_o.
      let tests : same_names (record { dir = dir; object = object }) q ≡ (same_key x.dir d && same_key x.target o) =
      ap (λ (b : Bool). b && (object == q.object)) (same_places all dir q.dir x.dir d once at_dir at_d) ∙ ap (λ (b : Bool). same_key x.dir d && b) (same_places all object q.object x.target o once at_object at_o) in
      grows q ∙ (ap (λ (b : Bool). if b then capped (tally same_names old (record { dir = dir; object = object }) + size) else tally same_names old q) tests
      ∙ (by q d o at_d at_o (same_key x.dir d && same_key x.target o) refl ∙ ap (λ (l : List Naming). capped (reference_size l d o)) (sym one_more)))
    where
      by : (q : RefKey) (d o : ObjectKey) → slice_get all q.dir ≡ Some d → slice_get all q.object ≡ Some o → (b : Bool) → (same_key x.dir d && same_key x.target o) ≡ b
          → (if b then capped (tally same_names old (record { dir = dir; object = object }) + size) else tally same_names old q) ≡ capped (reference_size (take n links ++ x ∷ []) d o)
      by q d o at_d at_o true is =
          sym now_is ∙ own d o is (same_key-true x.dir d (and_left (same_key x.dir d) (same_key x.target o) is)) (same_key-true x.target o (and_right (same_key x.dir d) (same_key x.target o) is))
      by q d o at_d at_o false is =
          let push = pushed d o ∙ ap (λ (b : Bool). reference_size (take n links) d o + (if b then 10 + length x.name else 0)) is in
          let same : reference_size (take n links ++ x ∷ []) d o ≡ reference_size (take n links) d o = omega (arith, push) in
          before q d o at_d at_o ∙ ap capped (sym same)

  -- the test of the size
  pub flag_now : (flag : Bool) → flag ≡ nat_lt 3900 now → flag ≡ nat_lt 3900 (reference_size (take n links ++ x ∷ []) x.dir x.target)
  flag_now flag is = is ∙ test now (reference_size (take n links ++ x ∷ []) x.dir x.target) size_now
    where
      test : (a t : ℕ) → a ≡ capped t → nat_lt 3900 a ≡ nat_lt 3900 t
      test a t same = grind (arith, nat_tests)

  pub flags_more : (flags more : List Bool) (flag : Bool) → flags ≡ map (λ (e : IndexedLink). e.extended) (indexed_links (take n links)) → flag ≡ nat_lt 3900 now → more ≡ flags ++ flag ∷ [] → more ≡ map (λ (e : IndexedLink). e.extended) (indexed_links (take (n + 1) links))
  flags_more flags more flag are is more_is =
      more_is ∙ (ap (λ (l : List Bool). l ++ flag ∷ []) are ∙ (ap (λ (b : Bool). map (λ (e : IndexedLink). e.extended) (indexed_links (take n links)) ++ b ∷ []) (flag_now flag is)
      ∙ (sym (map-append (λ (e : IndexedLink). e.extended) (indexed_links (take n links)) (entry_behind (take n links) x ∷ []))
      ∙ ap (map (λ (e : IndexedLink). e.extended)) (sym (entries_push [] (take n links) x) ∙ ap indexed_links (sym one_more)))))
