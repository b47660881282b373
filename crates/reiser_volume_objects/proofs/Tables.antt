-- The table of objects, with one more item.
use Rattle.reiser_volume_objects.proofs.Imports.{◌≡◌, ℕ, ◌+◌, ◌==◌, Bool, true, false, ◌&&◌, List, [], ◌∷◌, ◌++◌, length, map, filter, take, get_or, find, slice_get, Option, Some, None, refl, sym, ap, subst, ◌∙◌, append_assoc, if◌then◌else◌, arith, option_or, option_map, option_map_or, MatchOption, filter-append, filter_more, eqb-true, slice_get_within, get_or_from_slice_get, map-append, append-nil, nat_tests, find-append, get, Updates, ReiserItem, is_save_link, ObjectKey, Naming, Object, Objects, same_key, object_key_of, items_of, is_listed, naming_by, namings_in, namings, Summarises, with_item, HasNoted, IsBehind, TellsItems, first_save_link, without_repeats, leaves_of, IsFirstLeaf}
use Rattle.std.proofs.lemmas.Grind.{flat_map-append}
use Rattle.reiser_items.specs.Entries.{EntryValue}
use Rattle.reiser_volume_objects.proofs.Summaries.{summary_push}

pub and_left : (a b : Bool) → (a && b) ≡ true → a ≡ true
and_left true b is = refl
and_left false b is = is

pub and_right : (a b : Bool) → (a && b) ≡ true → b ≡ true
and_right true b is = is
and_right false b is = cc

-- keys that pass the test are the same
pub same_key-true : (a b : ObjectKey) → same_key a b ≡ true → a ≡ b
same_key-true a b is =
    let dir : a.dir ≡ b.dir = eqb-true a.dir b.dir (and_left (a.dir == b.dir) (a.object == b.object) is) in
    let object : a.object ≡ b.object = eqb-true a.object b.object (and_right (a.dir == b.dir) (a.object == b.object) is) in
    λ j. record { dir = dir j; object = object j }

pub same_key-self : (a : ObjectKey) → same_key a a ≡ true
same_key-self a = grind (arith, nat_tests)

-- one more entry of a directory item
pub take_entry : (leaf : ℕ) (dir : ObjectKey) (old now new : List Naming) (es : List EntryValue) (i : ℕ) (e : EntryValue) → slice_get es i ≡ Some e
    → now ≡ old ++ map (naming_by leaf dir) (filter is_listed (take i es))
    → new ≡ now ++ (if is_listed e then naming_by leaf dir e ∷ [] else [])
    → new ≡ old ++ map (naming_by leaf dir) (filter is_listed (take (i + 1) es))
take_entry leaf dir old now new es i e at so_far added =
    let more = filter_more is_listed es i e (slice_get_within es i e at) in
    let here : get_or es i e ≡ e = get_or_from_slice_get es i e e at in
    added ∙ (ap (λ (t : List Naming). t ++ (if is_listed e then naming_by leaf dir e ∷ [] else [])) so_far
    ∙ (append_assoc old (map (naming_by leaf dir) (filter is_listed (take i es))) (if is_listed e then naming_by leaf dir e ∷ [] else [])
    ∙ ap (λ (t : List Naming). old ++ t)
    (ap (λ (t : List Naming). map (naming_by leaf dir) (filter is_listed (take i es)) ++ t) (one (is_listed e))
    ∙ (sym (map-append (naming_by leaf dir) (filter is_listed (take i es)) (if is_listed e then e ∷ [] else []))
    ∙ ap (map (naming_by leaf dir)) (sym (more ∙ ap (λ (x : EntryValue). filter is_listed (take i es) ++ (if is_listed x then x ∷ [] else [])) here))))))
  where
    one : (b : Bool) → (if b then naming_by leaf dir e ∷ [] else []) ≡ map (naming_by leaf dir) (if b then e ∷ [] else [])
    one true = refl
    one false = refl

-- the items of an object, with one item of another
others_stay : (key : ObjectKey) (items : List ReiserItem) (i : ReiserItem) → same_key (object_key_of i.head) key ≡ false → items_of key (items ++ i ∷ []) ≡ items_of key items
others_stay key items i other =
    filter-append (λ x. same_key (object_key_of x.head) key) items (i ∷ [])
    ∙ (ap (λ (b : Bool). items_of key items ++ (if b then i ∷ [] else [])) other ∙ append-nil (items_of key items))

-- with one item of its own
own_push : (key : ObjectKey) (items : List ReiserItem) (i : ReiserItem) → same_key (object_key_of i.head) key ≡ true → items_of key (items ++ i ∷ []) ≡ items_of key items ++ i ∷ []
own_push key items i own =
    filter-append (λ x. same_key (object_key_of x.head) key) items (i ∷ []) ∙ ap (λ (b : Bool). items_of key items ++ (if b then i ∷ [] else [])) own

map_or : (a b : Option ReiserItem) → option_map (λ i. i.head.object) (option_or a b) ≡ option_or (option_map (λ i. i.head.object) a) (option_map (λ i. i.head.object) b)
map_or None b = refl
map_or (Some a) b = refl

-- what the table says of a key
abbrev Says : Objects → ObjectKey → List ReiserItem → Type 0
Says t key xs = TellsItems (get same_key t.map key) xs

at_option : (g h : Option Object) (xs ys : List ReiserItem) → g ≡ h → xs ≡ ys → MatchOption h (ys ≡ []) (λ o. Summarises o ys) → MatchOption g (xs ≡ []) (λ o. Summarises o xs)
at_option g h xs ys same alike says =
    subst (λ (zs : List ReiserItem). MatchOption g (zs ≡ []) (λ o. Summarises o zs)) (sym alike)
    (subst (λ (k : Option Object). MatchOption k (ys ≡ []) (λ o. Summarises o ys)) (sym same) says)

own_says : (t u : Objects) (items : List ReiserItem) (i : ReiserItem) (o : Object) → IsBehind items i → Summarises o (items_of (object_key_of i.head) items)
    → Updates same_key t.map u.map (object_key_of i.head) (Some (with_item o i)) → Says u (object_key_of i.head) (items_of (object_key_of i.head) (items ++ i ∷ []))
own_says t u items i o behind summary updates =
    at_option _ (Some (with_item o i)) _ (items_of (object_key_of i.head) items ++ i ∷ []) updates.1 (own_push (object_key_of i.head) items i (same_key-self (object_key_of i.head)))
    (summary_push o (items_of (object_key_of i.head) items) i summary behind)

says : (t u : Objects) (items : List ReiserItem) (i : ReiserItem) (o : Object) → HasNoted t items → IsBehind items i → Summarises o (items_of (object_key_of i.head) items)
    → Updates same_key t.map u.map (object_key_of i.head) (Some (with_item o i)) → (key : ObjectKey) (b : Bool) → same_key (object_key_of i.head) key ≡ b → Says u key (items_of key (items ++ i ∷ []))
says t u items i o noted behind summary updates key true own =
    subst (λ (k : ObjectKey). Says u k (items_of k (items ++ i ∷ []))) (same_key-true (object_key_of i.head) key own) (own_says t u items i o behind summary updates)
says t u items i o noted behind summary updates key false other =
    at_option _ (get same_key t.map key) _ (items_of key items) (updates.2 key other) (others_stay key items i other) (noted.each key)

-- the first leaf of an object stays, with one more item
first_stays : (key : ObjectKey) (items : List ReiserItem) (i : ReiserItem) (place : ℕ) → IsFirstLeaf key items place → IsFirstLeaf key (items ++ i ∷ []) place
first_stays key items i place f = record {
  before = f.before;
  first = f.first;
  after = f.after ++ i ∷ [];
  split = ap (λ (t : List ReiserItem). t ++ i ∷ []) f.split ∙ append_assoc f.before (f.first ∷ f.after) (i ∷ []);
  none_before = f.none_before;
  own = f.own;
  here = f.here;
}

-- the leaf of the first item of an object
first_here : (items : List ReiserItem) (i : ReiserItem) (place : ℕ) → items_of (object_key_of i.head) items ≡ [] → place + 1 ≡ length (leaves_of (items ++ i ∷ [])) → IsFirstLeaf (object_key_of i.head) (items ++ i ∷ []) place
first_here items i place none here = record { before = items; first = i; after = []; split = refl; none_before = none; own = refl; here = here }

-- the first leaf of the object of the item, by what was kept of it
own_first : (items : List ReiserItem) (i : ReiserItem) (g : Option Object) (place : ℕ) → MatchOption g (items_of (object_key_of i.head) items ≡ []) (λ o. Summarises o (items_of (object_key_of i.head) items))
    → MatchOption g (Unit {0}) (λ o. IsFirstLeaf (object_key_of i.head) items o.first) → place + 1 ≡ length (leaves_of (items ++ i ∷ []))
    → IsFirstLeaf (object_key_of i.head) (items ++ i ∷ []) (option_map_or (λ o. o.first) g place)
own_first items i None place none first here = first_here items i place none here
own_first items i (Some o) place some first here = first_stays (object_key_of i.head) items i o.first first

abbrev HasFirst : Option Object → ObjectKey → List ReiserItem → Type 0
HasFirst g key items = MatchOption g (Unit {0}) (λ o. IsFirstLeaf key items o.first)

others_first : (items : List ReiserItem) (i : ReiserItem) (g : Option Object) (key : ObjectKey) → HasFirst g key items → HasFirst g key (items ++ i ∷ [])
others_first items i None key h = tt
others_first items i (Some o) key h = first_stays key items i o.first h

firsts : (t u : Objects) (items : List ReiserItem) (i : ReiserItem) (o : Object) → HasNoted t items → IsFirstLeaf (object_key_of i.head) (items ++ i ∷ []) o.first
    → Updates same_key t.map u.map (object_key_of i.head) (Some (with_item o i)) → (key : ObjectKey) (b : Bool) → same_key (object_key_of i.head) key ≡ b → HasFirst (get same_key u.map key) key (items ++ i ∷ [])
firsts t u items i o noted first updates key true own =
    subst (λ (k : ObjectKey). HasFirst (get same_key u.map k) k (items ++ i ∷ [])) (same_key-true (object_key_of i.head) key own)
    (subst (λ (g : Option Object). HasFirst g (object_key_of i.head) (items ++ i ∷ [])) (sym updates.1) first)
firsts t u items i o noted first updates key false other =
    subst (λ (g : Option Object). HasFirst g key (items ++ i ∷ [])) (sym (updates.2 key other)) (others_first items i (get same_key t.map key) key (noted.firsts key))

-- the leaves, with one more item
leaves_push : (items : List ReiserItem) (i : ReiserItem) → leaves_of (items ++ i ∷ []) ≡ without_repeats (map (λ x. x.leaf) items ++ i.leaf ∷ [])
leaves_push items i = ap without_repeats (map-append (λ (x : ReiserItem). x.leaf) items (i ∷ []))

pub leaves_noted : (items : List ReiserItem) (i : ReiserItem) (old new : List ℕ) → old ≡ leaves_of items
    → ((leaves : List ℕ) → old ≡ without_repeats leaves → new ≡ without_repeats (leaves ++ i.leaf ∷ [])) → new ≡ leaves_of (items ++ i ∷ [])
leaves_noted items i old new is added = added (map (λ x. x.leaf) items) is ∙ sym (leaves_push items i)

pub noted_push : (t u : Objects) (items : List ReiserItem) (i : ReiserItem) (o : Object) → HasNoted t items → IsBehind items i → Summarises o (items_of (object_key_of i.head) items)
    → Updates same_key t.map u.map (object_key_of i.head) (Some (with_item o i))
    → u.namings.items ≡ t.namings.items ++ namings_in i
    → u.save_link ≡ option_or t.save_link (first_save_link (i ∷ []))
    → u.leaves ≡ leaves_of (items ++ i ∷ [])
    → (place : ℕ) → place + 1 ≡ length u.leaves → o.first ≡ option_map_or (λ o. o.first) (get same_key t.map (object_key_of i.head)) place
    → HasNoted u (items ++ i ∷ [])
noted_push t u items i o noted behind summary updates named saved leaves place here first = record {
  each = λ key. says t u items i o noted behind summary updates key (same_key (object_key_of i.head) key) refl;
  namings = named ∙ (ap (λ (t : List Naming). t ++ namings_in i) noted.namings ∙ (ap (λ (t : List Naming). namings items ++ t) (sym (append-nil (namings_in i))) ∙ sym (flat_map-append namings_in items (i ∷ []))));
  save_link = saved ∙ (ap (λ (s : Option ℕ). option_or s (first_save_link (i ∷ []))) noted.save_link ∙ (sym (map_or (find (λ x. is_save_link x.head) items) (find (λ x. is_save_link x.head) (i ∷ []))) ∙ ap (option_map (λ x. x.head.object)) (sym (find-append (λ x. is_save_link x.head) items (i ∷ [])))));
  leaves = leaves;
  firsts = λ key.
      firsts t u items i o noted
      (subst (IsFirstLeaf (object_key_of i.head) (items ++ i ∷ [])) (sym first)
      (own_first items i (get same_key t.map (object_key_of i.head)) place (noted.each (object_key_of i.head)) (noted.firsts (object_key_of i.head)) (here ∙ ap length leaves)))
      updates key (same_key (object_key_of i.head) key) refl;
}
