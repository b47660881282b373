-- The links of a volume are one list, and its keys one set: what depends on them does not depend on how they were found.
use Rattle.reiser_volume_names.proofs.Imports.{◌≡◌, ℕ, ◌+◌, ◌==◌, Bool, true, false, not, ◌&&◌, List, [], ◌∷◌, length, filter, count_by, sum_by, AllPairs, refl, sym, ap, ◌∙◌, if◌then◌else◌, ◌≢◌, IsEquivalence, IsDistinct, is_lt, AllPairs-filter, length-filter, IsDistinct-from_AllPairs, is_member-Decides, is_member-filter, length-from_same_keys, extref_hash, ReiserItem, ObjectKey, Naming, same_key, root, namings, is_followed, Keys, same_key-true, same_key-self, AreLinks, AreNamedKeys, TellsNamed, object_cmp, link_list, ino_of_key, extended, extended_crowd_of}
use Rattle.std.specs.Bool.{Decides}
use Rattle.std.specs.Set.{is_member}
use Rattle.reiser_volume_objects.proofs.fs_paths.FirstPlaces.{both_ways}

pub same_decides : (a b : ObjectKey) → Decides (same_key a b) (a ≡ b)
same_decides a b = (same_key-true a b, λ e. ap (same_key a) (sym e) ∙ same_key-self a)

pub flips : (a b : ObjectKey) → same_key a b ≡ same_key b a
flips a b = both_ways (same_key a b) (same_key b a) (λ h. (same_decides b a).1 (sym (same_key-true a b h))) (λ h. (same_decides a b).1 (sym (same_key-true b a h)))

pub same_laws : IsEquivalence same_key
same_laws = record { refl = same_key-self; symm = flips; congr = λ x y z h. ap (λ (k : ObjectKey). same_key k z) (same_key-true x y h) }

filter_both : {X : Type 0} (p q : X → Bool) (xs : List X) → filter (λ x. q x && p x) xs ≡ filter q (filter p xs)
filter_both p q [] = refl
filter_both p q (x ∷ xs) = outer (p x) (filter_both p q xs)
  where
    both : (b : Bool) → filter (λ y. q y && p y) xs ≡ filter q (filter p xs)
        → (if b && true then x ∷ filter (λ y. q y && p y) xs else filter (λ y. q y && p y) xs) ≡ (if b then x ∷ filter q (filter p xs) else filter q (filter p xs))
    both true same = ap (λ l. x ∷ l) same
    both false same = same

    none : (b : Bool) → filter (λ y. q y && p y) xs ≡ filter q (filter p xs)
        → (if b && false then x ∷ filter (λ y. q y && p y) xs else filter (λ y. q y && p y) xs) ≡ filter q (filter p xs)
    none true same = same
    none false same = same

    outer : (a : Bool) → filter (λ y. q y && p y) xs ≡ filter q (filter p xs)
        → (if q x && a then x ∷ filter (λ y. q y && p y) xs else filter (λ y. q y && p y) xs) ≡ filter q (if a then x ∷ filter p xs else filter p xs)
    outer true same = both (q x) same
    outer false same = none (q x) same

-- the links, by the test of the named objects
pub links_found : (items : List ReiserItem) (ns : List Naming) (has : Keys) → ns ≡ namings items → TellsNamed items has → AreLinks items (filter (λ n. has n.dir) ns) (link_list has ns)
links_found items ns has ns_is exact = record { has = has; exact = exact; are_visible = ap (filter (λ n. has n.dir)) ns_is; are_links = filter_both (λ n. has n.dir) is_followed ns }

same_test : (items : List ReiserItem) (f g : Keys) → TellsNamed items f → TellsNamed items g → f ≡ g
same_test items f g a b = λ j key. both_ways (f key) (g key) (λ h. (b key).1 ((a key).0 h)) (λ h. (a key).1 ((b key).0 h)) j

module _ (items : List ReiserItem) (visible links also_visible also_links : List Naming) (a : AreLinks items visible links) (b : AreLinks items also_visible also_links) where
  pub visible_one : visible ≡ also_visible
  visible_one = a.are_visible ∙ (ap (λ (has : Keys). filter (λ n. has n.dir) (namings items)) (same_test items a.has b.has a.exact b.exact) ∙ sym b.are_visible)

  pub links_one : links ≡ also_links
  links_one = a.are_links ∙ (ap (filter is_followed) visible_one ∙ sym b.are_links)

module _ (items : List ReiserItem) (keys also : List ObjectKey) (a : AreNamedKeys items keys) (b : AreNamedKeys items also) where
  same_member : (key : ObjectKey) → is_member same_key keys key ≡ is_member same_key also key
  same_member key =
      let first = is_member-Decides same_decides keys key in
      let second = is_member-Decides same_decides also key in
      both_ways (is_member same_key keys key) (is_member same_key also key) (λ h. second.1 ((b.exact key).1 ((a.exact key).0 (first.0 h)))) (λ h. first.1 ((a.exact key).1 ((b.exact key).0 (second.0 h))))

  kept : (p : ObjectKey → Bool) (ks : List ObjectKey) (key : ObjectKey) → is_member same_key (filter p ks) key ≡ (is_member same_key ks key && p key)
  kept p ks key = is_member-filter same_laws p key (λ x h. ap p (same_key-true key x h)) ks

  apart : (p : ObjectKey → Bool) (ks : List ObjectKey) → AllPairs (λ x y. x ≢ y) ks → IsDistinct same_key (filter p ks)
  apart p ks once = IsDistinct-from_AllPairs same_decides (filter p ks) (AllPairs-filter (λ x y. x ≢ y) p ks once)

  -- as many of the keys pass a test
  pub count_one : (p : ObjectKey → Bool) → count_by p keys ≡ count_by p also
  count_one p =
      sym (length-filter p keys)
      ∙ (length-from_same_keys same_laws (filter p keys) (filter p also) (apart p keys a.once) (apart p also b.once)
      (λ key. kept p keys key ∙ (ap (λ (m : Bool). m && p key) (same_member key) ∙ sym (kept p also key)))
      ∙ length-filter p also)

  inode_one : ino_of_key keys ≡ ino_of_key also
  inode_one = λ j key. if same_key key root then 256 else 257 + count_one (λ k. is_lt (object_cmp k key) && not (same_key k root)) j

  pub extended_one : (links : List Naming) (object : ObjectKey) (hash : ℕ) → extended_crowd_of links keys object hash ≡ extended_crowd_of links also object hash
  extended_one links object hash =
      ap (λ (inode : ObjectKey → ℕ). sum_by (λ n. 18 + length n.name) (filter (λ n. same_key n.target object && (extref_hash (inode n.dir) n.name == hash)) (extended [] links))) inode_one
