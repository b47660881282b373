-- The table of the named objects with their stat data.
use Rattle.reiser_volume_names.proofs.Imports.{◌≡◌, ℕ, ◌+◌, ◌<◌, ◌==◌, Bool, true, false, cond, ◌&&◌, ◌||◌, List, [], ◌∷◌, ◌++◌, length, get_or, take, Option, Some, None, is_some, Contains, refl, sym, ap, subst, ◌∙◌, true≢false, if◌then◌else◌, add-one, arith, IsSome, slice_get, position, IsTotalOrder, tied_then, list_any, dedup, dedup_from, IsDistinct, IsSorted, IsStrictlySortedBy, nat_cmp, is_eq, nat_tests, list_any-append, IsStrictlySortedBy-dedup, position-Some, slice_get-map, slice_get-get_or, AllPairs-from_IsDistinct, IndexMap, keys, get, IndexSet, contains, ReiserItem, ObjectKey, ObjectStat, stat_of_object, same_key, IsNamed, IsReach, some_same, same_key-true, AreNamedKeys, TellsNamed, object_cmp}
use Rattle.indexmap.specs.IndexMap.{IsUnique}
use Rattle.std.proofs.Math.Seq.{take-suc}
use Rattle.std.specs.Option.{MatchOption, option_map}
use Rattle.std.proofs.lemmas.Cmp.{nat_cmp_total, on_total, then_total}
use Rattle.std.proofs.lemmas.Map.Views.{Contains-keys_from_lookup, IsSome-lookup_from_Contains}
use Rattle.reiser_volume_names.specs.Known.{HasStats, is_known}
use Rattle.reiser_volume_names.proofs.Uniqueness.{same_decides, same_laws, flips}

-- keys that differ stay as they are where equal neighbours are dropped
dedup_apart : (k : ObjectKey) (ks : List ObjectKey) → IsDistinct same_key (k ∷ ks) → dedup_from same_key k ks ≡ k ∷ ks
unfolding IsDistinct
dedup_apart k [] apart = refl
dedup_apart k (x ∷ xs) apart = by (same_key x k) (flips x k ∙ apart.0.0) (dedup_apart x xs apart.1)
  where
    by : (b : Bool) → b ≡ false → dedup_from same_key x xs ≡ x ∷ xs → cond b (dedup_from same_key k xs) (k ∷ dedup_from same_key x xs) ≡ k ∷ (x ∷ xs)
    by false is rest = ap (λ (l : List ObjectKey). k ∷ l) rest
    by true is rest = absurd (true≢false is)

dedup_distinct : (ks : List ObjectKey) → IsDistinct same_key ks → dedup same_key ks ≡ ks
dedup_distinct [] apart = refl
dedup_distinct (k ∷ ks) apart = dedup_apart k ks apart

number_ties : (x y : ℕ) → (x == y) ≡ is_eq (nat_cmp x y)
number_ties x y = grind (arith, nat_tests)

pub object_ties : (a b : ObjectKey) → same_key a b ≡ is_eq (object_cmp a b)
object_ties a b =
    ap (λ (t : Bool). t && (a.object == b.object)) (number_ties a.dir b.dir)
    ∙ (ap (λ (t : Bool). is_eq (nat_cmp a.dir b.dir) && t) (number_ties a.object b.object) ∙ tied_then (nat_cmp a.dir b.dir) (nat_cmp a.object b.object))

pub object_total : IsTotalOrder object_cmp
object_total = then_total (on_total (λ (k : ObjectKey). k.dir) nat_cmp_total) (on_total (λ (k : ObjectKey). k.object) nat_cmp_total)

-- keys that are sorted and differ ascend
pub ascending : (ks : List ObjectKey) → IsSorted object_cmp ks → IsDistinct same_key ks → IsStrictlySortedBy object_cmp ks
ascending ks sorted apart = subst (IsStrictlySortedBy object_cmp) (dedup_distinct ks apart) (IsStrictlySortedBy-dedup object_total object_ties ks sorted)

module _ {S T : Type 0} (items : List ReiserItem) (table : IndexMap ObjectKey ObjectStat S) (named : IndexSet ObjectKey T) (has : HasStats items table named.keys) (reach : IsReach items (contains same_key named)) where
  -- what is in the table is named
  found : (key : ObjectKey) → Contains (keys table) key → contains same_key named key ≡ true
  found key among = by (contains same_key named key) refl
    where
      there : IsSome (get same_key table key)
      there = IsSome-lookup_from_Contains same_laws key table.entries among

      by : (b : Bool) → contains same_key named key ≡ b → b ≡ true
      by true is = refl
      by false is = absurd (true≢false (sym there ∙ ap is_some (has key ∙ ap (λ (b : Bool). if b then stat_of_object items key else None) is)))

  pub stat_found : (key : ObjectKey) → Contains (keys table) key → get same_key table key ≡ stat_of_object items key
  stat_found key among = has key ∙ ap (λ (b : Bool). if b then stat_of_object items key else None) (found key among)

  -- and what is named is in the table
  known : (key : ObjectKey) → IsNamed items key → is_known table key ≡ true
  known key is = let whole = reach.whole key is in ap is_some (has key ∙ ap (λ (b : Bool). if b then stat_of_object items key else None) whole) ∙ (reach.seen key whole).has_stat

  pub known_named : TellsNamed items (is_known table)
  known_named key = (λ there. (reach.seen key (found key (Contains-keys_from_lookup same_key-true key table.entries there))).named, known key)

  pub keys_found : IsUnique same_key table → AreNamedKeys items (keys table)
  keys_found once = record {
    once = AllPairs-from_IsDistinct same_decides (keys table) once;
    exact = λ key. (λ among. (reach.seen key (found key among)).named, λ is. Contains-keys_from_lookup same_key-true key table.entries (known key is));
  }

-- the entry at a place has the stat data of the key there
pub stat_there : {S : Type 0} (table : IndexMap ObjectKey ObjectStat S) (i : ℕ) (k : ObjectKey) (v : ObjectStat) (key : ObjectKey) → slice_get table.entries i ≡ Some (k, v) → get same_key table k ≡ Some v → slice_get (keys table) i ≡ Some key
    → get same_key table key ≡ Some v
stat_there table i k v key entry value there =
    let here : slice_get (keys table) i ≡ Some k = slice_get-map (λ (e : ObjectKey × ObjectStat). e.0) table.entries i ∙ ap (option_map (λ (e : ObjectKey × ObjectStat). e.0)) entry in
    ap (get same_key table) (some_same _ key k there here) ∙ value

-- a search by a key gives its place
pub place_found : {S : Type 0} (table : IndexMap ObjectKey ObjectStat S) (key : ObjectKey) (o : Option ℕ) → o ≡ position (same_key key) (keys table) → is_some o ≡ is_some (get same_key table key)
    → MatchOption o (Contains (keys table) key → ⊥) (λ i. slice_get (keys table) i ≡ Some key)
place_found table key None is found = λ among. true≢false (sym (IsSome-lookup_from_Contains same_laws key table.entries among) ∙ sym found)
place_found table key (Some i) is found =
    let at = position-Some (same_key key) (keys table) i key (sym is) in
    slice_get-get_or (keys table) i key at.0 ∙ ap (λ (k : ObjectKey). Some k) (sym (same_key-true key (get_or (keys table) i key) at.1))

-- the first keys, with one more
pub take_next : (ks : List ObjectKey) (i : ℕ) (key d : ObjectKey) → i < length ks → key ≡ get_or ks i d → take (i + 1) ks ≡ take i ks ++ key ∷ []
take_next ks i key d within is = ap (λ (n : ℕ). take n ks) (add-one i) ∙ (take-suc ks i d within ∙ ap (λ (k : ObjectKey). take i ks ++ k ∷ []) (sym is))

-- the same keys in another order
pub sorted_reach : {S : Type 0} (items : List ReiserItem) (reached named : IndexSet ObjectKey S) → IsReach items (contains same_key reached) → ((q : ObjectKey) → contains same_key named q ≡ contains same_key reached q) → IsReach items (contains same_key named)
sorted_reach items reached named reach same =
    let tests : contains same_key reached ≡ contains same_key named = λ j q. sym (same q) j in
    subst (IsReach items) tests reach
