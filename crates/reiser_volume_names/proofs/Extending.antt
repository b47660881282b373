-- The sums of extended references, with one more name.
use Rattle.reiser_volume_names.proofs.Imports.{◌≡◌, ℕ, ◌+◌, ◌<◌, ◌≤◌, ◌==◌, nat_lt, Bool, true, false, ◌&&◌, List, [], ◌∷◌, ◌++◌, length, refl, sym, ap, subst, ◌∙◌, append_assoc, if◌then◌else◌, arith, lt-ltb, le-ltb, append-nil, VolAnswer, Refused, Fault, Memory, HashCrowd, extref_hash, IndexMap, ObjectKey, Naming, same_key, same_key-true, same_key-self, and_left, and_right, Crowd, same_crowd, same_names, CountsExtended, BlamesExtended, ino_of_key, reference_size, extended, extended_sum, tally, capped}
use Rattle.reiser_volume_names.specs.declared.extended.NamesIn.{NamesIn}
use Rattle.reiser_volume_names.proofs.Crowding.{same_crowd-true, same_crowd-self}
use Rattle.reiser_volume_names.proofs.Sums.{weight_push, weight_of_part}

-- a crowd with one more name
pub crowd_push : (keys : List ObjectKey) (links : List Naming) (n : Naming) (dir : ObjectKey) (hash : ℕ) → extended_sum keys (links ++ n ∷ []) dir hash ≡ extended_sum keys links dir hash + (if same_key n.target dir && (extref_hash (ino_of_key keys n.dir) n.name == hash) then 18 + length n.name else 0)
crowd_push keys links n dir hash = weight_push (λ (m : Naming). same_key m.target dir && (extref_hash (ino_of_key keys m.dir) m.name == hash)) (λ (m : Naming). 18 + length m.name) links n

-- a crowd of some first links is no larger than that of all
pub crowd_of_part : (keys : List ObjectKey) (links more : List Naming) (dir : ObjectKey) (hash : ℕ) → extended_sum keys links dir hash ≤ extended_sum keys (links ++ more) dir hash
crowd_of_part keys links more dir hash = weight_of_part (λ (m : Naming). same_key m.target dir && (extref_hash (ino_of_key keys m.dir) m.name == hash)) (λ (m : Naming). 18 + length m.name) links more

-- the crowd of a name
abbrev crowd_by : List ObjectKey → Naming → Crowd
crowd_by keys n = record { of = n.target; hash = extref_hash (ino_of_key keys n.dir) n.name }

uncapped : (t len size sum : ℕ) → size ≡ capped (len + 18) → sum ≡ capped (t + size) → sum ≤ 3900 → t + (18 + len) ≡ sum
uncapped t len size sum sizes sums fit = omega arith

over : (t len size sum : ℕ) → size ≡ capped (len + 18) → sum ≡ capped (t + size) → 3901 ≤ sum → 3900 < t + (18 + len)
over t len size sum sizes sums large = omega arith

module _ {S : Type 0} (keys : List ObjectKey) (old new : IndexMap Crowd ℕ S) (links : List Naming) (n : Naming) (size sum : ℕ) (counts : CountsExtended keys old links) (sizes : size ≡ capped (length n.name + 18))
    (sums : sum ≡ capped (tally same_crowd old (crowd_by keys n) + size)) where
  push_own : (q : Crowd) → same_crowd (crowd_by keys n) q ≡ true → extended_sum keys (links ++ n ∷ []) q.of q.hash ≡ tally same_crowd old (crowd_by keys n) + (18 + length n.name)
  push_own q own =
      let same : crowd_by keys n ≡ q = same_crowd-true (crowd_by keys n) q own in
      let was : tally same_crowd old (crowd_by keys n) ≡ extended_sum keys links q.of q.hash = counts.each (crowd_by keys n) ∙ ap (λ (c : Crowd). extended_sum keys links c.of c.hash) same in
      crowd_push keys links n q.of q.hash ∙ (ap (λ (b : Bool). extended_sum keys links q.of q.hash + (if b then 18 + length n.name else 0)) own ∙ ap (λ (t : ℕ). t + (18 + length n.name)) (sym was))

  push_other : (q : Crowd) → same_crowd (crowd_by keys n) q ≡ false → extended_sum keys (links ++ n ∷ []) q.of q.hash ≡ extended_sum keys links q.of q.hash
  push_other q other =
      let more = crowd_push keys links n q.of q.hash in
      let none : (if same_crowd (crowd_by keys n) q then 18 + length n.name else 0) ≡ 0 = ap (λ (b : Bool). if b then 18 + length n.name else 0) other in
      omega (arith, more, none)

  -- one more name that fits
  pub joined : ((q : Crowd) → tally same_crowd new q ≡ (if same_crowd (crowd_by keys n) q then capped (tally same_crowd old (crowd_by keys n) + size) else tally same_crowd old q)) → sum ≤ 3900 → CountsExtended keys new (links ++ n ∷ [])
  joined has fit = record { each = λ q. each q (same_crowd (crowd_by keys n) q) refl; fit = λ dir hash. fits (record { of = dir; hash = hash }) (same_crowd (crowd_by keys n) (record { of = dir; hash = hash })) refl }
    where
      each : (q : Crowd) (b : Bool) → same_crowd (crowd_by keys n) q ≡ b → tally same_crowd new q ≡ extended_sum keys (links ++ n ∷ []) q.of q.hash
      each q true own =
          has q ∙ (ap (λ (b : Bool). if b then capped (tally same_crowd old (crowd_by keys n) + size) else tally same_crowd old q) own
          ∙ (sym sums ∙ (sym (uncapped (tally same_crowd old (crowd_by keys n)) (length n.name) size sum sizes sums fit) ∙ sym (push_own q own))))
      each q false other =
          has q ∙ (ap (λ (b : Bool). if b then capped (tally same_crowd old (crowd_by keys n) + size) else tally same_crowd old q) other ∙ (counts.each q ∙ sym (push_other q other)))

      fits : (q : Crowd) (b : Bool) → same_crowd (crowd_by keys n) q ≡ b → extended_sum keys (links ++ n ∷ []) q.of q.hash ≤ 3900
      fits q true own = omega (arith, push_own q own, uncapped (tally same_crowd old (crowd_by keys n)) (length n.name) size sum sizes sums fit, fit)
      fits q false other = omega (arith, push_other q other, counts.fit q.of q.hash)

  -- one that does not
  pub crowded : 3901 ≤ sum → 3900 < extended_sum keys (links ++ n ∷ []) n.target (extref_hash (ino_of_key keys n.dir) n.name)
  crowded large = omega (arith, push_own (crowd_by keys n) (same_crowd-self (crowd_by keys n)), over (tally same_crowd old (crowd_by keys n)) (length n.name) size sum sizes sums large)

-- the same by a hash that is that of the name
module _ {S : Type 0} (keys : List ObjectKey) (old new : IndexMap Crowd ℕ S) (links : List Naming) (n : Naming) (hash size sum : ℕ) (counts : CountsExtended keys old links) (hash_is : hash ≡ extref_hash (ino_of_key keys n.dir) n.name) (sizes : size ≡ capped (length n.name + 18))
    (sums : sum ≡ capped (tally same_crowd old (record { of = n.target; hash = hash }) + size)) where
  pub joined_at : ((q : Crowd) → tally same_crowd new q ≡ (if same_crowd (record { of = n.target; hash = hash }) q then capped (tally same_crowd old (record { of = n.target; hash = hash }) + size) else tally same_crowd old q)) → sum ≤ 3900 → CountsExtended keys new (links ++ n ∷ [])
  joined_at has fit =
      let sums_too : sum ≡ capped (tally same_crowd old (crowd_by keys n) + size) = subst (λ (h : ℕ). sum ≡ capped (tally same_crowd old (record { of = n.target; hash = h }) + size)) hash_is sums in
      joined keys old new links n size sum counts sizes sums_too
      (subst (λ (h : ℕ). (q : Crowd) → tally same_crowd new q ≡ (if same_crowd (record { of = n.target; hash = h }) q then capped (tally same_crowd old (record { of = n.target; hash = h }) + size) else tally same_crowd old q)) hash_is has) fit

  pub crowded_at : 3901 ≤ sum → (dir : ObjectKey) × ((h : ℕ) × (3900 < extended_sum keys (links ++ n ∷ []) dir h) × (HashCrowd n.target.dir n.target.object hash ≡ HashCrowd dir.dir dir.object h))
  crowded_at large =
      let sums_too : sum ≡ capped (tally same_crowd old (crowd_by keys n) + size) = subst (λ (h : ℕ). sum ≡ capped (tally same_crowd old (record { of = n.target; hash = h }) + size)) hash_is sums in
      (n.target, (hash, subst (λ (h : ℕ). 3900 < extended_sum keys (links ++ n ∷ []) n.target h) (sym hash_is) (crowded keys old new links n size sum counts sizes sums_too large), refl))

-- what goes into extended references, with one more link
pub extended_push : (seen ls : List Naming) (n : Naming) → extended seen (ls ++ n ∷ []) ≡ extended seen ls ++ (if nat_lt 3900 (reference_size (seen ++ (ls ++ n ∷ [])) n.dir n.target) then n ∷ [] else [])
extended_push seen [] n = append-nil (if nat_lt 3900 (reference_size (seen ++ n ∷ []) n.dir n.target) then n ∷ [] else [])
extended_push seen (x ∷ ls) n =
    let first : List Naming = if nat_lt 3900 (reference_size (seen ++ x ∷ []) x.dir x.target) then x ∷ [] else [] in
    ap (λ (l : List Naming). first ++ l) (extended_push (seen ++ x ∷ []) ls n)
    ∙ (sym (append_assoc first (extended (seen ++ x ∷ []) ls) (if nat_lt 3900 (reference_size ((seen ++ x ∷ []) ++ (ls ++ n ∷ [])) n.dir n.target) then n ∷ [] else []))
    ∙ ap (λ (all : List Naming). (first ++ extended (seen ++ x ∷ []) ls) ++ (if nat_lt 3900 (reference_size all n.dir n.target) then n ∷ [] else [])) (append_assoc seen (x ∷ []) (ls ++ n ∷ [])))

-- what goes into extended references of some first links does so among all
pub extended_append : (seen xs ys : List Naming) → extended seen (xs ++ ys) ≡ extended seen xs ++ extended (seen ++ xs) ys
extended_append seen [] ys = ap (λ (s : List Naming). extended s ys) (sym (append-nil seen))
extended_append seen (x ∷ xs) ys =
    let first : List Naming = if nat_lt 3900 (reference_size (seen ++ x ∷ []) x.dir x.target) then x ∷ [] else [] in
    ap (λ (l : List Naming). first ++ l) (extended_append (seen ++ x ∷ []) xs ys)
    ∙ (sym (append_assoc first (extended (seen ++ x ∷ []) xs) (extended ((seen ++ x ∷ []) ++ xs) ys))
    ∙ ap (λ (s : List Naming). (first ++ extended (seen ++ x ∷ []) xs) ++ extended s ys) (append_assoc seen (x ∷ []) xs))

pub same_names-true : (a b : NamesIn) → same_names a b ≡ true → a ≡ b
same_names-true a b is =
    let dir : a.dir ≡ b.dir = same_key-true a.dir b.dir (and_left (same_key a.dir b.dir) (same_key a.object b.object) is) in
    let object : a.object ≡ b.object = same_key-true a.object b.object (and_right (same_key a.dir b.dir) (same_key a.object b.object) is) in
    λ j. record { dir = dir j; object = object j }

capped_twice : (t len size sum : ℕ) (x : ℕ) → x ≡ capped t → size ≡ capped (len + 10) → sum ≡ capped (x + size) → sum ≡ capped (t + (10 + len))
capped_twice t len size sum x was sizes is = omega arith

module _ {S : Type 0} (old new : IndexMap NamesIn ℕ S) (links : List Naming) (n : Naming) (size sum : ℕ) (each : (q : NamesIn) → tally same_names old q ≡ capped (reference_size links q.dir q.object)) (sizes : size ≡ capped (length n.name + 10))
    (sums : sum ≡ capped (tally same_names old (record { dir = n.dir; object = n.target }) + size)) where
  reference_push : (d o : ObjectKey) → reference_size (links ++ n ∷ []) d o ≡ reference_size links d o + (if same_key n.dir d && same_key n.target o then 10 + length n.name else 0)
  reference_push d o = weight_push (λ (m : Naming). same_key m.dir d && same_key m.target o) (λ (m : Naming). 10 + length m.name) links n

  own_size : (q : NamesIn) → same_names (record { dir = n.dir; object = n.target }) q ≡ true → sum ≡ capped (reference_size (links ++ n ∷ []) q.dir q.object)
  own_size q own =
      let same = same_names-true (record { dir = n.dir; object = n.target }) q own in
      let was : tally same_names old (record { dir = n.dir; object = n.target }) ≡ capped (reference_size links q.dir q.object) = each (record { dir = n.dir; object = n.target }) ∙ ap (λ (c : NamesIn). capped (reference_size links c.dir c.object)) same in
      let push = reference_push q.dir q.object ∙ ap (λ (b : Bool). reference_size links q.dir q.object + (if b then 10 + length n.name else 0)) own in
      capped_twice (reference_size links q.dir q.object) (length n.name) size sum _ was sizes sums ∙ ap capped (sym push)

  -- the size of the reference with one more name
  pub size_now : sum ≡ capped (reference_size (links ++ n ∷ []) n.dir n.target)
  size_now = own_size (record { dir = n.dir; object = n.target }) (ap (λ (b : Bool). b && same_key n.target n.target) (same_key-self n.dir) ∙ same_key-self n.target)

  pub sizes_more : ((q : NamesIn) → tally same_names new q ≡ (if same_names (record { dir = n.dir; object = n.target }) q then capped (tally same_names old (record { dir = n.dir; object = n.target }) + size) else tally same_names old q))
      → (q : NamesIn) → tally same_names new q ≡ capped (reference_size (links ++ n ∷ []) q.dir q.object)
  sizes_more grows q = by (same_names (record { dir = n.dir; object = n.target }) q) refl
    where
      by : (b : Bool) → same_names (record { dir = n.dir; object = n.target }) q ≡ b → tally same_names new q ≡ capped (reference_size (links ++ n ∷ []) q.dir q.object)
      by true own = grows q ∙ (ap (λ (b : Bool). if b then capped (tally same_names old (record { dir = n.dir; object = n.target }) + size) else tally same_names old q) own ∙ (sym sums ∙ own_size q own))
      by false other =
          let push = reference_push q.dir q.object ∙ ap (λ (b : Bool). reference_size links q.dir q.object + (if b then 10 + length n.name else 0)) other in
          let same : reference_size (links ++ n ∷ []) q.dir q.object ≡ reference_size links q.dir q.object = omega (arith, push) in
          grows q ∙ (ap (λ (b : Bool). if b then capped (tally same_names old (record { dir = n.dir; object = n.target }) + size) else tally same_names old q) other ∙ (each q ∙ ap capped (sym same)))

-- the test of a full reference
full : (t sum : ℕ) → sum ≡ capped t → 3900 < sum → nat_lt 3900 t ≡ true
full t sum is large = lt-ltb 3900 t (omega arith)

room : (t sum : ℕ) → sum ≡ capped t → sum ≤ 3900 → nat_lt 3900 t ≡ false
room t sum is fit = le-ltb 3900 t (omega arith)

-- what goes into extended references where the reference is full, and where it is not
pub extended_full : (links : List Naming) (n : Naming) (sum : ℕ) → sum ≡ capped (reference_size (links ++ n ∷ []) n.dir n.target) → 3900 < sum → extended [] (links ++ n ∷ []) ≡ extended [] links ++ n ∷ []
extended_full links n sum is large = extended_push [] links n ∙ ap (λ (b : Bool). extended [] links ++ (if b then n ∷ [] else [])) (full _ sum is large)

pub extended_room : (links : List Naming) (n : Naming) (sum : ℕ) → sum ≡ capped (reference_size (links ++ n ∷ []) n.dir n.target) → sum ≤ 3900 → extended [] (links ++ n ∷ []) ≡ extended [] links
extended_room links n sum is fit = extended_push [] links n ∙ (ap (λ (b : Bool). extended [] links ++ (if b then n ∷ [] else [])) (room _ sum is fit) ∙ append-nil (extended [] links))

pub extended_of_part : (keys : List ObjectKey) (part more all : List Naming) (e : VolAnswer) → all ≡ part ++ more → BlamesExtended keys (extended [] part) e → BlamesExtended keys (extended [] all) e
extended_of_part keys part more all (Refused refusal) is b =
    let whole = ap (extended []) is ∙ extended_append [] part more in
    (b.0, (b.1.0, subst (λ (l : List Naming). 3900 < extended_sum keys l b.0 b.1.0) (sym whole) (omega (arith, b.1.1, crowd_of_part keys (extended [] part) (extended part more) b.0 b.1.0)), b.1.2))
extended_of_part keys part more all Fault is b = b
extended_of_part keys part more all Memory is b = tt
