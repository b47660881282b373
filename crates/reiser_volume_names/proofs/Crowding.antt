-- The sums of crowds, with one more name.
use Rattle.reiser_volume_names.proofs.Imports.{◌≡◌, ℕ, ◌+◌, ◌<◌, ◌≤◌, ◌==◌, Bool, true, false, ◌&&◌, List, [], ◌∷◌, ◌++◌, length, unwrap_or, refl, sym, ap, subst, ◌∙◌, zero-add, if◌then◌else◌, arith, eqb-true, nat_tests, lookup, VolAnswer, Refused, Fault, Memory, HashCrowd, name_hash, IndexMap, ObjectKey, Naming, same_key, root, same_key-true, and_left, and_right, Crowd, same_crowd, CrowdCounts, BlamesCrowd, crowd_of, saved_name, tally, capped}
use Rattle.reiser_volume_names.proofs.Sums.{weight_push, weight_of_part}

pub same_crowd-true : (a b : Crowd) → same_crowd a b ≡ true → a ≡ b
same_crowd-true a b is =
    let of : a.of ≡ b.of = same_key-true a.of b.of (and_left (same_key a.of b.of) (a.hash == b.hash) is) in
    let hash : a.hash ≡ b.hash = eqb-true a.hash b.hash (and_right (same_key a.of b.of) (a.hash == b.hash) is) in
    λ j. record { of = of j; hash = hash j }

-- a crowd with one more name
pub crowd_push : (links : List Naming) (n : Naming) (dir : ObjectKey) (hash : ℕ) → crowd_of (links ++ n ∷ []) dir hash ≡ crowd_of links dir hash + (if same_key n.dir dir && (name_hash n.name == hash) then 30 + length n.name else 0)
crowd_push links n dir hash = omega (arith, weight_push (λ (m : Naming). same_key m.dir dir && (name_hash m.name == hash)) (λ (m : Naming). 30 + length m.name) links n)

-- a crowd of some first links is no larger than that of all
pub crowd_of_part : (links more : List Naming) (dir : ObjectKey) (hash : ℕ) → crowd_of links dir hash ≤ crowd_of (links ++ more) dir hash
crowd_of_part links more dir hash = omega (arith, weight_of_part (λ (m : Naming). same_key m.dir dir && (name_hash m.name == hash)) (λ (m : Naming). 30 + length m.name) links more)

pub same_crowd-self : (c : Crowd) → same_crowd c c ≡ true
same_crowd-self c = grind (arith, nat_tests)

-- the crowd of a name
abbrev crowd_by : Naming → Crowd
crowd_by n = record { of = n.dir; hash = name_hash n.name }

uncapped : (t len size sum : ℕ) → size ≡ capped (len + 30) → sum ≡ capped (t + size) → sum ≤ 3900 → t + (30 + len) ≡ sum
uncapped t len size sum sizes sums fit = omega arith

over : (t len size sum : ℕ) → size ≡ capped (len + 30) → sum ≡ capped (t + size) → 3901 ≤ sum → 3900 < t + (30 + len)
over t len size sum sizes sums large = omega arith

module _ {S : Type 0} (old new : IndexMap Crowd ℕ S) (links : List Naming) (n : Naming) (size sum : ℕ) (counts : CrowdCounts old links) (sizes : size ≡ capped (length n.name + 30))
    (sums : sum ≡ capped (tally same_crowd old (crowd_by n) + size)) where
  push_own : (q : Crowd) → same_crowd (crowd_by n) q ≡ true → crowd_of (links ++ n ∷ []) q.of q.hash ≡ tally same_crowd old (crowd_by n) + (30 + length n.name)
  push_own q own =
      let same : crowd_by n ≡ q = same_crowd-true (crowd_by n) q own in
      let was : tally same_crowd old (crowd_by n) ≡ crowd_of links q.of q.hash = counts.each (crowd_by n) ∙ ap (λ (c : Crowd). crowd_of links c.of c.hash) same in
      crowd_push links n q.of q.hash ∙ (ap (λ (b : Bool). crowd_of links q.of q.hash + (if b then 30 + length n.name else 0)) own ∙ ap (λ (t : ℕ). t + (30 + length n.name)) (sym was))

  push_other : (q : Crowd) → same_crowd (crowd_by n) q ≡ false → crowd_of (links ++ n ∷ []) q.of q.hash ≡ crowd_of links q.of q.hash
  push_other q other =
      let more = crowd_push links n q.of q.hash in
      let none : (if same_crowd (crowd_by n) q then 30 + length n.name else 0) ≡ 0 = ap (λ (b : Bool). if b then 30 + length n.name else 0) other in
      omega (arith, more, none)

  -- one more name that fits
  pub joined : ((q : Crowd) → tally same_crowd new q ≡ (if same_crowd (crowd_by n) q then capped (tally same_crowd old (crowd_by n) + size) else tally same_crowd old q)) → sum ≤ 3900 → CrowdCounts new (links ++ n ∷ [])
  joined has fit = record { each = λ q. each q (same_crowd (crowd_by n) q) refl; fit = λ dir hash. fits (record { of = dir; hash = hash }) (same_crowd (crowd_by n) (record { of = dir; hash = hash })) refl }
    where
      each : (q : Crowd) (b : Bool) → same_crowd (crowd_by n) q ≡ b → tally same_crowd new q ≡ crowd_of (links ++ n ∷ []) q.of q.hash
      each q true own =
          has q ∙ (ap (λ (b : Bool). if b then capped (tally same_crowd old (crowd_by n) + size) else tally same_crowd old q) own
          ∙ (sym sums ∙ (sym (uncapped (tally same_crowd old (crowd_by n)) (length n.name) size sum sizes sums fit) ∙ sym (push_own q own))))
      each q false other =
          has q ∙ (ap (λ (b : Bool). if b then capped (tally same_crowd old (crowd_by n) + size) else tally same_crowd old q) other ∙ (counts.each q ∙ sym (push_other q other)))

      fits : (q : Crowd) (b : Bool) → same_crowd (crowd_by n) q ≡ b → crowd_of (links ++ n ∷ []) q.of q.hash ≤ 3900
      fits q true own = omega (arith, push_own q own, uncapped (tally same_crowd old (crowd_by n)) (length n.name) size sum sizes sums fit, fit)
      fits q false other = omega (arith, push_other q other, counts.fit q.of q.hash)

  -- one that does not
  pub crowded : 3901 ≤ sum → 3900 < crowd_of (links ++ n ∷ []) n.dir (name_hash n.name)
  crowded large = omega (arith, push_own (crowd_by n) (same_crowd-self (crowd_by n)), over (tally same_crowd old (crowd_by n)) (length n.name) size sum sizes sums large)

-- the same by a hash that is that of the name
module _ {S : Type 0} (old new : IndexMap Crowd ℕ S) (links : List Naming) (n : Naming) (hash size sum : ℕ) (counts : CrowdCounts old links) (hash_is : hash ≡ name_hash n.name) (sizes : size ≡ capped (length n.name + 30))
    (sums : sum ≡ capped (tally same_crowd old (record { of = n.dir; hash = hash }) + size)) where
  pub joined_at : ((q : Crowd) → tally same_crowd new q ≡ (if same_crowd (record { of = n.dir; hash = hash }) q then capped (tally same_crowd old (record { of = n.dir; hash = hash }) + size) else tally same_crowd old q)) → sum ≤ 3900 → CrowdCounts new (links ++ n ∷ [])
  joined_at has fit =
      let sums_too : sum ≡ capped (tally same_crowd old (crowd_by n) + size) = subst (λ (h : ℕ). sum ≡ capped (tally same_crowd old (record { of = n.dir; hash = h }) + size)) hash_is sums in
      joined old new links n size sum counts sizes sums_too
      (subst (λ (h : ℕ). (q : Crowd) → tally same_crowd new q ≡ (if same_crowd (record { of = n.dir; hash = h }) q then capped (tally same_crowd old (record { of = n.dir; hash = h }) + size) else tally same_crowd old q)) hash_is has) fit

  pub crowded_at : 3901 ≤ sum → (dir : ObjectKey) × ((h : ℕ) × (3900 < crowd_of (links ++ n ∷ []) dir h) × (HashCrowd n.dir.dir n.dir.object hash ≡ HashCrowd dir.dir dir.object h))
  crowded_at large =
      let sums_too : sum ≡ capped (tally same_crowd old (crowd_by n) + size) = subst (λ (h : ℕ). sum ≡ capped (tally same_crowd old (record { of = n.dir; hash = h }) + size)) hash_is sums in
      (n.dir, (hash, subst (λ (h : ℕ). 3900 < crowd_of (links ++ n ∷ []) n.dir h) (sym hash_is) (crowded old new links n size sum counts sizes sums_too large), refl))

-- a crowd among some first links is one among all
pub blamed_of_part : (links more all : List Naming) (e : VolAnswer) → all ≡ links ++ more → BlamesCrowd links e → BlamesCrowd all e
blamed_of_part links more all (Refused refusal) is b =
    (b.0, (b.1.0, subst (λ (l : List Naming). 3900 < crowd_of l b.0 b.1.0) (sym is) (omega (arith, b.1.1, crowd_of_part links more b.0 b.1.0)), b.1.2))
blamed_of_part links more all Fault is b = b
blamed_of_part links more all Memory is b = tt

-- the name that the root has for the converted volume
pub root_counted : {S : Type 0} (old new : IndexMap Crowd ℕ S) (hash : ℕ) → old.entries ≡ [] → hash ≡ name_hash saved_name
    → ((q : Crowd) → tally same_crowd new q ≡ (if same_crowd (record { of = root; hash = hash }) q then capped (tally same_crowd old (record { of = root; hash = hash }) + 44) else tally same_crowd old q)) → CrowdCounts new []
root_counted {S} old new hash empty is has = record { each = each; fit = λ dir h. omega (arith, fits dir h (same_key root dir && (name_hash saved_name == h))) }
  where
    nothing : (q : Crowd) → tally same_crowd old q ≡ 0
    nothing q = ap (λ (es : List (Crowd × ℕ)). unwrap_or (lookup (same_crowd q) es) 0) empty

    each : (q : Crowd) → tally same_crowd new q ≡ crowd_of [] q.of q.hash
    each q =
        has q
        ∙ (ap (λ (t : ℕ). if same_crowd (record { of = root; hash = hash }) q then capped (t + 44) else tally same_crowd old q) (nothing (record { of = root; hash = hash }))
        ∙ (ap (λ (t : ℕ). if same_crowd (record { of = root; hash = hash }) q then 44 else t) (nothing q) ∙ (ap (λ (h : ℕ). if same_crowd (record { of = root; hash = h }) q then 44 else 0) is ∙ sym (zero-add (if same_key root q.of && (name_hash saved_name == q.hash) then 30 + length saved_name else 0)))))

    fits : (dir : ObjectKey) (h : ℕ) (b : Bool) → (if b then 30 + length saved_name else 0) ≤ 3900
    fits dir h true = omega arith
    fits dir h false = omega arith
