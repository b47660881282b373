-- The summary of an object's items, with one more item.
use Rattle.reiser_volume_objects.proofs.Imports.{◌≡◌, ℕ, ◌<◌, ◌≤◌, nat_lt, max, Bool, true, false, ◌&&◌, ◌||◌, List, [], ◌∷◌, ◌++◌, get_or, Option, Some, None, Contains, ◌⊎◌, inl, inr, ⊎_elim, refl, sym, ap, subst, ◌∙◌, append_assoc, if◌then◌else◌, arith, cases_lt, ltb-true, ltb-false, option_or, list_any, Contains-get_or, Contains-push, Contains-push_cases, Contains-append_left, list_any-append, ReiserItem, Object, ObjectStat, SharesByte, AreItemsApart, stat_by_kind, first_stat, IsOverlap, Summarises, with_item, overlap_at, has_pointers, has_bytes, has_entries, has_entry_form, HasForm}
use Rattle.std.proofs.lemmas.List.Quantifiers.{all_pairs_push}
use Rattle.std.proofs.Math.Nat.{le-max_left, le-max_right}
use Rattle.reiser_volume_files.specs.Bytes.{first_byte, byte_count, end_of}

-- the first stat data of a list with one more item
first_stat-push : (xs : List ReiserItem) (i : ReiserItem) → first_stat (xs ++ i ∷ []) ≡ option_or (first_stat xs) (stat_by_kind i.head.kind i)
first_stat-push [] i = or_none (stat_by_kind i.head.kind i)
  where
    or_none : (s : Option ObjectStat) → option_or s None ≡ s
    or_none None = refl
    or_none (Some s) = refl
first_stat-push (x ∷ xs) i = ap (option_or (stat_by_kind x.head.kind x)) (first_stat-push xs i) ∙ or_assoc (stat_by_kind x.head.kind x) (first_stat xs) (stat_by_kind i.head.kind i)
  where
    or_assoc : (a b c : Option ObjectStat) → option_or a (option_or b c) ≡ option_or (option_or a b) c
    or_assoc None b c = refl
    or_assoc (Some a) b c = refl

-- a test of the kinds
any-push : (p : ReiserItem → Bool) (xs : List ReiserItem) (i : ReiserItem) (b : Bool) → b ≡ list_any p xs → (b || p i) ≡ list_any p (xs ++ i ∷ [])
any-push p xs i b is = ap (λ c. c || p i) is ∙ (ap (λ c. list_any p xs || c) (sym (or_false (p i))) ∙ sym (list_any-append p xs (i ∷ [])))
  where
    or_false : (c : Bool) → (c || false) ≡ c
    or_false true = refl
    or_false false = refl

-- neither of two options is there
or_none_left : {A : Type 0} (a b : Option A) → option_or a b ≡ None → a ≡ None
or_none_left None b is = refl
or_none_left (Some a) b is = cc

or_none_right : {A : Type 0} (a b : Option A) → option_or a b ≡ None → b ≡ None
or_none_right None b is = is
or_none_right (Some a) b is = cc

-- the first of them that is
or_some : {A : Type 0} (a b : Option A) (x : A) → option_or a b ≡ Some x → (a ≡ Some x) ⊎ (b ≡ Some x)
or_some None b x is = inr is
or_some (Some a) b x is = inl is

-- what the look at one more item says
pub record Meets (covered : ℕ) (i : ReiserItem) (leaf : ℕ) : Type 0 where
  pub some : 0 < byte_count i.head.kind i.body
  pub below : first_byte i < covered
  pub here : leaf ≡ i.leaf

passes : (a b : Bool) (covered : ℕ) (leaf : ℕ) → (if a && b then Some leaf else None) ≡ None → (a ≡ false) ⊎ (b ≡ false)
passes true true covered leaf is = cc
passes true false covered leaf is = inr refl
passes false b covered leaf is = inl refl

fails : (a b : Bool) (leaf found : ℕ) → (if a && b then Some leaf else None) ≡ Some found → (a ≡ true) × (b ≡ true) × (found ≡ leaf)
fails true true leaf found is = (refl, refl, cc)
fails true false leaf found is = cc
fails false b leaf found is = cc

quiet : (covered : ℕ) (i : ReiserItem) → overlap_at covered i ≡ None → (byte_count i.head.kind i.body ≤ 0) ⊎ (covered ≤ first_byte i)
quiet covered i is = ⊎_elim (λ a. inl (ltb-false 0 (byte_count i.head.kind i.body) a)) (λ b. inr (ltb-false (first_byte i) covered b)) (passes (nat_lt 0 (byte_count i.head.kind i.body)) (nat_lt (first_byte i) covered) covered i.leaf is)

meets : (covered : ℕ) (i : ReiserItem) (leaf : ℕ) → overlap_at covered i ≡ Some leaf → Meets covered i leaf
meets covered i leaf is =
    let f = fails (nat_lt 0 (byte_count i.head.kind i.body)) (nat_lt (first_byte i) covered) i.leaf leaf is in
    record { some = ltb-true 0 (byte_count i.head.kind i.body) f.0; below = ltb-true (first_byte i) covered f.1; here = f.2 }

covered_push : (o : Object) (xs : List ReiserItem) (i : ReiserItem) → Summarises o xs → (x : ReiserItem) → Contains (xs ++ i ∷ []) x → end_of x ≤ max o.covered (end_of i)
covered_push o xs i s x h =
    ⊎_elim (λ old. omega (arith, s.covered x old, le-max_left o.covered (end_of i)))
    (λ same. subst (λ (y : ReiserItem). end_of y ≤ max o.covered (end_of i)) same (le-max_right o.covered (end_of i)))
    (Contains-push_cases xs i x h)

reached_push : (o : Object) (xs : List ReiserItem) (i : ReiserItem) → Summarises o xs → (b : ℕ) → b < max o.covered (end_of i) → (x : ReiserItem) × Contains (xs ++ i ∷ []) x × (b < end_of x)
reached_push o xs i s b below =
    ⊎_elim (λ old. let e = s.reached b old in (e.0, Contains-append_left xs (i ∷ []) e.0 e.1, e.2))
    (λ new. (i, Contains-push xs i, omega arith))
    (cases_lt b o.covered)

apart_push : (o : Object) (xs : List ReiserItem) (i : ReiserItem) → Summarises o xs → option_or o.overlap (overlap_at o.covered i) ≡ None → AreItemsApart (xs ++ i ∷ [])
apart_push o xs i s none =
    all_pairs_push (λ a b. ¬ SharesByte a b) xs i (s.apart (or_none_left _ _ none))
    (λ k d h shares.
    let low = s.covered (get_or xs k d) (Contains-get_or xs k d h) in
    ⊎_elim {C = ⊥} (λ empty. absurd (omega (arith, shares.second_from, shares.second_to, empty))) (λ above. absurd (omega (arith, shares.first_to, shares.second_from, low, above)))
    (quiet o.covered i (or_none_right o.overlap (overlap_at o.covered i) none)))

overlap_stays : (xs : List ReiserItem) (i : ReiserItem) (leaf : ℕ) → IsOverlap xs leaf → IsOverlap (xs ++ i ∷ []) leaf
overlap_stays xs i leaf o = record {
  before = o.before;
  later = o.later;
  after = o.after ++ i ∷ [];
  split = ap (λ t. t ++ i ∷ []) o.split ∙ append_assoc o.before (o.later ∷ o.after) (i ∷ []);
  earlier = o.earlier;
  among = o.among;
  shares = o.shares;
  where_ = o.where_;
}

overlap_push : (o : Object) (xs : List ReiserItem) (i : ReiserItem) → Summarises o xs → ((e : ReiserItem) → Contains xs e → e.head.offset ≤ i.head.offset) → (leaf : ℕ) → option_or o.overlap (overlap_at o.covered i) ≡ Some leaf → IsOverlap (xs ++ i ∷ []) leaf
overlap_push o xs i s behind leaf is =
    ⊎_elim (λ old. overlap_stays xs i leaf (s.overlap leaf old))
    (λ new.
    let m = meets o.covered i leaf new in
    let e = s.reached (first_byte i) m.below in
    let order = behind e.0 e.1 in
    record {
      before = xs;
      later = i;
      after = [];
      split = refl;
      earlier = e.0;
      among = e.1;
      shares = record { byte = first_byte i; first_from = omega (arith, order); first_to = e.2; second_from = omega arith; second_to = omega (arith, m.some) };
      where_ = m.here;
    })
    (or_some o.overlap (overlap_at o.covered i) leaf is)

-- the first item off its form
formed_push : (o : Object) (xs : List ReiserItem) (i : ReiserItem) → Summarises o xs → option_or o.off_form (if has_entry_form i then None else Some i.leaf) ≡ None → (x : ReiserItem) → Contains (xs ++ i ∷ []) x → HasForm x
formed_push o xs i s none x among =
    ⊎_elim (λ old. s.formed (or_none_left o.off_form _ none) x old) (λ same. subst HasForm same (by (has_entry_form i) (or_none_right o.off_form _ none))) (Contains-push_cases xs i x among)
  where
    by : (b : Bool) → (if b then None else Some i.leaf) ≡ None → b ≡ true
    by true h = refl
    by false h = cc

off_push : (o : Object) (xs : List ReiserItem) (i : ReiserItem) → Summarises o xs → (leaf : ℕ) → option_or o.off_form (if has_entry_form i then None else Some i.leaf) ≡ Some leaf → (x : ReiserItem) × Contains (xs ++ i ∷ []) x × (has_entry_form x ≡ false) × (leaf ≡ x.leaf)
off_push o xs i s leaf is =
    ⊎_elim (λ old. let e = s.off_form leaf old in (e.0, Contains-append_left xs (i ∷ []) e.0 e.1, e.2, e.3)) (λ new. let n = by (has_entry_form i) new in (i, Contains-push xs i, n.0, n.1)) (or_some o.off_form _ leaf is)
  where
    by : (b : Bool) → (if b then None else Some i.leaf) ≡ Some leaf → (b ≡ false) × (leaf ≡ i.leaf)
    by true h = cc
    by false h = (refl, cc)

pub summary_push : (o : Object) (xs : List ReiserItem) (i : ReiserItem) → Summarises o xs → ((e : ReiserItem) → Contains xs e → e.head.offset ≤ i.head.offset) → Summarises (with_item o i) (xs ++ i ∷ [])
summary_push o xs i s behind = record {
  stat = ap (λ t. option_or t (stat_by_kind i.head.kind i)) s.stat ∙ sym (first_stat-push xs i);
  pointers = any-push (λ x. has_pointers x.head.kind) xs i _ s.pointers;
  bytes = any-push (λ x. has_bytes x.head.kind) xs i _ s.bytes;
  entries = any-push (λ x. has_entries x.head.kind) xs i _ s.entries;
  covered = covered_push o xs i s;
  reached = reached_push o xs i s;
  formed = formed_push o xs i s;
  off_form = off_push o xs i s;
  apart = apart_push o xs i s;
  overlap = overlap_push o xs i s behind;
}
