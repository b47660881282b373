-- The names that were seen, with one more.
use Rattle.reiser_volume_names.proofs.Imports.{◌≡◌, ℕ, ◌==◌, Bool, true, false, not, ◌&&◌, ◌||◌, List, [], ◌∷◌, ◌++◌, get_or, nat_eq, refl, sym, ap, ◌∙◌, append_assoc, true≢false, arith, list_any, eqb-true, nat_tests, list_any-append, list_any_at, Any-from_list_any, all_pairs_push, IndexSet, contains, VolAnswer, Refused, Fault, Memory, Damaged, NameTwice, ObjectKey, Naming, same_key, same_key-true, same_key-self, and_left, and_right, AreIn, same_name, names_as, DifferInName, HasSeenLinks, BlamesTwice}
use Rattle.std.specs.Cmp.Lexicographic.{pointwise}
use Rattle.reiser_volume_names.specs.declared.once.KeyedName.{KeyedName}

-- bytes that pass the test are the same
pub pointwise_same : (xs ys : List ℕ) → pointwise nat_eq xs ys ≡ true → xs ≡ ys
pointwise_same [] [] h = refl
pointwise_same [] (y ∷ ys) h = absurd (true≢false (sym h))
pointwise_same (x ∷ xs) [] h = absurd (true≢false (sym h))
pointwise_same (x ∷ xs) (y ∷ ys) h =
    let first : x ≡ y = eqb-true x y (and_left (x == y) (pointwise nat_eq xs ys) h) in
    let rest : xs ≡ ys = pointwise_same xs ys (and_right (x == y) (pointwise nat_eq xs ys) h) in
    λ j. first j ∷ rest j

eq-self : (n : ℕ) → (n == n) ≡ true
eq-self n = grind (arith, nat_tests)

pub pointwise_self : (xs : List ℕ) → pointwise nat_eq xs xs ≡ true
pointwise_self [] = refl
pointwise_self (x ∷ xs) = ap (λ (b : Bool). b && pointwise nat_eq xs xs) (eq-self x) ∙ pointwise_self xs

-- an entry is of this name in this directory
names_it : (q : KeyedName) (n : Naming) → n.dir ≡ q.dir → n.name ≡ q.name.items → names_as q n ≡ true
names_it q n dir name =
    ap (λ (k : ObjectKey). same_key k q.dir && pointwise nat_eq n.name q.name.items) dir
    ∙ (ap (λ (b : Bool). b && pointwise nat_eq n.name q.name.items) (same_key-self q.dir) ∙ (ap (λ (l : List ℕ). pointwise nat_eq l q.name.items) name ∙ pointwise_self q.name.items))

pub or_swap : (a b : Bool) → (a || b) ≡ (b || (a || false))
or_swap true true = refl
or_swap true false = refl
or_swap false true = refl
or_swap false false = refl

module _ {S : Type 0} (old new : IndexSet KeyedName S) (seen : List Naming) (n : Naming) (name : KeyedName) (has : HasSeenLinks old seen) (dir_is : name.dir ≡ n.dir) (name_is : name.name.items ≡ n.name) where
  -- one that is new
  pub seen_more : ((q : KeyedName) → contains same_name new q ≡ (same_name name q || contains same_name old q)) → contains same_name old name ≡ false → HasSeenLinks new (seen ++ n ∷ [])
  seen_more grows absent = record {
    each = λ q.
        grows q
        ∙ (ap (λ (b : Bool). same_name name q || b) (has.each q)
        ∙ (ap (λ (b : Bool). b || list_any (names_as q) seen) (same q) ∙ (or_swap (names_as q n) (list_any (names_as q) seen) ∙ sym (list_any-append (names_as q) seen (n ∷ [])))));
    once = all_pairs_push DifferInName seen n has.once (λ k d within same_dir same_bytes.
        true≢false (sym (list_any_at (names_as name) seen k d within (names_it name (get_or seen k d) (same_dir ∙ sym dir_is) (same_bytes ∙ sym name_is))) ∙ (sym (has.each name) ∙ absent)));
  }
    where
      same : (q : KeyedName) → same_name name q ≡ names_as q n
      same q = ap (λ (k : ObjectKey). same_key k q.dir && pointwise nat_eq name.name.items q.name.items) dir_is ∙ ap (λ (l : List ℕ). same_key n.dir q.dir && pointwise nat_eq l q.name.items) name_is

  -- one that was seen
  pub seen_twice : contains same_name old name ≡ true → BlamesTwice (seen ++ n ∷ []) (Refused (Damaged n.leaf NameTwice))
  seen_twice there =
      let a = Any-from_list_any (names_as name) seen (sym (has.each name) ∙ there) in
      let m : Naming = a.1 in
      let dir : m.dir ≡ n.dir = same_key-true m.dir name.dir (and_left (same_key m.dir name.dir) (pointwise nat_eq m.name name.name.items) a.4) ∙ dir_is in
      let bytes : m.name ≡ n.name = pointwise_same m.name name.name.items (and_right (same_key m.dir name.dir) (pointwise nat_eq m.name name.name.items) a.4) ∙ name_is in
      (m, (n, record { before = seen; after = []; split = refl; earlier = (a.0, a.2, a.3) }, dir, bytes, refl))

-- two among some first entries are two among all
pub in_more : {X : Type 0} (part more all : List X) (x y : X) → all ≡ part ++ more → AreIn part x y → AreIn all x y
in_more part more all x y is a = record {
  before = a.before;
  after = a.after ++ more;
  split = is ∙ (ap (λ l. l ++ more) a.split ∙ append_assoc a.before (y ∷ a.after) more);
  earlier = a.earlier;
}

pub twice_of_part : (part more all : List Naming) (e : VolAnswer) → all ≡ part ++ more → BlamesTwice part e → BlamesTwice all e
twice_of_part part more all (Refused refusal) is b = (b.0, (b.1.0, in_more part more all b.0 b.1.0 is b.1.1, b.1.2, b.1.3, b.1.4))
twice_of_part part more all Fault is b = b
twice_of_part part more all Memory is b = tt

pub was_absent : (new had : Bool) → new ≡ not had → new ≡ true → had ≡ false
was_absent new true is h = absurd (true≢false (sym h ∙ is))
was_absent new false is h = refl

pub was_there : (new had : Bool) → new ≡ not had → new ≡ false → had ≡ true
was_there new true is h = refl
was_there new false is h = absurd (true≢false (sym is ∙ h))
