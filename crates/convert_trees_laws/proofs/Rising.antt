-- Items whose keys rise.
use Rattle.convert_trees_laws.proofs.Imports.{◌≡◌, ◌≤◌, ◌<◌, ℕ, ◌*◌, ◌==◌, Bool, true, false, cond, List, [], ◌∷◌, ◌++◌, length, map, filter, refl, sym, ap, ◌∙◌, arith, AllByRecursion, flat_map, is_lt, nat_cmp, ordering_then, and_from, lt-ltb, le-ltb, eq-eqb, nat_tests, make_key, Item, keys_of, Rising, Sorted}
use Rattle.std.specs.declared.cmp.Ordering.{Ordering}
use Rattle.std.specs.declared.cmp.Ordering.TheVariants.{Less, Equal}
use Rattle.btr_reader.specs.btr_node.Order.{Ascends, ascends, is_before}

abbrev pub Before : Item → Item → Type 0
Before a b = is_before a.0 b.0 ≡ true

-- each item is before all later ones
abbrev pub Rise : List Item → Type 0
Rise [] = Unit {0}
Rise (x ∷ xs) = AllByRecursion (λ y. Before x y) xs × Rise xs

-- the numbers of elements rise
abbrev pub Climb : {A : Type 0} → (A → ℕ) → List A → Type 0
Climb f [] = Unit {0}
Climb f (x ∷ xs) = AllByRecursion (λ y. f x < f y) xs × Climb f xs

pub rise_ascends : (items : List Item) → Rise items → Ascends (keys_of items)
rise_ascends [] up = refl
rise_ascends (x ∷ []) up = refl
rise_ascends (x ∷ (y ∷ ys)) up = and_from (is_before x.0 y.0) (ascends (keys_of (y ∷ ys))) up.0.0 (rise_ascends (y ∷ ys) up.1)

less : (a b : ℕ) → a < b → nat_cmp a b ≡ Less
less a b h = rw (lt-ltb a b h) refl

level : (a b : ℕ) → a ≡ b → nat_cmp a b ≡ Equal
level a b h = rw (le-ltb a b (omega arith), eq-eqb a b h) refl

before_object : (a b : Item) → a.0.objectid < b.0.objectid → Before a b
before_object a b h = ap (λ (o : Ordering). is_lt (ordering_then o (ordering_then (nat_cmp a.0.kind b.0.kind) (nat_cmp a.0.offset b.0.offset)))) (less a.0.objectid b.0.objectid h)

before_kind : (a b : Item) → a.0.objectid ≡ b.0.objectid → a.0.kind < b.0.kind → Before a b
before_kind a b same h =
    ap (λ (o : Ordering). is_lt (ordering_then o (ordering_then (nat_cmp a.0.kind b.0.kind) (nat_cmp a.0.offset b.0.offset)))) (level a.0.objectid b.0.objectid same)
    ∙ ap (λ (o : Ordering). is_lt (ordering_then o (nat_cmp a.0.offset b.0.offset))) (less a.0.kind b.0.kind h)

before_offset : (n k a b : ℕ) → a < b → is_before (make_key n k a) (make_key n k b) ≡ true
before_offset n k a b h =
    ap (λ (o : Ordering). is_lt (ordering_then o (ordering_then (nat_cmp k k) (nat_cmp a b)))) (level n n refl)
    ∙ (ap (λ (o : Ordering). is_lt (ordering_then o (nat_cmp a b))) (level k k refl) ∙ ap is_lt (less a b h))

-- ---- what holds of each element

pub all_each : {A : Type 0} (P Q : A → Type 0) (xs : List A) → ((x : A) → P x → Q x) → AllByRecursion P xs → AllByRecursion Q xs
all_each P Q [] to all = tt
all_each P Q (x ∷ xs) to all = (to x all.0, all_each P Q xs to all.1)

pub all_append : {A : Type 0} (P : A → Type 0) (xs ys : List A) → AllByRecursion P xs → AllByRecursion P ys → AllByRecursion P (xs ++ ys)
all_append P [] ys first second = second
all_append P (x ∷ xs) ys first second = (first.0, all_append P xs ys first.1 second)

pub all_mapped : {A B : Type 0} (P : B → Type 0) (f : A → B) (xs : List A) → AllByRecursion (λ x. P (f x)) xs → AllByRecursion P (map f xs)
all_mapped P f [] all = tt
all_mapped P f (x ∷ xs) all = (all.0, all_mapped P f xs all.1)

pub all_true : {A : Type 0} (P : A → Type 0) (xs : List A) → ((x : A) → P x) → AllByRecursion P xs
all_true P [] each = tt
all_true P (x ∷ xs) each = (each x, all_true P xs each)

pub all_flat : {A B : Type 0} (P : B → Type 0) (f : A → List B) (xs : List A) → AllByRecursion (λ x. AllByRecursion P (f x)) xs → AllByRecursion P (flat_map f xs)
all_flat P f [] all = tt
all_flat P f (x ∷ xs) all = all_append P (f x) (flat_map f xs) all.0 (all_flat P f xs all.1)

-- ---- numbers that rise

pub climb_groups : {A : Type 0} (groups : List (ℕ × List A)) → Rising groups → Climb (λ (g : ℕ × List A). g.0) groups
climb_groups [] up = tt
climb_groups (g ∷ groups) up = (up.0, climb_groups groups up.1)

pub climb_mapped : {A B : Type 0} (f : B → ℕ) (h : A → B) (xs : List A) → Climb (λ x. f (h x)) xs → Climb f (map h xs)
climb_mapped f h [] up = tt
climb_mapped f h (x ∷ xs) up = (all_mapped (λ y. f (h x) < f y) h xs up.0, climb_mapped f h xs up.1)

pub climb_times : {A : Type 0} (f : A → ℕ) (xs : List A) → Climb f xs → Climb (λ x. 4096 * f x) xs
climb_times f [] up = tt
climb_times f (x ∷ xs) up = (all_each (λ y. f x < f y) (λ y. 4096 * f x < 4096 * f y) xs (λ y h. omega (arith, h)) up.0, climb_times f xs up.1)

pub climb_push : {A : Type 0} (f : A → ℕ) (xs : List A) (y : A) → Climb f xs → AllByRecursion (λ x. f x < f y) xs → Climb f (xs ++ y ∷ [])
climb_push f [] y up below = (tt, tt)
climb_push f (x ∷ xs) y up below = (all_append (λ z. f x < f z) xs (y ∷ []) up.0 (below.0, tt), climb_push f xs y up.1 below.1)

-- numbers in order rise where each is there once
module _ {A : Type 0} (number : A → ℕ) where
  strict : (n : ℕ) (ys : List A) → AllByRecursion (λ y. n ≤ number y) ys → length (filter (λ y. number y == n) ys) ≤ 0 → AllByRecursion (λ y. n < number y) ys
  strict n [] low none = tt
  strict n (y ∷ ys) low none = by (strict n ys low.1) (number y == n) refl none
    where
      apart : n ≤ number y → (number y == n) ≡ false → n < number y
      apart le is = grind (arith, nat_tests)

      by : (length (filter (λ z. number z == n) ys) ≤ 0 → AllByRecursion (λ z. n < number z) ys) → (b : Bool) → (number y == n) ≡ b → length (cond b (y ∷ filter (λ z. number z == n) ys) (filter (λ z. number z == n) ys)) ≤ 0 → AllByRecursion (λ z. n < number z) (y ∷ ys)
      by later true is many = absurd (omega (arith, many))
      by later false is many = (apart low.0 is, later many)

  self : (n : ℕ) → (n == n) ≡ true
  self n = grind (arith, nat_tests)

  pub climb_once : (xs : List A) → Sorted number xs → ((n : ℕ) → length (filter (λ x. number x == n) xs) ≤ 1) → Climb number xs
  climb_once [] sorted once = tt
  climb_once (x ∷ xs) sorted once = (strict (number x) xs sorted.0 (own (number x == number x) (self (number x)) (once (number x))), climb_once xs sorted.1 (λ n. fewer n (number x == n) (once n)))
    where
      own : (b : Bool) → b ≡ true → length (cond b (x ∷ filter (λ y. number y == number x) xs) (filter (λ y. number y == number x) xs)) ≤ 1 → length (filter (λ y. number y == number x) xs) ≤ 0
      own true is many = omega (arith, many)
      own false is many = absurd (cc)

      fewer : (n : ℕ) (b : Bool) → length (cond b (x ∷ filter (λ y. number y == n) xs) (filter (λ y. number y == n) xs)) ≤ 1 → length (filter (λ y. number y == n) xs) ≤ 1
      fewer n true many = omega (arith, many)
      fewer n false many = many

-- ---- parts

-- an item of an object, of a kind between two
pub record IsOf (n lo hi : ℕ) (i : Item) : Type 0 where
  pub object : i.0.objectid ≡ n
  pub low : lo ≤ i.0.kind
  pub high : i.0.kind ≤ hi

-- items of an object, of kinds between two, that rise
pub record IsPart (n lo hi : ℕ) (items : List Item) : Type 0 where
  pub each : AllByRecursion (IsOf n lo hi) items
  pub rise : Rise items

rise_append : (xs ys : List Item) → Rise xs → Rise ys → AllByRecursion (λ x. AllByRecursion (λ y. Before x y) ys) xs → Rise (xs ++ ys)
rise_append [] ys first second across = second
rise_append (x ∷ xs) ys first second across = (all_append (λ y. Before x y) xs ys first.0 across.0, rise_append xs ys first.1 second across.1)

pub no_part : (n lo hi : ℕ) → IsPart n lo hi []
no_part n lo hi = record { each = tt; rise = tt }

-- one kind after another
pub part_append : (n a b c d : ℕ) (xs ys : List Item) → a ≤ b → b < c → c ≤ d → IsPart n a b xs → IsPart n c d ys → IsPart n a d (xs ++ ys)
part_append n a b c d xs ys low between high first second = record {
  each = all_append (IsOf n a d) xs ys
      (all_each (IsOf n a b) (IsOf n a d) xs (λ i of. let top = of.high in record { object = of.object; low = of.low; high = omega (arith, top, between, high) }) first.each)
      (all_each (IsOf n c d) (IsOf n a d) ys (λ i of. let bottom = of.low in record { object = of.object; low = omega (arith, bottom, between, low); high = of.high }) second.each);
  rise = rise_append xs ys first.rise second.rise
      (all_each (IsOf n a b) (λ x. AllByRecursion (λ y. Before x y) ys) xs
      (λ x of_x. all_each (IsOf n c d) (λ y. Before x y) ys (λ y of_y. let top = of_x.high in let bottom = of_y.low in before_kind x y (of_x.object ∙ sym of_y.object) (omega (arith, top, bottom, between))) second.each)
      first.each);
}

module _ {A : Type 0} (n kind : ℕ) (number : A → ℕ) (bytes : A → List ℕ) where
  abbrev numbered : A → Item
  numbered x = (make_key n kind (number x), bytes x)

  rises : (ys : List A) → Climb number ys → Rise (map numbered ys)
  rises [] climb = tt
  rises (y ∷ ys) climb = (all_mapped (λ i. Before (numbered y) i) numbered ys (all_each (λ z. number y < number z) (λ z. Before (numbered y) (numbered z)) ys (λ z h. before_offset n kind (number y) (number z) h) climb.0), rises ys climb.1)

  -- items of one kind under numbers that rise
  pub part_of_kind : (xs : List A) → Climb number xs → IsPart n kind kind (map numbered xs)
  part_of_kind xs up = record {
    each = all_mapped (IsOf n kind kind) numbered xs (all_true (λ x. IsOf n kind kind (numbered x)) xs (λ x. record { object = refl; low = omega arith; high = omega arith }));
    rise = rises xs up;
  }

pub part_one : (n kind offset : ℕ) (bytes : List ℕ) → IsPart n kind kind ((make_key n kind offset, bytes) ∷ [])
part_one n kind offset bytes = record { each = (record { object = refl; low = omega arith; high = omega arith }, tt); rise = (tt, tt) }

-- ---- one object after another

before_objects : (n m a b c d : ℕ) (xs ys : List Item) → n < m → AllByRecursion (IsOf n a b) xs → AllByRecursion (IsOf m c d) ys → AllByRecursion (λ x. AllByRecursion (λ y. Before x y) ys) xs
before_objects n m a b c d xs ys h first second =
    all_each (IsOf n a b) (λ x. AllByRecursion (λ y. Before x y) ys) xs
    (λ x of_x. all_each (IsOf m c d) (λ y. Before x y) ys (λ y of_y. let one = of_x.object in let other = of_y.object in before_object x y (omega (arith, one, other, h))) second)
    first

pub rise_two : (n m a b c d : ℕ) (xs ys : List Item) → n < m → IsPart n a b xs → IsPart m c d ys → Rise (xs ++ ys)
rise_two n m a b c d xs ys h first second = rise_append xs ys first.rise second.rise (before_objects n m a b c d xs ys h first.each second.each)

module _ {A : Type 0} (lo hi : ℕ) (number : A → ℕ) (items : A → List Item) where
  behind_all : (x : A) (ys : List A) → IsPart (number x) lo hi (items x) → AllByRecursion (λ y. number x < number y) ys → AllByRecursion (λ y. IsPart (number y) lo hi (items y)) ys
      → AllByRecursion (λ i. AllByRecursion (λ j. Before i j) (flat_map items ys)) (items x)
  behind_all x [] part above parts = all_true (λ i. Unit {0}) (items x) (λ i. tt)
  behind_all x (y ∷ ys) part above parts =
      both (items x) (before_objects (number x) (number y) lo hi lo hi (items x) (items y) above.0 part.each parts.0.each) (behind_all x ys part above.1 parts.1)
    where
      both : (is : List Item) → AllByRecursion (λ i. AllByRecursion (λ j. Before i j) (items y)) is → AllByRecursion (λ i. AllByRecursion (λ j. Before i j) (flat_map items ys)) is
          → AllByRecursion (λ i. AllByRecursion (λ j. Before i j) (items y ++ flat_map items ys)) is
      both [] first second = tt
      both (i ∷ is) first second = (all_append (λ j. Before i j) (items y) (flat_map items ys) first.0 second.0, both is first.1 second.1)

  pub rise_objects : (xs : List A) → Climb number xs → AllByRecursion (λ x. IsPart (number x) lo hi (items x)) xs → Rise (flat_map items xs)
  rise_objects [] up parts = tt
  rise_objects (x ∷ xs) up parts = rise_append (items x) (flat_map items xs) parts.0.rise (rise_objects xs up.1 parts.1) (behind_all x xs parts.0 up.0 parts.1)
