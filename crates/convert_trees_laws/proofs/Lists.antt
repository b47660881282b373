-- Lists whose elements differ from one another, and lists that are made of others.
use Rattle.convert_trees_laws.proofs.Imports.{◌≡◌, ℕ, zero, suc, ◌<◌, Bool, true, false, cond, List, [], ◌∷◌, ◌++◌, map, filter, Contains, ⊎_elim, refl, sym, ap, subst, ◌∙◌, arith, AllByRecursion, Contains-append_left, Contains-append_right, filter-append, at_head, in_tail, head_or_tail, AreIn}
use Rattle.std.proofs.Common.{flat_map, All, AllPairs}
use Rattle.convert_trees_laws.proofs.Rising.{Climb}

-- ---- what holds of each element

module _ {X : Type 0} (P : X → Type 0) where
  pub all_from : (xs : List X) → ((x : X) → Contains xs x → P x) → AllByRecursion P xs
  all_from [] each = tt
  all_from (x ∷ xs) each = (each x (at_head x xs), all_from xs (λ y h. each y (in_tail x xs y h)))

  pub all_in : (xs : List X) (x : X) → AllByRecursion P xs → Contains xs x → P x
  all_in [] x all h = absurd (omega (arith, h.1))
  all_in (y ∷ ys) x all h = ⊎_elim (λ (same : y ≡ x). subst P same all.0) (λ (later : Contains ys x). all_in ys x all.1 later) (head_or_tail y ys x h)

  all_at : (xs : List X) → All P xs → AllByRecursion P xs
  all_at [] all = tt
  all_at (x ∷ xs) all = (all zero x (omega arith), all_at xs (λ k d within. all (suc k) d (omega (arith, within))))

  all_middle : (xs : List X) (y : X) (ys : List X) → AllByRecursion P (xs ++ y ∷ ys) → P y
  all_middle [] y ys all = all.0
  all_middle (x ∷ xs) y ys all = all_middle xs y ys all.1

  all_kept : (p : X → Bool) (xs : List X) → AllByRecursion P xs → AllByRecursion P (filter p xs)
  all_kept p [] all = tt
  all_kept p (x ∷ xs) all = by (p x) (all_kept p xs all.1)
    where
      by : (b : Bool) → AllByRecursion P (filter p xs) → AllByRecursion P (cond b (x ∷ filter p xs) (filter p xs))
      by true later = (all.0, later)
      by false later = later

all_map : {X Y : Type 0} (P : Y → Type 0) (f : X → Y) (xs : List X) → AllByRecursion (λ x. P (f x)) xs → AllByRecursion P (map f xs)
all_map P f [] all = tt
all_map P f (x ∷ xs) all = (all.0, all_map P f xs all.1)

all_unmap : {X Y : Type 0} (P : Y → Type 0) (f : X → Y) (xs : List X) → AllByRecursion P (map f xs) → AllByRecursion (λ x. P (f x)) xs
all_unmap P f [] all = tt
all_unmap P f (x ∷ xs) all = (all.0, all_unmap P f xs all.1)

all_both : {X : Type 0} (P : X → Type 0) (xs ys : List X) → AllByRecursion P xs → AllByRecursion P ys → AllByRecursion P (xs ++ ys)
all_both P [] ys first second = second
all_both P (x ∷ xs) ys first second = (first.0, all_both P xs ys first.1 second)

-- ---- what holds of each element and each later one

abbrev pub Apart : {X : Type 0} → (X → X → Type 0) → List X → Type 0
Apart R [] = Unit {0}
Apart R (x ∷ xs) = AllByRecursion (λ y. R x y) xs × Apart R xs

module _ {X : Type 0} (R : X → X → Type 0) where
  pub apart_from : (xs : List X) → AllPairs R xs → Apart R xs
  apart_from [] pairs = tt
  apart_from (x ∷ xs) pairs = (
    all_at (λ y. R x y) xs (λ k d within. pairs zero (suc k) d (omega arith) (omega (arith, within))),
    apart_from xs (λ i j d order within. pairs (suc i) (suc j) d (omega (arith, order)) (omega (arith, within))),
  )

  pub apart_kept : (p : X → Bool) (xs : List X) → Apart R xs → Apart R (filter p xs)
  apart_kept p [] apart = tt
  apart_kept p (x ∷ xs) apart = by (p x) (apart_kept p xs apart.1)
    where
      by : (b : Bool) → Apart R (filter p xs) → Apart R (cond b (x ∷ filter p xs) (filter p xs))
      by true later = (all_kept (λ y. R x y) p xs apart.0, later)
      by false later = later

  pub apart_both : (xs ys : List X) → Apart R xs → Apart R ys → AllByRecursion (λ x. AllByRecursion (λ y. R x y) ys) xs → Apart R (xs ++ ys)
  apart_both [] ys first second across = second
  apart_both (x ∷ xs) ys first second across = (all_both (λ y. R x y) xs ys first.0 across.0, apart_both xs ys first.1 second across.1)

  split_apart : (before : List X) (x y : X) (after : List X) → Apart R (before ++ y ∷ after) → Contains before x → R x y
  split_apart [] x y after apart h = absurd (omega (arith, h.1))
  split_apart (b ∷ before) x y after apart h =
      ⊎_elim (λ (same : b ≡ x). subst (λ (z : X). R z y) same (all_middle (λ z. R b z) before y after apart.0)) (λ (later : Contains before x). split_apart before x y after apart.1 later) (head_or_tail b before x h)

  pub apart_in : (xs : List X) (x y : X) → Apart R xs → AreIn xs x y → R x y
  apart_in xs x y apart are = split_apart are.before x y are.after (subst (Apart R) are.split apart) are.earlier

pub apart_map : {X Y : Type 0} (R : Y → Y → Type 0) (f : X → Y) (xs : List X) → Apart (λ a b. R (f a) (f b)) xs → Apart R (map f xs)
apart_map R f [] apart = tt
apart_map R f (x ∷ xs) apart = (all_map (λ y. R (f x) y) f xs apart.0, apart_map R f xs apart.1)

pub apart_unmap : {X Y : Type 0} (R : Y → Y → Type 0) (f : X → Y) (xs : List X) → Apart R (map f xs) → Apart (λ a b. R (f a) (f b)) xs
apart_unmap R f [] apart = tt
apart_unmap R f (x ∷ xs) apart = (all_unmap (λ y. R (f x) y) f xs apart.0, apart_unmap R f xs apart.1)

-- where it holds of the elements that each part gives, and between the parts
module _ {X Y : Type 0} (R : Y → Y → Type 0) (f : X → List Y) where
  abbrev pub Across : X → X → Type 0
  Across a b = (x y : Y) → Contains (f a) x → Contains (f b) y → R x y

  across_flat : (a : X) (bs : List X) (xs : List Y) → ((x : Y) → Contains xs x → Contains (f a) x) → AllByRecursion (Across a) bs → AllByRecursion (λ x. AllByRecursion (λ y. R x y) (flat_map f bs)) xs
  across_flat a bs [] among across = tt
  across_flat a bs (x ∷ xs) among across = (one bs across, across_flat a bs xs (λ y h. among y (in_tail x xs y h)) across)
    where
      one : (bs : List X) → AllByRecursion (Across a) bs → AllByRecursion (λ y. R x y) (flat_map f bs)
      one [] across = tt
      one (b ∷ bs) across = all_both (λ y. R x y) (f b) (flat_map f bs) (all_from (λ y. R x y) (f b) (λ y h. across.0 x y (among x (at_head x xs)) h)) (one bs across.1)

  pub apart_flat : (xs : List X) → AllByRecursion (λ a. Apart R (f a)) xs → Apart Across xs → Apart R (flat_map f xs)
  apart_flat [] inner across = tt
  apart_flat (a ∷ xs) inner across = apart_both R (f a) (flat_map f xs) inner.0 (apart_flat xs inner.1 across.1) (across_flat a xs (f a) (λ x h. h) across.0)

-- ---- filters

pub kept_map : {X Y : Type 0} (p : Y → Bool) (f : X → Y) (xs : List X) → filter p (map f xs) ≡ map f (filter (λ x. p (f x)) xs)
kept_map p f [] = refl
kept_map {X} {Y} p f (x ∷ xs) = by (p (f x)) (kept_map p f xs)
  where
    by : (b : Bool) → filter p (map f xs) ≡ map f (filter (λ y. p (f y)) xs) → cond b (f x ∷ filter p (map f xs)) (filter p (map f xs)) ≡ map f (cond b (x ∷ filter (λ y. p (f y)) xs) (filter (λ y. p (f y)) xs))
    by true same = ap (λ (l : List Y). f x ∷ l) same
    by false same = same

pub kept_none : {X : Type 0} (p : X → Bool) (xs : List X) → AllByRecursion (λ x. p x ≡ false) xs → filter p xs ≡ []
kept_none p [] all = refl
kept_none {X} p (x ∷ xs) all = ap (λ (b : Bool). cond b (x ∷ filter p xs) (filter p xs)) all.0 ∙ kept_none p xs all.1

pub kept_flat_none : {X Y : Type 0} (p : Y → Bool) (f : X → List Y) (xs : List X) → AllByRecursion (λ x. filter p (f x) ≡ []) xs → filter p (flat_map f xs) ≡ []
kept_flat_none p f [] all = refl
kept_flat_none {X} {Y} p f (x ∷ xs) all = filter-append p (f x) (flat_map f xs) ∙ (ap (λ (l : List Y). l ++ filter p (flat_map f xs)) all.0 ∙ kept_flat_none p f xs all.1)

-- ---- what holds of each element and each later one, from what holds of them elsewhere

pub apart_with : {X : Type 0} (R Q : X → X → Type 0) (xs : List X) → ((a b : X) → Contains xs a → Contains xs b → R a b → Q a b) → Apart R xs → Apart Q xs
apart_with R Q [] to apart = tt
apart_with {X} R Q (x ∷ xs) to apart = (
  all_from (λ y. Q x y) xs (λ y h. to x y (at_head x xs) (in_tail x xs y h) (all_in (λ z. R x z) xs y apart.0 h)),
  apart_with R Q xs (λ a b in_a in_b. to a b (in_tail x xs a in_a) (in_tail x xs b in_b)) apart.1,
)

pub apart_climb : {X : Type 0} (f : X → ℕ) (xs : List X) → Climb f xs → Apart (λ a b. f a < f b) xs
apart_climb f [] up = tt
apart_climb f (x ∷ xs) up = (up.0, apart_climb f xs up.1)

-- both of two elements are elements
pub earlier_in : {X : Type 0} (xs : List X) (x y : X) → AreIn xs x y → Contains xs x
earlier_in {X} xs x y are = subst (λ (l : List X). Contains l x) (sym are.split) (Contains-append_left are.before (y ∷ are.after) x are.earlier)

pub later_in : {X : Type 0} (xs : List X) (x y : X) → AreIn xs x y → Contains xs y
later_in {X} xs x y are = subst (λ (l : List X). Contains l y) (sym are.split) (Contains-append_right are.before (y ∷ are.after) y (at_head y are.after))
