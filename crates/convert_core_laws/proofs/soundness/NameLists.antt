-- Lists with the same elements, made of others by parts.
use Rattle.convert_core_laws.proofs.Imports.{◌≡◌, ℕ, ◌==◌, Bool, true, false, cond, List, [], ◌∷◌, ◌++◌, append_assoc, map, filter, ⊎_elim, refl, sym, ap, subst, ◌∙◌, true≢false, nat_lt, arith, IsPermutation, map-append, filter-append, IsPermutation-append, IsPermutation-append_comm, IsPermutation-append_left, IsPermutation-append_right, IsPermutation-cons, IsPermutation-middle, IsPermutation-refl, IsPermutation-trans, grouped, in_group, at_head, head_or_tail, in_tail}
use Rattle.std.proofs.Common.{flat_map, Contains, if◌then◌else◌}

pub same_elements : {X : Type 0} (xs ys : List X) → xs ≡ ys → IsPermutation xs ys
same_elements {X} xs ys e = subst (IsPermutation xs) e (IsPermutation-refl xs)

-- two parts in the middle change places
pub middle_swap : {X : Type 0} (a b c d : List X) → IsPermutation ((a ++ b) ++ (c ++ d)) ((a ++ c) ++ (b ++ d))
middle_swap {X} a b c d =
    let one : (a ++ b) ++ (c ++ d) ≡ a ++ ((b ++ c) ++ d) = append_assoc a b (c ++ d) ∙ ap (λ (l : List X). a ++ l) (sym (append_assoc b c d)) in
    let two : a ++ ((c ++ b) ++ d) ≡ (a ++ c) ++ (b ++ d) = ap (λ (l : List X). a ++ l) (append_assoc c b d) ∙ sym (append_assoc a c (b ++ d)) in
    subst (λ (l : List X). IsPermutation l ((a ++ c) ++ (b ++ d))) (sym one)
    (subst (IsPermutation (a ++ ((b ++ c) ++ d))) two (IsPermutation-append_right a ((b ++ c) ++ d) ((c ++ b) ++ d) (IsPermutation-append_left d (b ++ c) (c ++ b) (IsPermutation-append_comm b c))))

pub flat_same : {X Y : Type 0} (f g : X → List Y) (xs : List X) → ((x : X) → Contains xs x → f x ≡ g x) → flat_map f xs ≡ flat_map g xs
flat_same f g [] each = refl
flat_same {X} {Y} f g (x ∷ xs) each = ap (λ (l : List Y). l ++ flat_map f xs) (each x (at_head x xs)) ∙ ap (λ (l : List Y). g x ++ l) (flat_same f g xs (λ y h. each y (in_tail x xs y h)))

pub flat_none : {X Y : Type 0} (f : X → List Y) (xs : List X) → ((x : X) → Contains xs x → f x ≡ []) → flat_map f xs ≡ []
flat_none f [] each = refl
flat_none {X} {Y} f (x ∷ xs) each = ap (λ (l : List Y). l ++ flat_map f xs) (each x (at_head x xs)) ∙ flat_none f xs (λ y h. each y (in_tail x xs y h))

pub flat_append : {X Y : Type 0} (f : X → List Y) (xs ys : List X) → flat_map f (xs ++ ys) ≡ flat_map f xs ++ flat_map f ys
flat_append f [] ys = refl
flat_append {X} {Y} f (x ∷ xs) ys = ap (λ (l : List Y). f x ++ l) (flat_append f xs ys) ∙ sym (append_assoc (f x) (flat_map f xs) (flat_map f ys))

pub flat_mapped : {X Y Z : Type 0} (f : X → Y) (g : Y → List Z) (xs : List X) → flat_map g (map f xs) ≡ flat_map (λ x. g (f x)) xs
flat_mapped f g [] = refl
flat_mapped {X} {Y} {Z} f g (x ∷ xs) = ap (λ (l : List Z). g (f x) ++ l) (flat_mapped f g xs)

pub mapped_flat : {X Y Z : Type 0} (f : X → List Y) (g : Y → Z) (xs : List X) → map g (flat_map f xs) ≡ flat_map (λ x. map g (f x)) xs
mapped_flat f g [] = refl
mapped_flat {X} {Y} {Z} f g (x ∷ xs) = map-append g (f x) (flat_map f xs) ∙ ap (λ (l : List Z). map g (f x) ++ l) (mapped_flat f g xs)

pub kept_flat : {X Y : Type 0} (f : X → List Y) (p : Y → Bool) (xs : List X) → filter p (flat_map f xs) ≡ flat_map (λ x. filter p (f x)) xs
kept_flat f p [] = refl
kept_flat {X} {Y} f p (x ∷ xs) = filter-append p (f x) (flat_map f xs) ∙ ap (λ (l : List Y). filter p (f x) ++ l) (kept_flat f p xs)

-- what the elements give that pass a test
pub flat_kept : {X Y : Type 0} (p : X → Bool) (f : X → List Y) (xs : List X) → flat_map f (filter p xs) ≡ flat_map (λ x. if p x then f x else []) xs
flat_kept p f [] = refl
flat_kept {X} {Y} p f (x ∷ xs) = by (p x) (flat_kept p f xs)
  where
    by : (b : Bool) → flat_map f (filter p xs) ≡ flat_map (λ y. if p y then f y else []) xs → flat_map f (cond b (x ∷ filter p xs) (filter p xs)) ≡ (if b then f x else []) ++ flat_map (λ y. if p y then f y else []) xs
    by true later = ap (λ (l : List Y). f x ++ l) later
    by false later = later

pub kept_all : {X : Type 0} (p : X → Bool) (xs : List X) → ((x : X) → Contains xs x → p x ≡ true) → filter p xs ≡ xs
kept_all p [] each = refl
kept_all {X} p (x ∷ xs) each = ap (λ (b : Bool). cond b (x ∷ filter p xs) (filter p xs)) (each x (at_head x xs)) ∙ ap (λ (l : List X). x ∷ l) (kept_all p xs (λ y h. each y (in_tail x xs y h)))

pub kept_none : {X : Type 0} (p : X → Bool) (xs : List X) → ((x : X) → Contains xs x → p x ≡ false) → filter p xs ≡ []
kept_none p [] each = refl
kept_none {X} p (x ∷ xs) each = ap (λ (b : Bool). cond b (x ∷ filter p xs) (filter p xs)) (each x (at_head x xs)) ∙ kept_none p xs (λ y h. each y (in_tail x xs y h))

-- ---- groups

in_groups : {A : Type 0} (n : ℕ) (x : A) (groups : List (ℕ × List A)) → IsPermutation (flat_map (λ g. g.1) (in_group n x groups)) (x ∷ flat_map (λ g. g.1) groups)
in_groups n x [] = IsPermutation-refl (x ∷ [])
in_groups {A} n x (g ∷ groups) = by (n == g.0) (nat_lt n g.0) (in_groups n x groups)
  where
    rest : List A
    rest = flat_map (λ h. h.1) groups

    by : (e l : Bool) → IsPermutation (flat_map (λ h. h.1) (in_group n x groups)) (x ∷ flat_map (λ h. h.1) groups)
        → IsPermutation (flat_map (λ h. h.1) (if e then (n, x ∷ g.1) ∷ groups else (if l then (n, x ∷ []) ∷ (g ∷ groups) else g ∷ in_group n x groups))) (x ∷ (g.1 ++ flat_map (λ h. h.1) groups))
    by true l later = IsPermutation-refl (x ∷ (g.1 ++ flat_map (λ h. h.1) groups))
    by false true later = IsPermutation-refl (x ∷ (g.1 ++ flat_map (λ h. h.1) groups))
    by false false later =
        IsPermutation-trans (g.1 ++ flat_map (λ h. h.1) (in_group n x groups)) (g.1 ++ x ∷ flat_map (λ h. h.1) groups) (x ∷ (g.1 ++ flat_map (λ h. h.1) groups))
        (IsPermutation-append_right g.1 (flat_map (λ h. h.1) (in_group n x groups)) (x ∷ flat_map (λ h. h.1) groups) later)
        (IsPermutation-middle g.1 x (flat_map (λ h. h.1) groups))

-- groups have the elements of the list, and so has its order by numbers
pub grouped_all : {A : Type 0} (number : A → ℕ) (xs : List A) → IsPermutation (flat_map (λ g. g.1) (grouped number xs)) xs
grouped_all number [] = IsPermutation-refl []
grouped_all {A} number (x ∷ xs) =
    IsPermutation-trans (flat_map (λ g. g.1) (in_group (number x) x (grouped number xs))) (x ∷ flat_map (λ g. g.1) (grouped number xs)) (x ∷ xs)
    (in_groups (number x) x (grouped number xs))
    (IsPermutation-cons x (flat_map (λ g. g.1) (grouped number xs)) xs (grouped_all number xs))

-- ---- parts

-- a list by the numbers of its elements, where these are those of a list without doubles
module _ {X K : Type 0} (is : K → X → Bool) where
  abbrev Apart : K → List K → Type 0
  Apart k ks = (x : X) (l : K) → Contains ks l → is k x ≡ true → is l x ≡ false

  abbrev pub AreApart : List K → Type 0
  AreApart [] = Unit {0}
  AreApart (k ∷ ks) = Apart k ks × AreApart ks

  -- one element more goes to its own part
  one_part : (x : X) (xs : List X) (k : K) (ks : List K) → AreApart ks → Contains ks k → is k x ≡ true
      → IsPermutation (flat_map (λ l. filter (is l) (x ∷ xs)) ks) (x ∷ flat_map (λ l. filter (is l) xs) ks)
  one_part x xs k [] apart h t = absurd (omega (arith, h.1))
  one_part x xs k (l ∷ ks) apart h t =
      ⊎_elim (λ (e : l ≡ k). here e) (λ (later : Contains ks k). there later (one_part x xs k ks apart.1 later t) (is l x) refl) (head_or_tail l ks k h)
    where
      others : List K → List X
      others ms = flat_map (λ m. filter (is m) xs) ms

      skipped : (ms : List K) → ((m : K) → Contains ms m → is m x ≡ false) → flat_map (λ m. filter (is m) (x ∷ xs)) ms ≡ flat_map (λ m. filter (is m) xs) ms
      skipped ms no_ = flat_same (λ m. filter (is m) (x ∷ xs)) (λ m. filter (is m) xs) ms (λ m i. ap (λ (b : Bool). cond b (x ∷ filter (is m) xs) (filter (is m) xs)) (no_ m i))

      here : l ≡ k → IsPermutation (filter (is l) (x ∷ xs) ++ flat_map (λ m. filter (is m) (x ∷ xs)) ks) (x ∷ (filter (is l) xs ++ flat_map (λ m. filter (is m) xs) ks))
      here e =
          let passes : is l x ≡ true = ap (λ (m : K). is m x) e ∙ t in
          same_elements (filter (is l) (x ∷ xs) ++ flat_map (λ m. filter (is m) (x ∷ xs)) ks) (x ∷ (filter (is l) xs ++ flat_map (λ m. filter (is m) xs) ks))
          (ap (λ (b : Bool). cond b (x ∷ filter (is l) xs) (filter (is l) xs) ++ flat_map (λ m. filter (is m) (x ∷ xs)) ks) passes
          ∙ ap (λ (r : List X). x ∷ (filter (is l) xs ++ r)) (skipped ks (λ m i. apart.0 x m i passes)))

      there : Contains ks k → IsPermutation (flat_map (λ m. filter (is m) (x ∷ xs)) ks) (x ∷ flat_map (λ m. filter (is m) xs) ks) → (b : Bool) → is l x ≡ b → IsPermutation (filter (is l) (x ∷ xs) ++ flat_map (λ m. filter (is m) (x ∷ xs)) ks) (x ∷ (filter (is l) xs ++ flat_map (λ m. filter (is m) xs) ks))
      there later more true s = absurd (true≢false (sym t ∙ apart.0 x k later s))
      there later more false s =
          subst (λ (r : List X). IsPermutation (r ++ flat_map (λ m. filter (is m) (x ∷ xs)) ks) (x ∷ (filter (is l) xs ++ flat_map (λ m. filter (is m) xs) ks)))
          (sym (ap (λ (b : Bool). cond b (x ∷ filter (is l) xs) (filter (is l) xs)) s))
          (IsPermutation-trans (filter (is l) xs ++ flat_map (λ m. filter (is m) (x ∷ xs)) ks) (filter (is l) xs ++ x ∷ flat_map (λ m. filter (is m) xs) ks) (x ∷ (filter (is l) xs ++ flat_map (λ m. filter (is m) xs) ks))
          (IsPermutation-append_right (filter (is l) xs) (flat_map (λ m. filter (is m) (x ∷ xs)) ks) (x ∷ flat_map (λ m. filter (is m) xs) ks) more)
          (IsPermutation-middle (filter (is l) xs) x (flat_map (λ m. filter (is m) xs) ks)))

  pub parts_all : (xs : List X) (ks : List K) → AreApart ks → ((x : X) → Contains xs x → (k : K) × Contains ks k × (is k x ≡ true)) → IsPermutation (flat_map (λ k. filter (is k) xs) ks) xs
  parts_all [] ks apart each = same_elements (flat_map (λ k. filter (is k) []) ks) [] (flat_none (λ k. filter (is k) []) ks (λ k h. refl))
  parts_all (x ∷ xs) ks apart each =
      let own = each x (at_head x xs) in
      IsPermutation-trans (flat_map (λ k. filter (is k) (x ∷ xs)) ks) (x ∷ flat_map (λ k. filter (is k) xs) ks) (x ∷ xs)
      (one_part x xs own.0 ks apart own.1 own.2)
      (IsPermutation-cons x (flat_map (λ k. filter (is k) xs) ks) xs (parts_all xs ks apart (λ y h. each y (in_tail x xs y h))))
