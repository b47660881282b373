-- Names and paths of a sample ascend with their numbers.
use Rattle.reiser_make_laws.proofs.Imports.{◌≡◌, ◌⊎◌, inl, inr, ℕ, ◌+◌, ◌/◌, ◌%◌, ◌≤◌, ◌<◌, List, [], ◌∷◌, refl, ◌∙◌, ap, arith, Ordering, Less, Equal, nat_cmp, ordering_then, slice_cmp, cases_lt, NameList, path_cmp, decimal, directory_name, file_name, path_of}
use Rattle.reiser_make_laws.proofs.Ascending.{cmp_less, cmp_same}

abbrev name_cmp : List ℕ → List ℕ → Ordering
name_cmp a b = slice_cmp nat_cmp a b

-- a digit more, or the same one before what is less
digit_by : (a b : ℕ) (rest : Ordering) → (a < b) ⊎ (b ≤ a) → (b ≤ a → (a ≡ b) × (rest ≡ Less)) → ordering_then (nat_cmp (48 + a) (48 + b)) rest ≡ Less
digit_by a b rest (inl more) same = ap (λ o. ordering_then o rest) (cmp_less (48 + a) (48 + b) (omega (arith, more)))
digit_by a b rest (inr less) same = let s = same less in ap (λ o. ordering_then o rest) (cmp_same (48 + a) (48 + b) (omega (arith, s.0))) ∙ s.1

digit : (a b : ℕ) (rest : Ordering) → (b ≤ a → (a ≡ b) × (rest ≡ Less)) → ordering_then (nat_cmp (48 + a) (48 + b)) rest ≡ Less
digit a b rest same = digit_by a b rest (cases_lt a b) same

one_less : (x y : ℕ) → x % 10 < y % 10 → name_cmp (decimal 1 x) (decimal 1 y) ≡ Less
one_less x y lt = digit (x / 1 % 10) (y / 1 % 10) Equal (λ le. absurd (omega (arith, lt, le)))

two_less : (x y : ℕ) → x % 100 < y % 100 → name_cmp (decimal 2 x) (decimal 2 y) ≡ Less
two_less x y lt = digit (x / 10 % 10) (y / 10 % 10) (name_cmp (decimal 1 x) (decimal 1 y)) (λ le. (omega (arith, lt, le), one_less x y (omega (arith, lt, le))))

three_less : (x y : ℕ) → x % 1000 < y % 1000 → name_cmp (decimal 3 x) (decimal 3 y) ≡ Less
three_less x y lt = digit (x / 100 % 10) (y / 100 % 10) (name_cmp (decimal 2 x) (decimal 2 y)) (λ le. (omega (arith, lt, le), two_less x y (omega (arith, lt, le))))

four_less : (x y : ℕ) → x % 10000 < y % 10000 → name_cmp (decimal 4 x) (decimal 4 y) ≡ Less
four_less x y lt = digit (x / 1000 % 10) (y / 1000 % 10) (name_cmp (decimal 3 x) (decimal 3 y)) (λ le. (omega (arith, lt, le), three_less x y (omega (arith, lt, le))))

five_less : (x y : ℕ) → x % 100000 < y % 100000 → name_cmp (decimal 5 x) (decimal 5 y) ≡ Less
five_less x y lt = digit (x / 10000 % 10) (y / 10000 % 10) (name_cmp (decimal 4 x) (decimal 4 y)) (λ le. (omega (arith, lt, le), four_less x y (omega (arith, lt, le))))

pub directory_less : (j k : ℕ) → j < k → k < 10000 → name_cmp (directory_name j) (directory_name k) ≡ Less
unfolding directory_name
directory_less j k lt low = ap (λ o. ordering_then o (name_cmp (decimal 4 j) (decimal 4 k))) (cmp_same 100 100 refl) ∙ four_less j k (omega (arith, lt, low))

pub file_less : (j k : ℕ) → j < k → k < 100000 → name_cmp (file_name j) (file_name k) ≡ Less
unfolding file_name
file_less j k lt low = ap (λ o. ordering_then o (name_cmp (decimal 5 j) (decimal 5 k))) (cmp_same 102 102 refl) ∙ five_less j k (omega (arith, lt, low))

-- the same name, and so the same path
pub name_same : (a : List ℕ) → name_cmp a a ≡ Equal
name_same [] = refl
name_same (x ∷ xs) = ap (λ o. ordering_then o (name_cmp xs xs)) (cmp_same x x refl) ∙ name_same xs

pub path_same : (p : NameList) → path_cmp p p ≡ Equal
path_same [] = refl
path_same (x ∷ xs) = ap (λ o. ordering_then o (path_cmp xs xs)) (name_same x) ∙ path_same xs

-- by the first names
pub first_less : (a b : List ℕ) (p q : NameList) → name_cmp a b ≡ Less → path_cmp (a ∷ p) (b ∷ q) ≡ Less
first_less a b p q less = ap (λ o. ordering_then o (path_cmp p q)) less

-- by what is behind the same name
pub rest_less : (a b : List ℕ) (p q : NameList) → a ≡ b → path_cmp p q ≡ Less → path_cmp (a ∷ p) (b ∷ q) ≡ Less
rest_less a b p q same less = ap (λ (x : List ℕ). path_cmp (x ∷ p) (b ∷ q)) same ∙ ap (λ o. ordering_then o (path_cmp p q)) (name_same b) ∙ less

path_less_by : (j i : ℕ) → j < i → i < 100000 → (j / 100 < i / 100) ⊎ (i / 100 ≤ j / 100) → path_cmp (path_of j) (path_of i) ≡ Less
path_less_by j i lt low (inl other) =
    first_less (directory_name (j / 100)) (directory_name (i / 100)) (file_name j ∷ []) (file_name i ∷ []) (directory_less (j / 100) (i / 100) other (omega (arith, low)))
path_less_by j i lt low (inr one) =
    let same : j / 100 ≡ i / 100 = omega (arith, lt, one) in
    rest_less (directory_name (j / 100)) (directory_name (i / 100)) (file_name j ∷ []) (file_name i ∷ []) (ap directory_name same)
    (first_less (file_name j) (file_name i) [] [] (file_less j i lt low))

pub path_less : (j i : ℕ) → j < i → i < 100000 → path_cmp (path_of j) (path_of i) ≡ Less
path_less j i lt low = path_less_by j i lt low (cases_lt (j / 100) (i / 100))
