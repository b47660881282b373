-- What the items of a list take in leaves.
use Rattle.convert_trees_laws.proofs.Imports.{◌≡◌, ◌≤◌, ℕ, ◌+◌, ◌*◌, List, [], ◌∷◌, ◌++◌, length, map, sum_by, ap, ◌∙◌, arith, All, map-append, All-head, All-tail, sum_by-append, sum_by-cons, ITEM_SIZE, Item, bytes_of, weight, lengths_of, bytes_in}

pub bytes-cons : (i : Item) (items : List Item) → bytes_in (i ∷ items) ≡ ITEM_SIZE + length i.1 + bytes_in items
bytes-cons i items = sum_by-cons weight (length i.1) (lengths_of items)

pub bytes-append : (xs ys : List Item) → bytes_in (xs ++ ys) ≡ bytes_in xs + bytes_in ys
bytes-append xs ys = ap bytes_of (map-append (λ (i : Item). length i.1) xs ys) ∙ sum_by-append weight (lengths_of xs) (lengths_of ys)

pub sum-same : {A : Type 0} (n : ℕ) (xs : List A) → sum_by (λ x. n) xs ≡ n * length xs
sum-same n [] = omega arith
sum-same {A} n (x ∷ xs) =
    let all : sum_by (λ (y : A). n) (x ∷ xs) ≡ n + sum_by (λ (y : A). n) xs = sum_by-cons (λ (y : A). n) x xs in
    let rest : sum_by (λ (y : A). n) xs ≡ n * length xs = sum-same n xs in
    let more : n * length (x ∷ xs) ≡ n + n * length xs = grind arith in
    omega (arith, all, rest, more)

-- an item for each element
pub bytes-map : {A : Type 0} (f : A → Item) (w : A → ℕ) → ((x : A) → length (f x).1 ≤ w x) → (xs : List A) → bytes_in (map f xs) ≤ sum_by (λ x. ITEM_SIZE + w x) xs
bytes-map f w each [] = omega arith
bytes-map {A} f w each (x ∷ xs) =
    let here = each x in
    let rest = bytes-map f w each xs in
    let one = bytes-cons (f x) (map f xs) in
    let all : sum_by (λ (y : A). ITEM_SIZE + w y) (x ∷ xs) ≡ ITEM_SIZE + w x + sum_by (λ (y : A). ITEM_SIZE + w y) xs = sum_by-cons (λ (y : A). ITEM_SIZE + w y) x xs in
    omega (arith, here, rest, one, all)

-- items of the same length at most
pub bytes-short : (most : ℕ) (items : List Item) → All (λ i. length i.1 ≤ most) items → bytes_in items ≤ (ITEM_SIZE + most) * length items
bytes-short most [] all = omega arith
bytes-short most (i ∷ items) all =
    let one = bytes-cons i items in
    let here = All-head (λ (j : Item). length j.1 ≤ most) i items all in
    let rest = bytes-short most items (All-tail (λ (j : Item). length j.1 ≤ most) i items all) in
    let more : (ITEM_SIZE + most) * length (i ∷ items) ≡ ITEM_SIZE + most + (ITEM_SIZE + most) * length items = grind arith in
    omega (arith, one, here, rest, more)
