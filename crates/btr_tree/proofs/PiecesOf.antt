-- Pieces of one size.
use Rattle.btr_tree.proofs.Imports.{◌≡◌, ℕ, zero, suc, ◌+◌, ◌*◌, ◌≤◌, List, [], ◌∷◌, ◌++◌, length, take, drop, refl, ◌∙◌, ap, arith, take-append-le, drop-append-le, take_all, nil_from_length, mul-suc, pieces_of}
use Rattle.std.proofs.Common.{length-drop}

pub length-pieces_of : (size n : ℕ) (bytes : List ℕ) → length (pieces_of size n bytes) ≡ n
length-pieces_of size zero bytes = refl
length-pieces_of size (suc n) bytes = ap suc (length-pieces_of size n (drop size bytes))

-- one piece more
pub pieces_of-push : (size n : ℕ) (bytes more : List ℕ) → length bytes ≡ size * n → length more ≡ size → pieces_of size (n + 1) (bytes ++ more) ≡ pieces_of size n bytes ++ more ∷ []
pieces_of-push size zero bytes more long size_is =
    let none : bytes ≡ [] = nil_from_length bytes (omega arith) in
    let all : take size more ≡ more = take_all size more (omega arith) in
    rw none (ap (λ xs. xs ∷ []) all)
pieces_of-push size (suc n) bytes more long size_is =
    let next : suc n + 1 ≡ suc (n + 1) = omega arith in
    let inside : size ≤ length bytes = grind (arith, long) in
    let rest : length (drop size bytes) ≡ size * n = rest_long size n bytes long in
    rw next
    (ap (λ xs. xs ∷ pieces_of size (n + 1) (drop size (bytes ++ more))) (take-append-le size bytes more inside)
    ∙ ap (λ xs. take size bytes ∷ xs) (ap (pieces_of size (n + 1)) (drop-append-le size bytes more inside) ∙ pieces_of-push size n (drop size bytes) more rest size_is))
  where
    rest_long : (size n : ℕ) (bytes : List ℕ) → length bytes ≡ size * suc n → length (drop size bytes) ≡ size * n
    rest_long size n bytes long = omega (arith, length-drop size bytes, mul-suc size n, long)
