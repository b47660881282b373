-- The hashes of the names of entries.
use Rattle.btr_check_names.proofs.Imports.{◌≡◌, ℕ, zero, suc, ◌+◌, ◌<◌, Bool, List, [], ◌∷◌, ◌++◌, length, get_or, take, nat_eq, refl, sym, ap, ◌∙◌, subst, arith, Some, extref_hash, length-take-le, take_more, slice_get-get_or, slice_get, Contains, nat_tests, All-contains, All-cons, All-nil, All-weaker, searchable_from_sorted, All-permutation, Contains-permutation, IsNonDecreasingBy, IsPermutation, is_eq, nat_cmp, ordering_index, AscendByHash, hash_at, hashes_from, IndexEntry, HashAt}
use Rattle.std.specs.List.{All}
use Rattle.std.proofs.lemmas.Cmp.{nat_cmp_total}
use Rattle.btr_check_names.proofs.Permuting.{Contains-here, Contains-later, any_of}

pub same_cmp : (a b : ℕ) → nat_eq a b ≡ is_eq (nat_cmp a b)
same_cmp a b = grind (arith, nat_tests)

pub rises : (keys : List HashAt) (hash : ℕ) → AscendByHash keys → IsNonDecreasingBy (λ (k : HashAt). ordering_index (nat_cmp k.hash hash)) keys
rises keys hash ascend = searchable_from_sorted nat_cmp_total (λ (k : HashAt). k.hash) keys hash ascend

-- one entry more
pub hashes_push : (n : ℕ) (entries : List IndexEntry) (e : IndexEntry) → hashes_from n (entries ++ e ∷ []) ≡ hashes_from n entries ++ hash_at (n + length entries) e ∷ []
hashes_push n [] e = let same : n ≡ n + 0 = omega arith in ap (λ (k : ℕ). hash_at k e ∷ []) same
hashes_push n (x ∷ entries) e =
    let same : n + 1 + length entries ≡ n + suc (length entries) = omega arith in
    ap (λ (l : List HashAt). hash_at n x ∷ l) (hashes_push (n + 1) entries e ∙ ap (λ (k : ℕ). hashes_from (n + 1) entries ++ hash_at k e ∷ []) same)

-- numbers are those of entries
pub numbers_within : (n : ℕ) (entries : List IndexEntry) → All (λ (k : HashAt). k.number < n + length entries) (hashes_from n entries)
numbers_within n [] = All-nil (λ (k : HashAt). k.number < n + 0)
numbers_within n (e ∷ entries) =
    All-cons (λ (k : HashAt). k.number < n + suc (length entries)) (hash_at n e) (hashes_from (n + 1) entries) (omega arith)
    (All-weaker (λ (k : HashAt). k.number < n + 1 + length entries) (λ (k : HashAt). k.number < n + suc (length entries)) (λ k less. omega arith) (hashes_from (n + 1) entries) (numbers_within (n + 1) entries))

-- each entry has its hash
pub hash_there : (n : ℕ) (entries : List IndexEntry) (i : ℕ) (d : IndexEntry) → i < length entries → Contains (hashes_from n entries) (hash_at (n + i) (get_or entries i d))
hash_there n [] i d within = absurd (omega arith)
hash_there n (e ∷ entries) zero d within =
    let same : n ≡ n + 0 = omega arith in subst (λ (k : ℕ). Contains (hashes_from n (e ∷ entries)) (hash_at k e)) same (Contains-here (hash_at n e) (hashes_from (n + 1) entries))
hash_there n (e ∷ entries) (suc i) d within =
    let same : n + 1 + i ≡ n + suc i = omega arith in
    subst (λ (k : ℕ). Contains (hashes_from n (e ∷ entries)) (hash_at k (get_or entries i d))) same (Contains-later (hash_at n e) (hashes_from (n + 1) entries) _ (hash_there (n + 1) entries i d (omega arith)))

-- the step of a loop that takes the hashes of entries
pub hash_next : (entries : List IndexEntry) (before after : List HashAt) (i hash number dir : ℕ) (name : List ℕ) → i < length entries → before ≡ hashes_from 0 (take i entries)
    → ((e : IndexEntry) → slice_get entries i ≡ Some e → dir ≡ e.entry.dir) → ((e : IndexEntry) → slice_get entries i ≡ Some e → name ≡ e.entry.name)
    → hash ≡ extref_hash dir name → number ≡ i → after ≡ before ++ record { hash = hash; number = number } ∷ [] → after ≡ hashes_from 0 (take (i + 1) entries)
hash_next entries before after i hash number dir name within built dir_is name_is hash_is number_is after_is =
    let e : IndexEntry = any_of entries i within in
    let x : IndexEntry = get_or entries i e in
    let there : slice_get entries i ≡ Some x = slice_get-get_or entries i e within in
    let long : length (take i entries) ≡ i = length-take-le i entries (omega arith) in
    let hash_same : hash ≡ extref_hash x.entry.dir x.entry.name = hash_is ∙ (ap (λ (n : ℕ). extref_hash n name) (dir_is x there) ∙ ap (extref_hash x.entry.dir) (name_is x there)) in
    let number_same : number ≡ 0 + length (take i entries) = omega (arith, long, number_is) in
    let same : key hash number ≡ hash_at (0 + length (take i entries)) x = key_same hash (extref_hash x.entry.dir x.entry.name) number (0 + length (take i entries)) hash_same number_same in
    after_is ∙ (ap (λ (l : List HashAt). l ++ key hash number ∷ []) built ∙ (ap (λ (k : HashAt). hashes_from 0 (take i entries) ++ k ∷ []) same
    ∙ (sym (hashes_push 0 (take i entries) x) ∙ ap (hashes_from 0) (sym (take_more entries i e within)))))
  where
    key : ℕ → ℕ → HashAt
    key h n = record { hash = h; number = n }

    key_same : (h h' n n' : ℕ) → h ≡ h' → n ≡ n' → key h n ≡ key h' n'
    key_same h h' n n' first second = ap (λ (k : ℕ). key k n) first ∙ ap (key h') second
