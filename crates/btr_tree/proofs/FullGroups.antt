-- Each group is as full as the next entry lets it be.
use Rattle.btr_tree.proofs.Imports.{◌≡◌, ℕ, zero, suc, ◌+◌, ◌<◌, ◌≤◌, List, [], ◌∷◌, ◌++◌, length, get_or, refl, sym, ◌∙◌, ap, subst, arith, append_assoc, ⊎_elim, All, concat, cases_lt, All-nil, All-cons, All-head, All-tail, sum_by_push, bytes_of, PackingIsFull, weight, packed_from}
use Rattle.btr_tree.proofs.Groups.{packed-fits, packed-next, packed-none}

-- groups where the first is begun
record IsPackingFrom (room : ℕ) (begun lengths : List ℕ) (groups : List (List ℕ)) : Type 0 where
  whole : concat groups ≡ begun ++ lengths
  some : 1 ≤ length groups
  fit : All (λ group. bytes_of group ≤ room) groups
  head : (n : ℕ) (ns : List ℕ) → begun ≡ n ∷ ns → (1 ≤ length (get_or groups 0 [])) × (get_or (get_or groups 0 []) 0 0 ≡ n)
  later : (k : ℕ) → 0 < k → k < length groups → 1 ≤ length (get_or groups k [])
  full : (k : ℕ) → k + 1 < length groups → room < bytes_of (get_or groups k []) + weight (get_or (get_or groups (k + 1) []) 0 0)

front_head : (begun : List ℕ) (n m : ℕ) (ns : List ℕ) → begun ≡ m ∷ ns → begun ++ n ∷ [] ≡ m ∷ (ns ++ n ∷ [])
front_head begun n m ns is = ap (λ xs. xs ++ n ∷ []) is

packs : (room : ℕ) (begun lengths : List ℕ) → bytes_of begun ≤ room → All (λ n. weight n ≤ room) lengths → IsPackingFrom room begun lengths (packed_from weight room begun lengths)
packs room begun [] fits all =
    subst (IsPackingFrom room begun []) (sym (packed-none weight room begun))
    (record {
      whole = refl;
      some = omega arith;
      fit = All-cons (λ group. bytes_of group ≤ room) begun [] fits (All-nil (λ (group : List ℕ). bytes_of group ≤ room));
      head = λ n ns is. (omega (arith, ap length is), ap (λ xs. get_or xs 0 0) is);
      later = λ k low high. absurd (omega arith);
      full = λ k high. absurd (omega arith);
    })
packs room begun (n ∷ lengths) fits all =
    let here : weight n ≤ room = All-head (λ x. weight x ≤ room) n lengths all in
    let others : All (λ x. weight x ≤ room) lengths = All-tail (λ x. weight x ≤ room) n lengths all in
    ⊎_elim
    (λ (next : room < bytes_of begun + weight n).
    let one : bytes_of (n ∷ []) ≤ room = omega arith in
    let rest : IsPackingFrom room (n ∷ []) lengths (packed_from weight room (n ∷ []) lengths) = packs room (n ∷ []) lengths one others in
    let first = rest.head n [] refl in
    subst (IsPackingFrom room begun (n ∷ lengths)) (sym (packed-next weight room begun n lengths next))
    (record {
      whole = ap (λ xs. begun ++ xs) rest.whole;
      some = omega arith;
      fit = All-cons (λ group. bytes_of group ≤ room) begun (packed_from weight room (n ∷ []) lengths) fits rest.fit;
      head = λ m ns is. (omega (arith, ap length is), ap (λ xs. get_or xs 0 0) is);
      later = λ k low high. later_on room begun (packed_from weight room (n ∷ []) lengths) rest.later first.0 k low high;
      full = λ k high. full_on room begun n (packed_from weight room (n ∷ []) lengths) next first.1 rest.full k high;
    }))
    (λ (more : bytes_of begun + weight n ≤ room).
    let sum : bytes_of (begun ++ n ∷ []) ≤ room = omega (arith, sum_by_push weight begun n) in
    let rest : IsPackingFrom room (begun ++ n ∷ []) lengths (packed_from weight room (begun ++ n ∷ []) lengths) = packs room (begun ++ n ∷ []) lengths sum others in
    subst (IsPackingFrom room begun (n ∷ lengths)) (sym (packed-fits weight room begun n lengths more))
    (record {
      whole = rest.whole ∙ append_assoc begun (n ∷ []) lengths;
      some = rest.some;
      fit = rest.fit;
      head = λ m ns is. rest.head m (ns ++ n ∷ []) (front_head begun n m ns is);
      later = rest.later;
      full = rest.full;
    }))
    (cases_lt room (bytes_of begun + weight n))
  where
    later_on : (room : ℕ) (begun : List ℕ) (groups : List (List ℕ)) → ((k : ℕ) → 0 < k → k < length groups → 1 ≤ length (get_or groups k [])) → 1 ≤ length (get_or groups 0 [])
        → (k : ℕ) → 0 < k → k < length (begun ∷ groups) → 1 ≤ length (get_or (begun ∷ groups) k [])
    later_on room begun groups later first zero low high = absurd (omega arith)
    later_on room begun groups later first (suc zero) low high = first
    later_on room begun groups later first (suc (suc k)) low high = later (suc k) (omega arith) (omega arith)

    full_on : (room : ℕ) (begun : List ℕ) (n : ℕ) (groups : List (List ℕ)) → room < bytes_of begun + weight n → get_or (get_or groups 0 []) 0 0 ≡ n
        → ((k : ℕ) → k + 1 < length groups → room < bytes_of (get_or groups k []) + weight (get_or (get_or groups (k + 1) []) 0 0))
        → (k : ℕ) → k + 1 < length (begun ∷ groups) → room < bytes_of (get_or (begun ∷ groups) k []) + weight (get_or (get_or (begun ∷ groups) (k + 1) []) 0 0)
    full_on room begun n groups next first full zero high =
        subst (λ (x : ℕ). room < bytes_of begun + weight x) (sym (ap (λ (j : ℕ). get_or (get_or (begun ∷ groups) j []) 0 0) (let e : 0 + 1 ≡ suc 0 = omega arith in e) ∙ first)) next
    full_on room begun n groups next first full (suc k) high =
        subst (λ (j : ℕ). room < bytes_of (get_or groups k []) + weight (get_or (get_or (begun ∷ groups) j []) 0 0)) (let e : suc (k + 1) ≡ suc k + 1 = omega arith in e) (full k (omega arith))

pub packing_full : PackingIsFull
packing_full = λ room lengths all.
    let is = packs room [] lengths (omega arith) all in
    record { whole = is.whole; some = is.some; fit = is.fit; begun = is.later; full = is.full }
