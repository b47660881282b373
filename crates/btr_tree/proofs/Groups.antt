-- Entries in groups, one entry more.
use Rattle.btr_tree.proofs.Imports.{◌≡◌, ℕ, ◌+◌, ◌-◌, ◌<◌, ◌≤◌, List, [], ◌∷◌, ◌++◌, length, get_or, refl, sym, ◌∙◌, ap, arith, append_assoc, length-append, zero-add, ⊎_elim, sum_by, cases_lt, le-leb, lt-leb, get_or_at, length_push, sum_by_push, packed_from, packed, weight, capacity, packed_leaves, Tally, Counted, bytes_of}

-- an entry that fits goes into the group that is begun
pub packed-fits : {E : Type 0} (size : E → ℕ) (room : ℕ) (begun : List E) (e : E) (es : List E) → sum_by size begun + size e ≤ room
    → packed_from size room begun (e ∷ es) ≡ packed_from size room (begun ++ e ∷ []) es
unfolding packed_from
packed-fits size room begun e es h = rw (le-leb _ _ h) refl

-- another one begins the next group
pub packed-next : {E : Type 0} (size : E → ℕ) (room : ℕ) (begun : List E) (e : E) (es : List E) → room < sum_by size begun + size e
    → packed_from size room begun (e ∷ es) ≡ begun ∷ packed_from size room (e ∷ []) es
unfolding packed_from
packed-next size room begun e es h = rw (lt-leb _ _ h) refl

pub packed-none : {E : Type 0} (size : E → ℕ) (room : ℕ) (begun : List E) → packed_from size room begun [] ≡ begun ∷ []
unfolding packed_from
packed-none size room begun = refl

-- there is a last group
pub ends_in : {E : Type 0} (size : E → ℕ) (room : ℕ) (begun es : List E) → (done : List (List E)) × (last : List E) × (packed_from size room begun es ≡ done ++ last ∷ [])
ends_in size room begun [] = ([], begun, packed-none size room begun)
ends_in size room begun (e ∷ es) =
    ⊎_elim
    (λ (more : room < sum_by size begun + size e).
    let rest = ends_in size room (e ∷ []) es in (begun ∷ rest.0, rest.1, packed-next size room begun e es more ∙ ap (λ gs. begun ∷ gs) rest.2))
    (λ (fits : sum_by size begun + size e ≤ room).
    let rest = ends_in size room (begun ++ e ∷ []) es in (rest.0, rest.1, packed-fits size room begun e es fits ∙ rest.2))
    (cases_lt room (sum_by size begun + size e))

alone : {E : Type 0} (a last : List E) (done : List (List E)) → a ∷ [] ≡ done ++ last ∷ [] → (done ≡ []) × (a ≡ last)
alone a last [] same = (refl, cc)
alone a last (d ∷ done) same = absurd (omega (arith, ap length same, length-append done (last ∷ [])))

-- what comes behind some entries goes on with the last group of these
pub goes_on : {E : Type 0} (size : E → ℕ) (room : ℕ) (begun es more last : List E) (done : List (List E))
    → packed_from size room begun es ≡ done ++ last ∷ [] → packed_from size room begun (es ++ more) ≡ done ++ packed_from size room last more
goes_on size room begun [] more last done is =
    let parts = alone begun last done (sym (packed-none size room begun) ∙ is) in rw (parts.0, parts.1) refl
goes_on {E = E} size room begun (e ∷ es) more last done is =
    ⊎_elim
    (λ (next : room < sum_by size begun + size e).
    let known : begun ∷ packed_from size room (e ∷ []) es ≡ done ++ last ∷ [] = sym (packed-next size room begun e es next) ∙ is in
    packed-next size room begun e (es ++ more) next ∙ behind begun (e ∷ []) es last done known (λ done'. goes_on size room (e ∷ []) es more last done'))
    (λ (fits : sum_by size begun + size e ≤ room).
    packed-fits size room begun e (es ++ more) fits ∙ goes_on size room (begun ++ e ∷ []) es more last done (sym (packed-fits size room begun e es fits) ∙ is))
    (cases_lt room (sum_by size begun + size e))
  where
    behind : (begun first es last : List E) (done : List (List E)) → begun ∷ packed_from size room first es ≡ done ++ last ∷ []
        → ((done' : List (List E)) → packed_from size room first es ≡ done' ++ last ∷ [] → packed_from size room first (es ++ more) ≡ done' ++ packed_from size room last more)
        → begun ∷ packed_from size room first (es ++ more) ≡ done ++ packed_from size room last more
    behind begun first es last [] known rest =
        let found = ends_in size room first es in
        let none : packed_from size room first es ≡ [] = cc in
        absurd (omega (arith, ap length (sym none ∙ found.2), length-append found.0 (found.1 ∷ [])))
    behind begun first es last (d ∷ done) known rest =
        let same : begun ≡ d = cc in
        let others : packed_from size room first es ≡ done ++ last ∷ [] = cc in rw (rest done others, same) refl

-- one entry more
pub one_more_fits : {E : Type 0} (size : E → ℕ) (room : ℕ) (es last : List E) (done : List (List E)) (e : E)
    → packed size room es ≡ done ++ last ∷ [] → sum_by size last + size e ≤ room → packed size room (es ++ e ∷ []) ≡ done ++ (last ++ e ∷ []) ∷ []
one_more_fits size room es last done e is h =
    goes_on size room [] es (e ∷ []) last done is ∙ ap (λ gs. done ++ gs) (packed-fits size room last e [] h ∙ packed-none size room (last ++ e ∷ []))

pub one_more_next : {E : Type 0} (size : E → ℕ) (room : ℕ) (es last : List E) (done : List (List E)) (e : E)
    → packed size room es ≡ done ++ last ∷ [] → room < sum_by size last + size e → packed size room (es ++ e ∷ []) ≡ (done ++ last ∷ []) ++ (e ∷ []) ∷ []
one_more_next size room es last done e is h =
    goes_on size room [] es (e ∷ []) last done is
    ∙ (ap (λ gs. done ++ gs) (packed-next size room last e [] h ∙ ap (λ gs. last ∷ gs) (packed-none size room (e ∷ []))) ∙ sym (append_assoc done (last ∷ []) ((e ∷ []) ∷ [])))

last_is : (groups done : List (List ℕ)) (last : List ℕ) → groups ≡ done ++ last ∷ [] → get_or groups (length groups - 1) [] ≡ last
last_is groups done last is =
    let at : length done ≡ length groups - 1 = omega (arith, ap length is, length_push done last) in
    ap (λ gs. get_or gs (length groups - 1) []) is ∙ get_or_at done last [] [] (length groups - 1) at

-- nothing was added yet
pub counts_none : (nodesize : ℕ) → Counted (record { nodesize = nodesize; leaves = 1; fill = 0; bytes = 0 }) []
unfolding packed_from
counts_none nodesize = record { count = refl; begun = refl; total = refl }

-- an item that fits into the last leaf
pub counts_fit : (tally : Tally) (lengths : List ℕ) (n : ℕ) → Counted tally lengths → tally.fill + weight n ≤ capacity tally.nodesize
    → Counted (record { nodesize = tally.nodesize; leaves = tally.leaves; fill = tally.fill + weight n; bytes = tally.bytes + weight n }) (lengths ++ n ∷ [])
counts_fit tally lengths n known fits =
    let found = ends_in weight (capacity tally.nodesize) [] lengths in
    let fill : bytes_of found.1 ≡ tally.fill = sym (known.begun ∙ ap bytes_of (last_is (packed_leaves tally.nodesize lengths) found.0 found.1 found.2)) in
    let more : packed_leaves tally.nodesize (lengths ++ n ∷ []) ≡ found.0 ++ (found.1 ++ n ∷ []) ∷ [] =
    one_more_fits weight (capacity tally.nodesize) lengths found.1 found.0 n found.2 (omega arith) in
    record {
      count = omega (arith, known.count, ap length found.2, length_push found.0 found.1, ap length more, length_push found.0 (found.1 ++ n ∷ []));
      begun = sym (ap bytes_of (last_is (packed_leaves tally.nodesize (lengths ++ n ∷ [])) found.0 (found.1 ++ n ∷ []) more) ∙ (sum_by_push weight found.1 n ∙ omega arith));
      total = omega (arith, known.total, sum_by_push weight lengths n);
    }

-- and one that begins the next leaf
pub counts_next : (tally : Tally) (lengths : List ℕ) (n : ℕ) → Counted tally lengths → capacity tally.nodesize < tally.fill + weight n
    → Counted (record { nodesize = tally.nodesize; leaves = tally.leaves + 1; fill = weight n; bytes = tally.bytes + weight n }) (lengths ++ n ∷ [])
counts_next tally lengths n known next =
    let found = ends_in weight (capacity tally.nodesize) [] lengths in
    let fill : bytes_of found.1 ≡ tally.fill = sym (known.begun ∙ ap bytes_of (last_is (packed_leaves tally.nodesize lengths) found.0 found.1 found.2)) in
    let more : packed_leaves tally.nodesize (lengths ++ n ∷ []) ≡ (found.0 ++ found.1 ∷ []) ++ (n ∷ []) ∷ [] =
    one_more_next weight (capacity tally.nodesize) lengths found.1 found.0 n found.2 (omega arith) in
    record {
      count = omega (arith, known.count, ap length found.2, length_push found.0 found.1, ap length more, length_push (found.0 ++ found.1 ∷ []) (n ∷ []));
      begun = sym (ap bytes_of (last_is (packed_leaves tally.nodesize (lengths ++ n ∷ [])) (found.0 ++ found.1 ∷ []) (n ∷ []) more) ∙ zero-add (weight n));
      total = omega (arith, known.total, sum_by_push weight lengths n);
    }
