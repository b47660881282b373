-- Steps over the records of a body.
use Rattle.btr_keys.proofs.Imports.{◌≡◌, ◌<◌, ◌≤◌, ℕ, zero, suc, ◌+◌, List, [], ◌∷◌, length, drop, Option, Some, None, refl, ap, sym, ◌∙◌, arith, length-drop, cond, ltb, Bool, true, false, ◌==◌, subst, get_or, slice_get, map, IsSome, is_some, drop_more, length-map, ltb-false, eqb-true, option_map, option_and_then, field, behind_named, starts_within, starts, at_least_one}
use Rattle.std.proofs.lemmas.Option.{slice_get-get_or, slice_get-map}

-- a record has bytes
abbrev pub Shrinks : (List ℕ → Option (List ℕ)) → Type 0
Shrinks behind = (bytes rest : List ℕ) → behind bytes ≡ Some rest → length rest < length bytes

abbrev with_start : List ℕ → Option (List (List ℕ)) → Option (List (List ℕ))
with_start bytes rest = option_map (λ (starts : List (List ℕ)). bytes ∷ starts) rest

no_rest : (x : List ℕ) → None ≡ Some x → ⊥
no_rest x e = cc

is_some_of : (x y : List ℕ) → Some x ≡ Some y → x ≡ y
is_some_of x y e = cc

-- how many records there may be does not matter, as long as there may be as many as bytes
starts_enough : (behind : List ℕ → Option (List ℕ)) → Shrinks behind → (n m : ℕ) (bytes : List ℕ) → length bytes ≤ n → length bytes ≤ m → starts_within behind n bytes ≡ starts_within behind m bytes
unfolding starts_within
starts_enough behind shrinks zero zero [] a b = refl
starts_enough behind shrinks zero (suc m) [] a b = refl
starts_enough behind shrinks (suc n) zero [] a b = refl
starts_enough behind shrinks (suc n) (suc m) [] a b = refl
starts_enough behind shrinks zero m (x ∷ xs) a b = absurd (omega arith)
starts_enough behind shrinks (suc n) zero (x ∷ xs) a b = absurd (omega arith)
starts_enough behind shrinks (suc n) (suc m) (x ∷ xs) a b =
    let bytes : List ℕ = x ∷ xs in
    let same : (o : Option (List ℕ)) → behind bytes ≡ o
    → option_and_then (λ rest. with_start bytes (starts_within behind n rest)) o ≡ option_and_then (λ rest. with_start bytes (starts_within behind m rest)) o
    = λ o. elim o as (λ o. behind bytes ≡ o
    → option_and_then (λ rest. with_start bytes (starts_within behind n rest)) o ≡ option_and_then (λ rest. with_start bytes (starts_within behind m rest)) o) [
      | None ↦ λ e. refl
      | Some rest ↦ λ e.
          let shorter = shrinks bytes rest e in
          ap (with_start bytes) (starts_enough behind shrinks n m rest (omega arith) (omega arith))
    ] in
    same (behind bytes) refl

-- the first record, and those behind it
pub starts_step : (behind : List ℕ → Option (List ℕ)) → Shrinks behind → (bytes rest : List ℕ) → 0 < length bytes → behind bytes ≡ Some rest
    → starts behind bytes ≡ option_map (λ (starts : List (List ℕ)). bytes ∷ starts) (starts behind rest)
unfolding starts_within
starts_step behind shrinks [] rest some e = absurd (omega arith)
starts_step behind shrinks (x ∷ xs) rest some e =
    let bytes : List ℕ = x ∷ xs in
    let shorter = shrinks bytes rest e in
    ap (option_and_then (λ rest. with_start bytes (starts_within behind (length xs) rest))) e
    ∙ ap (with_start bytes) (starts_enough behind shrinks (length xs) (length rest) rest (omega arith) (omega arith))

-- no record
pub starts_stop : (behind : List ℕ → Option (List ℕ)) (bytes : List ℕ) → 0 < length bytes → behind bytes ≡ None → starts behind bytes ≡ None
unfolding starts_within
starts_stop behind [] some e = absurd (omega arith)
starts_stop behind (x ∷ xs) some e = ap (option_and_then (λ rest. with_start (x ∷ xs) (starts_within behind (length xs) rest))) e

pub starts_end : (behind : List ℕ → Option (List ℕ)) (bytes : List ℕ) → length bytes ≡ 0 → starts behind bytes ≡ Some []
unfolding starts_within
starts_end behind [] e = refl
starts_end behind (x ∷ xs) e = absurd (omega arith)

-- a test whether a list is empty
pub none_left : (b : Bool) (n : ℕ) → b ≡ (n == 0) → b ≡ true → n ≡ 0
none_left b n e t = eqb-true _ _ (sym e ∙ t)

pub some_left : (b : Bool) (n : ℕ) → b ≡ (n == 0) → b ≡ false → 0 < n
some_left b zero e t = absurd (cc)
some_left b (suc n) e t = omega arith

-- what is behind a record with a name is shorter
drops_shorter : (head n : ℕ) (bytes : List ℕ) → 0 < head → head + n ≤ length bytes → length (drop (head + n) bytes) < length bytes
drops_shorter head n bytes some within = omega (arith, length-drop (head + n) bytes)

chosen_rest : (short : Bool) (rest after : List ℕ) → cond short None (Some rest) ≡ Some after → (short ≡ false) × (rest ≡ after)
chosen_rest true rest after e = absurd cc
chosen_rest false rest after e = (refl, cc)

chosen_inner : (short : Bool) (inner : Option (List ℕ)) (after : List ℕ) → cond short None inner ≡ Some after → inner ≡ Some after
chosen_inner true inner after e = absurd cc
chosen_inner false inner after e = e

pub named_shrinks : (head at : ℕ) → 0 < head → Shrinks (behind_named head at)
unfolding behind_named
named_shrinks head at some bytes rest e =
    let size = head + field 2 bytes at in
    let inner = chosen_inner (ltb (length bytes) head) (cond (ltb (length bytes) size) None (Some (drop size bytes))) rest e in
    let last = chosen_rest (ltb (length bytes) size) (drop size bytes) rest inner in
    let long : size ≤ length bytes = ltb-false _ _ last.0 in
    subst (λ (r : List ℕ). length r < length bytes) last.1 (drops_shorter head (field 2 bytes at) bytes some long)

-- one record more is counted
pub counted_more : (behind : List ℕ → Option (List ℕ)) → Shrinks behind → (body rest after : List ℕ) (count : ℕ) → 0 < length rest → behind rest ≡ Some after
    → option_map length (starts behind body) ≡ option_map (λ n. count + n) (option_map length (starts behind rest))
    → option_map length (starts behind body) ≡ option_map (λ n. count + 1 + n) (option_map length (starts behind after))
counted_more behind shrinks body rest after count some e so_far =
    let step = starts_step behind shrinks rest after some e in
    let moved : (o : Option (List (List ℕ))) → option_map (λ n. count + n) (option_map length (with_start rest o)) ≡ option_map (λ n. count + 1 + n) (option_map length o)
    = λ o. elim o as (λ o. option_map (λ n. count + n) (option_map length (with_start rest o)) ≡ option_map (λ n. count + 1 + n) (option_map length o)) [
      | None ↦ refl
      | Some all ↦ let k : count + suc (length all) ≡ count + 1 + length all = omega arith in ap Some k
    ] in
    so_far ∙ ap (λ (o : Option (List (List ℕ))). option_map (λ n. count + n) (option_map length o)) step ∙ moved (starts behind after)

-- no whole record, so no count
pub counted_stop : (behind : List ℕ → Option (List ℕ)) (body rest : List ℕ) (count : ℕ) → 0 < length rest → behind rest ≡ None
    → option_map length (starts behind body) ≡ option_map (λ n. count + n) (option_map length (starts behind rest))
    → option_map length (starts behind body) ≡ None
counted_stop behind body rest count some e so_far =
    so_far ∙ ap (λ (o : Option (List (List ℕ))). option_map (λ n. count + n) (option_map length o)) (starts_stop behind rest some e)

-- all are counted
pub counted_end : (behind : List ℕ → Option (List ℕ)) (body rest : List ℕ) (count : ℕ) → length rest ≡ 0
    → option_map length (starts behind body) ≡ option_map (λ n. count + n) (option_map length (starts behind rest))
    → option_map length (starts behind body) ≡ Some count
counted_end behind body rest count none so_far =
    so_far ∙ ap (λ (o : Option (List (List ℕ))). option_map (λ n. count + n) (option_map length o)) (starts_end behind rest none)
    ∙ (let k : count + 0 ≡ count = omega arith in ap Some k)

-- the first start is all of the bytes, and what is behind that record has the others
pub starts_take_first : (behind : List ℕ → Option (List ℕ)) → Shrinks behind → (bytes start : List ℕ) (others : List (List ℕ)) → starts behind bytes ≡ Some (start ∷ others)
    → (bytes ≡ start) × (rest : List ℕ) × (behind bytes ≡ Some rest) × (starts behind rest ≡ Some others)
unfolding starts_within
starts_take_first behind shrinks [] start others e = absurd cc
starts_take_first behind shrinks (x ∷ xs) start others e =
    let bytes : List ℕ = x ∷ xs in
    let inner : (rest : List ℕ) (o : Option (List (List ℕ))) → behind bytes ≡ Some rest → starts_within behind (length xs) rest ≡ o → with_start bytes o ≡ Some (start ∷ others)
    → (bytes ≡ start) × (rest : List ℕ) × (behind bytes ≡ Some rest) × (starts behind rest ≡ Some others)
    = λ rest o. elim o as (λ o. behind bytes ≡ Some rest → starts_within behind (length xs) rest ≡ o → with_start bytes o ≡ Some (start ∷ others)
    → (bytes ≡ start) × (rest : List ℕ) × (behind bytes ≡ Some rest) × (starts behind rest ≡ Some others)) [
      | None ↦ λ b s h. absurd cc
      | Some all ↦ λ b s h.
          let shorter = shrinks bytes rest b in
          let is_start : bytes ≡ start = cc in
          let is_others : all ≡ others = cc in
          (is_start, rest, b, starts_enough behind shrinks (length rest) (length xs) rest (omega arith) (omega arith) ∙ s ∙ ap Some is_others)
    ] in
    let outer : (o : Option (List ℕ)) → behind bytes ≡ o → option_and_then (λ rest. with_start bytes (starts_within behind (length xs) rest)) o ≡ Some (start ∷ others)
    → (bytes ≡ start) × (rest : List ℕ) × (behind bytes ≡ Some rest) × (starts behind rest ≡ Some others)
    = λ o. elim o as (λ o. behind bytes ≡ o → option_and_then (λ rest. with_start bytes (starts_within behind (length xs) rest)) o ≡ Some (start ∷ others)
    → (bytes ≡ start) × (rest : List ℕ) × (behind bytes ≡ Some rest) × (starts behind rest ≡ Some others)) [
      | None ↦ λ b h. absurd cc
      | Some rest ↦ λ b h. inner rest (starts_within behind (length xs) rest) b refl h
    ] in
    outer (behind bytes) refl e

-- one record on
pub start_more : (behind : List ℕ → Option (List ℕ)) → Shrinks behind → (rest after : List ℕ) (all : List (List ℕ)) (i : ℕ) → i + 1 ≤ length all
    → starts behind rest ≡ Some (drop i all) → behind rest ≡ Some after → starts behind after ≡ Some (drop (i + 1) all)
start_more behind shrinks rest after all i lt so_far e =
    let front = drop_more all i [] (omega arith) in
    let t = starts_take_first behind shrinks rest (get_or all i []) (drop (i + 1) all) (so_far ∙ ap Some front) in
    let same : after ≡ t.1 = is_some_of after t.1 (sym e ∙ t.2) in
    ap (starts behind) same ∙ t.3

-- the record that is reached
pub start_there : (behind : List ℕ → Option (List ℕ)) → Shrinks behind → (rest : List ℕ) (all : List (List ℕ)) (i : ℕ) → i < length all
    → starts behind rest ≡ Some (drop i all) → slice_get all i ≡ Some rest
start_there behind shrinks rest all i lt so_far =
    let front = drop_more all i [] lt in
    let t = starts_take_first behind shrinks rest (get_or all i []) (drop (i + 1) all) (so_far ∙ ap Some front) in
    slice_get-get_or all i [] lt ∙ ap Some (sym t.0)

-- there is a whole record as long as there are records
pub start_whole : (behind : List ℕ → Option (List ℕ)) → Shrinks behind → (rest : List ℕ) (all : List (List ℕ)) (i : ℕ) → i < length all
    → starts behind rest ≡ Some (drop i all) → behind rest ≡ None → ⊥
start_whole behind shrinks rest all i lt so_far none =
    let front = drop_more all i [] lt in
    let t = starts_take_first behind shrinks rest (get_or all i []) (drop (i + 1) all) (so_far ∙ ap Some front) in
    no_rest t.1 (sym none ∙ t.2)

pub start_is_whole : (behind : List ℕ → Option (List ℕ)) → Shrinks behind → (rest : List ℕ) (all : List (List ℕ)) (i : ℕ) → i < length all
    → starts behind rest ≡ Some (drop i all) → IsSome (behind rest)
start_is_whole behind shrinks rest all i lt so_far =
    let front = drop_more all i [] lt in
    let t = starts_take_first behind shrinks rest (get_or all i []) (drop (i + 1) all) (so_far ∙ ap Some front) in
    ap is_some t.2

some_of_cond : (short : Bool) (inner : Option (List ℕ)) → is_some (cond short None inner) ≡ true → (short ≡ false) × (is_some inner ≡ true)
some_of_cond true inner e = absurd cc
some_of_cond false inner e = (refl, e)

-- a whole record is within the bytes
pub named_whole : (head at : ℕ) (bytes : List ℕ) → IsSome (behind_named head at bytes) → head + field 2 bytes at ≤ length bytes
unfolding behind_named
named_whole head at bytes some =
    let size = head + field 2 bytes at in
    let inner = some_of_cond (ltb (length bytes) head) (cond (ltb (length bytes) size) None (Some (drop size bytes))) some in
    let last = some_of_cond (ltb (length bytes) size) (Some (drop size bytes)) inner.1 in
    ltb-false _ _ last.0

-- where there is a record, it is among those that are read
pub start_within : {R : Type 0} (front : List ℕ → R) (begins : List (List ℕ)) (all : List R) (i : ℕ) → map front begins ≡ all → i < length all → i < length begins
start_within front begins all i is lt = omega (arith, ap length is, length-map begins front)

-- record i is what stands at start i
pub record_at : {R : Type 0} (front : List ℕ → R) (begins : List (List ℕ)) (start : List ℕ) (all : List R) (i : ℕ) → map front begins ≡ all → slice_get begins i ≡ Some start → slice_get all i ≡ Some (front start)
record_at front begins start all i is there = ap (λ xs. slice_get xs i) (sym is) ∙ slice_get-map front begins i ∙ ap (option_map front) there

at_least_one-map : {A B : Type 0} (f : A → B) (o : Option (List A)) → at_least_one (option_map (map f) o) ≡ option_map (map f) (at_least_one o)
at_least_one-map f None = refl
at_least_one-map f (Some []) = refl
at_least_one-map f (Some (x ∷ xs)) = refl

-- the records that a body is, of the bytes from the begin of each on
pub records_read : {R : Type 0} (front : List ℕ → R) (begins read : Option (List (List ℕ))) → read ≡ at_least_one begins → option_map (map front) read ≡ at_least_one (option_map (map front) begins)
records_read front begins read is = ap (option_map (map front)) is ∙ sym (at_least_one-map front begins)
