-- The parts of a line.
use Rattle.fs_rows.proofs.Imports.{◌≡◌, ℕ, ◌+◌, ◌<◌, ◌≤◌, List, [], ◌∷◌, ◌++◌, length, take, Some, slice_get, Result, IsErr, refl, sym, ap, subst, ◌∙◌, append_assoc, flat_map, take_all, get_or_from_slice_get, Pushed, Stopped, Pushes, pushes_later, pushes_stopped, pushed_item, stopped_at_item, stopped_here, spaced}

pub spaced-append : (xs ys : List (List ℕ)) → spaced (xs ++ ys) ≡ spaced xs ++ spaced ys
spaced-append [] ys = refl
spaced-append (x ∷ xs) ys = ap (λ (z : List ℕ). x ++ (32 ∷ z)) (spaced-append xs ys) ∙ sym (append_assoc x (32 ∷ spaced xs) (spaced ys))

-- the sink failed at the first of two parts
pub stopped_first : {T E : Type 0} (t w a b t1 w1 : List ℕ) (result : Result T E) → IsErr result → Stopped t w a t1 → Pushes t w (a ++ b) result t1 w1
stopped_first t w a b t1 w1 result is stop = pushes_stopped t w (a ++ b) result t1 w1 is (stopped_here t w a b t1 stop)

-- the same for lists of fields
pub stopped_fields : {T E : Type 0} (xs ys : List (List ℕ)) (t w t1 w1 : List ℕ) (result : Result T E) → IsErr result → Stopped t w (spaced xs) t1 → Pushes t w (spaced (xs ++ ys)) result t1 w1
stopped_fields {T} {E} xs ys t w t1 w1 result is stop =
    let P : List ℕ → Type 0 = λ z. Pushes t w z result t1 w1 in
    subst P (sym (spaced-append xs ys)) (stopped_first t w (spaced xs) (spaced ys) t1 w1 result is stop)

pub pushes_fields : {T E : Type 0} (xs ys : List (List ℕ)) (t w t1 w1 : List ℕ) (result : Result T E) (t2 w2 : List ℕ) → Pushed t w (spaced xs) t1 w1 → Pushes t1 w1 (spaced ys) result t2 w2
    → Pushes t w (spaced (xs ++ ys)) result t2 w2
pushes_fields {T} {E} xs ys t w t1 w1 result t2 w2 first next =
    let P : List ℕ → Type 0 = λ z. Pushes t w z result t2 w2 in
    subst P (sym (spaced-append xs ys)) (pushes_later t w (spaced xs) t1 w1 (spaced ys) result t2 w2 first next)

-- the sink failed at an item of a list that was read from it
pub stopped_at : {X T E : Type 0} (f : X → List ℕ) (xs : List X) (i : ℕ) (x : X) (t w t1 w1 t2 w2 : List ℕ) (result : Result T E) → IsErr result → i < length xs → slice_get xs i ≡ Some x
    → Pushed t w (flat_map f (take i xs)) t1 w1 → Stopped t1 w1 (f x) t2 → Pushes t w (flat_map f xs) result t2 w2
stopped_at {X} f xs i x t w t1 w1 t2 w2 result is below read first next =
    let P : X → Type 0 = λ y. Stopped t1 w1 (f y) t2 in
    pushes_stopped t w (flat_map f xs) result t2 w2 is (stopped_at_item f xs i x t w t1 w1 t2 below first (subst P (sym (get_or_from_slice_get xs i x x read)) next))

-- an item of a list that was read from it was added
pub pushed_at : {X : Type 0} (f : X → List ℕ) (xs : List X) (i : ℕ) (x : X) (t w t1 w1 t2 w2 : List ℕ) → i < length xs → slice_get xs i ≡ Some x
    → Pushed t w (flat_map f (take i xs)) t1 w1 → Pushed t1 w1 (f x) t2 w2 → Pushed t w (flat_map f (take (i + 1) xs)) t2 w2
pushed_at {X} f xs i x t w t1 w1 t2 w2 below read first next =
    let P : X → Type 0 = λ y. Pushed t1 w1 (f y) t2 w2 in
    pushed_item f xs i x t w t1 w1 t2 w2 below first (subst P (sym (get_or_from_slice_get xs i x x read)) next)

-- all items of a list were added
pub all_pushed : {X : Type 0} (f : X → List ℕ) (xs : List X) (i : ℕ) (t w t1 w1 : List ℕ) → length xs ≤ i → Pushed t w (flat_map f (take i xs)) t1 w1 → Pushed t w (flat_map f xs) t1 w1
all_pushed {X} f xs i t w t1 w1 past pushed =
    let P : List X → Type 0 = λ z. Pushed t w (flat_map f z) t1 w1 in
    subst P (take_all i xs past) pushed

-- the times, piece by piece
pub times_text : (at an ms mn cs cn : List ℕ) →
    at ++ (an ++ (32 ∷ (ms ++ (mn ++ (32 ∷ (cs ++ (cn ++ (32 ∷ []))))))))
    ≡ spaced ((at ++ an) ∷ (ms ++ mn) ∷ (cs ++ cn) ∷ [])
times_text at an ms mn cs cn = simp append_assoc

-- the flags, piece by piece
pub flags_parts : (f1 f2 f3 f4 f5 f6 : List ℕ) →
    f1 ++ (f2 ++ (f3 ++ (f4 ++ (f5 ++ (f6 ++ (32 ∷ [])))))) ≡ spaced ((f1 ++ (f2 ++ (f3 ++ (f4 ++ (f5 ++ f6))))) ∷ [])
flags_parts f1 f2 f3 f4 f5 f6 = simp append_assoc
