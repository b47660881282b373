-- A text that is gathered and then written.
use Rattle.sink_text.proofs.Imports.{◌≡◌, ℕ, suc, ◌+◌, ◌-◌, ◌<◌, ◌≤◌, min, List, [], ◌∷◌, ◌++◌, length, get_or, take, drop, Result, Ok, Err, IsErr, sym, ◌∙◌, ap, arith, append_assoc, length-append, subst, add-one, length-take, append-nil, Takes, Pushed, Stopped, Pushes}
use Rattle.std.specs.List.{flat_map}
use Rattle.std.proofs.lemmas.List.{take-append-drop, take-append-le, take_min}
use Rattle.std.proofs.lemmas.List.Concat.{flat_map-cons}
use Rattle.std.proofs.lemmas.Grind.{flat_map-append, common_steps}
use Rattle.std.proofs.Math.Seq.{drop-cons, take-append-add, take-suc}

-- a first part of a list is a first part of a longer one
pub part_of_more : (a b : List ℕ) (k : ℕ) → (j : ℕ) × (take k a ≡ take j (a ++ b))
part_of_more a b k =
    let m : ℕ = min k (length a) in
    let short : m ≤ length a = omega arith in
    (m, sym (take-append-le m a b short ∙ take_min k a))

pub pushed_more : (t w a t1 w1 b t2 w2 : List ℕ) → Pushed t w a t1 w1 → Pushed t1 w1 b t2 w2 → Pushed t w (a ++ b) t2 w2
pushed_more t w a t1 w1 b t2 w2 first next = record {
  grows = omega (arith, first.grows, next.grows);
  all = next.all ∙ ap (λ (z : List ℕ). z ++ b) first.all ∙ append_assoc (t ++ w) a b;
}

pub stopped_later : (t w a t1 w1 b t2 : List ℕ) → Pushed t w a t1 w1 → Stopped t1 w1 b t2 → Stopped t w (a ++ b) t2
stopped_later t w a t1 w1 b t2 first next = record {
  grows = omega (arith, first.grows, next.grows);
  part = (next.part.0, next.part.1 ∙ ap (take next.part.0) (ap (λ (z : List ℕ). z ++ b) first.all ∙ append_assoc (t ++ w) a b));
}

pub stopped_here : (t w a b t1 : List ℕ) → Stopped t w a t1 → Stopped t w (a ++ b) t1
stopped_here t w a b t1 stop =
    let more = part_of_more ((t ++ w) ++ a) b stop.part.0 in
    record {
      grows = stop.grows;
      part = (more.0, stop.part.1 ∙ more.1 ∙ ap (take more.0) (append_assoc (t ++ w) a b));
    }

pub pushes_later : {T E : Type 0} (t w a t1 w1 b : List ℕ) (result : Result T E) (t2 w2 : List ℕ) → Pushed t w a t1 w1 → Pushes t1 w1 b result t2 w2 → Pushes t w (a ++ b) result t2 w2
pushes_later t w a t1 w1 b (Ok x) t2 w2 first next = pushed_more t w a t1 w1 b t2 w2 first next
pushes_later t w a t1 w1 b (Err e) t2 w2 first next = stopped_later t w a t1 w1 b t2 first next

pub pushes_stopped : {T E : Type 0} (t w text : List ℕ) (result : Result T E) (t1 w1 : List ℕ) → IsErr result → Stopped t w text t1 → Pushes t w text result t1 w1
pushes_stopped t w text (Ok x) t1 w1 is stop = absurd (cc)
pushes_stopped t w text (Err e) t1 w1 is stop = stop

-- a list and a first part of what follows it are a first part of the whole
pub part_into : (a b : List ℕ) (k : ℕ) → (j : ℕ) × (a ++ take k b ≡ take j (a ++ b))
part_into a b k =
    let m : ℕ = min k (length b) in
    (length a + m, sym (take-append-add a b m ∙ ap (λ (z : List ℕ). a ++ z) (take_min k b)))

-- a list that has all of a first part, and is a first part of the whole, is the first part and some of the rest
pub part_from : (old text new : List ℕ) (k : ℕ) → length old ≤ length new → new ≡ take k (old ++ text) → (j : ℕ) × (new ≡ old ++ take j text)
part_from old text new k grows is =
    let below : length old ≤ k = omega (arith, grows, ap length is, length-take k (old ++ text)) in
    let split : k ≡ length old + (k - length old) = omega arith in
    (k - length old, is ∙ ap (λ (n : ℕ). take n (old ++ text)) split ∙ take-append-add old text (k - length old))

longer : (a b : List ℕ) (n : ℕ) → length a ≤ length (a ++ take n b)
longer a b n = omega (arith, length-append a (take n b))

-- the sink failed while it got what waits
pub stopped_flush : (t w b t1 : List ℕ) → (k : ℕ) × (t1 ≡ t ++ take k w) → Stopped t w b t1
stopped_flush t w b t1 (k, is) =
    let inner = part_into t w k in
    let outer = part_of_more (t ++ w) b inner.0 in
    let grows : length t ≤ length t1 = rw is (longer t w k) in
    record { grows = grows; part = (outer.0, is ∙ inner.1 ∙ outer.1) }

-- what waited is written, and then more bytes are
pub pushes_written : {T E : Type 0} (t w b t1 : List ℕ) (result : Result T E) (t2 w2 : List ℕ) → t1 ≡ t ++ w → w2 ≡ [] → Takes t1 b result t2 → Pushes t w b result t2 w2
pushes_written t w b t1 (Ok x) t2 w2 flushed empty took = record {
  grows = omega (arith, ap length took, ap length flushed, length-append t w, length-append t1 b);
  all = ap (λ (z : List ℕ). t2 ++ z) empty ∙ append-nil t2 ∙ took ∙ ap (λ (z : List ℕ). z ++ b) flushed;
}
pushes_written t w b t1 (Err e) t2 w2 flushed empty (k, took) =
    let inner = part_into t1 b k in
    record {
      grows = omega (arith, ap length took, ap length flushed, length-append t w, length-append t1 (take k b));
      part = (inner.0, took ∙ inner.1 ∙ ap (λ (z : List ℕ). take inner.0 (z ++ b)) flushed);
    }

-- the sink failed at the next item of a list
pub stopped_at_item : {X : Type 0} (f : X → List ℕ) (xs : List X) (i : ℕ) (d : X) (t w t1 w1 t2 : List ℕ) → i < length xs
    → Pushed t w (flat_map f (take i xs)) t1 w1 → Stopped t1 w1 (f (get_or xs i d)) t2 → Stopped t w (flat_map f xs) t2
stopped_at_item {X} f xs i d t w t1 w1 t2 below first next =
    let x : X = get_or xs i d in
    let done : List ℕ = flat_map f (take i xs) in
    let rest : List ℕ = flat_map f (drop (suc i) xs) in
    let split : take i xs ++ (x ∷ drop (suc i) xs) ≡ xs = ap (λ (r : List X). take i xs ++ r) (sym (drop-cons xs i d below)) ∙ take-append-drop i xs in
    let whole : flat_map f xs ≡ (done ++ f x) ++ rest =
    ap (flat_map f) (sym split) ∙ flat_map-append f (take i xs) (x ∷ drop (suc i) xs) ∙ ap (λ (z : List ℕ). done ++ z) (flat_map-cons f x (drop (suc i) xs))
    ∙ sym (append_assoc done (f x) rest) in
    let P : List ℕ → Type 0 = λ z. Stopped t w z t2 in
    subst P (sym whole) (stopped_here t w (done ++ f x) rest t2 (stopped_later t w done t1 w1 (f x) t2 first next))

-- the next item of a list was added
pub pushed_item : {X : Type 0} (f : X → List ℕ) (xs : List X) (i : ℕ) (d : X) (t w t1 w1 t2 w2 : List ℕ) → i < length xs
    → Pushed t w (flat_map f (take i xs)) t1 w1 → Pushed t1 w1 (f (get_or xs i d)) t2 w2 → Pushed t w (flat_map f (take (i + 1) xs)) t2 w2
pushed_item {X} f xs i d t w t1 w1 t2 w2 below first next =
    let x : X = get_or xs i d in
    let more : take (i + 1) xs ≡ take i xs ++ (x ∷ []) = rw add-one (take-suc xs i d below) in
    let text : flat_map f (take (i + 1) xs) ≡ flat_map f (take i xs) ++ f x =
    ap (flat_map f) more ∙ flat_map-append f (take i xs) (x ∷ []) ∙ ap (λ (z : List ℕ). flat_map f (take i xs) ++ z) (flat_map-cons f x [] ∙ append-nil (f x)) in
    let P : List ℕ → Type 0 = λ z. Pushed t w z t2 w2 in
    subst P (sym text) (pushed_more t w (flat_map f (take i xs)) t1 w1 (f x) t2 w2 first next)

-- where nothing waited at first, the sink took a first part of the text
pub takes_of_stopped : (old text t1 : List ℕ) → Stopped old [] text t1 → (k : ℕ) × (t1 ≡ old ++ take k text)
takes_of_stopped old text t1 stop =
    part_from old text t1 stop.part.0 stop.grows (stop.part.1 ∙ ap (λ (z : List ℕ). take stop.part.0 (z ++ text)) (append-nil old))

-- the same where what waits at last is written
pub takes_of_flush : {T E : Type 0} (old text t1 w1 : List ℕ) (result : Result T E) (t2 : List ℕ) → Pushed old [] text t1 w1 → Takes t1 w1 result t2 → Takes old text result t2
takes_of_flush old text t1 w1 (Ok x) t2 push took = took ∙ push.all ∙ ap (λ (z : List ℕ). z ++ text) (append-nil old)
takes_of_flush old text t1 w1 (Err e) t2 push (k, took) =
    let inner = part_into t1 w1 k in
    let grows : length old ≤ length t2 = omega (arith, push.grows, ap length took, length-append t1 (take k w1)) in
    part_from old text t2 inner.0 grows (took ∙ inner.1 ∙ ap (take inner.0) (push.all ∙ ap (λ (z : List ℕ). z ++ text) (append-nil old)))
