-- Bytes that are put in the place of zeros.
use Rattle.reiser_make.proofs.Imports.{◌≡◌, ◌≤◌, ℕ, ◌+◌, ◌-◌, List, [], ◌++◌, length, take, drop, replicate, sym, ap, ◌∙◌, arith, append_assoc, length-append, append-nil, replicate-append-replicate, take_at, drop_at, length-replicate}
use borrow.Rule.Slice.PartMut.{put_mid}

-- a part of a list, and other elements in its place
pub put_is : (at len : ℕ) (s A M B new : List ℕ) → s ≡ A ++ (M ++ B) → length A ≡ at → length M ≡ len → put_mid at len s new ≡ A ++ (new ++ B)
put_is at len s A M B new is a m =
    let front : take at s ≡ A = ap (take at) is ∙ take_at A (M ++ B) at a in
    let back : drop len (drop at s) ≡ B = ap (λ t. drop len (drop at t)) is ∙ ap (drop len) (drop_at A (M ++ B) at a) ∙ drop_at M B len m in
    ap (λ t. t ++ (new ++ drop len (drop at s))) front ∙ ap (λ t. A ++ (new ++ t)) back

abbrev pub zeros : ℕ → List ℕ
zeros n = replicate n 0

pub length-zeros : (n : ℕ) → length (zeros n) ≡ n
length-zeros n = length-replicate {A = ℕ} n 0

pub zeros_apart : (n a b : ℕ) → n ≡ a + b → zeros n ≡ zeros a ++ zeros b
zeros_apart n a b whole = ap zeros whole ∙ sym (replicate-append-replicate {A = ℕ} a b 0)

-- bytes in the place of the first zeros behind a front
pub put_first : (at width len gap : ℕ) (s front rest new : List ℕ) → length front ≡ at → width ≤ gap → len ≡ width → s ≡ front ++ (zeros gap ++ rest)
    → put_mid at len s new ≡ front ++ (new ++ (zeros (gap - width) ++ rest))
put_first at width len gap s front rest new long fits is-len is =
    let apart : s ≡ front ++ (zeros width ++ (zeros (gap - width) ++ rest)) =
    is ∙ ap (λ z. front ++ (z ++ rest)) (zeros_apart gap width (gap - width) (omega arith)) ∙ ap (λ z. front ++ z) (append_assoc (zeros width) (zeros (gap - width)) rest) in
    put_is at len s front (zeros width) (zeros (gap - width) ++ rest) new apart long (omega (arith, length-zeros width))

-- bytes in the first of the last `width` zeros before a rest
pub put_last : (at low begin width len : ℕ) (s front rest new : List ℕ) → length front ≡ at → at + width ≤ low → begin ≡ low - width → length new ≤ width → len ≡ length new
    → s ≡ front ++ (zeros (low - at) ++ rest)
    → put_mid begin len s new ≡ front ++ (zeros (low - at - width) ++ ((new ++ zeros (width - length new)) ++ rest))
put_last at low begin width len s front rest new long fits is-begin short is-len is =
    let left : ℕ = low - at - width in
    let over : ℕ = width - length new in
    let tail : List ℕ = zeros over ++ rest in
    let apart : s ≡ (front ++ zeros left) ++ (zeros (length new) ++ tail) =
    is ∙ ap (λ z. front ++ (z ++ rest)) (zeros_apart (low - at) left width (omega arith) ∙ ap (λ z. zeros left ++ z) (zeros_apart width (length new) over (omega arith)))
    ∙ ap (λ z. front ++ z) (append_assoc (zeros left) (zeros (length new) ++ zeros over) rest ∙ ap (λ z. zeros left ++ z) (append_assoc (zeros (length new)) (zeros over) rest))
    ∙ sym (append_assoc front (zeros left) (zeros (length new) ++ tail)) in
    put_is begin len s (front ++ zeros left) (zeros (length new)) tail new apart
    (omega (arith, length-append front (zeros left), length-zeros left)) (omega (arith, length-zeros (length new)))
    ∙ append_assoc front (zeros left) (new ++ tail)
    ∙ ap (λ z. front ++ (zeros left ++ z)) (sym (append_assoc new (zeros over) rest))

-- a node: its head, and all that stands behind it
pub node_is : (len : ℕ) (head post behind : List ℕ) → length head ≡ 24 → length post ≡ len → put_mid 24 len (head ++ post) behind ≡ head ++ behind
node_is len head post behind long size =
    put_is 24 len (head ++ post) head post [] behind (ap (λ z. head ++ z) (sym (append-nil post))) long size ∙ ap (λ z. head ++ z) (append-nil behind)
