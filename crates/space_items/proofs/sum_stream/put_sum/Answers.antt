use Rattle.space_items.proofs.Imports.{◌≡◌, ◌∙◌, ℕ, ◌+◌, ◌-◌, ◌≤◌, List, ◌++◌, length, take, drop, ap, subst, sym, arith, append_assoc, length-append, length-take-le, take-take, take_at}
use Rattle.std.proofs.Common.{length-drop}
use Rattle.space_items.proofs.sum_stream.put_sum.Goals as goal

-- what was put behind the front of a list, and all up to its end
put : (xs sum post rest : List ℕ) (at n : ℕ) → at ≤ length xs → at + length sum ≤ n → take (at + length sum) (take n ((take at xs ++ (sum ++ post)) ++ rest)) ≡ take at xs ++ sum
put xs sum post rest at n front within =
    let long : length (take at xs ++ sum) ≡ at + length sum = omega (arith, length-append (take at xs) sum, length-take-le at xs front) in
    let parts : (take at xs ++ (sum ++ post)) ++ rest ≡ (take at xs ++ sum) ++ (post ++ rest) = ap (λ (ys : List ℕ). ys ++ rest) (sym (append_assoc (take at xs) sum post)) ∙ append_assoc (take at xs ++ sum) post rest in
    take-take (at + length sum) n ((take at xs ++ (sum ++ post)) ++ rest) within
    ∙ (ap (λ (ys : List ℕ). take (at + length sum) ys) parts ∙ take_at (take at xs ++ sum) (post ++ rest) (at + length sum) long)

-- the same of the width of a kind of checksum, whose field was computed
put_width : (xs all new field sum post rest : List ℕ) (at width k n : ℕ) → all ≡ xs → field ≡ sum → new ≡ take width field → width ≡ k → length all ≡ n → at + k ≤ length xs
    → length new ≡ length (take (at + width - at) (drop at all)) → take (at + k) (take n ((take at all ++ (new ++ post)) ++ rest)) ≡ take at xs ++ take k sum
put_width xs all new field sum post rest at width k n all_is field_is new_is width_is size fits long =
    let same : length all ≡ length xs = ap (λ (ys : List ℕ). length ys) all_is in
    let room : at + width - at ≤ length (drop at all) = omega (arith, length-drop at all, same, fits, width_is) in
    let wide : length new ≡ k = omega (arith, long, length-take-le (at + width - at) (drop at all) room, width_is) in
    subst (λ (m : ℕ). take (at + m) (take n ((take at all ++ (new ++ post)) ++ rest)) ≡ take at all ++ new) wide (put all new post rest at n (omega (arith, same, fits)) (omega (arith, size, same, fits, wide)))
    ∙ (ap (λ (ys : List ℕ). take at ys ++ new) all_is ∙ ap (λ (ys : List ℕ). take at xs ++ ys) (new_is ∙ (ap (λ (m : ℕ). take m field) width_is ∙ ap (λ (ys : List ℕ). take k ys) field_is)))

pub returns-clause-sum : goal.returns-clause-sum
returns-clause-sum c =
    put_width c.args.body.now.items _ _ _ _ _ _ c.args.at c.kind_width-width.result _ _ c.deref_mut.ensures.value c.kind_sum-sum.ensures c.copy_from_slice.ensures.after c.kind_width-width.ensures c.deref_mut.ensures.len c.requires c.copy_from_slice.ensures.len
