use Rattle.free_space.proofs.Imports.{◌<◌, ◌^◌, [], ◌∷◌, arith, All-cons, All-nil, end_of}
use Rattle.free_space.proofs.tests.groups_with_their_runs.Goals as goal

pub new-stream-requires-clause-small : goal.new-stream-requires-clause-small
new-stream-requires-clause-small g c =
    All-cons (λ g. end_of g < 2 ^ 64) c.range.result (c.range-2.result ∷ []) (omega (arith, c.range.ensures.0, c.range.ensures.1))
    (All-cons (λ g. end_of g < 2 ^ 64) c.range-2.result [] (omega (arith, c.range-2.ensures.0, c.range-2.ensures.1)) (All-nil (λ g. end_of g < 2 ^ 64)))

pub new-stream-requires-clause-live : goal.new-stream-requires-clause-live
new-stream-requires-clause-live g c =
    All-cons (λ g. end_of g < 2 ^ 64) c.range-3.result (c.range-4.result ∷ c.range-5.result ∷ []) (omega (arith, c.range-3.ensures.0, c.range-3.ensures.1))
    (All-cons (λ g. end_of g < 2 ^ 64) c.range-4.result (c.range-5.result ∷ []) (omega (arith, c.range-4.ensures.0, c.range-4.ensures.1))
    (All-cons (λ g. end_of g < 2 ^ 64) c.range-5.result [] (omega (arith, c.range-5.ensures.0, c.range-5.ensures.1)) (All-nil (λ g. end_of g < 2 ^ 64))))
