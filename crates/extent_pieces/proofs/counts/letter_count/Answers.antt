use Rattle.extent_pieces.proofs.Imports.{◌<◌, ℕ, length, ap, arith, List, ⊎_elim, sum_by_more, slice_get_cases, Naming, links_in}
use Rattle.extent_pieces.proofs.counts.letter_count.Goals as goal

pub loop-i-preserved : goal.loop-i-preserved
loop-i-preserved c =
    let links : List Naming = links_in c.args.volume.now in
    let inside : c.loop-i.i < length links = omega (arith, c.loop-i-test.true, c.link_count-i-end.ensures.exact) in
    ⊎_elim
    (λ found.
    let name = ap (λ (bytes : List ℕ). length bytes) (c.link.ensures.name found.0 found.2) in
    let more = sum_by_more (λ (n : Naming). length n.name) links c.loop-i.i found.0 inside in
    let here = ap (λ (n : Naming). length n.name) found.3 in
    omega (arith, c.saturating_add-count.ensures, c.loop-i.invariant, more, here, name))
    (λ past. absurd (omega (arith, past.0)))
    (slice_get_cases links c.loop-i.i).1
