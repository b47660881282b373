use Rattle.space_items.proofs.Imports.{◌≡◌, ◌+◌, List, ap, arith, sum_by, take, sum_by_more, sum_by_more_le, slice_get_within, get_or_from_slice_get, Group}
use Rattle.space_items.proofs.extent_stream.ExtentStream.used.Goals as goal

pub overflow_add-used : goal.overflow_add-used
overflow_add-used c =
    let groups : List Group = c.args.self.now.groups in
    let g : Group = c.get-used.result in
    let within = sum_by_more_le (λ (h : Group). h.used) groups c.loop-i.i g (slice_get_within groups c.loop-i.i g c.get-used.ensures) in
    let at = ap (λ (h : Group). h.used) (get_or_from_slice_get groups c.loop-i.i g g c.get-used.ensures) in
    let so_far : c.loop-i.used ≡ sum_by (λ (h : Group). h.used) (take c.loop-i.i groups) = c.loop-i.invariant in
    let all = c.requires in
    omega (arith, within, at, so_far, all)

pub loop-i-preserved : goal.loop-i-preserved
loop-i-preserved c =
    let groups : List Group = c.args.self.now.groups in
    let g : Group = c.get-used.result in
    let more = sum_by_more (λ (h : Group). h.used) groups c.loop-i.i g (slice_get_within groups c.loop-i.i g c.get-used.ensures) in
    let at = ap (λ (h : Group). h.used) (get_or_from_slice_get groups c.loop-i.i g g c.get-used.ensures) in
    let so_far : c.loop-i.used ≡ sum_by (λ (h : Group). h.used) (take c.loop-i.i groups) = c.loop-i.invariant in
    let next : c.loop-i.used + g.used ≡ sum_by (λ (h : Group). h.used) (take (c.loop-i.i + 1) groups) = omega (arith, more, at, so_far) in
    next
