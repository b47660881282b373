use Rattle.reiser_volume_names.proofs.Imports.{◌<◌, ◌+◌, ◌∙◌, ◌++◌, List, length, get_or, drop, filter, sym, ap, subst, arith, err_from_is_err_and, VolAnswer, contains, Naming, same_key, CrowdCounts, BlamesCrowd, is_link, link_list}
use Rattle.reiser_volume_names.proofs.Crowding.{blamed_of_part}
use Rattle.reiser_volume_names.proofs.Lists.{kept_step, kept_split}
use Rattle.reiser_volume_names.proofs.crowd.check_crowds.Goals as goal

pub loop-naming-preserved : goal.loop-naming-preserved
loop-naming-preserved c =
    let within : c.loop-naming.naming-index < length c.args.objects.now.namings.items = omega (arith, c.loop-naming-test.true, ap length c.deref-naming-items.ensures.value) in
    let at = c.naming-item.is ∙ ap (λ (l : List Naming). get_or l c.loop-naming.naming-index c.naming-item.result) c.deref-naming-items.ensures.value in
    subst (λ (l : List Naming). CrowdCounts c.join_link.new.sums l) (sym (kept_step (is_link (contains same_key c.args.named.now)) c.args.objects.now.namings.items c.loop-naming.naming-index c.naming-item.result within at))
    (c.in_ok-join_link.ensures _ c.loop-naming.invariant)

pub returns-in_err-join_link-clause-blamed : goal.returns-in_err-join_link-clause-blamed
returns-in_err-join_link-clause-blamed c =
    let within : c.loop-naming.naming-index < length c.args.objects.now.namings.items = omega (arith, c.loop-naming-test.true, ap length c.deref-naming-items.ensures.value) in
    let at = c.naming-item.is ∙ ap (λ (l : List Naming). get_or l c.loop-naming.naming-index c.naming-item.result) c.deref-naming-items.ensures.value in
    let p = is_link (contains same_key c.args.named.now) in
    let rest : List Naming = filter p (drop (c.loop-naming.naming-index + 1) c.args.objects.now.namings.items) in
    let whole = kept_split p c.args.objects.now.namings.items (c.loop-naming.naming-index + 1) ∙ ap (λ (l : List Naming). l ++ rest) (kept_step p c.args.objects.now.namings.items c.loop-naming.naming-index c.naming-item.result within at) in
    let err = err_from_is_err_and c.from_residual-in_err-join_link.result c.from_residual-in_err-join_link.ensures.1 in
    rw err.1 (subst (λ (e : VolAnswer). BlamesCrowd (link_list (contains same_key c.args.named.now) c.args.objects.now.namings.items) e) (sym err.2) (blamed_of_part _ rest _ _ whole (c.in_err-join_link.ensures _ c.loop-naming.invariant)))
