use Rattle.reiser_volume_names.proofs.Imports.{◌<◌, ◌≤◌, ◌+◌, ◌∙◌, ◌++◌, List, length, get_or, drop, filter, ◌^◌, sym, ap, subst, arith, err_from_is_err_and, VolAnswer, contains, Naming, same_key, CountsNames, BlamesCount, names_of, is_link, link_list}
use Rattle.reiser_volume_names.proofs.Counting.{count_of_part}
use Rattle.reiser_volume_names.proofs.Lists.{kept_step, kept_split, kept_all}
use Rattle.reiser_volume_names.proofs.counts.check_counts.Goals as goal

pub loop-naming-preserved : goal.loop-naming-preserved
loop-naming-preserved c = λ items noted.
    let within : c.loop-naming.naming-index < length c.args.objects.now.namings.items = omega (arith, c.loop-naming-test.true, ap length c.deref-naming-items.ensures.value) in
    let at = c.naming-item.is ∙ ap (λ (l : List Naming). get_or l c.loop-naming.naming-index c.naming-item.result) c.deref-naming-items.ensures.value in
    subst (λ (l : List Naming). CountsNames items c.count_link.new.counts l) (sym (kept_step (is_link (contains same_key c.args.named.now)) c.args.objects.now.namings.items c.loop-naming.naming-index c.naming-item.result within at))
    (c.in_ok-count_link.ensures.checked items _ noted (c.loop-naming.invariant items noted))

pub returns-in_err-count_link-clause-checked : goal.returns-in_err-count_link-clause-checked
returns-in_err-count_link-clause-checked c = λ items noted.
    let within : c.loop-naming.naming-index < length c.args.objects.now.namings.items = omega (arith, c.loop-naming-test.true, ap length c.deref-naming-items.ensures.value) in
    let at = c.naming-item.is ∙ ap (λ (l : List Naming). get_or l c.loop-naming.naming-index c.naming-item.result) c.deref-naming-items.ensures.value in
    let p = is_link (contains same_key c.args.named.now) in
    let rest : List Naming = filter p (drop (c.loop-naming.naming-index + 1) c.args.objects.now.namings.items) in
    let whole = kept_split p c.args.objects.now.namings.items (c.loop-naming.naming-index + 1) ∙ ap (λ (l : List Naming). l ++ rest) (kept_step p c.args.objects.now.namings.items c.loop-naming.naming-index c.naming-item.result within at) in
    let err = err_from_is_err_and c.from_residual.result c.from_residual.ensures.1 in
    rw err.1 (subst (λ (e : VolAnswer). BlamesCount items (link_list (contains same_key c.args.named.now) c.args.objects.now.namings.items) e) (sym err.2) (count_of_part items _ rest _ _ whole (c.in_err-count_link.ensures.checked items _ noted (c.loop-naming.invariant items noted))))

pub returns-clause-checked : goal.returns-clause-checked
returns-clause-checked c = λ items noted key counted.
    let all : length c.args.objects.now.namings.items ≤ c.loop-naming.naming-index = omega (arith, c.loop-naming-test.false, ap length c.deref-naming-items.ensures.value) in
    subst (λ (l : List Naming). names_of l key < 2 ^ 32) (kept_all (is_link (contains same_key c.args.named.now)) c.args.objects.now.namings.items c.loop-naming.naming-index all) ((c.loop-naming.invariant items noted).few key counted)
