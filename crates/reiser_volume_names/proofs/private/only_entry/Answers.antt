use Rattle.reiser_volume_names.proofs.Imports.{◌<◌, ◌+◌, ◌∙◌, ◌++◌, List, length, get_or, drop, filter, sym, ap, subst, arith, err_from_is_err_and, ObjectKey, Naming, same_key, IsOnly, IsExtra}
use Rattle.reiser_volume_names.proofs.Attributes.{extra_of_part}
use Rattle.reiser_volume_names.proofs.Lists.{kept_step, kept_split}
use Rattle.reiser_volume_names.proofs.private.only_entry.Goals as goal

pub loop-naming-preserved : goal.loop-naming-preserved
loop-naming-preserved c =
    let within : c.loop-naming.naming-index < length c.args.objects.now.namings.items = omega (arith, c.loop-naming-test.true, ap length c.deref-naming-items.ensures.value) in
    let at = c.naming-item.is ∙ ap (λ (l : List Naming). get_or l c.loop-naming.naming-index c.naming-item.result) c.deref-naming-items.ensures.value in
    subst (λ (l : List Naming). IsOnly l c.in_ok-only.only) (sym (kept_step (λ (n : Naming). same_key n.dir c.args.dir) c.args.objects.now.namings.items c.loop-naming.naming-index c.naming-item.result within at))
    (c.in_ok-only.ensures _ c.loop-naming.invariant)

pub returns-in_err-only : goal.returns-in_err-only
returns-in_err-only c =
    let within : c.loop-naming.naming-index < length c.args.objects.now.namings.items = omega (arith, c.loop-naming-test.true, ap length c.deref-naming-items.ensures.value) in
    let at = c.naming-item.is ∙ ap (λ (l : List Naming). get_or l c.loop-naming.naming-index c.naming-item.result) c.deref-naming-items.ensures.value in
    let rest : List Naming = filter (λ (n : Naming). same_key n.dir c.args.dir) (drop (c.loop-naming.naming-index + 1) c.args.objects.now.namings.items) in
    let whole = kept_split (λ (n : Naming). same_key n.dir c.args.dir) c.args.objects.now.namings.items (c.loop-naming.naming-index + 1) ∙ ap (λ (l : List Naming). l ++ rest) (kept_step (λ (n : Naming). same_key n.dir c.args.dir) c.args.objects.now.namings.items c.loop-naming.naming-index c.naming-item.result within at) in
    let err = err_from_is_err_and c.from_residual.result c.from_residual.ensures.1 in
    rw err.1 (subst (λ (e : ObjectKey). IsExtra (filter (λ (n : Naming). same_key n.dir c.args.dir) c.args.objects.now.namings.items) e) (sym err.2) (extra_of_part _ rest _ _ whole (c.in_err-only.ensures _ c.loop-naming.invariant)))
