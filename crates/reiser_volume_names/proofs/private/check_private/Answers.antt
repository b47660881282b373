use Rattle.reiser_volume_names.proofs.Imports.{◌≡◌, ◌<◌, ◌≤◌, ◌∙◌, List, false, length, get_or, Contains, sym, ap, subst, arith, err_from_is_err_and, Contains-get_or, VolAnswer, Naming, is_followed, HasNoAttributes, BlamesPrivate}
use Rattle.reiser_volume_names.proofs.Attributes.{private_blamed}
use Rattle.reiser_volume_names.proofs.Lists.{each_more, each_among}
use Rattle.reiser_volume_names.proofs.private.check_private.Goals as goal

pub loop-naming-preserved : goal.loop-naming-preserved
loop-naming-preserved c = λ items noted.
    let within : c.loop-naming.naming-index < length c.args.objects.now.namings.items = omega (arith, c.loop-naming-test.true, ap length c.deref-naming-items.ensures.value) in
    let at = c.naming-item.is ∙ ap (λ (l : List Naming). get_or l c.loop-naming.naming-index c.naming-item.result) c.deref-naming-items.ensures.value in
    each_more (λ (n : Naming). is_followed n ≡ false → HasNoAttributes items n.target) c.args.objects.now.namings.items c.loop-naming.naming-index c.naming-item.result (c.loop-naming.invariant items noted) within at (c.in_ok-check_entry.ensures.checked items noted)

pub returns-in_err-check_entry-clause-checked : goal.returns-in_err-check_entry-clause-checked
returns-in_err-check_entry-clause-checked c = λ items noted.
    let within : c.loop-naming.naming-index < length c.args.objects.now.namings.items = omega (arith, c.loop-naming-test.true, ap length c.deref-naming-items.ensures.value) in
    let at = c.naming-item.is ∙ ap (λ (l : List Naming). get_or l c.loop-naming.naming-index c.naming-item.result) c.deref-naming-items.ensures.value in
    let among : Contains c.args.objects.now.namings.items c.naming-item.result = subst (Contains c.args.objects.now.namings.items) (sym at) (Contains-get_or c.args.objects.now.namings.items c.loop-naming.naming-index c.naming-item.result within) in
    let err = err_from_is_err_and c.from_residual.result c.from_residual.ensures.1 in
    rw err.1 (subst (λ (e : VolAnswer). BlamesPrivate items c.args.objects.now.namings.items e) (sym err.2) (private_blamed items c.args.objects.now.namings.items c.naming-item.result c.in_err-check_entry.field-0.0 among (c.in_err-check_entry.ensures.checked items noted)))

pub returns-clause-checked : goal.returns-clause-checked
returns-clause-checked c = λ items noted n among.
    let all : length c.args.objects.now.namings.items ≤ c.loop-naming.naming-index = omega (arith, c.loop-naming-test.false, ap length c.deref-naming-items.ensures.value) in
    each_among (λ (m : Naming). is_followed m ≡ false → HasNoAttributes items m.target) c.args.objects.now.namings.items c.loop-naming.naming-index all (c.loop-naming.invariant items noted) n among
