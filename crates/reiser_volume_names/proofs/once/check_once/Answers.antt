use Rattle.reiser_volume_names.proofs.Imports.{◌<◌, ◌≤◌, ◌+◌, ◌∙◌, ◌++◌, List, length, get_or, drop, filter, AllPairs, sym, ap, subst, arith, err_from_is_err_and, VolAnswer, contains, Naming, same_key, HasSeenLinks, BlamesTwice, DifferInName}
use Rattle.reiser_volume_names.proofs.Seeing.{twice_of_part}
use Rattle.reiser_volume_names.proofs.Lists.{kept_step, kept_split, kept_all}
use Rattle.reiser_volume_names.proofs.once.check_once.Goals as goal

pub loop-naming-preserved : goal.loop-naming-preserved
loop-naming-preserved c =
    let within : c.loop-naming.naming-index < length c.args.objects.now.namings.items = omega (arith, c.loop-naming-test.true, ap length c.deref-naming-items.ensures.value) in
    let at = c.naming-item.is ∙ ap (λ (l : List Naming). get_or l c.loop-naming.naming-index c.naming-item.result) c.deref-naming-items.ensures.value in
    subst (λ (l : List Naming). HasSeenLinks c.see_named.new.names l) (sym (kept_step (λ (n : Naming). contains same_key c.args.named.now n.dir) c.args.objects.now.namings.items c.loop-naming.naming-index c.naming-item.result within at))
    (c.in_ok-see_named.ensures _ c.loop-naming.invariant)

pub returns-in_err-see_named-clause-twice : goal.returns-in_err-see_named-clause-twice
returns-in_err-see_named-clause-twice c =
    let within : c.loop-naming.naming-index < length c.args.objects.now.namings.items = omega (arith, c.loop-naming-test.true, ap length c.deref-naming-items.ensures.value) in
    let at = c.naming-item.is ∙ ap (λ (l : List Naming). get_or l c.loop-naming.naming-index c.naming-item.result) c.deref-naming-items.ensures.value in
    let rest : List Naming = filter (λ (n : Naming). contains same_key c.args.named.now n.dir) (drop (c.loop-naming.naming-index + 1) c.args.objects.now.namings.items) in
    let whole =
    kept_split (λ (n : Naming). contains same_key c.args.named.now n.dir) c.args.objects.now.namings.items (c.loop-naming.naming-index + 1)
    ∙ ap (λ (l : List Naming). l ++ rest) (kept_step (λ (n : Naming). contains same_key c.args.named.now n.dir) c.args.objects.now.namings.items c.loop-naming.naming-index c.naming-item.result within at) in
    let err = err_from_is_err_and c.from_residual.result c.from_residual.ensures.1 in
    rw err.1 (subst (λ (e : VolAnswer). BlamesTwice (filter (λ (n : Naming). contains same_key c.args.named.now n.dir) c.args.objects.now.namings.items) e) (sym err.2) (twice_of_part _ rest _ _ whole (c.in_err-see_named.ensures _ c.loop-naming.invariant)))

pub returns-clause-once : goal.returns-clause-once
returns-clause-once c =
    let all : length c.args.objects.now.namings.items ≤ c.loop-naming.naming-index = omega (arith, c.loop-naming-test.false, ap length c.deref-naming-items.ensures.value) in
    subst (λ (l : List Naming). AllPairs DifferInName l) (kept_all (λ (n : Naming). contains same_key c.args.named.now n.dir) c.args.objects.now.namings.items c.loop-naming.naming-index all) c.loop-naming.invariant.once
