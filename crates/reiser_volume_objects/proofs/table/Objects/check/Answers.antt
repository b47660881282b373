use Rattle.reiser_volume_objects.proofs.Imports.{sym, subst, ◌∙◌, err_from_is_err_and, contains, VolAnswer, same_key, Refuses}
use Rattle.reiser_volume_objects.proofs.Checking.{refused_link, all_in_order}
use Rattle.reiser_volume_objects.proofs.table.Objects.check.Goals as goal

pub returns-in-Some-clause-refused : goal.returns-in-Some-clause-refused
returns-in-Some-clause-refused c = λ items noted. refused_link items c.in-Some.object c.args.root_block (sym noted.save_link ∙ c.in-Some.is)

pub returns-in_err-check_named-clause-refused : goal.returns-in_err-check_named-clause-refused
returns-in_err-check_named-clause-refused c = λ items noted.
    let refused = c.in_err-check_named.ensures.checked items noted (c.in_ok-named.ensures.reached items noted).seen c.args.root_block in
    let err = err_from_is_err_and c.from_residual-in_err-check_named.result c.from_residual-in_err-check_named.ensures.1 in
    rw err.1 (subst (λ (e : VolAnswer). Refuses c.args.root_block items e) (sym err.2) refused)

pub returns-clause-sound : goal.returns-clause-sound
returns-clause-sound c = λ items noted.
    let reach = c.in_ok-named.ensures.reached items noted in
    all_in_order items (contains same_key c.in_ok-named.named) (sym noted.save_link ∙ c.in-None.is) reach (c.in_ok-check_named.ensures.checked items noted reach.seen)
