use Rattle.reiser_volume_names.proofs.Imports.{◌≤◌, ℕ, [], sym, subst, err_from_is_err_and, VolAnswer, contains, ObjectKey, same_key, BlamesExtended, AreNames, extended, extended_crowd_of, link_list, RefusesNames, IsNamesAnswer}
use Rattle.reiser_volume_names.proofs.Assembly.{blamed_object, blamed_name, blamed_private, blamed_twice, blamed_again, blamed_count, blamed_crowd, blamed_extended, all_kept, name_answer, twice_answer, crowd_answer, extended_answer}
use Rattle.reiser_volume_names.proofs.Eaches.{both_ways, if_err_to}
use Rattle.reiser_volume_names.proofs.names.check_all_names.Goals as goal

pub returns-in_err-check_each-clause-checked : goal.returns-in_err-check_each-clause-checked
returns-in_err-check_each-clause-checked c = λ items noted reach.
    let err = err_from_is_err_and c.from_residual.result c.from_residual.ensures.1 in
    rw err.1 (subst (λ (e : VolAnswer). RefusesNames items e) (sym err.2) (let b = c.in_err-check_each.ensures.checked items noted in blamed_object items c.args.objects.now.namings.items c.args.named.now noted.namings reach c.check_each.ensures.once b.0 c.in_err-check_each.field-0.0 b.1 b.2))

pub returns-in_err-check_names-clause-checked : goal.returns-in_err-check_names-clause-checked
returns-in_err-check_names-clause-checked c = λ items noted reach.
    let err = err_from_is_err_and c.from_residual-in_err-check_names.result c.from_residual-in_err-check_names.ensures.1 in
    rw err.1 (subst (λ (e : VolAnswer). RefusesNames items e) (sym err.2) (let b = c.in_err-check_names.ensures.blamed in blamed_name items c.args.objects.now.namings.items c.args.named.now noted.namings reach c.check_each.ensures.once b.0 c.in_err-check_names.field-0.0 b.1 b.2))

pub returns-in_err-check_private-clause-checked : goal.returns-in_err-check_private-clause-checked
returns-in_err-check_private-clause-checked c = λ items noted reach.
    let err = err_from_is_err_and c.from_residual-in_err-check_private.result c.from_residual-in_err-check_private.ensures.1 in
    rw err.1 (subst (λ (e : VolAnswer). RefusesNames items e) (sym err.2) (blamed_private items c.args.objects.now.namings.items c.args.named.now noted.namings reach c.check_each.ensures.once c.in_err-check_private.field-0.0 (c.in_err-check_private.ensures.checked items noted)))

pub returns-in_err-check_once-clause-checked : goal.returns-in_err-check_once-clause-checked
returns-in_err-check_once-clause-checked c = λ items noted reach.
    let err = err_from_is_err_and c.from_residual-in_err-check_once.result c.from_residual-in_err-check_once.ensures.1 in
    rw err.1 (subst (λ (e : VolAnswer). RefusesNames items e) (sym err.2) (blamed_twice items c.args.objects.now.namings.items c.args.named.now noted.namings reach c.check_each.ensures.once c.in_err-check_once.field-0.0 c.in_err-check_once.ensures.twice))

pub returns-in_err-check_directories-clause-checked : goal.returns-in_err-check_directories-clause-checked
returns-in_err-check_directories-clause-checked c = λ items noted reach.
    let err = err_from_is_err_and c.from_residual-in_err-check_directories.result c.from_residual-in_err-check_directories.ensures.1 in
    rw err.1 (subst (λ (e : VolAnswer). RefusesNames items e) (sym err.2) (blamed_again items c.args.objects.now.namings.items c.args.named.now noted.namings reach c.check_each.ensures.once c.in_err-check_directories.field-0.0 (c.in_err-check_directories.ensures.checked items noted)))

pub returns-in_err-check_counts-clause-checked : goal.returns-in_err-check_counts-clause-checked
returns-in_err-check_counts-clause-checked c = λ items noted reach.
    let err = err_from_is_err_and c.from_residual-in_err-check_counts.result c.from_residual-in_err-check_counts.ensures.1 in
    rw err.1 (subst (λ (e : VolAnswer). RefusesNames items e) (sym err.2) (blamed_count items c.args.objects.now.namings.items c.args.named.now noted.namings reach c.check_each.ensures.once c.in_err-check_counts.field-0.0 (c.in_err-check_counts.ensures.checked items noted)))

pub returns-in_err-check_crowds-clause-checked : goal.returns-in_err-check_crowds-clause-checked
returns-in_err-check_crowds-clause-checked c = λ items noted reach.
    let err = err_from_is_err_and c.from_residual-in_err-check_crowds.result c.from_residual-in_err-check_crowds.ensures.1 in
    rw err.1 (subst (λ (e : VolAnswer). RefusesNames items e) (sym err.2) (blamed_crowd items c.args.objects.now.namings.items c.args.named.now noted.namings reach c.check_each.ensures.once c.in_err-check_crowds.field-0.0 c.in_err-check_crowds.ensures.blamed))

pub returns-clause-checked : goal.returns-clause-checked
returns-clause-checked c = λ items noted reach.
    both_ways ((object : ObjectKey) (hash : ℕ) → extended_crowd_of (link_list (contains same_key c.args.named.now) c.args.objects.now.namings.items) c.args.named.now.keys object hash ≤ 3900) (AreNames items)
    (BlamesExtended c.args.named.now.keys (extended [] (link_list (contains same_key c.args.named.now) c.args.objects.now.namings.items))) (RefusesNames items) c.check_extended.result c.check_extended.ensures.fit c.check_extended.ensures.blamed
    (λ fit. all_kept items c.args.objects.now.namings.items c.args.named.now noted.namings reach c.check_each.ensures.once (c.in_ok-check_each.ensures.checked items noted) c.in_ok-check_names.ensures.good (c.in_ok-check_private.ensures.checked items noted) c.in_ok-check_once.ensures.once (c.in_ok-check_directories.ensures.checked items noted) (c.in_ok-check_counts.ensures.checked items noted) c.in_ok-check_crowds.ensures.fit fit)
    (λ e b. blamed_extended items c.args.objects.now.namings.items c.args.named.now noted.namings reach c.check_each.ensures.once e b)

pub returns-in_err-check_names-clause-answers : goal.returns-in_err-check_names-clause-answers
returns-in_err-check_names-clause-answers c =
    let err = err_from_is_err_and c.from_residual-in_err-check_names.result c.from_residual-in_err-check_names.ensures.1 in
    rw err.1 (subst (λ (e : VolAnswer). IsNamesAnswer e) (sym err.2) (let b = c.in_err-check_names.ensures.blamed in name_answer (contains same_key c.args.named.now) b.0 c.in_err-check_names.field-0.0 b.2))

pub returns-in_err-check_once-clause-answers : goal.returns-in_err-check_once-clause-answers
returns-in_err-check_once-clause-answers c =
    let err = err_from_is_err_and c.from_residual-in_err-check_once.result c.from_residual-in_err-check_once.ensures.1 in
    rw err.1 (subst (λ (e : VolAnswer). IsNamesAnswer e) (sym err.2) (twice_answer _ c.in_err-check_once.field-0.0 c.in_err-check_once.ensures.twice))

pub returns-in_err-check_crowds-clause-answers : goal.returns-in_err-check_crowds-clause-answers
returns-in_err-check_crowds-clause-answers c =
    let err = err_from_is_err_and c.from_residual-in_err-check_crowds.result c.from_residual-in_err-check_crowds.ensures.1 in
    rw err.1 (subst (λ (e : VolAnswer). IsNamesAnswer e) (sym err.2) (crowd_answer _ c.in_err-check_crowds.field-0.0 c.in_err-check_crowds.ensures.blamed))

pub returns-clause-answers : goal.returns-clause-answers
returns-clause-answers c = if_err_to c.check_extended.result _ _ (extended_answer c.args.named.now.keys (extended [] (link_list (contains same_key c.args.named.now) c.args.objects.now.namings.items))) c.check_extended.ensures.blamed
