use Rattle.reiser_volume_names.proofs.Imports.{◌≡◌, true, false, Contains, sym, subst, err_from_is_err_and, VolAnswer, Refused, HasAttributes, contains, Naming, same_key, HoldsNoAttribute, BlamesBelow}
use Rattle.reiser_volume_names.proofs.Attributes.{inner_ok, inner_targets, inner_entry}
use Rattle.reiser_volume_names.proofs.Eaches.{passed_on}
use Rattle.reiser_volume_names.proofs.private.check_inner.Goals as goal

pub returns-in_err-inside-clause-checked : goal.returns-in_err-inside-clause-checked
returns-in_err-inside-clause-checked c = λ items noted.
    let err = err_from_is_err_and c.from_residual.result c.from_residual.ensures.1 in
    rw err.1 (subst (λ (e : VolAnswer). BlamesBelow items (HoldsNoAttribute items c.args.dir) c.args.dir e) (sym err.2) (inner_targets items c.args.dir c.args.objects.now.namings.items noted.namings c.in_err-inside.field-0.0 (c.in_err-inside.ensures.checked items noted)))

pub returns-clause-checked : goal.returns-clause-checked
returns-clause-checked c = λ items noted.
    passed_on (λ _. (n : Naming) → Contains c.args.objects.now.namings.items n → contains same_key c.in_ok-inside.inside n.dir ≡ false) (λ _. HoldsNoAttribute items c.args.dir)
    (λ e. (n : Naming) × Contains c.args.objects.now.namings.items n × (contains same_key c.in_ok-inside.inside n.dir ≡ true) × (e ≡ Refused (HasAttributes n.target.dir n.target.object))) (BlamesBelow items (HoldsNoAttribute items c.args.dir) c.args.dir) c.check_empty.result c.check_empty.ensures.checked
    (λ _ none. inner_ok items c.args.dir c.args.objects.now.namings.items noted.namings (contains same_key c.in_ok-inside.inside) (c.is_readable.ensures.yes items noted c.if-not-is_readable.false) (c.in_ok-inside.ensures.checked items noted) none)
    (λ e m. inner_entry items c.args.dir c.args.objects.now.namings.items noted.namings (contains same_key c.in_ok-inside.inside) e (c.in_ok-inside.ensures.checked items noted) m)
