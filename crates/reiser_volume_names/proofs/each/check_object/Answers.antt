use Rattle.reiser_volume_names.proofs.Imports.{◌≡◌, ◌∙◌, ◌≤◌, ℕ, true, sym, ap, Damaged, EntryForm, HasForms, BlamesObject, BlamesTarget, is_symlink_mode}
use Rattle.reiser_volume_names.specs.Passes.{off_form, long_target}
use Rattle.reiser_volume_names.proofs.Eaches.{passed_on, forms_of}
use Rattle.reiser_volume_names.proofs.each.check_object.Goals as goal

pub returns-in-Some-clause-checked : goal.returns-in-Some-clause-checked
returns-in-Some-clause-checked c = λ items noted.
    let e = (c.object_or_new-object.ensures items noted).off_form c.in-Some.block c.in-Some.is in
    off_form e.0 e.1 e.2 (ap (λ (b : ℕ). Damaged b EntryForm) e.3)

pub returns-in-Some-stat-clause-checked : goal.returns-in-Some-stat-clause-checked
returns-in-Some-stat-clause-checked c = λ items noted.
    let s = c.object_or_new-object.ensures items noted in
    passed_on (λ _. is_symlink_mode c.in-Some-stat.stat.fields.mode ≡ true → c.in-Some-stat.stat.fields.size ≤ 3900) (λ _. HasForms items c.args.key) (BlamesTarget c.args.key c.in-Some-stat.stat) (BlamesObject items c.args.key) c.check_target.result c.check_target.ensures.checked
    (λ _ short. forms_of items c.args.key c.object_or_new-object.result c.in-Some-stat.stat s c.in-None.is c.in-Some-stat.is short)
    (λ r blamed. long_target c.in-Some-stat.stat (sym s.stat ∙ c.in-Some-stat.is) blamed)
