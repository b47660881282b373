use Rattle.reiser_volume_names.proofs.Imports.{Option, filter, subst, ObjectKey, same_key, HoldsNoAttribute, HasNoAttributes, BlamesBelow, IsOnly}
use Rattle.reiser_volume_names.proofs.Attributes.{none_ok, one_ok, one_blamed}
use Rattle.reiser_volume_names.proofs.Eaches.{passed_on}
use Rattle.reiser_volume_names.proofs.private.check_only.Goals as goal

pub returns-in-None-clause-checked : goal.returns-in-None-clause-checked
returns-in-None-clause-checked c = λ items noted readable o.
    none_ok items c.args.dir c.args.objects.now.namings.items noted.namings readable (subst (λ (k : Option ObjectKey). IsOnly (filter (λ n. same_key n.dir c.args.dir) c.args.objects.now.namings.items) k) c.in-None.is o)

pub returns-in-Some-clause-checked : goal.returns-in-Some-clause-checked
returns-in-Some-clause-checked c = λ items noted readable o.
    let only = subst (λ (k : Option ObjectKey). IsOnly (filter (λ n. same_key n.dir c.args.dir) c.args.objects.now.namings.items) k) c.in-Some.is o in
    passed_on (λ _. HoldsNoAttribute items c.in-Some.inner) (λ _. HasNoAttributes items c.args.dir) (BlamesBelow items (HoldsNoAttribute items c.in-Some.inner) c.in-Some.inner) (BlamesBelow items (HasNoAttributes items c.args.dir) c.args.dir) c.check_inner.result (c.check_inner.ensures.checked items noted)
    (λ _ holds. one_ok items c.args.dir c.args.objects.now.namings.items noted.namings c.in-Some.inner readable only holds) (λ e b. one_blamed items c.args.dir c.args.objects.now.namings.items noted.namings c.in-Some.inner e only b)
