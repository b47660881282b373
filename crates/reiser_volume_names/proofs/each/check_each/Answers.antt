use Rattle.reiser_volume_names.proofs.Imports.{◌≡◌, ◌<◌, ◌≤◌, List, length, get_or, true, sym, subst, list_any, get_or_default, list_any_at, err_from_is_err_and, ObjectKey, same_key, each_found, same_key-self, HasForms, BlamesObject}
use Rattle.reiser_volume_names.proofs.Lists.{each_more}
use Rattle.reiser_volume_names.proofs.each.check_each.Goals as goal

pub returns-in_err-check_object-clause-checked : goal.returns-in_err-check_object-clause-checked
returns-in_err-check_object-clause-checked c = λ items noted.
    let within : c.loop-key.key-index < length c.as_slice-key-items.result.now = c.loop-key-test.true in
    let found = list_any_at (same_key (get_or c.as_slice-key-items.result.now c.loop-key.key-index (record { dir = 0; object = 0 }))) c.as_slice-key-items.result.now c.loop-key.key-index (record { dir = 0; object = 0 }) within (same_key-self (get_or c.as_slice-key-items.result.now c.loop-key.key-index (record { dir = 0; object = 0 }))) in
    let err = err_from_is_err_and c.from_residual.result c.from_residual.ensures.1 in
    rw err.1 (
      get_or c.as_slice-key-items.result.now c.loop-key.key-index (record { dir = 0; object = 0 }),
      subst (λ (keys : List ObjectKey). list_any (same_key (get_or c.as_slice-key-items.result.now c.loop-key.key-index (record { dir = 0; object = 0 }))) keys ≡ true) c.as_slice-key-items.ensures.keys found,
      subst (BlamesObject items (get_or c.as_slice-key-items.result.now c.loop-key.key-index (record { dir = 0; object = 0 }))) (sym err.2) (c.in_err-check_object.ensures.checked items noted),
    )

pub loop-key-preserved : goal.loop-key-preserved
loop-key-preserved c = λ items noted.
    each_more (HasForms items) c.as_slice-key-items.result.now c.loop-key.key-index (get_or c.as_slice-key-items.result.now c.loop-key.key-index (record { dir = 0; object = 0 })) (c.loop-key.invariant items noted) c.loop-key-test.true
    (get_or_default c.as_slice-key-items.result.now c.loop-key.key-index _ _ c.loop-key-test.true) (c.in_ok-check_object.ensures.checked items noted)

pub returns-clause-checked : goal.returns-clause-checked
returns-clause-checked c = λ items noted key found.
    let all : length c.as_slice-key-items.result.now ≤ c.loop-key.key-index = c.loop-key-test.false in
    each_found (HasForms items) c.as_slice-key-items.result.now c.loop-key.key-index all (c.loop-key.invariant items noted) key
    (subst (λ (keys : List ObjectKey). list_any (same_key key) keys ≡ true) (sym c.as_slice-key-items.ensures.keys) found)
