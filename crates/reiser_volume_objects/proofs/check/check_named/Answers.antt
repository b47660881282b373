use Rattle.reiser_volume_objects.proofs.Imports.{◌≡◌, ◌≤◌, List, length, sym, subst, true, list_any, ObjectKey, same_key, IsObject}
use Rattle.reiser_volume_objects.proofs.Checking.{each_found}
use Rattle.reiser_volume_objects.proofs.check.check_named.Goals as goal

pub returns-clause-checked : goal.returns-clause-checked
returns-clause-checked c = λ items noted seen key found.
    let all : length c.as_slice-key-items.result.now ≤ c.loop-key.key-index = c.loop-key-test.false in
    each_found (IsObject items) c.as_slice-key-items.result.now c.loop-key.key-index all (c.loop-key.invariant items noted seen) key
    (subst (λ (keys : List ObjectKey). list_any (same_key key) keys ≡ true) (sym c.as_slice-key-items.ensures.keys) found)
