use Rattle.reiser_volume.proofs.Imports.{List, get_or, take, subst, sym, refl, ObjectKey, HasStats, take_next}
use Rattle.reiser_volume.proofs.gather.table_of.Goals as goal

pub loop-key-preserved : goal.loop-key-preserved
loop-key-preserved c = λ items noted.
    let key : ObjectKey = get_or c.as_slice-key-items.result.now c.loop-key.key-index (record { dir = 0; object = 0 }) in
    subst (λ (seen : List ObjectKey). HasStats items c.add_stat.new.table seen) (sym (take_next c.as_slice-key-items.result.now c.loop-key.key-index key (record { dir = 0; object = 0 }) c.loop-key-test.true refl))
    (c.in_ok-add_stat.ensures items (take c.loop-key.key-index c.as_slice-key-items.result.now) noted (c.loop-key.invariant items noted))
