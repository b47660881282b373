use Rattle.btr_tree_writer_tests.proofs.Imports.{◌≡◌, true, Result, Ok, Err, [], is_ok, OnOk}
use Rattle.btr_tree_writer_tests.proofs.building.one_leaf.Goals as goal

from_ok : {T E P : Type 0} (r : Result T E) → true ≡ is_ok r → OnOk r P → P
from_ok (Ok x) is h = h
from_ok (Err e) is h = absurd (cc is)

pub finish-root-requires-clause-ready : goal.finish-root-requires-clause-ready
finish-root-requires-clause-ready g c =
    (_, from_ok c.push.result c.if-is_ok.ensures.value (c.push.ensures.holds [] c.in_ok-tree.ensures.ready))
