-- Values that may have several owners.
use Rattle.std.specs.Prelude.{List, [], Option, Some, None}
use Rattle.std.specs.Rc.{rc_slice_items}
use Rattle.std.specs.declared.rc.RcSlice.{RcSlice}

-- the values, or none
abbrev pub values_of : {X Z : Type 0} → Option (RcSlice X Z) → List X
values_of None = []
values_of (Some values) = rc_slice_items values
