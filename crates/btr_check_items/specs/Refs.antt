-- References that are items of their own, kind by kind.
use Rattle.std.specs.Prelude.{ℕ, ◌==◌, if◌then◌else◌, List, length, Option, Some, None}
use Rattle.btr_check_rules.specs.btr_reader.btr_space_items.declared.inline_ref.InlineRef.{InlineRef}
use Rattle.btr_check_rules.specs.btr_reader.btr_space_items.declared.inline_ref.InlineRef.TheVariants.{SharedData}
use Rattle.btr_check_rules.specs.btr_reader.vol_block.Volume.{field}

abbrev pub own_leaf_ref : ℕ → List ℕ → Option InlineRef
own_leaf_ref address body = if length body == 4 then Some (SharedData address (field 4 body 0)) else None

abbrev pub bare_ref : InlineRef → List ℕ → Option InlineRef
bare_ref reference body = if length body == 0 then Some reference else None
