-- Bytes of a record that belong to no field.
use Rattle.std.specs.Prelude.{ℕ, ◌+◌, List, ◌++◌, length}
use Rattle.btr_space_items.specs.btr_keys.Layout.{Layout}

-- the same bytes in each record: written as they are, and not looked at
infixl 10 ◌▸▸◌
abbrev pub ◌▸▸◌ : {R F : Type 0} → Layout R F → List ℕ → Layout R F
layout ▸▸ bytes = record {
  width = layout.width + length bytes;
  read = layout.read;
  spell = λ value rest. layout.spell value (bytes ++ rest);
  fits = layout.fits;
}
