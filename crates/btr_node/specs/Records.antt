-- Records of one width, one after the other.
use Rattle.std.specs.Prelude.{ℕ, zero, suc, List, [], ◌∷◌, drop}
use Rattle.btr_keys.specs.Layout.{Layout}

-- the first n of them
abbrev pub records_in : {R : Type 0} → ℕ → Layout R R → ℕ → List ℕ → List R
records_in width layout zero bytes = []
records_in width layout (suc n) bytes = layout.read bytes ∷ records_in width layout n (drop width bytes)
