-- The label of a volume, which zeros fill up.
use Rattle.std.specs.Prelude.{ℕ, List, [], ◌∷◌, codes, nat_eq}
use Rattle.std.specs.List.{before_first}
use Rattle.sink_text.specs.Escape.{escaped}

-- a label without the zeros that fill it up
abbrev pub label_of : List ℕ → List ℕ
label_of bytes = before_first (λ c. nat_eq c 0) bytes

-- how a label is printed: a dash where it is empty
abbrev pub label_text : List ℕ → List ℕ
label_text [] = codes "-"
label_text (c ∷ cs) = escaped (c ∷ cs)
