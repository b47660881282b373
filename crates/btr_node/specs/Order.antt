-- The order of keys in a node.
use Rattle.std.specs.Prelude.{Bool, true, ◌&&◌, List, [], ◌∷◌, IsTrue}
use Rattle.std.specs.Ordering.{is_lt}
use Rattle.btr_keys.specs.Key.{key_cmp}
use Rattle.btr_keys.specs.declared.key.Key.{Key}

abbrev pub is_before : Key → Key → Bool
is_before a b = is_lt (key_cmp a b)

-- whether a key is before the first of these, if there is one
abbrev pub is_before_first : Key → List Key → Bool
is_before_first key [] = true
is_before_first key (next ∷ keys) = is_before key next

-- whether each key is before the next
abbrev pub ascends : List Key → Bool
ascends [] = true
ascends (key ∷ keys) = is_before_first key keys && ascends keys

abbrev pub Ascends : List Key → Type 0
Ascends keys = IsTrue (ascends keys)
