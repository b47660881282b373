-- What the words of a command line order.
use Rattle.std.specs.Prelude.{ℕ, ◌^◌, Bool, true, false, List, [], ◌∷◌, codes, bytes_eq, Option, Some, None, if◌then◌else◌}
use Rattle.program_words.specs.Words.{is_path, number_of}
use Rattle.reiser_make_app.specs.declared.order.Order.{Order}

-- the sample of a number, on a volume of so many blocks, with items of version 0 or not, and the path of the device
pub record Ordered : Type 0 where
  pub number : ℕ
  pub blocks : ℕ
  pub old : Bool
  pub path : List ℕ

abbrev pub ordered : Bool → Option ℕ → Option ℕ → List ℕ → Option Ordered
ordered old None blocks path = None
ordered old (Some number) None path = None
ordered old (Some number) (Some blocks) path = Some (record { number = number; blocks = blocks; old = old; path = path })

-- a number of at most 4000, a number of blocks that is at most that of a volume of 2 TiB, and a path
abbrev pub order_of : Bool → List ℕ → List ℕ → List ℕ → Option Ordered
order_of old number blocks path =
    if is_path path then ordered old (number_of 4000 number) (number_of (2 ^ 29) blocks) path else None

abbrev pub three_words : Bool → List (List ℕ) → Option Ordered
three_words old [] = None
three_words old (number ∷ []) = None
three_words old (number ∷ blocks ∷ []) = None
three_words old (number ∷ blocks ∷ path ∷ []) = order_of old number blocks path
three_words old (number ∷ blocks ∷ path ∷ more ∷ rest) = None

-- the option for items of version 0 stands before the three words
abbrev pub order : List (List ℕ) → Option Ordered
order [] = None
order (first ∷ rest) = if bytes_eq first (codes "--old") then three_words true rest else three_words false (first ∷ rest)

abbrev pub seen : Order → Ordered
seen o = record { number = o.number; blocks = o.blocks; old = o.old; path = o.path.now }
