-- The leaves that hold the items of a tree, and the first one of an object.
use Rattle.std.specs.Prelude.{◌≡◌, ℕ, ◌+◌, ◌-◌, ◌==◌, nat_eq, Bool, false, List, [], ◌∷◌, ◌++◌, length, map, slice_get}
use Rattle.std.specs.List.{dedup}
use Rattle.std.specs.Option.{option_map_or}
use Rattle.reiser_walk.specs.Items.{ReiserItem}
use Rattle.reiser_volume_objects.specs.declared.key.ObjectKey.{ObjectKey}
use Rattle.reiser_volume_objects.specs.Keys.{object_key_of, items_of}

-- a list of numbers in which each run of one number stands once
abbrev pub without_repeats : List ℕ → List ℕ
without_repeats bs = dedup nat_eq bs

-- b is the last of a list
abbrev pub ends_with : List ℕ → ℕ → Bool
ends_with bs b = option_map_or (λ last. last == b) (slice_get bs (length bs - 1)) false

-- the leaves of items, in the order of the items
abbrev pub leaves_of : List ReiserItem → List ℕ
leaves_of items = without_repeats (map (λ i. i.leaf) items)

-- The first item of the object stands in the leaf of this number in that list.
pub record IsFirstLeaf (key : ObjectKey) (items : List ReiserItem) (place : ℕ) : Type 0 where
  pub before : List ReiserItem
  pub first : ReiserItem
  pub after : List ReiserItem
  pub split : items ≡ before ++ (first ∷ after)
  pub none_before : items_of key before ≡ []
  pub own : object_key_of first.head ≡ key
  pub here : place + 1 ≡ length (leaves_of (before ++ first ∷ []))
