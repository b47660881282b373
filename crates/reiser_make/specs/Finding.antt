-- A walk over the leaves.
use Rattle.std.specs.Prelude.{◌≡◌, ◌≤◌, ◌<◌, ◌^◌, ℕ, drop}
use Rattle.reiser_make.specs.Inner.{first_head, leaf_at}
use Rattle.reiser_make.specs.Leaf.{leaves, leaves_of, bytes_taken}
use Rattle.reiser_make.specs.Shape.{Shape}
use Rattle.reiser_make.specs.Walk.{items_behind}
use Rattle.reiser_make.specs.declared.inner.Leaf.{Leaf}
use Rattle.reiser_make.specs.declared.inner.LeafWalk.{LeafWalk}

-- the leaf in front of a walk begins at its place
abbrev pub BeginsAtPlace : Shape → LeafWalk → Type 0
BeginsAtPlace s walk = leaves_of (items_behind s walk.at) ≡ drop walk.leaf (leaves s)

-- what a parent says of leaf m
pub record IsToldLeaf (s : Shape) (m : ℕ) (leaf : Leaf) : Type 0 where
  pub first : leaf.first ≡ first_head (leaf_at s m)
  pub used : leaf.used ≡ bytes_taken (leaf_at s m)
  pub fits : leaf.used ≤ 4072
  pub offset : leaf.first.offset < 2 ^ 32
