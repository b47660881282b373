-- A place in the list of items, and the leaf that begins there.
use Rattle.std.specs.Prelude.{◌≡◌, ◌≤◌, ◌<◌, ℕ, zero, suc, ◌+◌, ◌-◌, ◌*◌, ◌^◌, List, [], ◌∷◌, ◌++◌, length, take, drop}
use Rattle.reiser_make.specs.Inner.{first_head}
use Rattle.reiser_make.specs.Items.{items_of_name, items_from}
use Rattle.reiser_make.specs.Leaf.{bytes_taken, leaves_of, packed_behind, node_room, bodies, leaf_contents}
use Rattle.reiser_make.specs.Shape.{Shape, object_count}
use Rattle.reiser_make.specs.declared.sample_item.SampleItem.{SampleItem}
use Rattle.reiser_make.specs.declared.leaf.ItemPlace.{ItemPlace}
use Rattle.reiser_make.specs.declared.leaf.Packed.{Packed}

-- the items of n objects from object o on, without the first ones of that
abbrev pub rest_of : Shape → ℕ → ℕ → ℕ → List SampleItem
rest_of s o part zero = []
rest_of s o part (suc n) = drop part (items_of_name s o) ++ items_from s (o + 1) n

-- the items behind a place
unfoldable pub items_behind : Shape → ItemPlace → List SampleItem
items_behind s at = rest_of s at.object at.part (object_count (length s.names) - at.object)

-- The first items of a list are packed into a leaf, as far as a place: so many, which take so many bytes.
pub record HasFirst (s : Shape) (all : List SampleItem) (leaf : Packed) : Type 0 where
  pub some : 1 ≤ leaf.count
  pub count : leaf.count ≤ length all
  pub end : items_behind s leaf.end ≡ drop leaf.count all
  pub first : leaf.first ≡ first_head all
  pub used : leaf.used ≡ bytes_taken (take leaf.count all)

-- the leaf may take more
abbrev pub MayPackMore : Shape → List SampleItem → Packed → Type 0
MayPackMore s all leaf = HasFirst s all leaf × (leaves_of all ≡ packed_behind (take leaf.count all) (node_room - leaf.used) (items_behind s leaf.end))

-- the leaf is the first of the list
abbrev pub BeginsLeaves : Shape → List SampleItem → Packed → Type 0
BeginsLeaves s all leaf = HasFirst s all leaf × (leaves_of all ≡ take leaf.count all ∷ leaves_of (items_behind s leaf.end))

-- the leaf has room for its items, and the offset of the first one is one of a file of less than 4 GiB
pub record HasLeafRoom (leaf : Packed) : Type 0 where
  pub heads : 24 * leaf.count ≤ leaf.used
  pub fits : leaf.used ≤ 4072
  pub offset : leaf.first.offset < 2 ^ 32

-- the leaf that begins at a place is packed so
pub record IsPacked (s : Shape) (at : ItemPlace) (leaf : Packed) : Type 0 where
  pub room : HasLeafRoom leaf
  pub is : BeginsLeaves s (items_behind s at) leaf

-- the first i items of a list are written: those behind the place follow, and their bodies begin at byte `low`
pub record HasPutItems (s : Shape) (all : List SampleItem) (i : ℕ) (at : ItemPlace) (low : ℕ) (behind : List ℕ) : Type 0 where
  pub left : items_behind s at ≡ drop i all
  pub begin : low + length (bodies s (take i all)) ≡ 4072
  pub room : bytes_taken (take i all) + low ≡ 4072 + 24 * i
  pub bytes : behind ≡ leaf_contents s (take i all)

-- the next of these items has room behind i heads and before byte `low`
abbrev pub NextFits : List SampleItem → ℕ → ℕ → Type 0
NextFits [] i low = Unit {0}
NextFits (item ∷ items) i low = 24 * i + 24 + item.head.length ≤ low
