-- Where the addresses of a volume lie on its device. A map of addresses is a list of ranges, as chunks give them.
use Rattle.std.specs.Prelude.{ℕ, zero, suc, ◌+◌, ◌-◌, ◌/◌, ◌%◌, ◌^◌, ◌==◌, nat_lt, nat_le, Bool, true, ◌&&◌, if◌then◌else◌, List, [], ◌∷◌, ◌++◌, Option, Some, None, is_some}
use Rattle.std.specs.Option.{option_map}
use Rattle.btr_node.specs.outside.History.{Image, block_at}
use Rattle.btr_reader_walk.specs.declared.map.MapRange.{MapRange}

-- the range holds the address
abbrev pub holds : MapRange → ℕ → Bool
holds r address = nat_le r.logical address && nat_lt address (r.logical + r.length)

-- the place on the device of an address, both in bytes, by the first copy of the first range that holds it
abbrev pub place : List MapRange → ℕ → Option ℕ
place [] address = None
place (r ∷ ranges) address = if holds r address then Some (r.physical + (address - r.logical)) else place ranges address

-- its place by the second copy of that range, if there is one
abbrev pub second_place : List MapRange → ℕ → Option ℕ
second_place [] address = None
second_place (r ∷ ranges) address = if holds r address then option_map (λ at. at + (address - r.logical)) r.mirror else second_place ranges address

-- the map that gives each address itself
abbrev pub identity : List MapRange
identity = record { logical = 0; length = 2 ^ 64; physical = 0; mirror = None } ∷ []

-- each of n blocks from an address on lies in the map, by its own address
abbrev pub are_mapped : List MapRange → ℕ → ℕ → Bool
are_mapped ranges zero address = true
are_mapped ranges (suc n) address = is_some (place ranges address) && are_mapped ranges n (address + 4096)

-- a node of this size can lie at the address
unfoldable pub is_mapped : List MapRange → ℕ → ℕ → Bool
is_mapped ranges nodesize address = (address % 4096 == 0) && are_mapped ranges (nodesize / 4096) address

-- the block of a place
abbrev pub block_of_place : Image → Option ℕ → List ℕ
block_of_place image None = []
block_of_place image (Some place) = block_at image (place / 4096)

-- the bytes of n blocks from an address on, each by its own address
abbrev pub blocks_at : Image → List MapRange → ℕ → ℕ → List ℕ
blocks_at image ranges zero address = []
blocks_at image ranges (suc n) address = block_of_place image (place ranges address) ++ blocks_at image ranges n (address + 4096)

-- the bytes of the node of this size at an address
unfoldable pub node_at : Image → List MapRange → ℕ → ℕ → List ℕ
node_at image ranges nodesize address = blocks_at image ranges (nodesize / 4096) address
