-- What is still to come of the streams, and when they fit the pieces and nodes that they were made from.
use Rattle.std.specs.Prelude.{◌≡◌, ℕ, ◌+◌, ◌-◌, ◌*◌, ◌^◌, ◌==◌, min, ◌≤◌, ◌<◌, Bool, true, false, if◌then◌else◌, List, [], ◌∷◌, ◌++◌, length, map, take, drop, slice_get, Option, Some, None, All, AllPairs, MatchOption}
use Rattle.btr_tree.specs.outside.History.{Image}
use Rattle.btr_tree.specs.btr_node.Leaf.{Item}
use Rattle.btr_tree.specs.btr_node.Order.{is_before}
use Rattle.btr_tree.specs.csum_kinds.Kind.{kind_width}
use Rattle.btr_tree.specs.csum_kinds.declared.kind.SumKind.{SumKind}
use Rattle.space_items.specs.Merging.{merged}
use Rattle.unit_plan.specs.Sums.{sums_in_item}
use Rattle.unit_plan.specs.declared.chunk.PlannedChunk.{PlannedChunk}
use Rattle.unit_plan.specs.declared.piece.Piece.{Piece}
use Rattle.space_items.specs.declared.extent_stream.ExtentStream.{ExtentStream}
use Rattle.space_items.specs.declared.extent_stream.Next.{Next}
use Rattle.space_items.specs.declared.extent_stream.Next.TheVariants as next
use Rattle.space_items.specs.declared.groups.Group.{Group}
use Rattle.space_items.specs.declared.node.TreeNode.{TreeNode}
use Rattle.space_items.specs.declared.sum_stream.SumStream.{SumStream}
use Rattle.space_items.specs.Extents.{group_item, node_item, piece_item, used_in}
use Rattle.space_items.specs.Sums.{run_items, sum_items}

-- addresses in bytes that a u64 holds
pub record IsSmallPiece (p : Piece) : Type 0 where
  pub some : 1 ≤ p.count
  pub place : p.place + p.count ≤ 2 ^ 29
  pub from : MatchOption p.from (Unit {0}) (λ b. b < 2 ^ 29)
  pub owner : MatchOption p.owner (Unit {0}) (λ o. o.1 < 2 ^ 32)

-- pieces in the order of their places
pub record ArePieces (pieces : List Piece) : Type 0 where
  pub small : All IsSmallPiece pieces
  pub ascending : AllPairs (λ p q. p.place + p.count ≤ q.place) pieces

pub record IsSmallGroup (g : Group) : Type 0 where
  pub small : g.chunk.start + g.chunk.length ≤ 2 ^ 29

-- the first n of a list lie before a place
pub record LieBefore {A : Type 0} (place : A → ℕ) (end : ℕ) (xs : List A) (n : ℕ) : Type 0 where
  pub within : n ≤ length xs
  pub before : All (λ x. place x < end) (take n xs)

-- one more item came and stands, or there is none more
abbrev pub ComesTo : Bool → List Item → Item → List Item → Type 0
ComesTo true before item after = before ≡ item ∷ after
ComesTo false before item after = (before ≡ []) × (after ≡ [])

-- The extent tree.

abbrev pub item_of_group : Group → Item
item_of_group g = group_item g.used g.chunk

abbrev pub extents_ahead : ExtentStream → List Piece → List TreeNode → List Item
extents_ahead s pieces nodes =
    merged (map item_of_group (drop s.group s.groups)) (merged (map node_item (drop s.node nodes)) (map piece_item (drop s.piece pieces)))

-- the item that stands
abbrev pub extent_standing : ExtentStream → Item
extent_standing s = (s.key, s.body)

pub record FitsExtents (s : ExtentStream) (pieces : List Piece) (nodes : List TreeNode) : Type 0 where
  pub pieces_small : All IsSmallPiece pieces
  pub groups_small : All IsSmallGroup s.groups
  pub group_within : s.group ≤ length s.groups
  pub node_within : s.node ≤ length nodes
  pub piece_within : s.piece ≤ length pieces

-- a chunk's group has what extents take of it
abbrev pub group_of : List Piece → List TreeNode → ℕ → PlannedChunk → Group
group_of pieces nodes nodesize c = record { chunk = c; used = used_in pieces nodes nodesize c }

-- an item that comes next
abbrev pub item_of_next : Next → Item
item_of_next (next.Group g) = item_of_group g
item_of_next (next.Node n) = node_item n
item_of_next (next.Piece p) = piece_item p

abbrev pub IsSmallNext : Next → Type 0
IsSmallNext (next.Group g) = IsSmallGroup g
IsSmallNext (next.Node n) = Unit
IsSmallNext (next.Piece p) = IsSmallPiece p

-- where it stands in its list, and the stream behind it
abbrev pub place_of : ExtentStream → Next → ℕ
place_of s (next.Group g) = s.group
place_of s (next.Node n) = s.node
place_of s (next.Piece p) = s.piece

abbrev pub passed : ExtentStream → Next → ExtentStream
passed s (next.Group g) = record s { group = s.group + 1 }
passed s (next.Node n) = record s { node = s.node + 1 }
passed s (next.Piece p) = record s { piece = s.piece + 1 }

-- the first of two by key
abbrev pub first_of : Option Next → Option Next → Option Next
first_of None other = other
first_of (Some a) None = Some a
first_of (Some a) (Some b) = if is_before (item_of_next a).0 (item_of_next b).0 then Some a else Some b

-- The checksum tree.

-- what is left of the piece in hand, and the pieces behind it
abbrev pub left_of : SumKind → Image → ℕ → List Piece → List Item
left_of sums image done [] = []
left_of sums image done (p ∷ pieces) = run_items sums image (p.place + done) (p.count - done) ++ sum_items sums image pieces

abbrev pub sums_ahead : SumStream → List Piece → Image → List Item
sums_ahead s pieces image = left_of s.sums image s.done (drop s.piece pieces)

abbrev pub sum_standing : SumStream → Item
sum_standing s = (s.key, take s.length s.bytes.items)

pub record FitsSums (s : SumStream) (pieces : List Piece) : Type 0 where
  pub pieces_small : All IsSmallPiece pieces
  pub piece_within : s.piece ≤ length pieces
  pub done_within : (p : Piece) → slice_get pieces s.piece ≡ Some p → s.done < p.count
  pub none_done : s.piece ≡ length pieces → s.done ≡ 0
  pub wide : length s.bytes.items ≡ kind_width s.sums * sums_in_item s.sums
  pub room : s.length ≤ length s.bytes.items

-- how many blocks of a piece the next item has
abbrev pub blocks_taken : SumStream → Piece → ℕ
blocks_taken s p = min (p.count - s.done) (sums_in_item s.sums)

-- where a stream stands behind the next item of a piece
abbrev pub behind : SumStream → Piece → ℕ × ℕ
behind s p = if s.done + blocks_taken s p == p.count then (s.piece + 1, 0) else (s.piece, s.done + blocks_taken s p)

-- the next item of a piece was taken
pub record IsPieceTaken (old new : SumStream) (p : Piece) : Type 0 where
  pub sums : new.sums ≡ old.sums
  pub at : (new.piece, new.done) ≡ behind old p
  pub wide : length new.bytes.items ≡ length old.bytes.items
  pub room : new.length ≤ length new.bytes.items

-- the same place and kind of sums, and as much room; nothing is said of the item that stands
pub record IsAsBefore (old new : SumStream) : Type 0 where
  pub sums : new.sums ≡ old.sums
  pub piece : new.piece ≡ old.piece
  pub done : new.done ≡ old.done
  pub spent : new.spent ≡ old.spent
  pub wide : length new.bytes.items ≡ length old.bytes.items
