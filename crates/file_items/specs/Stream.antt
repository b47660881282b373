-- What is still to come of a stream of items, and when it fits the volume and the pieces that it was made from.
use Rattle.std.specs.Prelude.{◌≡◌, ◌≤◌, ◌<◌, ℕ, ◌+◌, ◌-◌, Bool, true, false, List, [], ◌∷◌, ◌++◌, length, drop, slice_get, Some}
use Rattle.std.specs.List.{flat_map}
use Rattle.indexmap.specs.IndexMap.{keys}
use Rattle.reiser_volume.specs.outside.History.{Image}
use Rattle.unit_plan.specs.btr_node.Leaf.{Item}
use Rattle.reiser_volume_objects.specs.declared.key.ObjectKey.{ObjectKey}
use Rattle.reiser_volume.specs.Numbers.{by_inode}
use Rattle.reiser_volume.specs.declared.volume.Volume.{Volume}
use Rattle.unit_plan.specs.declared.piece.Piece.{Piece}
use Rattle.file_items.specs.declared.files.FileInHand.{FileInHand}
use Rattle.file_items.specs.declared.files.FileTree.{FileTree}
use Rattle.file_items.specs.declared.image.ImageExtents.{ImageExtents}
use Rattle.file_items.specs.declared.items.Items.{Items}
use Rattle.file_items.specs.declared.items.Rest.{Rest}
use Rattle.file_items.specs.declared.items.Rest.TheVariants as rest
use Rattle.file_items.specs.Extents.{file_block, pieces_of, source_block, pieces_of_volume, extents_at}
use Rattle.file_items.specs.Known.{FitsIndex, IsKnown}
use Rattle.file_items.specs.Orders.{AreOwners, AreSources}
use Rattle.file_items.specs.Tree.{Source, source_of, object_items, content_items, file_extent_items, kind_in}

-- the last n of a list
abbrev pub last_of : {A : Type 0} → ℕ → List A → List A
last_of n xs = drop (length xs - n) xs

-- the extents of the file in hand
abbrev pub file_ahead : FileInHand → List Piece → List Item
file_ahead f pieces = extents_at f.ino file_block (last_of f.left (pieces_of pieces f.ino))

-- these, and then the objects that were not begun
abbrev pub tree_ahead : FileTree → Volume → List Piece → Image → List Item
tree_ahead f volume pieces image =
    file_ahead f.file pieces ++ flat_map (object_items (source_of volume pieces f.basis.inline f.basis.datasum image)) (drop f.begun (by_inode (keys volume.named)))

-- the extents of the saved image
abbrev pub image_ahead : ImageExtents → List Piece → List Item
image_ahead e pieces = extents_at 257 source_block (drop e.given (pieces_of_volume pieces))

abbrev pub rest_ahead : Rest → Volume → List Piece → Image → List Item
rest_ahead rest.Nothing volume pieces image = []
rest_ahead (rest.Image extents) volume pieces image = image_ahead extents pieces
rest_ahead (rest.Files files) volume pieces image = tree_ahead files volume pieces image

-- The items that are still to come.
abbrev pub ahead : Items → Volume → List Piece → Image → List Item
ahead items volume pieces image = drop items.given items.list ++ rest_ahead items.rest volume pieces image

-- The stream of the file tree is of this volume and these pieces.
pub record FitsTree (f : FileTree) (volume : Volume) (pieces : List Piece) : Type 0 where
  pub root_within : 0 < length (keys volume.named) → f.basis.numbers.root < length (keys volume.named)
  pub links_are : FitsIndex f.basis.links volume
  pub owners_are : AreOwners f.basis.owners pieces

-- The same of the blocks.
abbrev pub FitsTreeBlocks : FileTree → Volume → Image → Type 0
FitsTreeBlocks f volume image = IsKnown volume f.basis.links f.basis.numbers image

abbrev pub FitsRest : Rest → Volume → List Piece → Type 0
FitsRest rest.Nothing volume pieces = Unit {0}
FitsRest (rest.Image extents) volume pieces = AreSources extents.order pieces
FitsRest (rest.Files files) volume pieces = FitsTree files volume pieces

abbrev pub FitsRestBlocks : Rest → Volume → Image → Type 0
FitsRestBlocks rest.Nothing volume image = Unit {0}
FitsRestBlocks (rest.Image extents) volume image = Unit {0}
FitsRestBlocks (rest.Files files) volume image = FitsTreeBlocks files volume image

-- A stream over this volume and these pieces, whatever a source gives: the condition of each call.
pub record FitsStream (items : Items) (volume : Volume) (pieces : List Piece) : Type 0 where
  pub given_within : items.given ≤ length items.list
  pub rest_fits : FitsRest items.rest volume pieces

-- The same over a source that tells these blocks.
pub record FitsBlocks (items : Items) (volume : Volume) (image : Image) : Type 0 where
  pub rest_fits : FitsRestBlocks items.rest volume image

-- an item stands
pub record HasGivenItem (items : Items) : Type 0 where
  pub some : 0 < items.given
  pub within : items.given ≤ length items.list

-- an item is the one that stands
abbrev pub StandsNext : Items → Item → Type 0
StandsNext items item = (n : ℕ) × (items.given ≡ n + 1) × (slice_get items.list n ≡ Some item)

-- some items that were still to come were appended to a list, or there are none more
abbrev pub AddsSome : Bool → List Item → List Item → List Item → List Item → Type 0
AddsSome true before after old new = (item : Item) × (items : List Item) × (new ≡ old ++ item ∷ items) × (before ≡ item ∷ (items ++ after))
AddsSome false before after old new = (before ≡ []) × (after ≡ []) × (new ≡ old)

-- the next extent of the file in hand was appended to a list, or there is none more
abbrev pub AddsExtent : Bool → FileInHand → FileInHand → List Piece → List Item → List Item → Type 0
AddsExtent true before after pieces old new = (item : Item) × (new ≡ old ++ item ∷ []) × (file_ahead before pieces ≡ item ∷ file_ahead after pieces)
AddsExtent false before after pieces old new = (file_ahead before pieces ≡ []) × (after ≡ before) × (new ≡ old)

-- the extents of a file or symlink were appended to a list, up to those that are now in hand
pub record HasAddedExtents (s : Source) (key : ObjectKey) (file : FileInHand) (old new : List Item) : Type 0 where
  pub items : List Item
  pub added : new ≡ old ++ items
  pub are : file_extent_items s key ≡ items ++ file_ahead file s.pieces

-- what an object holds was appended to a list, up to the extents that are now in hand
pub record HasContent (s : Source) (key : ObjectKey) (file : FileInHand) (old new : List Item) : Type 0 where
  pub items : List Item
  pub added : new ≡ old ++ items
  pub are : content_items s key (kind_in s key) ≡ items ++ file_ahead file s.pieces

-- an object was begun: its items were appended to a list, up to the extents that are now in hand
pub record Begins (s : Source) (key : ObjectKey) (file : FileInHand) (old new : List Item) : Type 0 where
  pub item : Item
  pub items : List Item
  pub added : new ≡ old ++ item ∷ items
  pub are : object_items s key ≡ item ∷ (items ++ file_ahead file s.pieces)

-- one more item came and stands, or there is none more
abbrev pub Comes : Bool → Items → Items → Volume → List Piece → Image → Type 0
Comes true old new volume pieces image =
    (item : Item) × StandsNext new item × (ahead old volume pieces image ≡ item ∷ ahead new volume pieces image) × FitsBlocks new volume image
Comes false old new volume pieces image = (ahead old volume pieces image ≡ []) × (ahead new volume pieces image ≡ []) × FitsBlocks new volume image
