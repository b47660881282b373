-- The keys and lengths of the items of file trees.
use Rattle.std.specs.Prelude.{◌≤◌, ℕ, ◌+◌, List, length, All, Bool}
use Rattle.btr_reader.specs.outside.History.{Image}
use Rattle.btr_reader.specs.btr_node.Leaf.{Item, keys_of}
use Rattle.btr_reader.specs.btr_node.Order.{Ascends}
use Rattle.convert_steps.specs.file_items.Small.{image_items, relocation_items}
use Rattle.convert_steps.specs.file_items.Tree.{fs_tree_items}
use Rattle.convert_steps.specs.reiser_volume.declared.volume.Volume.{Volume}
use Rattle.convert_steps.specs.convert_options.declared.options.Options.{Options}
use Rattle.convert_steps.specs.unit_plan.declared.piece.Piece.{Piece}
use Rattle.convert_steps.specs.unit_plan.declared.plan.Plan.{Plan}
use Rattle.convert_steps.specs.Source.{HasPieces, made_from}

-- the keys of the file tree ascend
abbrev pub FileKeysAscend : Type 0
FileKeysAscend =
    (volume : Volume) (image : Image) (o : Options) (plan : Plan) (pieces : List Piece) → HasPieces volume image o plan pieces
    → Ascends (keys_of (fs_tree_items (made_from volume image o pieces)))

-- so do those of the image's tree, and of the relocation tree
pub record SmallKeysAscend (blocks : ℕ) (pieces : List Piece) (datasum : Bool) (now : ℕ) : Type 0 where
  pub saved : Ascends (keys_of (image_items blocks pieces datasum now))
  pub relocation : Ascends (keys_of (relocation_items now))

abbrev pub ImageKeysAscend : Type 0
ImageKeysAscend =
    (volume : Volume) (image : Image) (o : Options) (plan : Plan) (pieces : List Piece) (now : ℕ) → HasPieces volume image o plan pieces
    → SmallKeysAscend volume.sup.blocks pieces o.datasum now

-- an item fits into a leaf of 4096 bytes, the smallest there is
abbrev pub IsShort : Item → Type 0
IsShort i = length i.1 + 126 ≤ 4096

pub record AreShort (volume : Volume) (image : Image) (o : Options) (pieces : List Piece) (now : ℕ) : Type 0 where
  pub files : All IsShort (fs_tree_items (made_from volume image o pieces))
  pub saved : All IsShort (image_items volume.sup.blocks pieces o.datasum now)
  pub relocation : All IsShort (relocation_items now)

abbrev pub ItemsAreShort : Type 0
ItemsAreShort =
    (volume : Volume) (image : Image) (o : Options) (plan : Plan) (pieces : List Piece) (now : ℕ) → HasPieces volume image o plan pieces
    → AreShort volume image o pieces now
