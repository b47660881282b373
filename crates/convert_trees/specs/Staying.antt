-- What is still to come of a stream stays while blocks are written that it does not need.
use Rattle.std.proofs.Common.{◌≡◌, ◌∙◌, ℕ, List, sym}
use Rattle.btr_tree.specs.outside.History.{Image}
use Rattle.file_items.specs.Stream.{ahead}
use Rattle.file_items.specs.declared.items.Items.{Items}
use Rattle.reiser_volume.specs.declared.volume.Volume.{Volume}
use Rattle.space_items.specs.Stream.{sums_ahead}
use Rattle.space_items.specs.declared.sum_stream.SumStream.{SumStream}
use Rattle.btr_tree_writer.specs.Source.{SameWhere}
use Rattle.unit_plan.specs.declared.piece.Piece.{Piece}
use Rattle.convert_trees.specs.Sources.{FitsFiles, FitsSumBlocks, IsInPieces, IsUsedBlock}

both_same : (needs : ℕ → Type 0) (image other third : Image) → SameWhere needs image other → SameWhere needs other third → SameWhere needs image third
both_same needs image other third same more = record {
  as_many = more.as_many ∙ same.as_many;
  blocks = λ b needed. more.blocks b needed ∙ same.blocks b needed;
}

pub files_stay : (items : Items) (volume : Volume) (pieces : List Piece) (image other : Image) → SameWhere (IsUsedBlock volume) image other → FitsFiles items volume pieces image
    → FitsFiles items volume pieces other × (ahead items volume pieces other ≡ ahead items volume pieces image)
files_stay items volume pieces image other same fits =
    let there = fits.stay other same in (
      record {
        here = there.0;
        stay = λ third more.
            let beyond = fits.stay third (both_same (IsUsedBlock volume) image other third same more) in
            (beyond.0, beyond.1 ∙ sym there.1);
      },
      there.1,
    )

pub sums_stay : (sums : SumStream) (pieces : List Piece) (image other : Image) → SameWhere (IsInPieces pieces) image other → FitsSumBlocks sums pieces image
    → FitsSumBlocks sums pieces other × (sums_ahead sums pieces other ≡ sums_ahead sums pieces image)
sums_stay sums pieces image other same fits = (
  record { stay = λ third more. fits.stay third (both_same (IsInPieces pieces) image other third same more) ∙ sym (fits.stay other same) },
  fits.stay other same,
)
