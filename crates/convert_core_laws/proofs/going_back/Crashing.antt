-- What a crash leaves before block 16 is turned stands as the volume before.
use Rattle.convert_core_laws.proofs.Imports.{◌≡◌, ◌≢◌, ℕ, nat_le, List, length, sym, ap, ◌∙◌, arith, if◌then◌else◌, SUPER_BLOCK, format_in, Image, block_at, format, Btrfs, Neither, KeepsOldVolume, IsConvertible, IsHalfConverted, StandsAsBefore, UsedBlocksDecide, IsSameVolume, IsAccepted, superblock, Options}
use Rattle.reiser_volume.proofs.reiser_bitmap.SystemBlocks.{superblock_in}
use Rattle.reiser_volume.proofs.Unchanged.{put_back_same}
use Rattle.super_turn.specs.PutBack.{put_back}
use Rattle.super_turn.proofs.Backs.{keeps as put_keeps}

module _ (decide : UsedBlocksDecide) (o : Options) (image other : Image) (other_format : format_in image ≢ Btrfs) (can : IsConvertible o image) (before : KeepsOldVolume image other) where
  accepted : IsAccepted image
  accepted = can.sorted.accepted

  -- the superblock is a used block
  same_block : block_at other SUPER_BLOCK ≡ block_at image SUPER_BLOCK
  same_block =
      before.used 16 (accepted.system 16 (superblock_in (superblock image).blocks (superblock image).journal_first (superblock image).journal_size))

  same_format : format_in other ≡ format_in image
  same_format =
      ap (λ (n : ℕ). if nat_le n 16 then Neither else format (block_at other SUPER_BLOCK)) before.size ∙ ap (λ (block : List ℕ). if nat_le (length image) 16 then Neither else format block) same_block

  pub stands : StandsAsBefore image other
  stands = record {
    format = λ is. other_format (sym same_format ∙ is);
    same = decide image other accepted before.used (let fits = accepted.clean.superblock.fits in let size = before.size in omega (arith, fits, size));
  }

-- one volume is the same as another, and that as a third
pub then_same : (one two three : Image) → IsSameVolume one two → IsSameVolume two three → IsSameVolume one three
then_same one two three first second = record {
  accepted = second.accepted;
  fields = second.fields ∙ first.fields;
  used = second.used ∙ first.used;
  items = second.items ∙ first.items;
  rows = λ rows. (λ is. (second.rows rows).0 ((first.rows rows).0 is), λ is. (first.rows rows).1 ((second.rows rows).1 is));
}

-- while block 16 is half turned the volume before stands, with its rows, as when it is put back
pub half_stands : UsedBlocksDecide → (o : Options) (image other : Image) → format_in image ≢ Btrfs → IsConvertible o image → IsHalfConverted image other → StandsAsBefore image other
half_stands decide o image other other_format can half =
    let back : StandsAsBefore image (put_back other) = stands decide o image (put_back other) other_format can half.old in
    record {
      format = λ is. back.format (put_keeps.format other ∙ is);
      same = then_same image (put_back other) other back.same (put_back_same.before other back.same.accepted);
    }
