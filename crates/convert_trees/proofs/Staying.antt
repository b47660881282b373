-- What is read of a volume stays while blocks are written that it does not use.
use Rattle.convert_trees.proofs.Imports.{◌≡◌, ◌∙◌, ℕ, ◌≤◌, List, length, sym, ap, subst, Image, ahead, FitsRestBlocks, Items, SameUsed, has, Super, IsOpened, IsAccepted, superblock, used_of, Volume, opened_same, same_volume, SameWhere, ArePlaced, Piece, FitsFiles, HasPlacedPieces, IsUsedBlock, ReadsVolume}
use Rattle.file_items.proofs.Unchanged.{ahead_same}
use Rattle.file_items.specs.declared.items.Rest.{Rest}
use Rattle.file_items.specs.declared.items.Rest.TheVariants as rest

rest_blocks : (r : Rest) (volume : Volume) (image other : Image) → IsAccepted other → IsOpened volume other → FitsRestBlocks r volume image → FitsRestBlocks r volume other
rest_blocks rest.Nothing volume image other accepted opened fits = fits
rest_blocks (rest.Image extents) volume image other accepted opened fits = fits
rest_blocks (rest.Files f) volume image other accepted opened fits = record {
  accepted = accepted;
  opened = opened;
  index_is = fits.index_is;
  numbers_are = fits.numbers_are;
}

files_read_on : (items : Items) (volume : Volume) (pieces : List Piece) (image other : Image) → SameWhere (IsUsedBlock volume) image other → ReadsVolume items volume pieces image
    → ReadsVolume items volume pieces other × (ahead items volume pieces other ≡ ahead items volume pieces image)
files_read_on items volume pieces image other same fits =
    let used : SameUsed (used_of image) image other = λ b is. same.blocks b (ap (λ bits. has bits b) fits.opened.bitmap ∙ is) in
    let room = subst (λ (n : ℕ). (superblock image).blocks ≤ n) (sym same.as_many) fits.room in
    let v = same_volume image other fits.accepted used room in
    let opened = opened_same volume image other v fits.opened in (
      record {
        accepted = v.accepted;
        opened = opened;
        room = subst (λ (s : Super). s.blocks ≤ length other) (sym v.fields) room;
        placed = subst (λ (s : Super). ArePlaced s.blocks pieces) (sym v.fields) fits.placed;
        blocks = record { rest_fits = rest_blocks items.rest volume image other v.accepted opened fits.blocks.rest_fits };
      },
      ahead_same items volume pieces image other v.items,
    )

pub files_fit : (items : Items) (volume : Volume) (pieces : List Piece) (image : Image) → ReadsVolume items volume pieces image → FitsFiles items volume pieces image
files_fit items volume pieces image here = record { here = here; stay = λ other same. files_read_on items volume pieces image other same here }

-- a volume stays where its used blocks do
pub volume_stays : (volume : Volume) (pieces : List Piece) (image other : Image) → SameWhere (IsUsedBlock volume) image other → HasPlacedPieces volume pieces image → HasPlacedPieces volume pieces other
volume_stays volume pieces image other same is =
    let used : SameUsed (used_of image) image other = λ b marked. same.blocks b (ap (λ bits. has bits b) is.opened.bitmap ∙ marked) in
    let room = subst (λ (n : ℕ). (superblock image).blocks ≤ n) (sym same.as_many) is.room in
    let v = same_volume image other is.accepted used room in
    record {
      accepted = v.accepted;
      opened = opened_same volume image other v is.opened;
      room = subst (λ (s : Super). s.blocks ≤ length other) (sym v.fields) room;
      placed = subst (λ (s : Super). ArePlaced s.blocks pieces) (sym v.fields) is.placed;
    }
