-- Where no part of a volume differs, the volume before can be had back from both disks or from neither.
use Rattle.rollback_core.proofs.Imports.{◌≡◌, ℕ, ◌<◌, min, [], List, length, Option, Some, None, refl, sym, ◌∙◌, ap, subst, arith, ext_get_or, Image, block_at, ImageFile, SavedImage, own_map, MapRange, block_by, length_by, differs, IsAccepted, superblock, used_of, IsOld, block_or_hole, blocks_by, file_blocks, image_blocks, place_by_file, saved_file, saved_place, CanGoBack, IsInUse, IsReserved, PartsDecideSaved, SamePartsGoBack, UnusedBlocksDecideNothing, UnusedBlocksLieApart}
use Rattle.btr_reader.specs.MetadataLaws.{IsSameBtrfs, MetadataDecides}
use Rattle.rollback_core.proofs.Trees.{of_volume}
use Rattle.rollback_core.proofs.Using.{alike, back, same_outside, used_same}

module _ (disk other : Image) (size : length other ≡ length disk) (volume : IsSameBtrfs disk other) where
  -- ---- the saved image
  place_same : (b : ℕ) → saved_place other b ≡ saved_place disk b
  place_same b = ap (λ (m : List MapRange). place_by_file m (saved_file other) b) volume.map ∙ ap (λ (f : Option ImageFile). place_by_file (own_map disk) f b) volume.saved

  place_block : (f : Option ImageFile) (b : ℕ) (o : Option ℕ) → saved_file disk ≡ f → place_by_file (own_map disk) f b ≡ o → block_or_hole other o ≡ block_or_hole disk o
  place_block f b None is at = refl
  place_block None b (Some place) is at = absurd (cc at)
  place_block (Some f) b (Some place) is at = volume.contents f b place is at

  image_same : image_blocks other ≡ image_blocks disk
  unfolding image_blocks
  image_same = ext_get_or [] _ _ (long ∙ sym (length_by (saved_place disk) n disk)) each
    where
      n : ℕ
      n = file_blocks (saved_file disk)

      count : file_blocks (saved_file other) ≡ n
      count = ap file_blocks volume.saved

      long : length (blocks_by (saved_place other) (file_blocks (saved_file other)) other) ≡ min n (length disk)
      long = length_by (saved_place other) (file_blocks (saved_file other)) other ∙ (ap (λ (k : ℕ). min k (length other)) count ∙ ap (λ (k : ℕ). min n k) size)

      each : (b : ℕ) → b < length (blocks_by (saved_place other) (file_blocks (saved_file other)) other)
          → block_at (blocks_by (saved_place other) (file_blocks (saved_file other)) other) b ≡ block_at (blocks_by (saved_place disk) n disk) b
      each b below =
          let inside : b < min n (length disk) = omega (arith, below, long) in
          let there : b < min (file_blocks (saved_file other)) (length other) = omega (arith, below, length_by (saved_place other) (file_blocks (saved_file other)) other) in
          block_by (saved_place other) (file_blocks (saved_file other)) other b there
          ∙ (ap (λ (o : Option ℕ). block_or_hole other o) (place_same b)
          ∙ (place_block (saved_file disk) b (saved_place disk b) refl refl
          ∙ sym (block_by (saved_place disk) n disk b inside)))

  -- ---- all of it
  stays : ((b : ℕ) → IsInUse other b → IsInUse disk b) → CanGoBack disk → CanGoBack other
  stays before u = record {
    way = record { log = volume.log ∙ u.way.log; readable = λ r refused. u.way.readable r ((volume.refusals SavedImage r).1 refused) };
    there = λ missing. u.there (sym volume.saved ∙ missing);
    accepted = subst IsAccepted (sym image_same) u.accepted;
    in_place = λ b old. place_same b ∙ u.in_place b (subst (λ (i : Image). IsOld (used_of i) b) image_same old);
    reserved = λ b reserved used. u.reserved b (subst (λ (i : Image). IsReserved b (superblock i).blocks) image_same reserved) (before b used);
  }

pub parts_decide_saved : MetadataDecides → PartsDecideSaved
parts_decide_saved decide = λ test disk other apart same.
    let there = decide test disk other apart same in
    let turned = back test disk other same in
    let here = decide test other disk there.apart turned in
    let used = used_same test disk other (of_volume test disk apart) same in
    record {
      same = there.same;
      image = image_same disk other same.size there.same;
      in_use = used;
      can = (stays disk other same.size there.same (λ b. (used b).1), stays other disk turned.size here.same (λ b. (used b).0));
    }

pub same_parts_go_back : PartsDecideSaved → SamePartsGoBack
same_parts_go_back decide = λ disk other size apart. decide (differs disk other) disk other apart (same_outside disk other size)

pub unused_blocks_decide_nothing : UnusedBlocksLieApart → SamePartsGoBack → UnusedBlocksDecideNothing
unused_blocks_decide_nothing lie stay = λ disk other u same.
    let apart = lie.apart (differs disk other) disk u.way.readable (alike disk other 16 same.superblock) (λ b used. alike disk other b (same.used b used)) in
    let is = stay disk other same.size apart in
    record { blocks = same; same = is.same; image = is.image; can = is.can.0 u }
