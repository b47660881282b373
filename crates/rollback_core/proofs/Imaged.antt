-- The map of the saved image, and the volume in it.
use Rattle.rollback_core.proofs.Imports.{◌≡◌, ℕ, ◌<◌, ◌≤◌, List, [], Bool, Some, None, Ok, length, min, sym, ◌∙◌, ap, subst, arith, format_in, Image, VolAnswer, image_refusals, saved_image, IsBtrfsOpened, opening_refusals, log_tree, way_refusals, ImageMap, Super, MapRange, Btrfs, IsAccepted, superblock, used_of, used_length, length_by, image_there, map_blocks, map_places, IsOld, TellsMoved, blocks_by_map, image_blocks, CanGoBack, old_used, IsReservedFree, HasImage, HasPlaces, HasVolume, LeadsToImage, RefusesRollback, IsMapOn, by_image, map_place}
use Rattle.reiser_bitmap.specs.refusals.declared.answer.VolAnswer.TheVariants.{Refused, Fault, Memory}
use Rattle.btr_reader.specs.Reading.{ReadsImage}
use Rattle.reiser_volume.specs.Answers.{RefusesVolume}
use Rattle.convert_steps.specs.command_answers.declared.answer.Answer.TheVariants as answer
use Rattle.rollback_core.proofs.Reading.{way_readable}

-- ---- the map

-- the map that was read of an opened volume is that of its saved image
pub map_on : (disk : Image) (s : Super) (ranges : List MapRange) (opened : IsBtrfsOpened disk s ranges) (m : ImageMap) → ReadsImage ranges (saved_image disk s ranges) (image_refusals disk s ranges) (Ok (Some m)) → LeadsToImage disk → IsMapOn disk m
map_on disk s ranges opened m reads leads = record {
  image = record { leads = leads; there = image_there disk s ranges opened m reads };
  places = map_places disk s ranges opened m reads;
  blocks = map_blocks disk s ranges opened m reads;
}

-- ---- the volume in the image

pub image_refuses : (disk : Image) (e : VolAnswer) → HasImage disk → RefusesVolume (image_blocks disk) e → RefusesRollback disk (by_image e)
image_refuses disk (Refused r) image refused = (image, refused)
image_refuses disk Fault image refused = tt
image_refuses disk Memory image refused = tt

-- the blocks that an image source over the disk tells are those of the image
pub told_blocks : (disk blocks : Image) (m : ImageMap) → IsMapOn disk m → blocks ≡ disk → blocks_by_map m blocks ≡ image_blocks disk
told_blocks disk blocks m on is = ap (blocks_by_map m) is ∙ on.blocks

-- an accepted volume has its superblock, and lies within the image
pub accepted_low : (image : Image) → IsAccepted image → 16 < length (used_of image)
accepted_low image a =
    let long = used_length image in
    let least = a.clean.superblock.bounds.blocks in
    omega (arith, long, least)

pub accepted_high : (image : Image) → IsAccepted image → length (used_of image) ≤ length image
accepted_high image a =
    let long = used_length image in
    let fits = a.clean.superblock.fits in
    omega (arith, long, fits)

-- ---- the places of its blocks
module _ (disk : Image) (m : ImageMap) (used : List Bool) (on : IsMapOn disk m) (has : HasVolume disk) (is : used ≡ old_used disk) where
  pub in_place : TellsMoved (map_place m) used None → HasPlaces disk
  in_place tells = record { volume = has; in_place = λ b old. sym (on.places b) ∙ tells b (subst (λ (u : List Bool). IsOld u b) (sym is) old) }

-- ---- the reserved blocks
pub can_go_back : (disk : Image) → HasPlaces disk → IsReservedFree disk (superblock (image_blocks disk)).blocks → CanGoBack disk
can_go_back disk has free = record {
  way = has.volume.image.leads.way;
  there = has.volume.image.there;
  accepted = has.volume.accepted;
  in_place = has.in_place;
  reserved = free;
}

-- the way is readable where nothing is wrong on it
pub leads_with : (disk : Image) → format_in disk ≡ Btrfs → log_tree disk ≡ None → opening_refusals disk ≡ [] → way_refusals disk ≡ [] → LeadsToImage disk
leads_with disk format log opens way = record { format = format; way = record { log = log; readable = way_readable disk opens way } }

-- how many blocks the image has
image_length : (disk : Image) (m : ImageMap) → IsMapOn disk m → length (image_blocks disk) ≡ min m.blocks (length disk)
image_length disk m on = sym (ap length on.blocks) ∙ length_by (map_place m) m.blocks disk

-- a set of used blocks that has no superblock, or is longer than its image, is none of an accepted volume
module _ (disk : Image) (m : ImageMap) (on : IsMapOn disk m) (used : List Bool) (accepted : IsAccepted (image_blocks disk)) (is : used ≡ old_used disk) where
  pub not_low : (n : ℕ) → n ≡ length used → n ≤ 16 → ⊥
  not_low n all low = omega (arith, all, low, ap length is, accepted_low (image_blocks disk) accepted)

  pub not_high : (n blocks size : ℕ) → n ≡ length used → blocks ≡ m.blocks → size ≡ length disk → min blocks size < n → ⊥
  not_high n blocks size all same whole high = omega (arith, all, same, whole, high, ap length is, accepted_high (image_blocks disk) accepted, image_length disk m on)
