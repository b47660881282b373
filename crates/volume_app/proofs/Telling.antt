-- What is told of a volume that was opened, and how a volume is refused.
use Rattle.volume_app.proofs.Imports.{◌≡◌, inl, inr, ℕ, ◌-◌, ◌^◌, ◌<◌, ◌≤◌, List, [], Some, None, Ok, Contains, refl, sym, ◌∙◌, ap, subst, arith, Rose, Image, BtrAnswer, Super, opening_refusals, IsBtrfsOpened, IsAmong, own_super, own_map, way_refusals, SavedImage, IsReadable, IsBtrfsRefusal, RefusesPart, opened_super, of_disk, image_length, summary_with, summary_of, MapRange, ImageFile, saved_image, image_refusals}
use Rattle.std.proofs.Common.{Option}
use Rattle.std.specs.Option.{option_map}
use Rattle.reiser_volume.specs.refusals.declared.answer.BtrAnswer.TheVariants.{Refused, Fault, Memory}
use Rattle.reiser_volume.specs.refusals.declared.refusal.BtrRefusal.{BtrRefusal}
use Rattle.btr_reader.specs.declared.image_map.ImageMap.{ImageMap}
use Rattle.btr_reader.specs.Pieces.{MapsImage}
use Rattle.btr_reader.specs.Reading.{ReadsImage}

-- the image of a volume that was opened, and what is wrong on the way to it
pub file_is : (image : Image) (s : Super) (ranges : List MapRange) → IsBtrfsOpened image s ranges → saved_image image s ranges ≡ saved_image image (own_super image) (own_map image)
file_is image s ranges opened = of_disk image s ranges (λ t m. saved_image image s ranges ≡ saved_image image t m) opened refl

pub way_is : (image : Image) (s : Super) (ranges : List MapRange) → IsBtrfsOpened image s ranges → image_refusals image s ranges ≡ way_refusals image
way_is image s ranges opened = of_disk image s ranges (λ t m. image_refusals image s ranges ≡ image_refusals image t m) opened refl

none_of : (refusals : List BtrRefusal) (r : BtrRefusal) → refusals ≡ [] → Contains refusals r → ⊥
none_of refusals r none is =
    let here : Contains [] r = subst (λ (z : List BtrRefusal). Contains z r) none is in
    omega (arith, here.1)

readable_if : (image : Image) → opening_refusals image ≡ [] → way_refusals image ≡ [] → (r : BtrRefusal) → IsBtrfsRefusal image SavedImage r → ⊥
readable_if image opens way r (inl is) = none_of (opening_refusals image) r opens is
readable_if image opens way r (inr is) = none_of (way_refusals image) r way is.1

-- an image that was found makes the volume readable
pub image_read : (image : Image) (s : Super) (ranges : List MapRange) (map : Option ImageMap) → IsBtrfsOpened image s ranges
    → ReadsImage ranges (saved_image image s ranges) (image_refusals image s ranges) (Ok map) → IsReadable image SavedImage
image_read image s ranges map opened reads = readable_if image opened.sound (sym (way_is image s ranges opened) ∙ reads.1)

length_is : (ranges : List MapRange) (map : Option ImageMap) (file : Option ImageFile) → MapsImage ranges map file → option_map (λ (m : ImageMap). m.blocks) map ≡ option_map (λ (f : ImageFile). f.blocks) file
length_is ranges None None maps = refl
length_is ranges None (Some f) maps = absurd maps
length_is ranges (Some m) None maps = absurd maps
length_is ranges (Some m) (Some f) maps = ap (λ (n : ℕ). Some n) maps.length

pub summary_is : (image : Image) (s : Super) (ranges : List MapRange) (map : Option ImageMap) → IsBtrfsOpened image s ranges
    → ReadsImage ranges (saved_image image s ranges) (image_refusals image s ranges) (Ok map) → summary_with s (option_map (λ (m : ImageMap). m.blocks) map) ≡ summary_of image
summary_is image s ranges map opened reads =
    let blocks : option_map (λ (m : ImageMap). m.blocks) map ≡ image_length image =
    length_is ranges map (saved_image image s ranges) reads.0 ∙ ap (option_map (λ (f : ImageFile). f.blocks)) (file_is image s ranges opened) in
    ap (summary_with s) blocks ∙ ap (λ (t : Super). summary_with t (image_length image)) (opened_super image s ranges opened)

among_way : (image : Image) (e : BtrAnswer) → opening_refusals image ≡ [] → IsAmong (way_refusals image) e → RefusesPart image SavedImage e
among_way image (Refused r) opens among = inr (opens, among)
among_way image Fault opens among = tt
among_way image Memory opens among = tt

pub way_refuses : (image : Image) (s : Super) (ranges : List MapRange) (e : BtrAnswer) → IsBtrfsOpened image s ranges → IsAmong (image_refusals image s ranges) e → RefusesPart image SavedImage e
way_refuses image s ranges e opened among =
    among_way image e opened.sound (subst (λ (z : List BtrRefusal). IsAmong z e) (way_is image s ranges opened) among)

pub opening_refuses : (image : Image) (e : BtrAnswer) → IsAmong (opening_refusals image) e → RefusesPart image SavedImage e
opening_refuses image (Refused r) among = inl among
opening_refuses image Fault among = tt
opening_refuses image Memory among = tt

not_risen : (first before now : ℕ) → first ≤ before → now ≡ first → first < 2 ^ 64 - 1 → Rose before now → ⊥
not_risen first before now later same low rose = omega (arith, later, same, low, rose)

-- where nothing is wrong and no count rose, memory was short
pub only_memory : (image : Image) (e : BtrAnswer) (first before now : ℕ) → IsReadable image SavedImage → RefusesPart image SavedImage e → (e ≡ Fault → Rose before now) → first ≤ before → now ≡ first
    → first < 2 ^ 64 - 1 → e ≡ Memory
only_memory image (Refused r) first before now readable refuses rose later same low = absurd (readable r refuses)
only_memory image Fault first before now readable refuses rose later same low = absurd (not_risen first before now later same low (rose refl))
only_memory image Memory first before now readable refuses rose later same low = refl
