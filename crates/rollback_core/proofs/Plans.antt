-- What is planned is what is to be written.
use Rattle.rollback_core.proofs.Imports.{◌≡◌, ◌∙◌, ℕ, ◌/◌, Bool, List, length, sym, ap, subst, Ok, FIRST_MIRROR, SECOND_MIRROR, SUPER_BLOCK, format_in, Image, block_at, VolAnswer, super_of, Super, of_volume, IsFrontAccepted, used_of, used_length, Format, Reiser, Btrfs, IsRefusedAs, RefusesRecover, Gives, blocks_of, copied, mended, mended_by, wiped, IsPlanned, IsInOrder, Mending}
use Rattle.reiser_volume.specs.Front.{RefusesFront}
use Rattle.reiser_bitmap.specs.refusals.declared.answer.VolAnswer.TheVariants as vol
use Rattle.rollback_core.proofs.Supers.{super_is}

module _ (image : Image) (m : Mending) where
  module _ (superblock : List ℕ) (s : Super) (is : superblock ≡ block_at image SUPER_BLOCK) (read : super_of (block_at image SUPER_BLOCK) SUPER_BLOCK (length image) ≡ Ok s) (format : Btrfs ≡ format_in image) where
    copied_is : (b : ℕ) → copied (s.total_bytes / 4096) superblock b (block_at image b) ≡ mended image b
    copied_is b =
        ap (λ (t : Super). copied (t.total_bytes / 4096) superblock b (block_at image b)) (sym (super_is (block_at image SUPER_BLOCK) (length image) s read))
        ∙ (ap (λ (bytes : List ℕ). copied (blocks_of (block_at image SUPER_BLOCK)) bytes b (block_at image b)) is ∙ ap (λ (f : Format). mended_by f image b (block_at image b)) format)

    pub btrfs_planned : m.format ≡ Btrfs
        → Gives (block_at image FIRST_MIRROR) (copied (s.total_bytes / 4096) superblock FIRST_MIRROR (block_at image FIRST_MIRROR)) m.first
        → Gives (block_at image SECOND_MIRROR) (copied (s.total_bytes / 4096) superblock SECOND_MIRROR (block_at image SECOND_MIRROR)) m.second → IsPlanned image m
    btrfs_planned kind first second = record {
      can = subst (λ (f : Format). IsInOrder f image) format (s, read);
      format = kind ∙ format;
      first = subst (λ (wanted : List ℕ). Gives (block_at image FIRST_MIRROR) wanted m.first) (copied_is FIRST_MIRROR) first;
      second = subst (λ (wanted : List ℕ). Gives (block_at image SECOND_MIRROR) wanted m.second) (copied_is SECOND_MIRROR) second;
    }

  module _ (used : List Bool) (accepted : IsFrontAccepted image) (bits : used ≡ used_of image) (format : Reiser ≡ format_in image) where
    wiped_is : (b : ℕ) → wiped (length used) used b (block_at image b) ≡ mended image b
    wiped_is b =
        ap (λ (set : List Bool). wiped (length set) set b (block_at image b)) bits
        ∙ (ap (λ (n : ℕ). wiped n (used_of image) b (block_at image b)) (used_length image) ∙ ap (λ (f : Format). mended_by f image b (block_at image b)) format)

    pub reiser_planned : m.format ≡ Reiser
        → Gives (block_at image FIRST_MIRROR) (wiped (length used) used FIRST_MIRROR (block_at image FIRST_MIRROR)) m.first
        → Gives (block_at image SECOND_MIRROR) (wiped (length used) used SECOND_MIRROR (block_at image SECOND_MIRROR)) m.second → IsPlanned image m
    reiser_planned kind first second = record {
      can = subst (λ (f : Format). IsInOrder f image) format accepted;
      format = kind ∙ format;
      first = subst (λ (wanted : List ℕ). Gives (block_at image FIRST_MIRROR) wanted m.first) (wiped_is FIRST_MIRROR) first;
      second = subst (λ (wanted : List ℕ). Gives (block_at image SECOND_MIRROR) wanted m.second) (wiped_is SECOND_MIRROR) second;
    }

-- what is refused of superblock, journal and bitmap
pub front_refused : (image : Image) (a : VolAnswer) → Reiser ≡ format_in image → RefusesFront image a → RefusesRecover image (of_volume a)
front_refused image (vol.Refused r) format refused = subst (λ (f : Format). IsRefusedAs f image r) format refused
front_refused image vol.Fault format refused = tt
front_refused image vol.Memory format refused = λ btrfs. (let both : Reiser ≡ Btrfs = format ∙ btrfs in absurd cc)
