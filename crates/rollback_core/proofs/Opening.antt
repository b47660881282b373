-- A disk that can be opened stays one, with the same rows.
use Rattle.rollback_core.proofs.Imports.{◌≡◌, ◌∙◌, inl, List, [], ◌∷◌, Result, Err, refl, sym, ap, subst, arith, format_in, Image, BtrRefusal, opening_refusals, refusals_after, super_on, IsReadable, SavedImage, Superblock, Super, Format, Reiser, Btrfs, Neither, RecoveryOpens, IsLeftByRecover, IsRecoverable}
use Rattle.btr_reader.specs.Parts.{Tree}
use Rattle.std.specs.Prelude.{Contains}
use Rattle.reiser_volume.specs.fs_rows.Rows.{WholeRow}
use Rattle.rollback_core.specs.Opens.{OpensAs}
use Rattle.rollback_core.proofs.RecoveryFormats.{has_format}
use Rattle.rollback_core.proofs.RecoveryKeeping.{keeps}

opening_refused : (image : Image) (r : BtrRefusal) → super_on image ≡ Err r → opening_refusals image ≡ r ∷ []
unfolding opening_refusals
opening_refused image r is = ap (λ (read : Result Super BtrRefusal). refusals_after image read) is

-- what lies on the way to the saved image is readable only where the superblock is
superblock_readable : (image : Image) → IsReadable image SavedImage → IsReadable image Superblock
superblock_readable image way r is = way r (inl (subst (λ (rs : List BtrRefusal). Contains rs r) (sym (opening_refused image r is)) (0, omega arith, refl)))

stays_open : (f : Format) (image other : Image) (rows : List WholeRow) → OpensAs f image rows → IsLeftByRecover image other → OpensAs f other rows
stays_open Reiser image other rows opens left =
    let volume = (keeps.left image other left).volume (has_format.accepted image opens.accepted).0 opens.accepted in
    record { accepted = volume.accepted; rows_are = (volume.rows rows).0 opens.rows_are }
stays_open Btrfs image other rows opens left =
    let kept = keeps.btrfs image other opens.reserved left in
    record {
      format = kept.0.format ∙ opens.format;
      tree = record { log = kept.0.log ∙ opens.tree.log; tree = λ r refused. opens.tree.tree r ((kept.0.refusals Tree r).1 refused) };
      rows_are = (kept.0.rows rows).0 opens.rows_are;
      way = λ r refused. opens.way r ((kept.0.refusals SavedImage r).1 refused);
      reserved = kept.1;
    }
stays_open Neither image other rows opens left = opens

can_recover : (f : Format) (image : Image) (rows : List WholeRow) → OpensAs f image rows → (format_in image ≡ f) × IsRecoverable image
can_recover Reiser image rows opens = has_format.accepted image opens.accepted
can_recover Btrfs image rows opens = has_format.btrfs image (superblock_readable image opens.way)
can_recover Neither image rows opens = absurd opens

pub recovery_opens : RecoveryOpens
recovery_opens = record { left = stays_open; recovers = can_recover }
