-- What `inspect` answers.
use Rattle.volume_app.proofs.Imports.{◌≡◌, refl, sym, ap, subst, ◌≢◌, Format, Image, BtrAnswer, VolAnswer, RefusesVolume, IsReadingAnswer, IsAccepted, Options, NamesNoLogTree, SavedImage, IsReadable, RefusesPart, summary_of, ReiserSummary, of_volume, of_btrfs, format_in, IsInspectable, IsInspectText, Inspects, InspectRefuses, IsInspectAnswer, IsReiserSummary, summary_text}
use Rattle.volume_app.specs.declared.summary.Summary.{Summary}
use Rattle.volume_app.specs.Text.{summary_text as btrfs_summary_text}
use Rattle.volume_app.specs.declared.inspect.Inspected.TheVariants.{Reiser, Btrfs}
use Rattle.reiser_volume.specs.vol_block.declared.format.Format.TheVariants as formats
use Rattle.reiser_volume.specs.refusals.declared.answer.BtrAnswer.TheVariants as of_btr
use Rattle.reiser_volume.specs.refusals.declared.answer.VolAnswer.TheVariants as of_reiser
use Rattle.volume_app.proofs.Formats.{reiser_found}

pub reiser_inspected : (o : Options) (disk : Image) (told : ReiserSummary) → format_in disk ≢ formats.Btrfs → IsAccepted disk → IsReiserSummary o disk told → Inspects o disk (Reiser told)
reiser_inspected o disk told other accepted is =
    let format = sym (reiser_found disk accepted other) in
    record {
      inspectable = subst (λ (f : Format). IsInspectable f disk) format accepted;
      text = subst (λ (f : Format). IsInspectText o f disk (summary_text told)) format (record { told = told; summary = is; is = refl });
    }

pub btrfs_inspected : (o : Options) (disk : Image) (told : Summary) → format_in disk ≡ formats.Btrfs → IsReadable disk SavedImage → told ≡ summary_of disk → Inspects o disk (Btrfs told)
btrfs_inspected o disk told format readable is =
    record {
      inspectable = subst (λ (f : Format). IsInspectable f disk) (sym format) readable;
      text = subst (λ (f : Format). IsInspectText o f disk (btrfs_summary_text told)) (sym format) (ap (λ (s : Summary). btrfs_summary_text s) is);
    }

-- what is refused of a volume
pub reiser_refused : (disk : Image) (answer : VolAnswer) → format_in disk ≢ formats.Btrfs → RefusesVolume disk answer → InspectRefuses disk (of_volume answer)
reiser_refused disk (of_reiser.Refused refusal) other refuses = (other, refuses)
reiser_refused disk of_reiser.Fault other refuses = tt
reiser_refused disk of_reiser.Memory other refuses = tt

pub btrfs_refused : (disk : Image) (answer : BtrAnswer) → format_in disk ≡ formats.Btrfs → RefusesPart disk SavedImage answer → InspectRefuses disk (of_btrfs answer)
btrfs_refused disk (of_btr.Refused refusal) format refuses = (format, refuses)
btrfs_refused disk of_btr.Fault format refuses = tt
btrfs_refused disk of_btr.Memory format refuses = tt

pub reiser_known : (answer : VolAnswer) → IsReadingAnswer answer → IsInspectAnswer (of_volume answer)
reiser_known (of_reiser.Refused refusal) known = known
reiser_known of_reiser.Fault known = tt
reiser_known of_reiser.Memory known = tt

pub btrfs_known : (answer : BtrAnswer) → NamesNoLogTree answer → IsInspectAnswer (of_btrfs answer)
btrfs_known (of_btr.Refused refusal) known = known
btrfs_known of_btr.Fault known = tt
btrfs_known of_btr.Memory known = tt
