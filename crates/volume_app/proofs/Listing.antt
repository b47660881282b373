-- What `list` answers.
use Rattle.volume_app.proofs.Imports.{◌≡◌, sym, ap, subst, ◌≢◌, Format, rows_text, Image, BtrAnswer, VolAnswer, RefusesVolume, IsReadingAnswer, AreRowsOf, IsAccepted, of_volume, of_btrfs, HasBtrfsRows, AreRowsOfBtrfs, RefusesBtrfsRows, format_in, IsListable, AreRowsIn, IsListText, Lists, ListRefuses, IsListAnswer, WholeRow, row_of}
use Rattle.std.specs.Prelude.{List, map}
use Rattle.reiser_volume.specs.fs_rows.declared.row.Row.{Row}
use Rattle.reiser_volume.specs.refusals.declared.answer.VolAnswer.TheVariants.{Refused, Fault, Memory}
use Rattle.reiser_volume.specs.vol_block.declared.format.Format.TheVariants as formats
use Rattle.reiser_volume.specs.refusals.declared.answer.BtrAnswer.TheVariants as of_btr
use Rattle.volume_app.proofs.Formats.{reiser_found}

pub reiser_listed : (disk : Image) (rows : List Row) → format_in disk ≢ formats.Btrfs → IsAccepted disk → (whole : List WholeRow) × AreRowsOf disk whole × (rows ≡ map row_of whole) → Lists disk rows
reiser_listed disk rows other accepted (whole, are, seen) =
    let format = sym (reiser_found disk accepted other) in
    record {
      listable = subst (λ (f : Format). IsListable f disk) format accepted;
      whole = whole;
      are_rows = subst (λ (f : Format). AreRowsIn f disk whole) format are;
      seen = seen;
    }

pub btrfs_listed : (disk : Image) (rows : List Row) → format_in disk ≡ formats.Btrfs → HasBtrfsRows disk → (whole : List WholeRow) × AreRowsOfBtrfs disk whole × (rows ≡ map row_of whole) → Lists disk rows
btrfs_listed disk rows format listable (whole, are, seen) =
    record {
      listable = subst (λ (f : Format). IsListable f disk) (sym format) listable;
      whole = whole;
      are_rows = subst (λ (f : Format). AreRowsIn f disk whole) (sym format) are;
      seen = seen;
    }

-- the text of rows that are listed is that of the disk
pub listed_text : (disk : Image) (rows : List Row) → Lists disk rows → IsListText disk (rows_text rows)
listed_text disk rows lists = (lists.whole, lists.are_rows, ap (λ (r : List Row). rows_text r) lists.seen)

-- what is refused of a volume
pub reiser_refused : (disk : Image) (answer : VolAnswer) → format_in disk ≢ formats.Btrfs → RefusesVolume disk answer → ListRefuses disk (of_volume answer)
reiser_refused disk (Refused refusal) other refuses = (other, refuses)
reiser_refused disk Fault other refuses = tt
reiser_refused disk Memory other refuses = tt

pub btrfs_refused : (disk : Image) (answer : BtrAnswer) → format_in disk ≡ formats.Btrfs → RefusesBtrfsRows disk answer → ListRefuses disk (of_btrfs answer)
btrfs_refused disk (of_btr.Refused refusal) format refuses = (format, refuses)
btrfs_refused disk of_btr.Fault format refuses = tt
btrfs_refused disk of_btr.Memory format refuses = tt

pub reiser_known : (answer : VolAnswer) → IsReadingAnswer answer → IsListAnswer (of_volume answer)
reiser_known (Refused refusal) known = known
reiser_known Fault known = tt
reiser_known Memory known = tt

pub btrfs_known : (answer : BtrAnswer) → IsListAnswer (of_btrfs answer)
btrfs_known (of_btr.Refused refusal) = tt
btrfs_known of_btr.Fault = tt
btrfs_known of_btr.Memory = tt
