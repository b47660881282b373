use Rattle.btr_reader_names.proofs.Imports.{◌∙◌, ◌++◌, List, sym, ap, DirIndex, OffForm, own_naming, own_off_form}
use Rattle.btr_reader_names.proofs.Tables.{namings-push, off_forms-push}
use Rattle.btr_reader_names.proofs.table.NameTableNotes.note.Goals as goal

pub returns : goal.returns
returns c = λ begun items i key body leaf noted. record {
  each = c.in_ok-note_inode.ensures items i key body leaf noted.each;
  namings = c.in_ok-note_index.ensures.namings i key body leaf ∙ (ap (λ (l : List DirIndex). l ++ own_naming i) noted.namings ∙ sym (namings-push items i));
  off_forms = c.in_ok-note_index.ensures.off_form i key body leaf ∙ (ap (λ (l : List OffForm). l ++ own_off_form i) noted.off_forms ∙ sym (off_forms-push items i));
}
