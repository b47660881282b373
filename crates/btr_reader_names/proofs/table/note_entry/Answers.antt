use Rattle.btr_reader_names.proofs.Imports.{[], ◌∷◌, ◌++◌, ap, ◌∙◌, DirIndex}
use Rattle.btr_reader_names.proofs.table.note_entry.Goals as goal

pub returns : goal.returns
returns c = λ i key leaf. c.in_ok-push.ensures.items ∙ ap (λ (n : DirIndex). c.args.namings.now.items ++ n ∷ []) (c.in_ok-naming.ensures i key leaf)
