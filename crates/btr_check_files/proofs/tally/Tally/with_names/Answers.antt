use Rattle.btr_check_files.proofs.Imports.{refl}
use Rattle.btr_check_files.proofs.Tallying.{tally_names}
use Rattle.btr_check_files.proofs.tally.Tally.with_names.Goals as goal

pub returns-clause-tally : goal.returns-clause-tally
returns-clause-tally c = λ s own is.
    tally_names s own c.args.self (c.args.key.now, c.args.body.now) is _ c.name_count.result c.letter_count.result refl refl refl c.requires c.name_count.ensures c.letter_count.ensures
    c.saturating_add-names.ensures c.saturating_add-letters.ensures
