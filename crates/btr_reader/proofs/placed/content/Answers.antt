use Rattle.btr_reader.proofs.Imports.{◌∙◌, sym}
use Rattle.btr_reader.proofs.RowContents.{content_kept}
use Rattle.btr_reader.proofs.placed.content.Goals as goal

pub returns-in-Some : goal.returns-in-Some
returns-in-Some c = λ kind plan image ranges items has planned known short.
    let wanted = sym c.in-Some.ensures.wanted in
    content_kept image ranges items c.args.ino c.args.own.now kind c.in-Some.wanted c.content.result known wanted (c.content.ensures plan image ranges items has (planned ∙ wanted))
