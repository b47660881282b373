use Rattle.btr_reader_contents.proofs.Imports.{◌≡◌, IfOk, sym, subst, Content, TellsContent}
use Rattle.btr_reader_contents.proofs.contents.Contents.content.Goals as goal

pub returns-in-None : goal.returns-in-None
returns-in-None c = λ plan image ranges items has planned.
    let none = subst (TellsContent image ranges items c.args.ino c.args.wanted) (sym c.in-None.ensures.value) (has c.args.ino c.args.wanted planned) in
    rw (c.new.ensures.ino, c.new.ensures.wanted) at (c.finish.ensures plan image ranges items (c.new.ensures.holds plan image ranges items planned none))

pub returns-in-Some : goal.returns-in-Some
returns-in-Some c = λ plan image ranges items has planned.
    let told = subst (TellsContent image ranges items c.args.ino c.args.wanted) (sym c.in-Some.ensures.value) (has c.args.ino c.args.wanted planned) in
    subst (λ (x : Content). IfOk c.copy.result (λ y. y ≡ x)) told.is c.copy.ensures
