use Rattle.btr_check_files.proofs.Imports.{◌∷◌, ◌++◌, [], List, sym, subst, TreeItem, in_leaf, Files, part_number, AreNames, HasNoted, TellsOther, hashed_in, told_in}
use Rattle.btr_check_files.proofs.Asking.{asked, asked_visit}
use Rattle.btr_check_files.proofs.Telling.{item_noted, item_refused}
use Rattle.btr_check_files.proofs.name_pass.NamePassItemVisitor.visit.Goals as goal

pub returns-clause-visited : goal.returns-clause-visited
returns-clause-visited c = λ begun items has order.
    let x : TreeItem = in_leaf c.args._leaf (c.args.key.now, c.args.body.now) in
    let all : List TreeItem = items ++ x ∷ [] in
    let noted = c.note_item.ensures.noted (subst AreNames (sym has.entries) has.names) (hashed_in items) (told_in items) has.hashed has.told in
    asked c.ask.result c.note_item.result (part_number Files) c.args.key.now.objectid (HasNoted begun.table c.note_item.new.table all) (TellsOther begun.table.entries all) c.ask.ensures.ok c.ask.ensures.err
    (item_noted begun.table c.args.self.now.table c.note_item.new.table items x has c.note_item.ensures.entries c.note_item.result noted)
    (item_refused begun.table c.args.self.now.table c.note_item.new.table items x has c.note_item.result noted)

pub returns-clause-answers : goal.returns-clause-answers
returns-clause-answers c = asked_visit c.ask.result c.note_item.result (part_number Files) c.args.key.now.objectid c.ask.ensures.err
