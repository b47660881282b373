use Rattle.file_items.proofs.Imports.{on_ok_weaker}
use Rattle.file_items.proofs.Referring.{entries_added}
use Rattle.file_items.proofs.directory.Directory.add_items.Goals as goal

pub returns : goal.returns
returns c = λ list has.
    on_ok_weaker c.append.result
    (entries_added c.args.ino list c.args.self.now.hashed c.args.self.now.indexes c.args.items.now c.add_joined.new.self c.append.new.self has.hashed has.indexes c.in_ok-add_joined.ensures)
    c.append.ensures
