use Rattle.file_items.proofs.Imports.{ap, ℕ, on_ok_weaker, FileInHand}
use Rattle.file_items.proofs.Extending.{held_inline, held_in_pieces}
use Rattle.file_items.proofs.files.FileTree.add_bytes.Goals as goal

pub returns-in-Some-clause-bytes : goal.returns-in-Some-clause-bytes
returns-in-Some-clause-bytes c = λ s key ino_is count_is holds.
    on_ok_weaker c.add_inline.result
    (held_inline s key c.args.ino c.in-Some.length c.args.held c.args.block.now.bytes c.args.self.now.file c.args.items.now c.add_inline.new.items ino_is c.in-Some.is c.requires.file holds) c.add_inline.ensures

pub returns-in-None-clause-bytes : goal.returns-in-None-clause-bytes
returns-in-None-clause-bytes c = λ s key ino_is count_is holds.
    held_in_pieces s key c.args.ino c.args.pieces c.args.held c.args.block.now.bytes (record { ino = c.args.self.now.file.ino; left = c.args.pieces }) c.args.items.now ino_is c.in-None.is
    (ap (λ (f : FileInHand). record_with f.ino) c.requires.file) count_is holds
  where
    record_with : ℕ → FileInHand
    record_with i = record { ino = i; left = c.args.pieces }
