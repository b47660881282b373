use Rattle.btr_reader.proofs.Imports.{◌≡◌, ◌==◌, ◌∙◌, true, false, ap, sym, arith, nat_tests, ROOT_ITEM, Key, pointer_of}
use Rattle.btr_reader.proofs.NotedRoots.{passed_over, noted}
use Rattle.btr_reader.proofs.roots.RootItemsNotes.note.Goals as goal

pub returns-then-key : goal.returns-then-key
returns-then-key c = λ begun items i key body leaf before.
    let kind : (c.args.key.now.kind == ROOT_ITEM) ≡ false = grind (arith, nat_tests, c.if-key.true) in
    passed_over c.args.self.now items i c.args.key.now.kind (ap (λ (k : Key). k.kind) key) kind before

pub returns : goal.returns
returns c = λ begun items i key body leaf before.
    let kind : (c.args.key.now.kind == ROOT_ITEM) ≡ true = grind (arith, nat_tests, c.if-key.false) in
    noted c.args.self.now (record { found = c.note_last.new.roots; numbers = c.note_number.new.numbers }) items i c.args.key.now (record { leaf = c.args.leaf; pointer = c.pointer_of.result }) key kind (sym leaf)
    (c.pointer_of.ensures ∙ ap pointer_of (sym body)) c.in_ok-note_last.ensures c.in_ok-note_number.ensures before
