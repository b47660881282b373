use Rattle.btr_reader_names.proofs.Imports.{◌≡◌, ◌==◌, ◌&&◌, ◌∙◌, Bool, true, false, nat_eq, sym, ap, arith, nat_tests, INODE_ITEM, inode_of}
use Rattle.indexmap.specs.IndexMap.{get}
use Rattle.btr_reader_walk.specs.btr_keys.declared.key.Key.{Key}
use Rattle.btr_reader_names.proofs.Tables.{passed_over, noted_first}
use Rattle.btr_reader_names.proofs.table.note_inode.Goals as goal

pub returns-then-key-ne-INODE_ITEM : goal.returns-then-key-ne-INODE_ITEM
returns-then-key-ne-INODE_ITEM c = λ items i key body leaf noted.
    let kind : (c.args.key.now.kind == INODE_ITEM) ≡ false = grind (arith, nat_tests, c.if-key-ne-INODE_ITEM.true) in
    passed_over (λ ino. get nat_eq c.args.inodes.now ino) items i (ap (λ (k : Key). (k.kind == INODE_ITEM) && (k.offset == 0)) key ∙ ap (λ (b : Bool). b && (c.args.key.now.offset == 0)) kind) noted

pub returns-then-key-ne0 : goal.returns-then-key-ne0
returns-then-key-ne0 c = λ items i key body leaf noted.
    let kind : (c.args.key.now.kind == INODE_ITEM) ≡ true = grind (arith, nat_tests, c.if-key-ne-INODE_ITEM.false) in
    let offset : (c.args.key.now.offset == 0) ≡ false = grind (arith, nat_tests, c.if-key-ne0.true) in
    passed_over (λ ino. get nat_eq c.args.inodes.now ino) items i (ap (λ (k : Key). (k.kind == INODE_ITEM) && (k.offset == 0)) key ∙ (ap (λ (b : Bool). b && (c.args.key.now.offset == 0)) kind ∙ offset)) noted

pub returns : goal.returns
returns c = λ items i key body leaf noted.
    let kind : (c.args.key.now.kind == INODE_ITEM) ≡ true = grind (arith, nat_tests, c.if-key-ne-INODE_ITEM.false) in
    let offset : (c.args.key.now.offset == 0) ≡ true = grind (arith, nat_tests, c.if-key-ne0.false) in
    noted_first (λ ino. get nat_eq c.args.inodes.now ino) (λ ino. get nat_eq c.note_first.new.inodes ino) items i (record { leaf = c.args.leaf; inode = c.read.result })
    (ap (λ (k : Key). (k.kind == INODE_ITEM) && (k.offset == 0)) key ∙ (ap (λ (b : Bool). b && (c.args.key.now.offset == 0)) kind ∙ offset))
    (sym leaf) (c.read.ensures ∙ sym (ap inode_of body))
    (rw key (c.in_ok-note_first.ensures)) noted
