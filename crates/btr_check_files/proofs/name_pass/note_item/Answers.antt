use Rattle.btr_check_files.proofs.Telling.{item_entries, item_extrefs, item_other, item_refs}
use Rattle.btr_check_files.proofs.name_pass.note_item.Goals as goal

pub returns-then-key-eq-DIR_ITEM-clause-noted : goal.returns-then-key-eq-DIR_ITEM-clause-noted
returns-then-key-eq-DIR_ITEM-clause-noted c = λ names hashed told before told_before.
    item_entries c.args.table.now.entries c.args.table.now c.note_dir_item.new.table hashed told (c.args.key.now, c.args.body.now) c.if-key-eq-DIR_ITEM.true c.note_dir_item.result
    c.note_dir_item.ensures.told told_before (c.note_dir_item.ensures.noted names hashed before)

pub returns-then-key-eq-INODE_REF-clause-noted : goal.returns-then-key-eq-INODE_REF-clause-noted
returns-then-key-eq-INODE_REF-clause-noted c = λ names hashed told before told_before.
    item_refs c.args.table.now.entries c.args.table.now c.note_inode_ref.new.table hashed told (c.args.key.now, c.args.body.now) c.if-key-eq-INODE_REF.true c.note_inode_ref.result
    c.note_inode_ref.ensures.hashed before (c.note_inode_ref.ensures.noted names told told_before)

pub returns-then-key-eq-INODE_EXTREF-clause-noted : goal.returns-then-key-eq-INODE_EXTREF-clause-noted
returns-then-key-eq-INODE_EXTREF-clause-noted c = λ names hashed told before told_before.
    item_extrefs c.args.table.now.entries c.args.table.now c.note_extref.new.table hashed told (c.args.key.now, c.args.body.now) c.if-key-eq-INODE_EXTREF.true c.note_extref.result
    c.note_extref.ensures.hashed before (c.note_extref.ensures.noted names told told_before)

pub returns-else-key-eq-INODE_EXTREF-clause-noted : goal.returns-else-key-eq-INODE_EXTREF-clause-noted
returns-else-key-eq-INODE_EXTREF-clause-noted c = λ names hashed told before told_before.
    item_other c.args.table.now.entries c.args.table.now c.args.table.now hashed told (c.args.key.now, c.args.body.now) c.if-key-eq-DIR_ITEM.false c.if-key-eq-INODE_REF.false c.if-key-eq-INODE_EXTREF.false before told_before
