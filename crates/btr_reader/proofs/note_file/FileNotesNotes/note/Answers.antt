use Rattle.btr_reader.proofs.Imports.{sym, subst, find_inode_item, TellsInode, extents_of}
use Rattle.btr_reader_names.proofs.InodeItems.{inode_item-push}
use Rattle.btr_reader.proofs.Noting.{gathers_so_far, stays_wrong}
use Rattle.btr_reader.proofs.note_file.FileNotesNotes.note.Goals as goal

pub returns-in_ok-self : goal.returns-in_ok-self
returns-in_ok-self c = λ begun items i key body leaf held.
    let f = c.args.self.now in (
      held.0,
      held.1,
      record {
        inode = subst (TellsInode c.seek_inode-self.result) (sym (inode_item-push f.number items i)) (c.seek_inode-self.ensures i (find_inode_item items f.number) key body leaf held.2.inode);
        extents = c.in_ok-self.ensures.told i items key body leaf (gathers_so_far f.ranges.now (extents_of items f.number) f.refusal f.gathered c.is_none.result c.is_none.ensures c.if-is_none.true held.2.extents);
      },
    )

pub returns-else-is_none : goal.returns-else-is_none
returns-else-is_none c = λ begun items i key body leaf held.
    let f = c.args.self.now in (
      held.0,
      held.1,
      record {
        inode = subst (TellsInode c.seek_inode-self.result) (sym (inode_item-push f.number items i)) (c.seek_inode-self.ensures i (find_inode_item items f.number) key body leaf held.2.inode);
        extents = stays_wrong f.ranges.now f.number items i f.refusal f.gathered c.is_none.result c.is_none.ensures c.if-is_none.false held.2.extents;
      },
    )
