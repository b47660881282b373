-- What is noted of a file as the items of its tree go by.
use Rattle.std.specs.Prelude.{List}
use Rattle.btr_reader_walk.specs.Events.{TreeItem}
use Rattle.btr_reader_names.specs.Inodes.{find_inode_item, TellsInode}
use Rattle.btr_reader_contents.specs.Extents.{extents_of}
use Rattle.btr_reader.specs.Pieces.{TellsExtents}
use Rattle.btr_reader.specs.declared.file_notes.FileNotes.{FileNotes}

-- its inode item among these items, and its extents
pub record HoldsFile (f : FileNotes) (items : List TreeItem) : Type 0 where
  pub inode : TellsInode f.item (find_inode_item items f.number)
  pub extents : TellsExtents f.ranges.now (extents_of items f.number) f.refusal f.gathered
