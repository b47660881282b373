use Rattle.btr_reader_contents.proofs.Imports.{◌∙◌, sym, extents_of, file_byte}
use Rattle.btr_reader_contents.proofs.Marks.{file_is}
use Rattle.btr_reader_contents.proofs.marker.ExtentMarker.target.Goals as goal

pub returns : goal.returns
returns c = λ image ranges items ino marks.
    c.short.ensures (file_byte image ranges (extents_of items ino)) marks.bytes ∙ sym (file_is image ranges items ino c.args.self.now.file.size)
