use Rattle.btr_reader_contents.proofs.Imports.{◌∙◌, sym, ap, mark_of_bytes, extents_of, file_byte}
use Rattle.btr_reader_contents.proofs.Marks.{file_is}
use Rattle.btr_reader_contents.proofs.marker.ExtentMarker.finish.Goals as goal

pub returns : goal.returns
returns c = λ image ranges items ino marks.
    c.mark.ensures (file_byte image ranges (extents_of items ino)) marks.bytes ∙ ap mark_of_bytes (sym (file_is image ranges items ino c.args.self.file.size))
