use Rattle.btr_reader_contents.proofs.Imports.{ℕ, false, ap, ◌∙◌, mark_of_bytes, bytes_of_inode}
use Rattle.btr_reader_contents.proofs.Gathered.{content_made, bytes_length}
use Rattle.btr_reader_contents.proofs.content.file_content.Goals as goal

pub returns : goal.returns
returns c = λ image ranges items ino size marks.
    content_made false (bytes_of_inode image ranges items ino c.args.size) c.args.size c.finish.result c.in_ok-new.field-0 (bytes_length image ranges items ino c.args.size)
    (c.finish.ensures image ranges items ino marks ∙ ap (λ (n : ℕ). mark_of_bytes (bytes_of_inode image ranges items ino n)) size) c.in_ok-new.ensures
