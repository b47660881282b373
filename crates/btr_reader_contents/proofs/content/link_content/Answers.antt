use Rattle.btr_reader_contents.proofs.Imports.{ℕ, true, ap, refl, ◌∙◌, bytes_of_inode}
use Rattle.btr_reader_contents.proofs.Gathered.{content_made, bytes_length}
use Rattle.btr_reader_contents.proofs.content.link_content.Goals as goal

pub returns : goal.returns
returns c = λ image ranges items ino size marks.
    content_made true (bytes_of_inode image ranges items ino c.args.size) c.args.size _ c.in_ok-new.field-0 (bytes_length image ranges items ino c.args.size) refl
    (c.in_ok-new.ensures ∙ (c.target.ensures image ranges items ino marks ∙ ap (λ (n : ℕ). bytes_of_inode image ranges items ino n) size))
