use Rattle.btr_reader_contents.proofs.Imports.{◌-◌, min, subst, content_value, extent_length, content_byte, Appends}
use Rattle.btr_reader_walk.specs.btr_keys.declared.file_extent.ExtentContent.{ExtentContent}
use Rattle.btr_reader_contents.proofs.ExtentContents.{first_part}
use Rattle.btr_reader_contents.proofs.target.put_content.Goals as goal

pub returns-in-Inline-clause-bytes : goal.returns-in-Inline-clause-bytes
returns-in-Inline-clause-bytes g c = λ tells image is whole aligned f g' over low held.
    c.put_bytes.ensures.bytes f g' (first_part c.args.offset (c.args.file.now.size - c.args.offset) _ f g'
    (subst (λ (x : ExtentContent). Appends c.args.offset (min (extent_length (content_value x)) (c.args.file.now.size - c.args.offset)) (content_byte image c.args.ranges.now (content_value x)) f g') c.in-Inline.is over)) low held
