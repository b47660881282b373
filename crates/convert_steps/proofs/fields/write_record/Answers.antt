use Rattle.convert_steps.proofs.Imports.{length, ◌∙◌, ap, List, ℕ, chunk_bytes}
use Rattle.convert_steps.proofs.Booting.{length_key, record_made}
use Rattle.convert_steps.proofs.fields.write_record.Goals as goal

pub returns : goal.returns
returns c =
    record_made c.args.into.now c.write.new.into c.write-2.new.into _ _ c.requires.room (ap (λ (l : List ℕ). length l) c.write.ensures ∙ length_key _)
    c.write.ensures (c.write-2.ensures ∙ ap chunk_bytes c.chunk_body.ensures)
