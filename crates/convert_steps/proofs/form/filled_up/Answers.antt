use Rattle.convert_steps.proofs.Labels.{field_made}
use Rattle.convert_steps.proofs.form.filled_up.Goals as goal

pub returns : goal.returns
returns c = field_made c.args.bytes.now c.copy_from_slice.new.self c.min-count.result c.min-count.ensures c.copy_from_slice.ensures.after
