use Rattle.btr_check_fields.proofs.Imports.{◌∙◌}
use Rattle.btr_check_fields.proofs.ChunkRules.{both_answer}
use Rattle.btr_check_fields.proofs.chunks.overlapping.Goals as goal

pub returns : goal.returns
returns c =
    both_answer c.args.chunks.now c.as_slice.result.now c.as_slice-2.result.now c.overlap-by_address.result c.overlap-on_device.result c.first_found.result (c.as_slice.ensures.value ∙ c.in_ok-addresses.ensures)
    (c.as_slice-2.ensures.value ∙ c.in_ok-places.ensures) c.overlap-by_address.ensures c.overlap-on_device.ensures c.first_found.ensures
