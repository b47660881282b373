use Rattle.convert_core_laws.proofs.going_back.Going.{converted_volumes_lie_apart}
use Rattle.convert_core_laws.proofs.going_back.converted_volumes_lie_apart.Goals as goal

pub returns : goal.returns
returns c =
    converted_volumes_lie_apart c.new_ids_fit.ensures c.chunks_map.ensures c.converted_is_readable.ensures c.entries_are_there.ensures c.names_keep_rules.ensures c.converted_reserved_are_sound.ensures
    c.converted_volumes_open.ensures
