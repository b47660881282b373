use Rattle.btr_space_items.proofs.Imports.{◌≡◌, ◌+◌, ◌++◌, length, take, sum_by, flat_map, extent_head_bytes, ref_uses, inline_ref_bytes, inline_ref_size, EXTENT_ITEM_SIZE}
use Rattle.btr_space_items.proofs.extent_body.write_extent_body.Given as goal

abbrev pub invariant-loop-reference : goal.invariant-loop-reference
invariant-loop-reference l =
    record {
      same : length l.into ≡ length l.initial.into;
      place : l.at ≡ EXTENT_ITEM_SIZE + sum_by inline_ref_size (take l.reference-index l.refs);
      bytes : take l.at l.into ≡ extent_head_bytes (record { refs = sum_by ref_uses l.refs; generation = l.generation; flags = l.flags }) ++ flat_map inline_ref_bytes (take l.reference-index l.refs);
    }
