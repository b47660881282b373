use Rattle.btr_space_items.proofs.Imports.{◌≡◌, ◌≤◌, ◌+◌, ◌*◌, take, sum_by, inline_ref_size, EXTENT_ITEM_SIZE, INLINE_DATA_REF_SIZE}
use Rattle.btr_space_items.proofs.extent_body.extent_body_size.Given as goal

abbrev pub invariant-loop-reference : goal.invariant-loop-reference
invariant-loop-reference l =
    record {
      is : l.size ≡ EXTENT_ITEM_SIZE + sum_by inline_ref_size (take l.reference-index l.refs);
      small : l.size ≤ EXTENT_ITEM_SIZE + INLINE_DATA_REF_SIZE * l.reference-index;
    }
