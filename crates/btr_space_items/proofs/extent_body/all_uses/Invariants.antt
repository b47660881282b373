use Rattle.btr_space_items.proofs.Imports.{◌^◌, ◌≡◌, ◌≤◌, ◌*◌, take, sum_by, ref_uses}
use Rattle.btr_space_items.proofs.extent_body.all_uses.Given as goal

abbrev pub invariant-loop-reference : goal.invariant-loop-reference
invariant-loop-reference l =
    record {
      is : l.uses ≡ sum_by ref_uses (take l.reference-index l.refs);
      small : l.uses ≤ 2 ^ 32 * l.reference-index;
    }
