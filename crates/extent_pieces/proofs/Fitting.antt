-- A plan for what was counted has room for the pieces that are not kept.
use Rattle.extent_pieces.proofs.Imports.{◌≡◌, ◌<◌, ◌+◌, ◌^◌, length, arith, div_ceil, CountedPiecesFit, IsFreeUnit, all_from_contains, IsSoundPlan, need, plans_sound}
use Rattle.extent_pieces.proofs.Lists.{all_at}

pub counted_pieces_fit : CountedPiecesFit
counted_pieces_fit used found o plan counted small enough is =
    let sound : IsSoundPlan used (need found.counts o) plan = plans_sound used (need found.counts o) plan enough is in
    let many : length plan.data_ ≡ div_ceil (found.counts.copies + found.counts.tails) 256 = sound.data_.many in
    record {
      kept = counted.kept;
      room = omega (arith, many, counted.others);
      small = all_from_contains (λ u. u < 2 ^ 50) plan.data_ (λ u h. omega (arith, (all_at (IsFreeUnit used) plan.data_ u sound.data_.free h).inside, counted.blocks, small.blocks));
    }
