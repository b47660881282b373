-- What the trees of what was prepared may be written by.
use Rattle.convert_core.proofs.Imports.{◌≤◌, ℕ, ◌+◌, Bool, List, [], ◌∷◌, length, subst, arith, All, range_with_len, All-head, All-tail, free_units, is_free_unit, unit_count, IsSmallNeed, FitsVolume, IsSoundPlan, Need, Piece, plans_sound, HasPlanFor, Prepared, IsWhole}
use Rattle.std.proofs.lemmas.List.FromFn.{length-range_with_len}
use Rattle.extent_pieces.proofs.Bounding.{filter_few}
use Rattle.unit_plan.proofs.Uses.{plans_fit}
use Rattle.convert_trees.specs.Sources.{pieces_end}

-- pieces that lie below a number end there or before
end_low : (n : ℕ) (pieces : List Piece) → All (λ q. q.place + q.count ≤ n) pieces → pieces_end pieces ≤ n
end_low n [] all = omega arith
end_low n (p ∷ pieces) all =
    let first = All-head (λ (q : Piece). q.place + q.count ≤ n) p pieces all in
    let rest = end_low n pieces (All-tail (λ (q : Piece). q.place + q.count ≤ n) p pieces all) in
    omega (arith, first, rest)

-- no more units are free than there are blocks
free_few : (used : List Bool) → length (free_units used) ≤ length used
unfolding free_units
free_few used =
    let units : List ℕ = range_with_len 0 (unit_count used) in
    let kept = filter_few (is_free_unit used) units in
    let all = length-range_with_len 0 (unit_count used) in
    omega (arith, kept, all)

module _ (p : Prepared) (device : ℕ) (plan : HasPlanFor p) (whole : IsWhole p device) where
  pub units_fit : FitsVolume p.plan p.volume.sup.blocks
  units_fit = subst (FitsVolume p.plan) whole.bitmap (plans_fit p.volume.bitmap p.need p.plan plan.enough plan.plan)

  pub units_sound : (need : Need) × IsSoundPlan p.volume.bitmap need p.plan
  units_sound = (p.need, plans_sound p.volume.bitmap p.need p.plan plan.enough plan.plan)

  pub places_end : pieces_end p.pieces.items.items ≤ device
  places_end = let low = end_low p.volume.sup.blocks p.pieces.items.items whole.places in let inside = whole.inside in omega (arith, low, inside)

  pub need_small : IsSmallNeed p.need
  need_small =
      let few = free_few p.volume.bitmap in
      let enough = plan.enough.units in
      let long = whole.bitmap in
      let small = whole.small in
      record { system = omega (arith, few, enough, long, small); metadata = omega (arith, few, enough, long, small); data_ = omega (arith, few, enough, long, small) }
