use Rattle.reiser_bitmap.proofs.Imports.{◌≡◌, ◌≤◌, length, filter, range_with_len, is_free_unit}
use Rattle.reiser_bitmap.proofs.bitmap.Bitmap.free_units.Given as goal

abbrev pub invariant-loop-u : goal.invariant-loop-u
invariant-loop-u l = record {
  counted : l.count ≡ length (filter (is_free_unit l.self) (range_with_len 0 l.u));
  few : l.count ≤ l.u;
}
