use Rattle.btr_check_items.proofs.Imports.{◌+◌, ◌-◌, ◌≤◌}
use Rattle.btr_check_items.proofs.ReservedRules.{NoneBefore}
use Rattle.btr_check_items.proofs.reserved.has_reserved.Given as goal

abbrev pub invariant-loop-block : goal.invariant-loop-block
invariant-loop-block l = record {
  low : l.first ≤ l.block;
  high : l.first ≤ l.last → l.block ≤ l.last + 16;
  none : NoneBefore l.first l.block l.blocks;
}

abbrev pub decreases-loop-block : goal.decreases-loop-block
decreases-loop-block l = l.last + 16 - l.block
