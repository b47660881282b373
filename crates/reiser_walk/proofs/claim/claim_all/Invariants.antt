use Rattle.reiser_walk.proofs.Imports.{◌≡◌, ◌≤◌, ℕ, List, length, filter, drop, held_by, is_no_hole, reach_damages, MarksSeen, seen_after, unmarked}
use Rattle.reiser_walk.proofs.claim.claim_all.Given as goal

-- what is left is marked after what was seen so far as all is after what was seen before
abbrev pub invariant-loop-i : goal.invariant-loop-i
invariant-loop-i l = record {
  size : length l.reached ≡ length l.fn.reached;
  fewer : unmarked l.reached ≤ unmarked l.fn.reached;
  left : (seen : List ℕ) → MarksSeen l.fn.reached seen → (now : List ℕ) × MarksSeen l.reached now
      × (reach_damages l.tree l.map now (held_by l.holder (filter is_no_hole (drop l.i l.blocks))) ≡ reach_damages l.tree l.map seen (held_by l.holder (filter is_no_hole l.blocks)))
      × (seen_after now (held_by l.holder (filter is_no_hole (drop l.i l.blocks))) ≡ seen_after seen (held_by l.holder (filter is_no_hole l.blocks)));
}
