use Rattle.btr_space_items.proofs.Imports.{◌≡◌, ◌≤◌, ◌+◌, length, option_map, starts, behind_inline}
use Rattle.btr_space_items.proofs.inline_ref.ref_count.Given as goal

abbrev pub invariant-loop-rest : goal.invariant-loop-rest
invariant-loop-rest l =
    record {
      within : l.count + length l.rest ≤ length l.body;
      counted : option_map length (starts behind_inline l.body) ≡ option_map (λ n. l.count + n) (option_map length (starts behind_inline l.rest));
    }

abbrev pub decreases-loop-rest : goal.decreases-loop-rest
decreases-loop-rest l = length l.rest
