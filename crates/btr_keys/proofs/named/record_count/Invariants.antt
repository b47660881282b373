use Rattle.btr_keys.proofs.Imports.{◌≡◌, ◌≤◌, ◌+◌, length, option_map, behind_named, starts}
use Rattle.btr_keys.proofs.named.record_count.Given as goal

abbrev pub invariant-loop-rest : goal.invariant-loop-rest
invariant-loop-rest g l =
    let size = behind_named g.row.HEAD g.row.AT in
    record {
      within : l.count + length l.rest ≤ length l.body;
      counted : option_map length (starts size l.body) ≡ option_map (λ n. l.count + n) (option_map length (starts size l.rest));
    }

abbrev pub decreases-loop-rest : goal.decreases-loop-rest
decreases-loop-rest g l = length l.rest
