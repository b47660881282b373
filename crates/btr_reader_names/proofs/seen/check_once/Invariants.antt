use Rattle.btr_reader_names.proofs.Imports.{take, contains, same_node, HasSeen, is_open}
use Rattle.btr_reader_names.proofs.seen.check_once.Given as goal

abbrev pub invariant-loop-naming : goal.invariant-loop-naming
invariant-loop-naming l = HasSeen (is_open l.names (contains same_node l.named)) l.seen (take l.naming-index l.names.namings.items)
