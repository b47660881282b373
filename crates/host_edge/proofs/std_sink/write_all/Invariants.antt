use Rattle.host_edge.proofs.Imports.{length}
use Rattle.host_edge.proofs.std_sink.write_all.Given as goal

abbrev pub decreases-loop-rest : goal.decreases-loop-rest
decreases-loop-rest g l = length l.rest
