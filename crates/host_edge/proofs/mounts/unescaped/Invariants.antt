use Rattle.host_edge.proofs.Imports.{length}
use Rattle.host_edge.proofs.mounts.unescaped.Given as goal

abbrev pub decreases-loop-rest : goal.decreases-loop-rest
decreases-loop-rest l = length l.rest
