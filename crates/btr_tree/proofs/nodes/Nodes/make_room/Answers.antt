use Rattle.btr_tree.proofs.Imports.{length, ap, arith, Made}
use Rattle.btr_tree.proofs.PiecesOf.{length-pieces_of}
use Rattle.btr_tree.proofs.nodes.Nodes.make_room.Goals as goal

pub returns-then-self-lt-BATCH-clause-room : goal.returns-then-self-lt-BATCH-clause-room
returns-then-self-lt-BATCH-clause-room g c =
    omega (arith, c.if-self-lt-BATCH.true, length-pieces_of c.self.inside.form.nodesize c.self.inside.held c.self.inside.bytes.items, ap (λ (m : Made). length m.nodes) c.self.view_is)
