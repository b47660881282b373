use Rattle.volume_app.proofs.Imports.{sym, subst, Takes, Ending, error_line}
use Rattle.volume_app.proofs.ending.Ending.write_line.Goals as goal

pub returns-in-OutputFault-clause-taken : goal.returns-in-OutputFault-clause-taken
returns-in-OutputFault-clause-taken g c = λ tells.
    subst (λ (e : Ending). Takes (g.E.Sink.taken c.args.err.now) (error_line e) c.write-in-OutputFault.result (g.E.Sink.taken c.write-in-OutputFault.new.self)) (sym c.in-OutputFault.is) (c.write-in-OutputFault.ensures.taken tells)
