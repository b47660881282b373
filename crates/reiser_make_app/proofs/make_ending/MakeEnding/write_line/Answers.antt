use Rattle.reiser_make_app.proofs.Imports.{sym, subst, Takes, MakeEnding, error_line}
use Rattle.reiser_make_app.proofs.make_ending.MakeEnding.write_line.Goals as goal

pub returns-in-Usage-clause-taken : goal.returns-in-Usage-clause-taken
returns-in-Usage-clause-taken g c = λ tells.
    subst (λ (e : MakeEnding). Takes (g.E.Sink.taken c.args.err.now) (error_line e) c.write.result (g.E.Sink.taken c.write.new.self)) (sym c.in-Usage.is) (c.write.ensures.taken tells)
