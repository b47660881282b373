use Rattle.btr_keys.proofs.Imports.{Some, ap, sym, ◌∙◌, lit<, extref_front}
use Rattle.btr_keys.proofs.Starts.{start_within, record_at}
use Rattle.btr_keys.proofs.extref.Extrefs.get.Goals as goal

pub start-requires : goal.start-requires
start-requires c = (lit< tt, start_within extref_front c.self.inside.0 c.args.self.now c.args.i c.self.view_is c.requires)

pub returns : goal.returns
returns c = record_at extref_front c.self.inside.0 c.start.result.now c.args.self.now c.args.i c.self.view_is c.start.ensures.there ∙ ap Some (sym c.front.ensures)
