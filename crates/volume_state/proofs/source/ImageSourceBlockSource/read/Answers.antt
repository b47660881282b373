use Rattle.volume_state.proofs.Imports.{◌<◌, ℕ, min, length, None, sym, ◌∙◌, subst}
use Rattle.volume_state.proofs.Reading.{block_there, read_there}
use Rattle.volume_state.proofs.source.ImageSourceBlockSource.read.Goals as goal

pub returns-in-Some-clause-block : goal.returns-in-Some-clause-block
returns-in-Some-clause-block g c = λ tells.
    let inside : c.args.n < min c.args.self.now.map.now.blocks (length (g.S.BlockSource.blocks c.args.self.now.src.now)) =
    subst (λ (k : ℕ). c.args.n < min c.args.self.now.map.now.blocks k) (g.met.S.BlockSource.size_is c.args.self.now.src.now tells) c.requires in
    read_there c.args.self.now.map.now (g.S.BlockSource.blocks c.args.self.now.src.now) c.args.n inside c.read.result c.in-Some.place c.read.new.into.bytes
    (sym c.place.ensures.place ∙ c.in-Some.is) (c.read.ensures.block tells)

pub returns-in-None-clause-block : goal.returns-in-None-clause-block
returns-in-None-clause-block g c = λ tells.
    let inside : c.args.n < min c.args.self.now.map.now.blocks (length (g.S.BlockSource.blocks c.args.self.now.src.now)) =
    subst (λ (k : ℕ). c.args.n < min c.args.self.now.map.now.blocks k) (g.met.S.BlockSource.size_is c.args.self.now.src.now tells) c.requires in
    c.zero.ensures ∙ block_there c.args.self.now.map.now (g.S.BlockSource.blocks c.args.self.now.src.now) c.args.n inside None (sym c.place.ensures.place ∙ c.in-None.is)
