use Rattle.convert_steps.proofs.Imports.{◌≡◌, ◌<◌, ◌∙◌, ap, arith, Image, block_at, reads}
use Rattle.convert_steps.proofs.Moving.{copied}
use Rattle.convert_steps.proofs.pieces.copy_block.Goals as goal

pub returns-clause-written : goal.returns-clause-written
returns-clause-written g c = λ tells here there.
    let same : reads (g.D.Disk.history c.read.new.self) ≡ reads (g.D.Disk.history c.args.disk.now) = ap reads (g.met.D.Disk.kept_history _ _ tells c.read.ensures.kept) in
    let blocks : g.D.BlockSource.blocks c.args.disk.now ≡ reads (g.D.Disk.history c.args.disk.now) = g.met.D.Disk.open_blocks c.args.disk.now _ tells c.requires.«open» in
    let fits : c.args.place < g.D.BlockSource.size c.read.new.self = omega (arith, there, g.met.D.BlockSource.kept_size _ _ c.read.ensures.kept) in
    copied c.put_block.result _ _ _ c.args.place c.args.from _ same
    (c.in_ok-read.ensures.block tells ∙ ap (λ (image : Image). block_at image c.args.from) blocks) (c.put_block.ensures.written tells fits)
