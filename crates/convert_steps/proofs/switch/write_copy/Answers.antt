use Rattle.convert_steps.proofs.Imports.{◌≡◌, ◌<◌, length, arith, reads}
use Rattle.convert_steps.proofs.Phases.{copy_only, copy_stands}
use Rattle.convert_steps.proofs.switch.write_copy.Goals as goal

pub returns-clause-only : goal.returns-clause-only
returns-clause-only g c = λ tells.
    copy_only c.args.superblock.now.bytes c.args.blocks c.args.place c.mirror.new.into.bytes _ _ c.write.result c.requires.mirror
    (omega (arith, c.if-place-blocks.false)) c.mirror.ensures (c.write.ensures.effect tells)

pub returns-clause-written : goal.returns-clause-written
returns-clause-written g c = λ tells.
    let sizes : g.D.BlockSource.size c.args.disk.now ≡ length (reads (g.D.Disk.history c.args.disk.now)) =
    g.met.D.Disk.open_size c.args.disk.now _ tells c.requires.open in
    let long : c.args.place < length (reads (g.D.Disk.history c.args.disk.now)) = omega (arith, sizes, c.requires.in_range, c.if-place-blocks.false) in
    copy_stands c.args.superblock.now.bytes c.args.blocks c.args.place c.mirror.new.into.bytes _ _ c.write.result long c.mirror.ensures (c.write.ensures.effect tells)
