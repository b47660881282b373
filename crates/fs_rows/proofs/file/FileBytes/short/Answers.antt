use Rattle.fs_rows.proofs.Imports.{arith}
use Rattle.fs_rows.proofs.FileMarks.{short_is}
use Rattle.fs_rows.proofs.file.FileBytes.short.Goals as goal

pub returns : goal.returns
returns c = λ f held.
    short_is f c.args.self.now.size c.args.self.now.next c.args.self.now.block.bytes held.in_hand (omega (arith, c.args.self.now.within, c.requires)) c.requires
