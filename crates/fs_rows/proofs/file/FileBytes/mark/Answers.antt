use Rattle.fs_rows.proofs.Imports.{◌+◌, ◌∙◌, arith}
use Rattle.fs_rows.proofs.FileMarks.{mark_is}
use Rattle.fs_rows.proofs.Holding.{closed}
use Rattle.fs_rows.proofs.file.FileBytes.mark.Goals as goal

pub returns : goal.returns
returns c = λ f held.
    c.finish.ensures _ (closed c.args.self c.add.new.self _ c.add.ensures held)
    ∙ mark_is f c.args.self.size (c.args.self.next + 1) (λ i h. held.rest i (omega (arith, h)))
