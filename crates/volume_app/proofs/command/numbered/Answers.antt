use Rattle.volume_app.proofs.Imports.{arith}
use Rattle.volume_app.proofs.Counts.{too_few, too_many}
use Rattle.volume_app.proofs.command.numbered.Goals as goal
use Rattle.volume_app.proofs.command.numbered.Goals.{in_default-via-then-words-lt1, in_default-via-else-words-lt1+else-words-lt2}

pub returns-in_default-clause-read : goal.returns-in_default-clause-read
returns-in_default-clause-read c =
    elim c.in_default.branch [ in_default-via-then-words-lt1 w ↦ too_few _ c.args.number.now c.args.words.now (grind arith) | in_default-via-else-words-lt1+else-words-lt2 w ↦ too_many _ c.args.number.now c.args.words.now (grind arith) ]
