use Rattle.reiser_make_app.proofs.Imports.{arith}
use Rattle.reiser_make_app.proofs.Counts.{too_few, too_many}
use Rattle.reiser_make_app.proofs.words.three_words.Goals as goal
use Rattle.reiser_make_app.proofs.words.three_words.Goals.{in_default-via-then-words-lt3, in_default-via-else-words-lt3+else-words-lt4}

pub returns-in_default : goal.returns-in_default
returns-in_default c =
    elim c.in_default.branch [ in_default-via-then-words-lt3 w ↦ too_few _ c.args.old c.args.words.now (grind arith) | in_default-via-else-words-lt3+else-words-lt4 w ↦ too_many _ c.args.old c.args.words.now (grind arith) ]
