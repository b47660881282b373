use Rattle.rollback_core.proofs.Imports.{◌∙◌, length, sym, block_at}
use Rattle.rollback_core.proofs.Mended.{fresh_gives, stale_gives}
use Rattle.rollback_core.proofs.mending.wipe.Goals as goal

pub returns-then-wiped-clause-gives : goal.returns-then-wiped-clause-gives
returns-then-wiped-clause-gives g c = λ tells image is.
    stale_gives (length c.args.used.now) c.args.used.now c.args.place (block_at image c.args.place) c.zero.result c.zero.ensures (sym (c.in_ok-wiped.ensures.wiped tells image is) ∙ c.if-wiped.true)

pub returns-else-wiped-clause-gives : goal.returns-else-wiped-clause-gives
returns-else-wiped-clause-gives g c = λ tells image is.
    fresh_gives (length c.args.used.now) c.args.used.now c.args.place (block_at image c.args.place) (sym (c.in_ok-wiped.ensures.wiped tells image is) ∙ c.if-wiped.false)
