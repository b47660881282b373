use Rattle.reiser_volume_names.proofs.Seeing.{seen_more, seen_twice, was_absent, was_there}
use Rattle.reiser_volume_names.proofs.once.see.Goals as goal

pub returns-then-branch : goal.returns-then-branch
returns-then-branch c = λ seen has.
    seen_more c.args.names.now c.add.new.names seen c.args.naming.now c.in_ok-name.name has c.in_ok-name.ensures.dir c.in_ok-name.ensures.name c.in_ok-add.ensures.has (was_absent _ _ c.in_ok-add.ensures.added c.if-branch.true)

pub returns-else-branch : goal.returns-else-branch
returns-else-branch c = λ seen has.
    seen_twice c.args.names.now c.add.new.names seen c.args.naming.now c.in_ok-name.name has c.in_ok-name.ensures.dir c.in_ok-name.ensures.name (was_there _ _ c.in_ok-add.ensures.added c.if-branch.false)
