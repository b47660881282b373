use Rattle.reiser_volume_names.proofs.Imports.{◌≡◌, ◌∙◌, true, sym, is_directory_at}
use Rattle.reiser_volume_names.proofs.Seeing.{was_there}
use Rattle.reiser_volume_names.proofs.Againing.{directory_again}
use Rattle.reiser_volume_names.proofs.again.see_target.Goals as goal

pub returns-else-branch-clause-checked : goal.returns-else-branch-clause-checked
returns-else-branch-clause-checked c = λ items links noted has.
    let directory : is_directory_at items c.args.naming.now.target ≡ true = sym (c.is_directory.ensures items noted) ∙ c.if-not-is_directory.false in
    directory_again items c.args.seen.now links c.args.naming.now has directory (was_there _ _ c.in_ok-add.ensures.added c.if-branch.false)
