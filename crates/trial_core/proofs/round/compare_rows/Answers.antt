use Rattle.trial_core.proofs.Imports.{◌≡◌, inr, sym, ◌∙◌, true≢false}
use Rattle.trial_core.proofs.Rounds.{listed_once}
use Rattle.trial_core.proofs.round.compare_rows.Goals as goal

pub returns-clause-told : goal.returns-clause-told
returns-clause-told g c = λ tells image is.
    inr (
      c.changed.ensures,
      λ lists.
          let same : c.in_ok-rows.rows ≡ c.args.known.now.rows = listed_once c.btrfs_rows_are_one.ensures image c.in_ok-rows.rows c.args.known.now.rows (c.in_ok-rows.ensures.told tells image is) lists in
          absurd (true≢false (sym (c.same_rows.ensures.1 same) ∙ c.if-same_rows.false)),
    )
