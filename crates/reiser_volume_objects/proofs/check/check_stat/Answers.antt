use Rattle.reiser_volume_objects.proofs.Imports.{◌∙◌, sym}
use Rattle.reiser_volume_objects.proofs.Checking.{refused_kind}
use Rattle.reiser_volume_objects.proofs.check.check_stat.Goals as goal

pub returns-in-None-clause-checked : goal.returns-in-None-clause-checked
returns-in-None-clause-checked c = λ items key named has summary root_block.
    refused_kind items key c.args.stat.now c.damaged.result root_block named has (sym c.kind_of_mode.ensures ∙ c.in-None.is) c.damaged.ensures

pub returns-in-Some-clause-checked : goal.returns-in-Some-clause-checked
returns-in-Some-clause-checked c = λ items key named has summary.
    c.check_kind.ensures.checked items key (record { named = named; has_stat = has; known = sym c.kind_of_mode.ensures ∙ c.in-Some.is }) summary
