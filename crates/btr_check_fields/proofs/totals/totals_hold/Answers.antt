use Rattle.btr_check_fields.proofs.Imports.{Decides-at}
use Rattle.btr_check_fields.proofs.TotalRules.{decides_totals}
use Rattle.btr_check_fields.proofs.totals.totals_hold.Goals as goal

pub returns : goal.returns
returns c = λ items others read finds.
    Decides-at _ _ c.all_passed.ensures
    (decides_totals c.args.sup.now c.args.chunks.now items others c.args.groups.now _ _ _ _ read (c.is_one.ensures c.args.sup.now others finds) c.used_is.ensures c.tells_volume.ensures c.stripes_are.ensures)
