use Rattle.reiser_volume.proofs.Imports.{◌∙◌, sym, ap, ObjectStat, kind_of_mode, volume_items}
use Rattle.reiser_volume.proofs.Holding.{none_some, known_stat}
use Rattle.reiser_volume.proofs.rows.known.Goals as goal

pub returns-in_default-clause-known : goal.returns-in_default-clause-known
returns-in_default-clause-known c = λ image of.
    none_some _ (of.accepted.objects.each c.args.key of.named).stat (c.in_default.ensures (volume_items image) of.opened.noted) (of.accepted.objects.each c.args.key of.named).has_stat

pub returns-in_default-kind_of_mode-clause-known : goal.returns-in_default-kind_of_mode-clause-known
returns-in_default-kind_of_mode-clause-known c = λ image of.
    let o = of.accepted.objects.each c.args.key of.named in
    let stat = known_stat image c.args.volume.now c.args.key of c.in-Some.stat (c.in-Some.ensures (volume_items image) of.opened.noted) in
    none_some _ o.kind c.in_default-kind_of_mode.ensures (sym (ap (λ (s : ObjectStat). kind_of_mode s.fields.mode) stat) ∙ o.known)

pub returns-clause-known : goal.returns-clause-known
returns-clause-known c = λ image of. record { stat = sym (c.in-Some.ensures (volume_items image) of.opened.noted); kind = sym c.in-Some-kind_of_mode.ensures }
