use Rattle.reiser_volume_names.proofs.Imports.{◌<◌, ◌∙◌, List, length, get_or, ap, arith, Naming, contains, same_key, IsGoodName}
use Rattle.reiser_volume_names.proofs.Lists.{each_more}
use Rattle.reiser_volume_names.proofs.one.check_names.Goals as goal

pub loop-naming-preserved : goal.loop-naming-preserved
loop-naming-preserved c =
    let within : c.loop-naming.naming-index < length c.args.objects.now.namings.items = omega (arith, c.loop-naming-test.true, ap length c.deref-naming-items.ensures.value) in
    each_more (IsGoodName (contains same_key c.args.named.now)) c.args.objects.now.namings.items c.loop-naming.naming-index c.naming-item.result c.loop-naming.invariant within (c.naming-item.is ∙ ap (λ (l : List Naming). get_or l c.loop-naming.naming-index c.naming-item.result) c.deref-naming-items.ensures.value) c.in_ok-check_name.ensures.good
