use Rattle.btr_check_fields.proofs.Imports.{◌∙◌, ap, Decides-at, keeps_some_root}
use Rattle.btr_check_fields.proofs.RootRules.{decides_root}
use Rattle.btr_check_fields.proofs.root_items.is_root_item.Goals as goal

pub returns : goal.returns
returns c =
    Decides-at _ _ (c.keeps_some_root.ensures ∙ ap (keeps_some_root c.args.sup.now c.args.key.now) c.read.ensures) (decides_root c.args.sup.now c.args.key.now c.args.body.now)
