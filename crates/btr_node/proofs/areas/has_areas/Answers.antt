use Rattle.btr_node.proofs.Imports.{◌*◌, length, sym, ◌∙◌, ITEM_SIZE, item_layout, records_in}
use Rattle.btr_node.proofs.Apart.{descends-has_areas}
use Rattle.btr_node.proofs.areas.has_areas.Goals as goal

pub returns-then-descends : goal.returns-then-descends
returns-then-descends c =
    let heads = records_in ITEM_SIZE item_layout c.args.count c.args.entries.now in
    c.if-descends.true
    ∙ sym (descends-has_areas (ITEM_SIZE * c.args.count) (length c.args.entries.now) heads (sym c.descends.ensures ∙ c.if-descends.true))
