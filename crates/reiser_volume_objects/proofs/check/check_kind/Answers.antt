use Rattle.reiser_volume_objects.proofs.Imports.{◌∙◌, sym}
use Rattle.reiser_volume_objects.proofs.Checking.{refused_items, refused_size, refused_overlap, in_order}
use Rattle.reiser_volume_objects.proofs.check.check_kind.Goals as goal

pub returns-then-not-fits_kind-clause-checked : goal.returns-then-not-fits_kind-clause-checked
returns-then-not-fits_kind-clause-checked c = λ items key known summary root_block.
    refused_items items key c.args.stat.now c.args.kind c.args.object.now c.damaged.result root_block known summary (sym c.fits_kind.ensures ∙ c.if-not-fits_kind.true) c.damaged.ensures

pub returns-then-not-fits_size-clause-checked : goal.returns-then-not-fits_size-clause-checked
returns-then-not-fits_size-clause-checked c = λ items key known summary root_block.
    refused_size items key c.args.stat.now c.args.kind c.damaged-then-not-fits_size.result root_block known (sym c.fits_size.ensures ∙ c.if-not-fits_size.true) c.damaged-then-not-fits_size.ensures

pub returns-in-Some-clause-checked : goal.returns-in-Some-clause-checked
returns-in-Some-clause-checked c = λ items key known summary root_block.
    refused_overlap items key c.args.stat.now c.args.kind c.args.object.now c.in-Some.leaf c.damaged-in-Some.result root_block known summary c.in-Some.is c.damaged-in-Some.ensures

pub returns-in-None-clause-checked : goal.returns-in-None-clause-checked
returns-in-None-clause-checked c = λ items key known summary.
    in_order items key c.args.stat.now c.args.kind c.args.object.now known summary (sym c.fits_kind.ensures ∙ c.if-not-fits_kind.false) (sym c.fits_size.ensures ∙ c.if-not-fits_size.false) c.in-None.is
