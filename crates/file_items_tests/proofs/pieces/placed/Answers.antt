use Rattle.file_items_tests.proofs.Imports.{List, Bool, refl, ◌∙◌, ap, subst}
use Rattle.indexmap.specs.IndexMap.{keys}
use Rattle.outside.specs.History.{Image}
use Rattle.outside_mem.specs.Laws.{readable, kept_readable}
use Rattle.reiser_volume.specs.Opened.{IsOpened, links_in}
use Rattle.reiser_volume.specs.Volume.{IsAccepted}
use Rattle.unit_plan.specs.declared.counts.Counts.{Counts}
use Rattle.unit_plan.specs.declared.need.Need.{Need}
use Rattle.unit_plan.specs.Choice.{HasEnoughSpace, IsPlan}
use Rattle.unit_plan.specs.Needed.{need}
use Rattle.extent_pieces.proofs.Apart.{fits_plan}
use Rattle.file_items_tests.proofs.pieces.placed.Goals as goal

pub place-requires : goal.place-requires
place-requires c =
    let volume = c.in_ok-volume.volume in
    let found = c.in_ok-pieces.pieces in
    let o = c.plain-options.result in
    let image : Image = readable c.open.new.self in
    let accepted : IsAccepted image = c.in_ok-volume.ensures.accepted refl image refl in
    let opened : IsOpened volume image = c.in_ok-volume.ensures.opened refl image refl in
    let same = kept_readable c.open.new.self c.open-2.new.src c.in_ok-volume.ensures.kept in
    let used_is = c.bitmap.ensures ∙ opened.bitmap in
    let need_is = c.needed-need.ensures.exact ∙ ap (λ (counts : Counts). need counts o) c.counts.ensures in
    fits_plan image found o c.in-Ok.plan (record {
      keys = keys volume.named;
      sorted = record { accepted = accepted; are_keys = opened.are_keys; ascend = opened.ascends };
      links = links_in volume;
      found_ = c.in_ok-pieces.ensures.found refl image same accepted opened;
      enough =
          subst (λ (used : List Bool). HasEnoughSpace used (need found.counts o)) used_is
          (subst (λ (n : Need). HasEnoughSpace c.bitmap.result.now n) need_is c.in-Ok.ensures.enough);
      plan_ =
          subst (λ (used : List Bool). IsPlan used (need found.counts o) c.in-Ok.plan) used_is
          (subst (λ (n : Need). IsPlan c.bitmap.result.now n c.in-Ok.plan) need_is c.in-Ok.ensures.ok);
    })
