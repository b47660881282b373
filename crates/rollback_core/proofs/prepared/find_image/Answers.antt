use Rattle.rollback_core.proofs.Imports.{None, Ok, refl, image_refusals, IsAmong, of_disk, none_read, read_of_disk, way_sound, btrfs_cause, handed_on}
use Rattle.rollback_core.proofs.Imaged.{map_on, leads_with}
use Rattle.rollback_core.proofs.Reading.{way_refuses}
use Rattle.rollback_core.proofs.prepared.find_image.Goals as goal

pub returns-in-Some-clause-read : goal.returns-in-Some-clause-read
returns-in-Some-clause-read g c = λ tells image is on.
    let opened = on.opened.opened in
    let told = rw c.in-Some.is at c.in_ok-way.ensures.reads tells image is on.opened in
    map_on image _ _ opened c.in-Some.map told (leads_with image on.format on.log opened.sound (way_sound image _ _ opened c.in-Some.map told))

pub returns-in-None-clause-read : goal.returns-in-None-clause-read
returns-in-None-clause-read g c = λ tells image is on.
    let opened = on.opened.opened in
    let told = rw c.in-None.is at c.in_ok-way.ensures.reads tells image is on.opened in
    (leads_with image on.format on.log opened.sound (read_of_disk image _ _ opened (Ok None) told).1, none_read image _ _ opened told)

pub returns-in_err-way-clause-read : goal.returns-in_err-way-clause-read
returns-in_err-way-clause-read g c = λ tells image is on.
    let own = of_disk image _ _ (λ s ranges. IsAmong (image_refusals image s ranges) c.in_err-way.field-0.0) on.opened.opened (c.in_err-way.ensures.reads tells image is on.opened) in
    handed_on c.from_residual.result _ _ _ c.from_residual.ensures.1 (way_refuses image c.in_err-way.field-0.0 on.format on.log on.opened.opened.sound own)

pub returns-in_err-way-clause-cause : goal.returns-in_err-way-clause-cause
returns-in_err-way-clause-cause g c = btrfs_cause c.from_residual.result c.in_err-way.field-0.0 _ _ _ refl c.from_residual.ensures.1 c.in_err-way.ensures.cause
