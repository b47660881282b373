use Rattle.reiser_volume.proofs.Imports.{◌∙◌}
use Rattle.reiser_volume.proofs.volume.Volume.find_file.Goals as goal

pub returns-clause-marks : goal.returns-clause-marks
returns-clause-marks g c = λ tells image is accepted opened marked.
    let same = g.met.S.BlockSource.kept_blocks _ _ tells c.map_for_hint.ensures.kept ∙ is in
    c.put_mark.ensures.marks tells image same accepted opened marked
