use Rattle.btr_reader.proofs.Imports.{List, subst, MapRange, found, image_in, saved_refusals, ReadsImage}
use Rattle.btr_reader.proofs.volume.Btrfs.read_saved.Goals as goal

pub returns-clause-reads : goal.returns-clause-reads
returns-clause-reads g c = λ tells image is.
    subst (λ (ranges : List MapRange). ReadsImage ranges (image_in (found image ranges c.args.tree)) (saved_refusals image ranges c.args.tree) c.saved_map.result) c.as_slice.ensures.value
    (c.saved_map.ensures.reads tells image is)
