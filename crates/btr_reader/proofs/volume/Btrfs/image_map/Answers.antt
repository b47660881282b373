use Rattle.btr_reader.proofs.volume.Btrfs.image_map.Goals as goal

pub returns-clause-reads : goal.returns-clause-reads
returns-clause-reads g c = λ tells image is volume. c.read_image.ensures.reads tells image is volume.roots
