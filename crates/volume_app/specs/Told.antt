-- What `inspect` tells of a Btrfs volume.
use Rattle.std.specs.Prelude.{ℕ, ◌/◌, Option}
use Rattle.std.specs.Option.{option_map}
use Rattle.reiser_volume.specs.outside.History.{Image}
use Rattle.btr_reader.specs.btr_super.declared.superblock.Super.{Super}
use Rattle.btr_reader.specs.Image.{saved_image}
use Rattle.btr_reader.specs.Parts.{own_super, own_map}
use Rattle.volume_app.specs.declared.summary.Summary.{Summary}

-- the length of the saved image in blocks, if there is one
abbrev pub image_length : Image → Option ℕ
image_length image = option_map (λ f. f.blocks) (saved_image image (own_super image) (own_map image))

-- what is told, by the superblock and the length of the saved image
abbrev pub summary_with : Super → Option ℕ → Summary
summary_with s length =
    record {
      fsid = s.fsid;
      blocks = s.total_bytes / 4096;
      generation = s.generation;
      nodesize = s.nodesize;
      label = s.label;
      image = length;
    }

abbrev pub summary_of : Image → Summary
summary_of image = summary_with (own_super image) (image_length image)
