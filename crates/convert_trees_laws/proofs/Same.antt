-- What is still to come of a stream is the same over an image with the same used blocks.
use Rattle.convert_steps.proofs.file_items.Unchanged.{ahead_same}
use Rattle.convert_steps.proofs.reiser_volume.Unchanged.{opened_same, same_volume}
use Rattle.convert_trees_laws.specs.Used.{ItemsByUsedBlocks}

pub items_by_used_blocks : ItemsByUsedBlocks
items_by_used_blocks stream volume pieces image other accepted opened same room =
    let v = same_volume image other accepted same room in
    record {
      accepted = v.accepted;
      opened = opened_same volume image other v opened;
      ahead_is = ahead_same stream volume pieces image other v.items;
    }
