use Rattle.file_items.proofs.Imports.{◌∙◌, on_ok_weaker, keys, links_in}
use Rattle.file_items.proofs.Referring.{refs_added}
use Rattle.file_items.proofs.object_names.ObjectNames.add_items.Goals as goal

pub returns : goal.returns
returns c = λ image known key at.
    let gathered = c.in_ok-gather.ensures image known key at in
    on_ok_weaker c.add_joined-2.result
    (refs_added (keys c.args.volume.now.named) (links_in c.args.volume.now) key c.inode-ino.result c.order_far.new.self.refs c.gather.new.self.far c.order_far.new.self.extrefs c.args.items.now c.add_joined.new.self c.add_joined-2.new.self
    (c.inode-ino.ensures (keys c.args.volume.now.named) key known.numbers_are at) (c.in_ok-order_far.ensures.refs ∙ gathered.refs) gathered.far c.in_ok-order_far.ensures.extrefs c.in_ok-add_joined.ensures)
    c.add_joined-2.ensures
