use Rattle.reiser_volume_contents.proofs.Imports.{List, ℕ, ◌-◌, ◌∙◌, ap, body_at, body_stands}
use Rattle.reiser_volume_contents.proofs.object_items.ObjectItems.body.Goals as goal

pub returns : goal.returns
returns c =
    let l = c.args.self.now.leaf in
    body_stands l.no l.block.bytes l.at.next c.body.result.now c.requires.stands (c.body.ensures ∙ ap (λ (b : List ℕ). body_at b (l.at.next - 1)) c.of.ensures)
