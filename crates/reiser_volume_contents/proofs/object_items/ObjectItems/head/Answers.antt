use Rattle.reiser_volume_contents.proofs.Imports.{List, ℕ, ◌-◌, sym, ◌∙◌, ap, head_at, head_place, head_stands}
use Rattle.reiser_volume_contents.proofs.object_items.ObjectItems.head.Goals as goal

pub returns : goal.returns
returns c =
    let l = c.args.self.now.leaf in
    head_stands l.no l.block.bytes l.at.next c.head.result c.requires.stands (ap (λ (b : List ℕ). head_at b (head_place (l.at.next - 1))) (sym c.of.ensures) ∙ c.head.ensures)
