use Rattle.reiser_walk.proofs.Imports.{List, ℕ, ◌-◌, ◌∙◌, ap, body_at}
use Rattle.reiser_walk.proofs.Standing.{body_stands}
use Rattle.reiser_walk.proofs.walker.Walker.body.Goals as goal

pub returns : goal.returns
returns c =
    let l = c.args.self.now.leaf in
    body_stands l.no l.block.bytes l.at.next c.body.result.now c.requires.stands (c.body.ensures ∙ ap (λ (b : List ℕ). body_at b (l.at.next - 1)) c.of.ensures)
