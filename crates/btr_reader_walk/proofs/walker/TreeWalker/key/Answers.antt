use Rattle.btr_reader_walk.proofs.Imports.{◌≡◌, ◌-◌, ℕ, List, get_or, ◌∙◌, ap, Item, items_in}
use Rattle.btr_reader_walk.proofs.walker.TreeWalker.key.Goals as goal

pub returns : goal.returns
returns c = λ i stands.
    let other : Item = (i.key, i.body) in
    let at : ℕ = c.args.self.now.at.next - 1 in
    let there : get_or c.of.result at other ≡ other =
    ap (λ (items : List Item). get_or items at other) (c.of.ensures ∙ ap (λ (bytes : List ℕ). items_in bytes) c.bytes.ensures) ∙ stands.item other in
    c.key.ensures other ∙ ap (λ (x : Item). x.0) there
