use Rattle.btr_reader_walk.proofs.Imports.{◌≡◌, ℕ, List, length, ◌∙◌, ap, arith, Item, items_in}
use Rattle.btr_reader_walk.proofs.Opening.{few_items}
use Rattle.btr_reader_walk.proofs.walker.TreeWalker.enter.Goals as goal

pub returns-then-p-eq0-clause-few : goal.returns-then-p-eq0-clause-few
returns-then-p-eq0-clause-few c = λ leaf.
    let w = c.args.self.now in
    let bytes : List ℕ = w.nodes.bytes.items in
    let count : c.count-left.result ≡ length (items_in bytes) =
    c.count-left.ensures ∙ ap (λ (items : List Item). length items) (c.of.ensures ∙ ap (λ (b : List ℕ). items_in b) c.bytes.ensures) in
    omega (arith, count, few_items bytes (c.requires.layout leaf), w.nodes.buffer)
