use Rattle.btr_reader_walk.proofs.Imports.{◌≡◌, ◌<◌, true, ◌⊎◌, List, length, sym, ◌∙◌, ap, arith, inl, inr, Item, items_in}
use Rattle.btr_reader_walk.proofs.Contents.{leaf_bad, leaf_empty, leaf_right}
use Rattle.btr_reader_walk.proofs.node.check_leaf.Goals as goal
use Rattle.btr_reader_walk.proofs.node.check_leaf.Goals.{else-count-eq0-via-then-count-eq0+else-not-bare, else-count-eq0-via-else-count-eq0}

pub returns-then-not-bare-clause-damages : goal.returns-then-not-bare-clause-damages
returns-then-not-bare-clause-damages c =
    leaf_empty c.args.want.now c.args.bare c.args.bytes.now c.requires.leaf c.if-not-bare.true
    (ap (λ (items : List Item). length items) (sym c.in-Ok.ensures.items) ∙ (sym c.count-count.ensures ∙ c.if-count-eq0.true))

pub returns-clause-damages : goal.returns-clause-damages
returns-clause-damages c =
    let n : c.count-count.result ≡ length (items_in c.args.bytes.now) = c.count-count.ensures ∙ ap (λ (items : List Item). length items) c.in-Ok.ensures.items in
    let some : (c.args.bare ≡ true) ⊎ (0 < length (items_in c.args.bytes.now)) =
    elim c.else-count-eq0.branch [ else-count-eq0-via-then-count-eq0+else-not-bare w ↦ inl w.if-not-bare.false | else-count-eq0-via-else-count-eq0 w ↦ inr (omega (arith, n, w.if-count-eq0.false)) ] in
    leaf_right c.args.want.now c.args.bare c.args.bytes.now c.requires.leaf c.in-Ok.ensures.damages some

pub returns-in-Err-clause-damages : goal.returns-in-Err-clause-damages
returns-in-Err-clause-damages c = leaf_bad c.args.want.now c.args.bare c.args.bytes.now c.in-Err.rule c.requires.leaf c.in-Err.ensures.damages
