use Rattle.btr_tree.proofs.Imports.{◌≡◌, ℕ, ◌+◌, sym, subst, arith}
use Rattle.btr_tree.proofs.Sizes.{IsLevel, level_begins, level_goes_on, level_ends, level_past}
use Rattle.btr_tree.proofs.levels.nodes_at.Goals as goal

pub loop-init : goal.loop-init
loop-init c = level_begins c.args.fan_out c.args.leaves c.args.level c.requires.some

pub returns-then-nodes-le1 : goal.returns-then-nodes-le1
returns-then-nodes-le1 c = level_past c.args.fan_out c.args.leaves c.args.level c.loop.counter c.loop.nodes c.loop.invariant c.if-nodes-le1.true c.loop-test.true

pub loop-preserved : goal.loop-preserved
loop-preserved c =
    subst (IsLevel c.args.fan_out c.args.leaves c.args.level (c.loop.counter + 1)) (sym c.div_ceil-nodes.ensures)
    (level_goes_on c.args.fan_out c.args.leaves c.args.level c.loop.counter c.loop.nodes c.requires.wide c.loop.invariant (omega arith) c.loop-test.true (omega arith))

pub returns : goal.returns
returns c =
    let end : c.loop.counter ≡ c.args.level = omega arith in
    level_ends c.args.fan_out c.args.leaves c.args.level c.loop.nodes (subst (λ (i : ℕ). IsLevel c.args.fan_out c.args.leaves c.args.level i c.loop.nodes) end c.loop.invariant)
