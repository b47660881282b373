use Rattle.btr_tree.proofs.Imports.{ℕ, ◌+◌, sym, subst, arith, div_ceil}
use Rattle.btr_tree.proofs.Sizes.{IsUnderWay, way_begins, way_goes_on, way_ends, way_within, all_few}
use Rattle.btr_tree.proofs.levels.count_nodes.Goals as goal

pub loop-level-init : goal.loop-level-init
loop-level-init c = way_begins c.args.fan_out c.args.leaves c.requires.some c.requires.few

pub overflow_add-nodes : goal.overflow_add-nodes
overflow_add-nodes c =
    let more = way_goes_on c.args.fan_out c.args.leaves c.loop-level.nodes c.loop-level.level c.requires.wide c.loop-level.invariant c.loop-level-test.true in
    omega (
      arith,
      way_within c.args.fan_out c.args.leaves (c.loop-level.nodes + div_ceil c.loop-level.level c.args.fan_out) (div_ceil c.loop-level.level c.args.fan_out) more,
      all_few c.args.fan_out c.args.leaves c.requires.wide c.requires.some c.requires.few,
      c.div_ceil-level.ensures,
      c.requires.few,
    )

pub loop-level-preserved : goal.loop-level-preserved
loop-level-preserved c =
    subst (λ (above : ℕ). IsUnderWay c.args.fan_out c.args.leaves (c.loop-level.nodes + above) above) (sym c.div_ceil-level.ensures)
    (way_goes_on c.args.fan_out c.args.leaves c.loop-level.nodes c.loop-level.level c.requires.wide c.loop-level.invariant c.loop-level-test.true)

pub returns-clause-exact : goal.returns-clause-exact
returns-clause-exact c = way_ends c.args.fan_out c.args.leaves c.loop-level.nodes c.loop-level.level c.loop-level.invariant (omega arith)

pub returns-clause-bound : goal.returns-clause-bound
returns-clause-bound c =
    omega (arith, way_within c.args.fan_out c.args.leaves c.loop-level.nodes c.loop-level.level c.loop-level.invariant, all_few c.args.fan_out c.args.leaves c.requires.wide c.requires.some c.requires.few)
