use Rattle.btr_check_references.proofs.Imports.{◌∙◌, List, length, ap, sym, subst, length-replicate, NodeState, Unmet, AreNodeRanges, state_in}
use Rattle.btr_check_references.proofs.Blocks.{first_states, ranges_apart}
use Rattle.btr_check_references.proofs.node_table.NodeMap.new.Goals as goal

pub invariant_of-result : goal.invariant_of-result
invariant_of-result c = record {
  placed = subst (AreNodeRanges c.in_ok-ranges.ranges.items) (sym (ap length c.in_ok-states.ensures ∙ length-replicate c.in_ok-ranges.total Unmet))
      (ranges_apart c.args.spans.now c.in_ok-ranges.ranges.items c.in_ok-ranges.total c.requires c.in_ok-ranges.ensures);
}

pub returns : goal.returns
returns c = λ b.
    ap (λ (states : List NodeState). state_in c.in_ok-ranges.ranges.items states b) c.in_ok-states.ensures ∙ first_states c.args.spans.now c.in_ok-ranges.ranges.items c.in_ok-ranges.total c.in_ok-ranges.ensures b
