-- Where a walker over nodes stands.
use Rattle.std.specs.Prelude.{◌≡◌, ℕ, ◌+◌, ◌*◌, ◌≤◌, List, [], ◌∷◌, ◌++◌, length, Option, Some, None, Contains}
use Rattle.btr_node.specs.outside.History.{Image}
use Rattle.btr_node.specs.refusals.declared.answer.BtrAnswer.{BtrAnswer}
use Rattle.btr_node.specs.refusals.declared.answer.BtrAnswer.TheVariants.{Refused, Fault, Memory}
use Rattle.btr_reader_walk.specs.declared.map.MapRange.{MapRange}
use Rattle.btr_reader_walk.specs.declared.node_walker.NodeWalker.{NodeWalker}
use Rattle.btr_reader_walk.specs.declared.tree.NodeEntry.{NodeEntry}
use Rattle.btr_reader_walk.specs.Map.{node_at}
use Rattle.btr_reader_walk.specs.Nodes.{damages_at, refusals_at, nodes_from}
use Rattle.btr_reader_walk.specs.Stack.{fan_out, stacked, stack_weight}

-- the nodes that it meets from here on, where it opens each
abbrev pub ahead : Image → List MapRange → NodeWalker → List NodeEntry
ahead image ranges w = stacked (nodes_from image ranges w.tree w.owners) w.pending.items

-- the stack has room for the children of a node
abbrev pub HasRoom : NodeWalker → NodeEntry → Type 0
HasRoom w e = length w.pending.items + e.pointer.level * fan_out w.tree.form.nodesize ≤ w.tree.root.level * fan_out w.tree.form.nodesize

-- at most how many nodes may still come, whatever the source gives
abbrev pub nodes_fuel : NodeWalker → ℕ
nodes_fuel w = stack_weight w.tree.form.nodesize w.pending.items

-- the next node was taken, and what is below it is not ahead any more; or there is none
abbrev pub Takes : Option NodeEntry → NodeWalker → NodeWalker → Image → List MapRange → Type 0
Takes (Some e) w v image ranges = ahead image ranges w ≡ nodes_from image ranges w.tree w.owners e ++ ahead image ranges v
Takes None w v image ranges = ahead image ranges w ≡ []

-- what is below a node comes next
abbrev pub GoesBelow : NodeEntry → NodeWalker → NodeWalker → Image → List MapRange → Type 0
GoesBelow e w v image ranges = nodes_from image ranges w.tree w.owners e ++ ahead image ranges w ≡ e ∷ ahead image ranges v

-- a node that breaks no rule was opened, and its bytes stand
pub record Opens (e : NodeEntry) (w v : NodeWalker) (image : Image) (ranges : List MapRange) : Type 0 where
  pub sound : damages_at image ranges w.tree w.owners e.pointer ≡ []
  pub bytes : v.bytes.items ≡ node_at image ranges w.tree.form.nodesize e.pointer.address
  pub below : GoesBelow e w v image ranges

-- a node breaks this rule, and nothing is below it; or a call failed
abbrev pub Refuses : NodeEntry → NodeWalker → NodeWalker → Image → List MapRange → BtrAnswer → Type 0
Refuses e w v image ranges (Refused r) = Contains (refusals_at image ranges w.tree w.owners e.pointer) r × GoesBelow e w v image ranges
Refuses e w v image ranges Fault = Unit {0}
Refuses e w v image ranges Memory = ⊥
