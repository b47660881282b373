use Rattle.convert_trees.proofs.Imports.{◌≡◌, ◌++◌, drop, if◌then◌else◌, inserted}
use Rattle.convert_trees.proofs.roots.with_root.Given as goal

abbrev pub invariant-loop-other : goal.invariant-loop-other
invariant-loop-other l =
    l.list ++ (if l.waits then inserted (λ t. t.tree) l.root (drop l.other-index l.roots) else drop l.other-index l.roots) ≡ inserted (λ t. t.tree) l.root l.roots
