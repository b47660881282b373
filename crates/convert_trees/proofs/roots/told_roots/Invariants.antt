use Rattle.convert_trees.proofs.Imports.{◌≡◌, map, drop, with_all, told_root, told_roots}
use Rattle.convert_trees.proofs.roots.told_roots.Given as goal

abbrev pub invariant-loop-one : goal.invariant-loop-one
invariant-loop-one l = with_all (λ t. t.tree) l.list (map told_root (drop l.one-index l.placed)) ≡ told_roots l.placed l.fn.extents
