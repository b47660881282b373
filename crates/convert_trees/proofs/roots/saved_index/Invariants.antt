use Rattle.convert_trees.proofs.Imports.{◌≡◌, ◌≤◌, ◌+◌, count_by, take, Image, root, same_key, IsOpened, links_in}
use Rattle.convert_trees.proofs.roots.saved_index.Given as goal

abbrev pub invariant-loop-i : goal.invariant-loop-i
invariant-loop-i l = record {
  few : l.index ≤ 2 + l.i;
  counted : (image : Image) → IsOpened l.volume image → l.index ≡ 2 + count_by (λ n. same_key n.dir root) (take l.i (links_in l.volume));
}
