use Rattle.fs_paths.proofs.Imports.{◌≡◌, map, take, insert_all, same_node}
use Rattle.fs_paths.proofs.reach.follow.Given as goal

abbrev pub invariant-loop-link : goal.invariant-loop-link
invariant-loop-link l = l.queue.keys ≡ insert_all same_node l.fn.queue.keys (map (λ link. link.target) (take l.link-index l.link-items))
