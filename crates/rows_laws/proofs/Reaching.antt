-- What a root reaches over links can be told.
use Rattle.rows_laws.proofs.Imports.{ℕ, zero, suc, ◌+◌, ◌≤◌, Bool, List, [], ◌∷◌, length, get_or, ⊎_elim, arith, cases_lt, get_or_default, NodeId, NodeLink, same_node, AreReached}
use Rattle.std.specs.List.{list_any}
use Rattle.fs_paths.specs.Queue.{followed, waiting}
use Rattle.fs_paths.proofs.Queues.{Queue, follow_fewer, queue_is, start, step}

module _ (links : List NodeLink) (root : NodeId) where
  -- a test of what the root reaches
  abbrev Told : Type 0
  Told = (has : NodeId → Bool) × AreReached links root has

  abbrev in_queue : List NodeId → NodeId → Bool
  in_queue queue node = list_any (same_node node) queue

  -- The queue goes on until each object in it was followed; each that is new is one that waited.
  queued : (left : ℕ) (queue : List NodeId) (i : ℕ) → Queue links root queue i → waiting links queue + length queue ≤ left + i → Told
  queued zero queue i walk enough = (in_queue queue, queue_is links root queue i walk (omega (arith, enough)))
  queued (suc left) queue i walk enough =
      let dir : NodeId = get_or queue i root in
      let fewer = follow_fewer links queue dir in
      ⊎_elim (λ more. queued left (followed links queue dir) (i + 1) (step queue i dir walk more (get_or_default queue i dir root more)) (omega (arith, enough, fewer)))
      (λ not_more. (in_queue queue, queue_is links root queue i walk (omega (arith, not_more)))) (cases_lt i (length queue))

  pub reached_there : Told
  reached_there = queued (waiting links (root ∷ []) + 1) (root ∷ []) 0 start (omega arith)
