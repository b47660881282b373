-- The links of a tree have a list of paths.
use Rattle.rows_laws.proofs.Imports.{ℕ, zero, suc, ◌+◌, ◌≤◌, List, [], ◌∷◌, ◌++◌, map, length, get_or, ⊎_elim, arith, is_lt, cases_lt, get_or_default, IsPermutation-refl, ranks_by, path_cmp, NodeId, NodeLink, PathTo, AreNamedOnce, ArePaths}
use Rattle.fs_paths.specs.declared.path_found.PathFound.{PathFound}
use Rattle.fs_paths.specs.Places.{numbered}
use Rattle.fs_paths.specs.Spread.{FormTree, Reaches, children}
use Rattle.fs_paths.proofs.Arranging.{listed, path_total, reaches_sorted, tree_from_named}
use Rattle.fs_paths.proofs.Walks.{Walk, first, reaches, start, step}
use Rattle.rows_laws.proofs.Sorting.{sorted}

module _ (links : List NodeLink) (root : NodeId) where
  -- The walk goes on until each object was followed; there are no more paths than links, but for the root's.
  walked : FormTree links root → (left : ℕ) (found : List PathFound) (i : ℕ) → Walk links root found i → length links + 1 ≤ left + i → (all : List PathFound) × Reaches links root all
  walked tree zero found i walk enough = (found, reaches links root found i walk (λ more few. omega (arith, enough, more, few)) tree)
  walked tree (suc left) found i walk enough =
      let f : PathFound = get_or found i (first root) in
      ⊎_elim
      (λ more. walked tree left (found ++ children links f) (i + 1) (step found i f walk more (get_or_default found i f (first root) more)) (omega (arith, enough)))
      (λ not_more. (found, reaches links root found i walk (λ more few. omega (arith, not_more, more)) tree))
      (cases_lt i (length found))

  pub paths_there : AreNamedOnce links root → (list : List PathTo) × ArePaths links root list
  paths_there once =
      let tree = tree_from_named links root once in
      let all = walked tree (length links + 1) (first root ∷ []) 0 start (omega arith) in
      let s = sorted (λ f g. is_lt (path_cmp f.path g.path)) (ranks_by path_total (λ (f : PathFound). f.path)) all.0 in
      (map (numbered s.0) s.0, listed links root s.0 (reaches_sorted links links root (IsPermutation-refl links) all.0 s.0 s.1 all.1) s.2)
