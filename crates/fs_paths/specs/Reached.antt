-- What the root reaches over links, whatever they are.
use Rattle.std.specs.Prelude.{◌≡◌, ℕ, zero, suc, Bool, true, List, Contains}
use Rattle.fs_paths.specs.declared.node_link.NodeLink.{NodeLink}
use Rattle.fs_paths.specs.declared.node.NodeId.{NodeId}

-- The object is reached from the root by so many links, one after the other.
abbrev pub IsReachedBy : List NodeLink → NodeId → ℕ → NodeId → Type 0
IsReachedBy links root zero node = node ≡ root
IsReachedBy links root (suc steps) node = (link : NodeLink) × Contains links link × (link.target ≡ node) × IsReachedBy links root steps link.dir

-- The object is the root, or is reached from it by links.
abbrev pub IsReached : List NodeLink → NodeId → NodeId → Type 0
IsReached links root node = (steps : ℕ) × IsReachedBy links root steps node

-- exactly the objects that the root reaches, as a test
pub record AreReached (links : List NodeLink) (root : NodeId) (has : NodeId → Bool) : Type 0 where
  pub sound : (node : NodeId) → has node ≡ true → IsReached links root node
  pub whole : (node : NodeId) → IsReached links root node → has node ≡ true
