-- The links of a tree of files, and the ways over them.
use Rattle.std.specs.Prelude.{◌≡◌, ◌≢◌, ◌==◌, Bool, ◌&&◌, List, [], ◌∷◌, Contains, AllPairs}
use Rattle.fs_rows.specs.Rows.{NameList}
use Rattle.fs_paths.specs.declared.node_link.NodeLink.{NodeLink}
use Rattle.fs_paths.specs.declared.node.NodeId.{NodeId}

abbrev pub same_node : NodeId → NodeId → Bool
same_node a b = (a.space == b.space) && (a.number == b.number)

-- from one object to another by the names of a path
abbrev pub Leads : List NodeLink → NodeId → NameList → NodeId → Type 0
Leads links from [] to = from ≡ to
Leads links from (name ∷ names) to = (link : NodeLink) × Contains links link × (link.dir ≡ from) × (link.name ≡ name) × Leads links link.target names to

-- The links make a tree: none names the root, none of two that name the same object names a directory, and no directory
-- has one name twice. An object that has no links of its own may have several names.
pub record AreNamedOnce (links : List NodeLink) (root : NodeId) : Type 0 where
  pub not_root : (link : NodeLink) → Contains links link → link.target ≢ root
  pub directories : AllPairs (λ a b. a.target ≡ b.target → (link : NodeLink) → Contains links link → link.dir ≢ a.target) links
  pub names : AllPairs (λ a b. a.dir ≡ b.dir → a.name ≢ b.name) links
