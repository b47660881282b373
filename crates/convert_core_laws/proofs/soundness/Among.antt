-- The trees of a recount: which are among them, and what holds of all.
use Rattle.convert_core_laws.proofs.Imports.{List, ◌∷◌, All-cons, All-map, All, Contains, TreeOn, all_trees, Making, NamedTree, TreeRoots, named_extents, named_in, named_trees, TreeNode, NewTree, super_for, named_on, recount_for, in_map, contains_tail, Image}
use Rattle.convert_core_laws.proofs.reading.Named.{every_named, is_named}

module _ (image other : Image) (m : Making) (r : TreeRoots) (nodes : List TreeNode) where
  -- the trees by these names
  abbrev pub tree_in : NewTree → TreeOn
  tree_in t = named_on other (super_for m r nodes) (named_in image other m r t)

  abbrev pub extents_in : TreeOn
  extents_in = named_on other (super_for m r nodes) (named_extents m r nodes)

  -- a tree with a root item is one of all
  pub rooted_there : (t : NamedTree) → Contains (named_trees image other m r nodes) t → Contains (all_trees (recount_for image other m r nodes)) (named_on other (super_for m r nodes) t)
  rooted_there t h =
      contains_tail (named_on other (super_for m r nodes) t) (recount_for image other m r nodes).chunk_tree ((recount_for image other m r nodes).root_tree ∷ (recount_for image other m r nodes).others)
      (contains_tail (named_on other (super_for m r nodes) t) (recount_for image other m r nodes).root_tree (recount_for image other m r nodes).others
      (in_map (named_on other (super_for m r nodes)) (named_trees image other m r nodes) t h))

  pub tree_there : (t : NewTree) → Contains (all_trees (recount_for image other m r nodes)) (tree_in t)
  tree_there t = rooted_there (named_in image other m r t) (is_named image other m r nodes t)

  -- what holds of the extent tree and of each of the list holds of all with a root item
  pub others_all : (P : TreeOn → Type 0) → P extents_in → ((t : NewTree) → P (tree_in t)) → All P (recount_for image other m r nodes).others
  others_all P extents each =
      All-map P (named_on other (super_for m r nodes)) (named_trees image other m r nodes)
      (every_named image other m r nodes (λ (x : NamedTree). P (named_on other (super_for m r nodes) x)) extents each)

  -- with the chunk tree and the root tree, it holds of all
  pub trees_all : (P : TreeOn → Type 0) → P (recount_for image other m r nodes).chunk_tree → P (recount_for image other m r nodes).root_tree → P extents_in → ((t : NewTree) → P (tree_in t))
      → All P (all_trees (recount_for image other m r nodes))
  trees_all P chunk root extents each =
      All-cons P (recount_for image other m r nodes).chunk_tree ((recount_for image other m r nodes).root_tree ∷ (recount_for image other m r nodes).others) chunk
      (All-cons P (recount_for image other m r nodes).root_tree (recount_for image other m r nodes).others root (others_all P extents each))
