-- Trees whose nodes lie in none of some blocks.
use Rattle.rollback_core.proofs.Imports.{◌≡◌, ⊎_elim, inl, ℕ, Bool, false, List, [], ◌++◌, Contains, Option, Some, None, refl, subst, arith, FS_TREE, Image, chunk_tree, root_tree, tree_of, own_map, own_super, Super, MapRange, NodePointer, Tree, AreNodesApart, IsVolumeApart, boot_map, root_of, saved_tree, contains_cases, IsInUse, chunk_node, file_part, file_trees, named_by, numbered, root_node, tree_if, file_tree_among, nodes_apart, saved_tree_among}

-- In none of the blocks lies the superblock, or a node of the chunk tree, the root tree, the file tree or the saved image's tree.
pub record AreTreesApart (test : ℕ → Bool) (disk : Image) : Type 0 where
  pub superblock : test 16 ≡ false
  pub chunks : AreNodesApart test disk (boot_map (own_super disk)) (chunk_tree (own_super disk))
  pub roots : AreNodesApart test disk (own_map disk) (root_tree (own_super disk))
  pub files : (p : NodePointer) → root_of disk FS_TREE ≡ Some p → AreNodesApart test disk (own_map disk) (tree_of (own_super disk) FS_TREE p)
  pub saved : (p : NodePointer) (number : ℕ) (q : NodePointer) → root_of disk FS_TREE ≡ Some p → saved_tree disk p ≡ Some number → root_of disk number ≡ Some q → AreNodesApart test disk (own_map disk) (tree_of (own_super disk) number q)

pub of_volume : (test : ℕ → Bool) (disk : Image) → IsVolumeApart test disk → AreTreesApart test disk
of_volume test disk apart = record { superblock = apart.superblock; chunks = apart.chunks; roots = apart.roots; files = apart.files; saved = apart.saved }

-- nothing in a list without elements
nothing_in : {X : Type 0} (x : X) → Contains [] x → ⊥
nothing_in x among = omega (arith, among.1)

module _ (disk : Image) where
  abbrev s : Super
  s = own_super disk

  abbrev ranges : List MapRange
  ranges = own_map disk

  -- what holds of the file tree, and of the saved image's tree, holds of each of the two
  module _ (P : Tree → Type 0) (file : (p : NodePointer) → root_of disk FS_TREE ≡ Some p → P (tree_of s FS_TREE p))
      (saved : (p : NodePointer) (number : ℕ) (q : NodePointer) → root_of disk FS_TREE ≡ Some p → saved_tree disk p ≡ Some number → root_of disk number ≡ Some q → P (tree_of s number q)) (t : Tree) where
    by_root : (p : NodePointer) (number : ℕ) (o : Option NodePointer) → root_of disk FS_TREE ≡ Some p → saved_tree disk p ≡ Some number → root_of disk number ≡ o → Contains (tree_if s number o) t → P t
    by_root p number None root named at among = absurd (nothing_in t among)
    by_root p number (Some q) root named at among =
        ⊎_elim (λ (same : tree_of s number q ≡ t). subst P same (saved p number q root named at)) (λ none. absurd (nothing_in t none)) (contains_cases t (tree_of s number q) [] among)

    by_number : (p : NodePointer) (o : Option ℕ) → root_of disk FS_TREE ≡ Some p → saved_tree disk p ≡ o → Contains (numbered disk s ranges o) t → P t
    by_number p None root named among = absurd (nothing_in t among)
    by_number p (Some number) root named among = by_root p number (root_of disk number) root named refl among

    by_file : (o : Option NodePointer) → root_of disk FS_TREE ≡ o → Contains (tree_if s FS_TREE o ++ named_by disk s ranges o) t → P t
    by_file None root among = absurd (nothing_in t among)
    by_file (Some p) root among =
        ⊎_elim (λ (same : tree_of s FS_TREE p ≡ t). subst P same (file p root)) (λ later. by_number p (saved_tree disk p) root refl later) (contains_cases t (tree_of s FS_TREE p) (named_by disk s ranges (Some p)) among)

    of_either : Contains (file_trees disk s ranges) t → P t
    of_either among = by_file (root_of disk FS_TREE) refl among

  module _ (test : ℕ → Bool) where
    pub file_tree_apart : AreTreesApart test disk → (t : Tree) → Contains (file_trees disk s ranges) t → AreNodesApart test disk ranges t
    file_tree_apart apart t among = of_either (λ tree. AreNodesApart test disk ranges tree) apart.files apart.saved t among

    module _ (superblock : test 16 ≡ false) (unused : (b : ℕ) → IsInUse disk b → test b ≡ false) where
      in_files : (t : Tree) → Contains (file_trees disk s ranges) t → AreNodesApart test disk ranges t
      in_files t among = nodes_apart test ranges disk t (λ b holds. unused b (file_part (record { tree = t; among = among; holds = inl holds })))

      pub of_use : AreTreesApart test disk
      of_use = record {
        superblock = superblock;
        chunks = nodes_apart test (boot_map s) disk (chunk_tree s) (λ b holds. unused b (chunk_node holds));
        roots = nodes_apart test ranges disk (root_tree s) (λ b holds. unused b (root_node holds));
        files = λ p root. in_files (tree_of s FS_TREE p) (file_tree_among disk p root);
        saved = λ p number q root named at. in_files (tree_of s number q) (saved_tree_among disk p number q root named at);
      }
