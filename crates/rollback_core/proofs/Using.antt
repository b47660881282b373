-- Which blocks are in use depends on the superblock and the nodes of trees alone.
use Rattle.rollback_core.proofs.Imports.{◌≡◌, ◌↔◌, ⊎_elim, inl, inr, ℕ, Bool, true, false, not, List, ◌++◌, length, Contains, Option, Some, None, refl, sym, ◌∙◌, ap, subst, bytes_eq, option_and_then, bytes_eq-Decides, FS_TREE, Image, block_at, items_at, pointer_in, saved_location, tree_number, boot_chunks, boot_list, chunk_map, chunk_tree, root_tree, tree_of, own_map, own_super, super_in, Super, TreeEvent, TreeItem, nodes_in, MapRange, NodePointer, Tree, AreNodesApart, IsSameOutside, boot_map, differs, root_of, saved_tree, HoldsExtent, HoldsNode, HoldsNodeOf, HoldsPartOf, IsInUse, chunk_node, file_part, file_pointer, file_trees, named_by, numbered, root_node, tree_if, UsedBlocksDecideUse}
use Rattle.btr_reader.specs.Chunks.{with_items}
use Rattle.btr_reader.specs.Roots.{root_item}
use Rattle.btr_reader.specs.Rows.{roots_on}
use Rattle.btr_reader.proofs.Nodes.{apart_same, found_same, met_same}
use Rattle.rollback_core.proofs.Trees.{AreTreesApart, file_tree_apart, of_use}

pub back : (test : ℕ → Bool) (disk other : Image) → IsSameOutside test disk other → IsSameOutside test other disk
back test disk other same = record { size = sym same.size; others = λ b out. sym (same.others b out) }

module _ (test : ℕ → Bool) (disk other : Image) (apart : AreTreesApart test disk) (same : IsSameOutside test disk other) where
  abbrev s : Super
  s = own_super disk

  abbrev ranges : List MapRange
  ranges = own_map disk

  fields_same : own_super other ≡ own_super disk
  fields_same = ap super_in (same.others 16 apart.superblock)

  map_same : own_map other ≡ own_map disk
  map_same =
      ap (λ (t : Super). chunk_map other t) fields_same
      ∙ ap (λ (items : List TreeItem). with_items (boot_list (boot_chunks s)) (boot_map s) items) (found_same test disk other same (boot_map s) (chunk_tree s) apart.chunks)

  -- the same of the other disk's superblock and map
  over : (F : Super → List MapRange → Type 0) → F s ranges → F (own_super other) (own_map other)
  over F is = subst (λ (t : Super). F t (own_map other)) (sym fields_same) (subst (F s) (sym map_same) is)

  both : {A : Type 0} (F : Super → List MapRange → A) → F (own_super other) (own_map other) ≡ F s ranges
  both F = ap (λ (t : Super). F t (own_map other)) fields_same ∙ ap (F s) map_same

  roots_same : roots_on other s ranges ≡ roots_on disk s ranges
  roots_same = found_same test disk other same ranges (root_tree s) apart.roots

  root_same : (number : ℕ) → root_of other number ≡ root_of disk number
  root_same number =
      both (λ t m. pointer_in (root_item number (roots_on other t m))) ∙ ap (λ (items : List TreeItem). pointer_in (root_item number items)) roots_same

  -- ---- the two trees
  abbrev named : Image → NodePointer → Option ℕ
  named x p = option_and_then tree_number (saved_location (items_at x s ranges FS_TREE p))

  named_same : (p : NodePointer) → root_of disk FS_TREE ≡ Some p → named other p ≡ named disk p
  named_same p root =
      ap (λ (items : List TreeItem). option_and_then tree_number (saved_location items)) (found_same test disk other same ranges (tree_of s FS_TREE p) (apart.files p root))

  saved_same : (p : NodePointer) → root_of disk FS_TREE ≡ Some p → saved_tree other p ≡ saved_tree disk p
  saved_same p root = both (λ t m. option_and_then tree_number (saved_location (items_at other t m FS_TREE p))) ∙ named_same p root

  numbered_same : (o : Option ℕ) → numbered other s ranges o ≡ numbered disk s ranges o
  numbered_same None = refl
  numbered_same (Some number) = ap (λ (items : List TreeItem). tree_if s number (pointer_in (root_item number items))) roots_same

  below_same : (o : Option NodePointer) → root_of disk FS_TREE ≡ o → named_by other s ranges o ≡ named_by disk s ranges o
  below_same None root = refl
  below_same (Some p) root = numbered_same (named other p) ∙ ap (λ (o : Option ℕ). numbered disk s ranges o) (named_same p root)

  trees_same : file_trees other (own_super other) (own_map other) ≡ file_trees disk s ranges
  trees_same =
      both (λ t m. file_trees other t m)
      ∙ (ap (λ (items : List TreeItem). tree_if s FS_TREE (pointer_in (root_item FS_TREE items)) ++ named_by other s ranges (pointer_in (root_item FS_TREE items))) roots_same
      ∙ ap (λ (more : List Tree). tree_if s FS_TREE (file_pointer disk s ranges) ++ more) (below_same (file_pointer disk s ranges) refl))

  -- ---- what is in use
  nodes_of : (m : List MapRange) (t : Tree) → AreNodesApart test disk m t → (b : ℕ) → HoldsNodeOf other m t b → HoldsNodeOf disk m t b
  nodes_of m t nodes b holds = subst (λ (events : List TreeEvent). HoldsNode (nodes_in events) m t.form.nodesize b) (met_same test disk other same m t nodes) holds

  pub used_before : (b : ℕ) → IsInUse other b → IsInUse disk b
  used_before b (chunk_node holds) =
      chunk_node (nodes_of (boot_map s) (chunk_tree s) apart.chunks b (subst (λ (t : Super). HoldsNodeOf other (boot_map t) (chunk_tree t) b) fields_same holds))
  used_before b (root_node holds) =
      root_node (nodes_of ranges (root_tree s) apart.roots b
      (subst (λ (m : List MapRange). HoldsNodeOf other m (root_tree s) b) map_same (subst (λ (t : Super). HoldsNodeOf other (own_map other) (root_tree t) b) fields_same holds)))
  used_before b (file_part holding) =
      let among : Contains (file_trees disk s ranges) holding.tree = subst (λ (trees : List Tree). Contains trees holding.tree) trees_same holding.among in
      let nodes = file_tree_apart disk test apart holding.tree among in
      let here = subst (λ (m : List MapRange). HoldsPartOf other m holding.tree b) map_same holding.holds in
      let holds : HoldsPartOf disk ranges holding.tree b =
      ⊎_elim (λ node. inl (nodes_of ranges holding.tree nodes b node))
      (λ extent. inr (subst (λ (items : List TreeItem). HoldsExtent items ranges b) (found_same test disk other same ranges holding.tree nodes) extent)) here in
      file_part (record { tree = holding.tree; among = among; holds = holds })

  -- the trees of the other disk lie apart, too
  nodes_again : (number : ℕ) (p : NodePointer) → AreNodesApart test disk ranges (tree_of s number p) → AreNodesApart test other (own_map other) (tree_of (own_super other) number p)
  nodes_again number p nodes = over (λ t m. AreNodesApart test other m (tree_of t number p)) (apart_same test disk other same ranges (tree_of s number p) nodes)

  again : AreTreesApart test other
  again = record {
    superblock = apart.superblock;
    chunks = subst (λ (t : Super). AreNodesApart test other (boot_map t) (chunk_tree t)) (sym fields_same) (apart_same test disk other same (boot_map s) (chunk_tree s) apart.chunks);
    roots = over (λ t m. AreNodesApart test other m (root_tree t)) (apart_same test disk other same ranges (root_tree s) apart.roots);
    files = λ p root. nodes_again FS_TREE p (apart.files p (sym (root_same FS_TREE) ∙ root));
    saved = λ p number q root entry at.
        let here = sym (root_same FS_TREE) ∙ root in
        nodes_again number q (apart.saved p number q here (sym (saved_same p here) ∙ entry) (sym (root_same number) ∙ at));
  }

-- the same blocks are
pub used_same : (test : ℕ → Bool) (disk other : Image) → AreTreesApart test disk → IsSameOutside test disk other → (b : ℕ) → IsInUse disk b ↔ IsInUse other b
used_same test disk other apart same b = (used_before test other disk (again test disk other apart same) (back test disk other same) b, used_before test disk other apart same b)

-- ---- by the blocks that differ
equal_where : (t : Bool) → not t ≡ false → t ≡ true
equal_where true is = refl
equal_where false is = absurd cc

pub same_outside : (disk other : Image) → length other ≡ length disk → IsSameOutside (differs disk other) disk other
same_outside disk other size = record { size = size; others = λ b same. (bytes_eq-Decides (block_at other b) (block_at disk b)).0 (equal_where (bytes_eq (block_at other b) (block_at disk b)) same) }

-- a block that is the same differs not
pub alike : (disk other : Image) (b : ℕ) → block_at other b ≡ block_at disk b → differs disk other b ≡ false
alike disk other b same = ap not ((bytes_eq-Decides (block_at other b) (block_at disk b)).1 same)

pub used_blocks_decide_use : UsedBlocksDecideUse
used_blocks_decide_use disk other same =
    used_same (differs disk other) disk other (of_use disk (differs disk other) (alike disk other 16 same.superblock) (λ b used. alike disk other b (same.used b used))) (same_outside disk other same.size)
