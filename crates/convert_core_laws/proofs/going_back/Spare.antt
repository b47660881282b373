-- Where no block in use is reserved, no part of a volume lies in a reserved block but for the superblock.
use Rattle.convert_core_laws.proofs.Imports.{◌≡◌, ℕ, ◌/◌, eqb, inl, inr, ◌&&◌, not, Bool, true, false, List, Some, refl, ap, ◌∙◌, Contains, FS_TREE, Image, IsReserved, is_reserved, decides_reserved, ImageFile, image_place, saved_image, chunk_tree, root_tree, tree_of, own_map, own_super, Super, found, MapRange, Tree, AreExtentsApart, AreNodesApart, IsVolumeApart, boot_map, is_spare, is_spare_in, HoldsPartOf, IsInUse, chunk_node, file_part, root_node}
use Rattle.volume_state.specs.Using.{file_trees}
use Rattle.volume_state.proofs.Apart.{extents_apart, file_tree_among, nodes_apart, saved_tree_among}

module _ (disk : Image) (blocks : ℕ) (total : (own_super disk).total_bytes / 4096 ≡ blocks) (free : (b : ℕ) → IsInUse disk b → ¬ IsReserved b blocks)
    (image_free : (f : ImageFile) (b at : ℕ) → saved_image disk (own_super disk) (own_map disk) ≡ Some f → image_place (own_map disk) f b ≡ Some at → ¬ IsReserved at blocks) where
  abbrev s : Super
  s = own_super disk

  abbrev ranges : List MapRange
  ranges = own_map disk

  unreserved : (b : ℕ) → ¬ IsReserved b blocks → is_spare_in disk b ≡ false
  unreserved b none = ap (λ (n : ℕ). is_spare b n) total ∙ by (is_reserved b blocks) refl
    where
      off : (t : Bool) → (t && false) ≡ false
      off true = refl
      off false = refl

      by : (t : Bool) → is_reserved b blocks ≡ t → (not (eqb b 16) && t) ≡ false
      by false is = off (not (eqb b 16))
      by true is = absurd (none ((decides_reserved b blocks).0 is))

  in_use_apart : (b : ℕ) → IsInUse disk b → is_spare_in disk b ≡ false
  in_use_apart b used = unreserved b (free b used)

  -- one of the two trees of files
  module _ (t : Tree) (among : Contains (file_trees disk s ranges) t) where
    part_apart : (b : ℕ) → HoldsPartOf disk ranges t b → is_spare_in disk b ≡ false
    part_apart b holds = in_use_apart b (file_part (record { tree = t; among = among; holds = holds }))

    file_nodes_apart : AreNodesApart (is_spare_in disk) disk ranges t
    file_nodes_apart = nodes_apart (is_spare_in disk) ranges disk t (λ b holds. part_apart b (inl holds))

    file_extents_apart : AreExtentsApart (is_spare_in disk) ranges (found disk ranges t)
    file_extents_apart = extents_apart (is_spare_in disk) ranges (found disk ranges t) (λ b holds. part_apart b (inr holds))

  pub lies_apart : IsVolumeApart (is_spare_in disk) disk
  lies_apart = record {
    superblock = refl;
    chunks = nodes_apart (is_spare_in disk) (boot_map s) disk (chunk_tree s) (λ b holds. in_use_apart b (chunk_node holds));
    roots = nodes_apart (is_spare_in disk) ranges disk (root_tree s) (λ b holds. in_use_apart b (root_node holds));
    files = λ p root. file_nodes_apart (tree_of s FS_TREE p) (file_tree_among disk p root);
    extents = λ p root. file_extents_apart (tree_of s FS_TREE p) (file_tree_among disk p root);
    saved = λ p number q root saved at. file_nodes_apart (tree_of s number q) (saved_tree_among disk p number q root saved at);
    blocks = λ f b at is placed. unreserved at (image_free f b at is placed);
  }
