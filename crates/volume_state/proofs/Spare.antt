-- The parts of a volume that can go back lie in no spare block.
use Rattle.volume_state.proofs.Imports.{◌≡◌, inl, inr, ℕ, eqb, nat_lt, Bool, true, false, not, ◌&&◌, List, Contains, Option, Some, None, refl, ◌∙◌, ap, subst, if◌then◌else◌, option_and_then, and_parts, EXTENT_DATA, FS_TREE, Image, is_reserved, extents_of, is_extent_of, FileExtentValue, file_extent_of, ImageFile, file_block, image_place, items_at, saved_image, chunk_tree, root_tree, tree_of, own_map, own_super, Super, TreeItem, found, MapRange, Tree, AreExtentsApart, AreNodesApart, IsVolumeApart, boot_map, from_filter, superblock, is_spare, image_blocks, CanGoBack, HoldsPartOf, IsInUse, chunk_node, content_range, file_part, file_trees, item_range, root_node}
use Rattle.reiser_bitmap.proofs.vol_block.Reserved.{decides_reserved}
use Rattle.volume_state.proofs.Placed.{has_block, no_some}
use Rattle.volume_state.proofs.Reaching.{reached}
use Rattle.volume_state.proofs.Apart.{extents_apart, file_tree_among, nodes_apart, saved_tree_among}

when_below : (t : Bool) (o : Option ℕ) (at : ℕ) → (if t then o else None) ≡ Some at → o ≡ Some at
when_below true o at is = is
when_below false o at is = absurd (no_some at is)

module _ (disk : Image) (u : CanGoBack disk) where
  abbrev blocks : ℕ
  blocks = (superblock (image_blocks disk)).blocks

  abbrev s : Super
  s = own_super disk

  abbrev ranges : List MapRange
  ranges = own_map disk

  -- a block in use is no spare one
  pub in_use_apart : (b : ℕ) → IsInUse disk b → is_spare disk b ≡ false
  in_use_apart b used = ap (λ (t : Bool). t && not (eqb b 16)) (unreserved (is_reserved b blocks) refl)
    where
      unreserved : (t : Bool) → is_reserved b blocks ≡ t → t ≡ false
      unreserved false is = refl
      unreserved true is = absurd (u.reserved b ((decides_reserved b blocks).0 is) used)

  pub superblock_apart : is_spare disk 16 ≡ false
  superblock_apart = by (is_reserved 16 blocks)
    where
      by : (t : Bool) → (t && not (eqb 16 16)) ≡ false
      by true = refl
      by false = refl

  pub chunks_apart : AreNodesApart (is_spare disk) disk (boot_map s) (chunk_tree s)
  chunks_apart = nodes_apart (is_spare disk) (boot_map s) disk (chunk_tree s) (λ b holds. in_use_apart b (chunk_node holds))

  pub roots_apart : AreNodesApart (is_spare disk) disk ranges (root_tree s)
  roots_apart = nodes_apart (is_spare disk) ranges disk (root_tree s) (λ b holds. in_use_apart b (root_node holds))

  -- one of the two trees of files
  module _ (t : Tree) (among : Contains (file_trees disk s ranges) t) where
    part_apart : (b : ℕ) → HoldsPartOf disk ranges t b → is_spare disk b ≡ false
    part_apart b holds = in_use_apart b (file_part (record { tree = t; among = among; holds = holds }))

    pub file_nodes_apart : AreNodesApart (is_spare disk) disk ranges t
    file_nodes_apart = nodes_apart (is_spare disk) ranges disk t (λ b holds. part_apart b (inl holds))

    pub file_extents_apart : AreExtentsApart (is_spare disk) ranges (found disk ranges t)
    file_extents_apart = extents_apart (is_spare disk) ranges (found disk ranges t) (λ b holds. part_apart b (inr holds))

  -- a block of the saved image is in use
  image_in_use : (f : ImageFile) (b at : ℕ) → saved_image disk s ranges ≡ Some f → image_place ranges f b ≡ Some at → IsInUse disk at
  image_in_use f b at is placed =
      let way = reached disk u.way.readable f is in
      let has = has_block ranges f.extents 0 0 b at way.sound (when_below (nat_lt b f.blocks) (file_block ranges f.extents b) at placed) in
      let items : List TreeItem = items_at disk s ranges way.number way.q in
      let among : Contains (extents_of items way.ino) has.item = subst (λ (extents : List TreeItem). Contains extents has.item) way.extents has.among in
      let from = from_filter (is_extent_of way.ino) items has.item among in
      let kind : eqb has.item.key.kind EXTENT_DATA ≡ true = (and_parts (eqb has.item.key.objectid way.ino) (eqb has.item.key.kind EXTENT_DATA) from.1).1 in
      let range : item_range has.item ≡ Some has.range =
      ap (λ (t : Bool). if t then option_and_then (λ x. content_range x.content) (file_extent_of has.item.body) else None) kind
      ∙ (ap (λ (o : Option FileExtentValue). option_and_then (λ x. content_range x.content) o) has.read
      ∙ (ap content_range has.content ∙ ap (λ (t : Bool). if t then None else Some has.range) has.some)) in
      file_part (record {
        tree = tree_of s way.number way.q;
        among = saved_tree_among disk way.p way.number way.q way.root way.saved way.at;
        holds = inr (record { item = has.item; among = from.0; range = has.range; range_is = range; lies = has.lies });
      })

  -- no part of the volume lies in a spare block
  pub spare_apart : IsVolumeApart (is_spare disk) disk
  spare_apart = record {
    superblock = superblock_apart;
    chunks = chunks_apart;
    roots = roots_apart;
    files = λ p root. file_nodes_apart (tree_of s FS_TREE p) (file_tree_among disk p root);
    extents = λ p root. file_extents_apart (tree_of s FS_TREE p) (file_tree_among disk p root);
    saved = λ p number q root saved at. file_nodes_apart (tree_of s number q) (saved_tree_among disk p number q root saved at);
    blocks = λ f b at is placed. in_use_apart at (image_in_use f b at is placed);
  }
