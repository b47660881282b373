-- Where some blocks are not in use, no part of the volume lies there.
use Rattle.rollback_core.proofs.Imports.{◌≡◌, inr, ℕ, ◌/◌, eqb, nat_lt, Bool, true, false, not, ◌&&◌, List, Contains, Option, Some, None, refl, ◌∙◌, ap, subst, if◌then◌else◌, option_and_then, and_parts, FS_TREE, Image, ImageFile, file_block, image_place, items_at, saved_image, tree_of, IsReadable, SavedImage, own_map, own_super, Super, TreeItem, MapRange, Tree, AreExtentsApart, IsVolumeApart, is_spare, from_filter, IsInUse, IsReservedFree, content_range, file_part, file_trees, item_range, extents_apart, file_tree_among, saved_tree_among, is_reserved, UnusedBlocksLieApart}
use Rattle.btr_reader.specs.btrfs_format.declared.key.TheConstants.{EXTENT_DATA}
use Rattle.btr_reader.specs.btr_reader_contents.Extents.{extents_of, is_extent_of}
use Rattle.btr_reader.specs.btr_keys.FileExtent.{FileExtentValue, file_extent_of}
use Rattle.btr_reader.specs.btr_reader_walk.Walks.{found}
use Rattle.volume_state.proofs.Placed.{has_block, no_some}
use Rattle.volume_state.proofs.Reaching.{reached}
use Rattle.reiser_bitmap.proofs.vol_block.Reserved.{decides_reserved}
use Rattle.rollback_core.proofs.Trees.{AreTreesApart, of_use}

when_below : (t : Bool) (o : Option ℕ) (at : ℕ) → (if t then o else None) ≡ Some at → o ≡ Some at
when_below true o at is = is
when_below false o at is = absurd (no_some at is)

module _ (disk : Image) (readable : IsReadable disk SavedImage) where
  abbrev s : Super
  s = own_super disk

  abbrev ranges : List MapRange
  ranges = own_map disk

  -- a block of the saved image is in use
  image_in_use : (f : ImageFile) (b at : ℕ) → saved_image disk s ranges ≡ Some f → image_place ranges f b ≡ Some at → IsInUse disk at
  image_in_use f b at is placed =
      let way = reached disk readable f is in
      let has = has_block ranges f.extents 0 0 b at way.sound (when_below (nat_lt b f.blocks) (file_block ranges f.extents b) at placed) in
      let items : List TreeItem = items_at disk s ranges way.number way.q in
      let among : Contains (extents_of items way.ino) has.item = subst (λ (extents : List TreeItem). Contains extents has.item) way.extents has.among in
      let from = from_filter (is_extent_of way.ino) items has.item among in
      let kind : eqb has.item.key.kind EXTENT_DATA ≡ true = (and_parts (eqb has.item.key.objectid way.ino) (eqb has.item.key.kind EXTENT_DATA) from.1).1 in
      let range : item_range has.item ≡ Some has.range =
      ap (λ (t : Bool). if t then option_and_then (λ x. content_range x.content) (file_extent_of has.item.body) else None) kind
      ∙ (ap (λ (o : Option FileExtentValue). option_and_then (λ x. content_range x.content) o) has.read
      ∙ (ap content_range has.content ∙ ap (λ (t : Bool). if t then None else Some has.range) has.some)) in
      file_part (record {
        tree = tree_of s way.number way.q;
        among = saved_tree_among disk way.p way.number way.q way.root way.saved way.at;
        holds = inr (record { item = has.item; among = from.0; range = has.range; range_is = range; lies = has.lies });
      })

  module _ (test : ℕ → Bool) (superblock : test 16 ≡ false) (unused : (b : ℕ) → IsInUse disk b → test b ≡ false) where
    trees : AreTreesApart test disk
    trees = of_use disk test superblock unused

    extents : (t : Tree) → Contains (file_trees disk s ranges) t → AreExtentsApart test ranges (found disk ranges t)
    extents t among = extents_apart test ranges (found disk ranges t) (λ b holds. unused b (file_part (record { tree = t; among = among; holds = inr holds })))

    lies_apart : IsVolumeApart test disk
    lies_apart = record {
      superblock = superblock;
      chunks = trees.chunks;
      roots = trees.roots;
      files = trees.files;
      extents = λ p root. extents (tree_of s FS_TREE p) (file_tree_among disk p root);
      saved = trees.saved;
      blocks = λ f b at is placed. unused at (image_in_use f b at is placed);
    }

-- ---- reserved blocks but that of the superblock
pub spare_16 : (blocks : ℕ) → is_spare 16 blocks ≡ false
spare_16 blocks = refl

-- none in use is one of them, where none that is reserved is in use
pub spare_unused : (disk : Image) (blocks : ℕ) → IsReservedFree disk blocks → (b : ℕ) → IsInUse disk b → is_spare b blocks ≡ false
spare_unused disk blocks free b used = by (not (eqb b 16)) (is_reserved b blocks) refl
  where
    by : (t r : Bool) → is_reserved b blocks ≡ r → (t && r) ≡ false
    by true false is = refl
    by false false is = refl
    by t true is = absurd (free b ((decides_reserved b blocks).0 is) used)

pub unused_blocks_lie_apart : UnusedBlocksLieApart
unused_blocks_lie_apart = record {
  apart = λ test disk readable superblock unused. lies_apart disk readable test superblock unused;
  reserved = λ disk readable free.
      let blocks : ℕ = (own_super disk).total_bytes / 4096 in
      lies_apart disk readable (λ b. is_spare b blocks) (spare_16 blocks) (spare_unused disk blocks free);
}
