-- A Btrfs volume that can be read has rows: one is made for each path of its links.
use Rattle.rows_laws.proofs.Imports.{◌≡◌, ℕ, Bool, List, [], map, Option, Some, None, refl, inl, inr, FIRST_FREE_OBJECTID, FS_TREE, WholeRow, BadBtrfs, Body, NoInode, TreeItem, KeepsNames, inode_node, ReadableVolumesHaveRows}
use Rattle.btr_reader.specs.outside.History.{Image}
use Rattle.btr_reader.specs.btr_reader_walk.Walks.{found}
use Rattle.btr_reader.specs.btr_reader_walk.declared.map.MapRange.{MapRange}
use Rattle.btr_reader.specs.btr_reader_walk.declared.tree.NodePointer.{NodePointer}
use Rattle.btr_reader.specs.btr_reader_names.Roots.{has_root}
use Rattle.btr_reader.specs.btr_super.declared.superblock.Super.{Super}
use Rattle.btr_reader.specs.Made.{made_row}
use Rattle.btr_reader.specs.Opening.{opening_refusals, tree_of}
use Rattle.btr_reader.specs.Parts.{own_map, own_super}
use Rattle.btr_reader.specs.Roots.{pointer_of, root_item}
use Rattle.btr_reader.specs.Rows.{AreBtrfsRows, AreRows, CanBeRead, bad_names, bad_root_item, no_root_item, roots_on}
use Rattle.btr_reader.proofs.PartsRead.{none_in}
use Rattle.btr_reader.proofs.Rowed.{rows_are}
use Rattle.rows_laws.proofs.BtrfsLinks.{links_there}
use Rattle.rows_laws.proofs.Listing.{paths_there}

-- a tree whose names keep the rules has rows
tree_rows : (image : Image) (ranges : List MapRange) (items : List TreeItem) (roots : ℕ → Bool) (root_at : ℕ) → KeepsNames roots items root_at → (rows : List WholeRow) × AreRows image ranges items rows
tree_rows image ranges items roots root_at keeps =
    let l = links_there items roots root_at keeps in
    let p = paths_there l.0 (inode_node FIRST_FREE_OBJECTID) l.1.once in
    (map (made_row image ranges items p.0) p.0, rows_are image ranges items roots root_at keeps l.0 l.1 p.0 p.1)

module _ (image : Image) (s : Super) (ranges : List MapRange) (readable : CanBeRead image s ranges) where
  abbrev Rows : Type 0
  Rows = (rows : List WholeRow) × AreBtrfsRows image s ranges rows

  rows_at : (item : TreeItem) (at : NodePointer) → root_item FS_TREE (roots_on image s ranges) ≡ Some item → pointer_of item.body ≡ Some at → Rows
  rows_at item at has_item has_pointer =
      let t = tree_rows image ranges (found image ranges (tree_of s FS_TREE at)) (has_root (roots_on image s ranges)) at.address (λ r broken. readable r (bad_names item at has_item has_pointer broken)) in
      (t.0, record { readable = readable; item = item; has_item = has_item; at = at; has_root = has_pointer; rows_are = t.1 })

  by_pointer : (item : TreeItem) → root_item FS_TREE (roots_on image s ranges) ≡ Some item → (o : Option NodePointer) → pointer_of item.body ≡ o → Rows
  by_pointer item has_item None is = absurd (readable (BadBtrfs item.leaf Body) (bad_root_item item has_item is refl))
  by_pointer item has_item (Some at) is = rows_at item at has_item is

  by_item : (o : Option TreeItem) → root_item FS_TREE (roots_on image s ranges) ≡ o → Rows
  by_item None is = absurd (readable (BadBtrfs s.root NoInode) (no_root_item is refl))
  by_item (Some item) is = by_pointer item is (pointer_of item.body) refl

pub readable_volumes_have_rows : ReadableVolumesHaveRows
readable_volumes_have_rows image has =
    let none : opening_refusals image ≡ [] = none_in (opening_refusals image) (λ r among. has.tree r (inl among)) in
    let s : Super = own_super image in
    let ranges : List MapRange = own_map image in
    by_item image s ranges (λ r broken. has.tree r (inr (none, broken))) (root_item FS_TREE (roots_on image s ranges)) refl
