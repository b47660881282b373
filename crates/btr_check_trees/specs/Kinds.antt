-- Kinds of items that stand in one tree each.
use Rattle.std.specs.Prelude.{◌≡◌, ℕ, ◌==◌, Bool, true, not, ◌&&◌, ◌||◌, List, map, All}
use Rattle.btr_check_rules.specs.btr_reader.btr_space_items.btrfs_format.declared.key.TheConstants.{BLOCK_GROUP_ITEM, CHUNK_ITEM, DEV_EXTENT, DEV_ITEM, EXTENT_CSUM, EXTENT_ITEM, METADATA_ITEM, ROOT_ITEM}
use Rattle.btr_check_rules.specs.btr_reader.btr_space_items.btrfs_format.declared.object.TheConstants.{CHUNK_TREE, CSUM_TREE, DEV_TREE, EXTENT_TREE, ROOT_TREE}
use Rattle.btr_check_rules.specs.btr_reader.btr_reader_walk.Events.{TreeItem}
use Rattle.btr_check_rules.specs.btr_reader.btr_reader_walk.Tree.{bare_item}
use Rattle.btr_check_rules.specs.Sound.{Trees, part_number}
use Rattle.btr_check_rules.specs.Trees.{has_own_tree}
use Rattle.btr_check_trees.specs.declared.own_kinds.OwnKinds.{OwnKinds}

-- the test, kind by kind
abbrev pub is_own_kind : ℕ → ℕ → Bool
is_own_kind number kind =
    (not (kind == CHUNK_ITEM) || (number == CHUNK_TREE))
    && ((not (kind == DEV_ITEM) || (number == CHUNK_TREE))
    && ((not (kind == EXTENT_ITEM) || (number == EXTENT_TREE))
    && ((not (kind == METADATA_ITEM) || (number == EXTENT_TREE))
    && ((not (kind == BLOCK_GROUP_ITEM) || (number == EXTENT_TREE))
    && ((not (kind == ROOT_ITEM) || (number == ROOT_TREE))
    && ((not (kind == DEV_EXTENT) || (number == DEV_TREE)) && (not (kind == EXTENT_CSUM) || (number == CSUM_TREE))))))))

-- these items may stand in the tree with this number
abbrev pub AreOwnKinds : ℕ → List TreeItem → Type 0
AreOwnKinds number items = All (λ i. has_own_tree number i ≡ true) (map bare_item items)

pub record HoldsKinds (begun now : OwnKinds) (items : List TreeItem) : Type 0 where
  pub number : now.number ≡ begun.number
  pub kinds : AreOwnKinds begun.number items

-- or one of them may not: part 1 fails at the number
pub record RefusesKinds (begun : OwnKinds) (items : List TreeItem) (part address : ℕ) : Type 0 where
  pub part_is : part ≡ part_number Trees
  pub address_is : address ≡ begun.number
  pub fails : ¬ AreOwnKinds begun.number items
