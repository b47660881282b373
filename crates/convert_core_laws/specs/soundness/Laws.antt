-- A converted volume is sound, part by part and as a whole.
use Rattle.std.specs.Prelude.{◌≡◌, ◌<◌, ℕ, ◌^◌, List, [], All}
use Rattle.reiser_volume.specs.outside.History.{Image}
use Rattle.reiser_volume.specs.vol_block.declared.ids.Ids.{Ids}
use Rattle.btr_reader.specs.btr_node.NodeSize.{IsNodeSize}
use Rattle.btr_reader.specs.Opening.{opening_refusals}
use Rattle.btr_check_rules.specs.Files.{KeepsExtents}
use Rattle.btr_check_rules.specs.FreeSpace.{KeepsFreeSpace}
use Rattle.btr_check_rules.specs.Groups.{KeepsBlockGroups, KeepsChunks, KeepsTotals}
use Rattle.btr_check_rules.specs.Inodes.{KeepsInode}
use Rattle.btr_check_rules.specs.Names.{KeepsNames}
use Rattle.btr_check_rules.specs.Places.{KeepsPlacement, KeepsReserved}
use Rattle.btr_check_rules.specs.Recount.{Recount, file_trees, recount}
use Rattle.btr_check_rules.specs.References.{KeepsReferences}
use Rattle.btr_check_rules.specs.Sound.{IsSound}
use Rattle.btr_check_rules.specs.Sums.{KeepsSums}
use Rattle.btr_check_rules.specs.Trees.{KeepsTrees}
use Rattle.convert_core.specs.convert_steps.Making.{Making}
use Rattle.convert_core.specs.convert_steps.Standing.{TreeRoots}
use Rattle.convert_core.specs.Converted.{IsNew}
use Rattle.convert_core_laws.specs.reading.Identifiers.{HasFsid}
use Rattle.convert_trees_laws.specs.Rows.{HasBytes}
use Rattle.convert_core.specs.space_items.Laws.{AreIds}
use Rattle.convert_core.specs.space_items.declared.node.TreeNode.{TreeNode}
use Rattle.convert_core.specs.convert_options.declared.options.Options.{Options}
use Rattle.convert_core_laws.specs.soundness.Recounted.{recount_for}

-- What holds of the recount of every volume that was converted, with any of its superblock's copies: with nodes of one of the sizes,
-- at a time below 2^63, with identifiers of 16 bytes, and from blocks of bytes.
abbrev pub OfConvertedRecount : (Image → Recount → Type 0) → Type 0
OfConvertedRecount P =
    (o : Options) (ids : Ids) (now : ℕ) (image other : Image) (m : Making) (r : TreeRoots) (nodes : List TreeNode)
    → IsNew o ids now image other m r nodes → IsNodeSize o.nodesize → now < 2 ^ 63 → AreIds ids → HasFsid image o.uuid → HasBytes image
    → P other (recount_for image other m r nodes)

-- The volume can be opened, and this is its recount.
abbrev pub ConvertedVolumesAreRecounted : Type 0
ConvertedVolumesAreRecounted = OfConvertedRecount (λ other k. (opening_refusals other ≡ []) × (recount other ≡ k))

-- Each tree is there, and root items, nodes, the superblock and the bootstrap array keep the rules of Linux.
abbrev pub ConvertedTreesAreSound : Type 0
ConvertedTreesAreSound = OfConvertedRecount (λ other k. (a : ℕ) → KeepsTrees other k a)

-- Extents lie apart, each in a chunk of its kind.
abbrev pub ConvertedPlacementIsSound : Type 0
ConvertedPlacementIsSound = OfConvertedRecount (λ other k. (a : ℕ) → KeepsPlacement k a)

-- Block groups are the chunks, and tell what these hold.
abbrev pub ConvertedBlockGroupsAreSound : Type 0
ConvertedBlockGroupsAreSound = OfConvertedRecount (λ other k. (a : ℕ) → KeepsBlockGroups k a)

-- Chunks lie apart, and device extents are their stripes.
abbrev pub ConvertedChunksAreSound : Type 0
ConvertedChunksAreSound = OfConvertedRecount (λ other k. (a : ℕ) → KeepsChunks k a)

-- No extent touches a reserved block.
abbrev pub ConvertedReservedAreSound : Type 0
ConvertedReservedAreSound = OfConvertedRecount (λ other k. (a : ℕ) → KeepsReserved k a)

-- The totals are the sums.
abbrev pub ConvertedTotalsAreSound : Type 0
ConvertedTotalsAreSound = OfConvertedRecount (λ other k. (a : ℕ) → KeepsTotals k a)

-- It has no free space tree that might be wrong.
abbrev pub ConvertedFreeSpaceIsSound : Type 0
ConvertedFreeSpaceIsSound = OfConvertedRecount (λ other k. (a : ℕ) → KeepsFreeSpace k a)

-- The extent tree tells of each node and of each range of data, with all that refers to it, and of nothing else.
abbrev pub ConvertedReferencesAreSound : Type 0
ConvertedReferencesAreSound = OfConvertedRecount (λ other k. (a : ℕ) → KeepsReferences other k a)

-- Exactly the blocks of data whose inode has checksums have one, and each is right.
abbrev pub ConvertedChecksumsAreSound : Type 0
ConvertedChecksumsAreSound = OfConvertedRecount (λ other k. (a : ℕ) → KeepsSums other k a)

-- In each file tree the directory indexes, the dir items and the references of inodes tell the same names, and inodes their counts.
abbrev pub ConvertedNamesAreSound : Type 0
ConvertedNamesAreSound = OfConvertedRecount (λ other k. All (λ t. (a : ℕ) → KeepsNames k t a) (file_trees k))

-- In each file tree inodes and entries keep the rules of Linux.
abbrev pub ConvertedInodesAreSound : Type 0
ConvertedInodesAreSound = OfConvertedRecount (λ other k. All (λ t. (a : ℕ) → KeepsInode k.super t a) (file_trees k))

-- So do file extents.
abbrev pub ConvertedFileExtentsAreSound : Type 0
ConvertedFileExtentsAreSound = OfConvertedRecount (λ other k. All (λ t. (a : ℕ) → KeepsExtents k.super t a) (file_trees k))

-- It is sound in all ten parts.
abbrev pub ConvertedVolumesAreSound : Type 0
ConvertedVolumesAreSound = OfConvertedRecount (λ other k. IsSound other)
