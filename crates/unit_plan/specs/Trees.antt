-- The trees of a converted volume whose items are known before any node of them is written.
use Rattle.std.specs.Prelude.{ℕ, List, [], ◌∷◌}
use Rattle.btr_tree.specs.btrfs_format.declared.object.TheConstants.{CONV_IMAGE_SUBVOL, CSUM_TREE, DATA_RELOC_TREE, DEV_TREE, FS_TREE}
use Rattle.unit_plan.specs.declared.tree.NewTree.{NewTree}
use Rattle.unit_plan.specs.declared.tree.NewTree.TheVariants.{Files, SavedImage, Relocation, Checksums, Devices}

-- all of them, in the order in which they lie
abbrev pub new_trees : List NewTree
new_trees = Files ∷ (SavedImage ∷ (Relocation ∷ (Checksums ∷ (Devices ∷ []))))

-- the number by which the root tree names one
abbrev pub tree_number : NewTree → ℕ
tree_number Files = FS_TREE
tree_number SavedImage = CONV_IMAGE_SUBVOL
tree_number Relocation = DATA_RELOC_TREE
tree_number Checksums = CSUM_TREE
tree_number Devices = DEV_TREE
