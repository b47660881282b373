-- The answers of the steps on the way to the saved image.
use Rattle.std.specs.Prelude.{◌≡◌, ◌⊎◌, ◌≤◌, ℕ, true, false, List, [], Option, Some, None, Result, Ok, Err}
use Rattle.std.specs.Option.{option_and_then}
use Rattle.btr_reader_walk.specs.refusals.declared.answer.BtrAnswer.{BtrAnswer}
use Rattle.btr_reader_walk.specs.refusals.declared.answer.BtrAnswer.TheVariants.{Refused, Fault, Memory}
use Rattle.btr_reader_walk.specs.refusals.declared.refusal.BtrRefusal.TheVariants.{BadBtrfs}
use Rattle.btr_reader_walk.specs.refusals.declared.refusal.BtrRefusal.{BtrRefusal}
use Rattle.btr_reader_walk.specs.refusals.declared.rule.BtrRule.TheVariants.{Body}
use Rattle.btr_reader_walk.specs.btr_keys.Inode.{inode_of}
use Rattle.btr_reader_walk.specs.btr_keys.declared.inode.Inode.{Inode}
use Rattle.btr_reader_walk.specs.btr_node.NodeSize.{IsNodeSize}
use Rattle.btr_super.specs.declared.superblock.Super.{Super}
use Rattle.btr_reader_walk.specs.declared.map.MapRange.{MapRange}
use Rattle.btr_reader_walk.specs.declared.tree.NodePointer.{NodePointer}
use Rattle.btr_reader_walk.specs.declared.tree.Tree.{Tree}
use Rattle.btr_reader_walk.specs.Events.{TreeItem}
use Rattle.btr_reader.specs.declared.image_map.ImageMap.{ImageMap}
use Rattle.btr_reader.specs.Image.{ImageFile, is_file_mode, saved_location, tree_number}
use Rattle.btr_reader.specs.Opening.{IsAmong, tree_of}
use Rattle.btr_reader.specs.Pieces.{MapsImage}
use Rattle.btr_reader.specs.Roots.{pointer_of, root_item}

-- a tree can be walked
pub record IsWalkable (tree : Tree) : Type 0 where
  pub size : IsNodeSize tree.form.nodesize
  pub high : tree.root.level ≤ 7

-- the tree of a root item, or none without it; a root item that is off its grammar is refused
abbrev pub FindsTree : Super → ℕ → Option TreeItem → Result (Option Tree) BtrAnswer → Type 0
FindsTree s number root (Ok None) = root ≡ None
FindsTree s number root (Ok (Some t)) = (i : TreeItem) × (p : NodePointer) × (root ≡ Some i) × (pointer_of i.body ≡ Some p) × (t ≡ tree_of s number p)
FindsTree s number root (Err (Refused r)) = (i : TreeItem) × (root ≡ Some i) × (pointer_of i.body ≡ None) × (r ≡ BadBtrfs i.leaf Body)
FindsTree s number root (Err Fault) = Unit {0}
FindsTree s number root (Err Memory) = Unit {0}

-- the tree with the number that an entry names, by the root items
abbrev pub FindsNumbered : Super → List TreeItem → Option ℕ → Result (Option Tree) BtrAnswer → Type 0
FindsNumbered s roots None told = told ≡ Ok None
FindsNumbered s roots (Some number) told = FindsTree s number (root_item number roots) told

-- An answer is one of what is wrong with the tree in which the entry is looked for; or nothing is, and the tree is that of the entry.
abbrev pub FindsSaved : Super → List TreeItem → List BtrRefusal → List TreeItem → Result (Option Tree) BtrAnswer → Type 0
FindsSaved s roots refusals items told =
    ((e : BtrAnswer) × (told ≡ Err e) × IsAmong refusals e) ⊎ ((refusals ≡ []) × FindsNumbered s roots (option_and_then tree_number (saved_location items)) told)

-- the inode of an inode item, if it is that of a regular file; one that is off its grammar is refused
abbrev pub FindsFile : Option TreeItem → Result (Option Inode) BtrAnswer → Type 0
FindsFile None (Ok None) = Unit {0}
FindsFile None (Ok (Some own)) = ⊥
FindsFile None (Err (Refused r)) = ⊥
FindsFile None (Err Fault) = ⊥
FindsFile None (Err Memory) = ⊥
FindsFile (Some i) (Ok None) = (own : Inode) × (inode_of i.body ≡ Some own) × (is_file_mode own.mode ≡ false)
FindsFile (Some i) (Ok (Some own)) = (inode_of i.body ≡ Some own) × (is_file_mode own.mode ≡ true)
FindsFile (Some i) (Err (Refused r)) = (inode_of i.body ≡ None) × (r ≡ BadBtrfs i.leaf Body)
FindsFile (Some i) (Err Fault) = ⊥
FindsFile (Some i) (Err Memory) = ⊥

-- The map of this image, where nothing is refused; else one of the refusals.
abbrev pub ReadsImage : List MapRange → Option ImageFile → List BtrRefusal → Result (Option ImageMap) BtrAnswer → Type 0
ReadsImage ranges file refusals (Ok map) = MapsImage ranges map file × (refusals ≡ [])
ReadsImage ranges file refusals (Err e) = IsAmong refusals e
