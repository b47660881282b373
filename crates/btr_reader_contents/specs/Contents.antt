-- The contents of the files and symlinks of a file tree.
use Rattle.std.specs.Prelude.{◌≡◌, ◌⊎◌, ℕ, nat_eq, nat_le, Bool, true, false, if◌then◌else◌, List, [], length, replicate, Contains, Option, Some, None}
use Rattle.std.specs.Option.{option_and_then}
use Rattle.btr_reader_walk.specs.outside.History.{Image}
use Rattle.btr_reader_walk.specs.refusals.declared.answer.BtrAnswer.{BtrAnswer}
use Rattle.btr_reader_walk.specs.refusals.declared.refusal.BtrRefusal.{BtrRefusal}
use Rattle.btr_reader_walk.specs.refusals.declared.answer.BtrAnswer.TheVariants.{Refused, Fault, Memory}
use Rattle.btr_reader_walk.specs.btr_keys.declared.inode.Inode.{Inode}
use Rattle.btr_reader_walk.specs.declared.map.MapRange.{MapRange}
use Rattle.btr_reader_walk.specs.declared.tree.Tree.{Tree}
use Rattle.btr_reader_walk.specs.Events.{TreeItem}
use Rattle.btr_reader_walk.specs.Walks.{found, wrong}
use Rattle.btr_reader_contents.specs.Extents.{extents_of, bytes_of_inode, extents_refusals}
use Rattle.btr_reader_names.specs.Inodes.{kind_of_mode, inode_on}
use Rattle.btr_reader_names.specs.Steps.{inode_node}
use Rattle.fs_paths.specs.declared.node.NodeId.{NodeId}
use Rattle.fs_rows.specs.Mark.{mark_of_bytes}
use Rattle.fs_rows.specs.declared.row.Kind.{Kind}
use Rattle.fs_rows.specs.declared.row.Kind.TheVariants.{Directory, File, Symlink, Character, Block, Fifo, Socket, Subvolume}
use Rattle.fs_rows.specs.declared.content.Content.{Content}
use Rattle.btr_reader_contents.specs.declared.contents.Contents.{Contents}
use Rattle.btr_reader_contents.specs.declared.wanted.Wanted.{Wanted}
use Rattle.indexmap.specs.IndexMap.{get}

-- Of which inodes contents are kept: of files, and of symlinks whose target Linux allows (at most 4095 bytes).
abbrev pub wanted_by : ℕ → Kind → Option Wanted
wanted_by size File = Some (record { link = false; size = size })
wanted_by size Symlink = if nat_le size 4095 then Some (record { link = true; size = size }) else None
wanted_by size Directory = None
wanted_by size Character = None
wanted_by size Block = None
wanted_by size Fifo = None
wanted_by size Socket = None
wanted_by size Subvolume = None

abbrev pub wanted_inode : Inode → Option Wanted
wanted_inode own = option_and_then (wanted_by own.size) (kind_of_mode own.mode)

-- the same of an inode that passes a test of named ones
abbrev pub wanted_at : (NodeId → Bool) → List TreeItem → ℕ → Option Wanted
wanted_at named items ino = if named (inode_node ino) then option_and_then wanted_inode (inode_on items ino) else None

-- what is kept of these bytes
abbrev pub content_of : Bool → List ℕ → Content
content_of link bytes = record {
  length = length bytes;
  mark = if link then replicate 32 0 else mark_of_bytes bytes;
  target = if link then bytes else [];
}

-- the content of an inode whose extents are among these items
abbrev pub content_in : Image → List MapRange → List TreeItem → ℕ → Wanted → Content
content_in image ranges items ino w = content_of w.link (bytes_of_inode image ranges items ino w.size)

-- the content of an inode, with whose extents nothing is wrong
pub record IsContentIn (image : Image) (ranges : List MapRange) (items : List TreeItem) (ino : ℕ) (w : Wanted) (c : Content) : Type 0 where
  pub is : c ≡ content_in image ranges items ino w
  pub sound : extents_refusals ranges 0 0 (extents_of items ino) ≡ []

-- nothing is told of an inode without extents, else its content
abbrev pub TellsContent : Image → List MapRange → List TreeItem → ℕ → Wanted → Option Content → Type 0
TellsContent image ranges items ino w None = extents_of items ino ≡ []
TellsContent image ranges items ino w (Some c) = IsContentIn image ranges items ino w c

-- It is told of each wanted inode.
abbrev pub HasContents : (ℕ → Option Wanted) → Image → List MapRange → List TreeItem → (ℕ → Option Content) → Type 0
HasContents plan image ranges items told = (ino : ℕ) (w : Wanted) → plan ino ≡ Some w → TellsContent image ranges items ino w (told ino)

-- what is kept of the inode with a number
abbrev pub known_content : Contents → ℕ → Option Content
known_content contents ino = get nat_eq contents.known ino

-- something is wrong with the extents of a wanted inode
pub record BreaksWantedExtents (plan : ℕ → Option Wanted) (ranges : List MapRange) (items : List TreeItem) (r : BtrRefusal) : Type 0 where
  pub ino : ℕ
  pub wanted : Wanted
  pub planned : plan ino ≡ Some wanted
  pub among : Contains (extents_refusals ranges 0 0 (extents_of items ino)) r

-- the refusal is one of these, or a call failed
abbrev pub RefusesExtents : (ℕ → Option Wanted) → List MapRange → List TreeItem → BtrAnswer → Type 0
RefusesExtents plan ranges items (Refused r) = BreaksWantedExtents plan ranges items r
RefusesExtents plan ranges items Fault = Unit {0}
RefusesExtents plan ranges items Memory = Unit {0}

-- the refusal is one of what is wrong with the tree or with these extents, or a call failed
abbrev pub RefusesContents : (ℕ → Option Wanted) → Image → List MapRange → Tree → BtrAnswer → Type 0
RefusesContents plan image ranges tree (Refused r) = Contains (wrong image ranges tree) r ⊎ BreaksWantedExtents plan ranges (found image ranges tree) r
RefusesContents plan image ranges tree Fault = Unit {0}
RefusesContents plan image ranges tree Memory = Unit {0}
