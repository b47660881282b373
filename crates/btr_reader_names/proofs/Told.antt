-- What the table tells of an inode, and what its item says.
use Rattle.btr_reader_names.proofs.Imports.{◌≡◌, ℕ, true, false, List, Option, Some, None, refl, sym, ap, subst, ◌∙◌, true≢false, option_and_then, option_map_or, inode_of, Inode, TreeItem, Kind, Directory, File, Symlink, Character, Block, Fifo, Socket, Subvolume, InodeFound, NameTable, find_inode_item, inode_on, kind_of_mode, IsDirectoryInode, TellsInode, is_directory, is_symlink, told, kind_found, kind_told, is_dir, HasNotedNames}

abbrev kind_in : Option Inode → Option Kind
kind_in own = option_and_then (λ i. kind_of_mode i.mode) own

-- an item that is told is there
pub item_told : (f : InodeFound) (x : Option TreeItem) → TellsInode (Some f) x → (i : TreeItem) × (x ≡ Some i) × (f.leaf ≡ i.leaf) × (f.inode ≡ inode_of i.body)
item_told f None h = absurd h
item_told f (Some i) h = (i, refl, h.0, h.1)

none_told : (o : Option InodeFound) (x : Option TreeItem) → TellsInode o x → o ≡ None → x ≡ None
none_told None None h is = refl
none_told None (Some i) h is = absurd h
none_told (Some f) x h is = cc

told_none : (o : Option InodeFound) (x : Option TreeItem) → TellsInode o x → x ≡ None → o ≡ None
told_none None x h is = refl
told_none (Some f) None h is = absurd h
told_none (Some f) (Some i) h is = cc

told_some : (o : Option InodeFound) (i : TreeItem) → TellsInode o (Some i) → (f : InodeFound) × (o ≡ Some f) × (f.leaf ≡ i.leaf) × (f.inode ≡ inode_of i.body)
told_some None i h = absurd h
told_some (Some f) i h = (f, refl, h.0, h.1)

tells_kind : (o : Option InodeFound) (x : Option TreeItem) → TellsInode o x → option_and_then kind_found o ≡ kind_in (option_and_then (λ i. inode_of i.body) x)
tells_kind None None h = refl
tells_kind None (Some i) h = absurd h
tells_kind (Some f) None h = absurd h
tells_kind (Some f) (Some i) h = ap kind_in h.1

dir_is : (k : Option Kind) → option_map_or is_directory k false ≡ true → k ≡ Some Directory
dir_is None h = absurd (true≢false (sym h))
dir_is (Some Directory) h = refl
dir_is (Some File) h = absurd (true≢false (sym h))
dir_is (Some Symlink) h = absurd (true≢false (sym h))
dir_is (Some Character) h = absurd (true≢false (sym h))
dir_is (Some Block) h = absurd (true≢false (sym h))
dir_is (Some Fifo) h = absurd (true≢false (sym h))
dir_is (Some Socket) h = absurd (true≢false (sym h))
dir_is (Some Subvolume) h = absurd (true≢false (sym h))

pub symlink_is : (k : Kind) → is_symlink k ≡ true → k ≡ Symlink
symlink_is Symlink h = refl
symlink_is Directory h = absurd (true≢false (sym h))
symlink_is File h = absurd (true≢false (sym h))
symlink_is Character h = absurd (true≢false (sym h))
symlink_is Block h = absurd (true≢false (sym h))
symlink_is Fifo h = absurd (true≢false (sym h))
symlink_is Socket h = absurd (true≢false (sym h))
symlink_is Subvolume h = absurd (true≢false (sym h))

pub not_directory : (k : Kind) → is_directory k ≡ false → k ≡ Directory → ⊥
not_directory k h is = true≢false (sym (ap is_directory is) ∙ h)

kind_from : (own : Option Inode) (kind : Kind) → kind_in own ≡ Some kind → (inode : Inode) × (own ≡ Some inode) × (kind_of_mode inode.mode ≡ Some kind)
kind_from None kind h = cc
kind_from (Some inode) kind h = (inode, refl, h)

pub same_some : {X : Type 0} (x y : X) → Some x ≡ Some y → x ≡ y
same_some x y h = cc

module _ (t : NameTable) (items : List TreeItem) (noted : HasNotedNames t items) (ino : ℕ) where
  pub dir_from : is_dir t ino ≡ true → IsDirectoryInode items ino
  dir_from h = kind_from (inode_on items ino) Directory (sym (tells_kind (told t ino) (find_inode_item items ino) (noted.each ino)) ∙ dir_is (kind_told t ino) h)

  pub dir_to : IsDirectoryInode items ino → is_dir t ino ≡ true
  dir_to d =
      ap (λ (k : Option Kind). option_map_or is_directory k false) (tells_kind (told t ino) (find_inode_item items ino) (noted.each ino) ∙ (ap kind_in d.1 ∙ d.2))

  pub absent_from : told t ino ≡ None → find_inode_item items ino ≡ None
  absent_from h = none_told (told t ino) (find_inode_item items ino) (noted.each ino) h

  pub absent_to : find_inode_item items ino ≡ None → told t ino ≡ None
  absent_to h = told_none (told t ino) (find_inode_item items ino) (noted.each ino) h

  pub item_from : (f : InodeFound) → told t ino ≡ Some f → (i : TreeItem) × (find_inode_item items ino ≡ Some i) × (f.leaf ≡ i.leaf) × (f.inode ≡ inode_of i.body)
  item_from f h = item_told f (find_inode_item items ino) (subst (λ (o : Option InodeFound). TellsInode o (find_inode_item items ino)) h (noted.each ino))

  pub item_to : (i : TreeItem) → find_inode_item items ino ≡ Some i → (f : InodeFound) × (told t ino ≡ Some f) × (f.leaf ≡ i.leaf) × (f.inode ≡ inode_of i.body)
  item_to i h = told_some (told t ino) i (subst (TellsInode (told t ino)) h (noted.each ino))
