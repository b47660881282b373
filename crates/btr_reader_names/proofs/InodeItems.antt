-- The item of an inode, found as the items go by.
use Rattle.btr_reader_names.proofs.Imports.{◌≡◌, ℕ, Bool, true, false, List, [], ◌∷◌, ◌++◌, Option, Some, None, if◌then◌else◌, refl, TreeItem, is_inode_of, find_inode_item, first_item}

abbrev own : ℕ → TreeItem → Option TreeItem
own number i = if is_inode_of number i then Some i else None

-- whatever the first test says
either_way : (number : ℕ) (x : TreeItem) (later earlier : Option TreeItem) (i : TreeItem) (t : Bool) → later ≡ first_item earlier (own number i)
    → (if t then Some x else later) ≡ first_item (if t then Some x else earlier) (own number i)
either_way number x later earlier i true is = refl
either_way number x later earlier i false is = is

pub inode_item-push : (number : ℕ) (xs : List TreeItem) (i : TreeItem) → find_inode_item (xs ++ i ∷ []) number ≡ first_item (find_inode_item xs number) (own number i)
inode_item-push number [] i = refl
inode_item-push number (x ∷ xs) i = either_way number x (find_inode_item (xs ++ i ∷ []) number) (find_inode_item xs number) i (is_inode_of number x) (inode_item-push number xs i)
