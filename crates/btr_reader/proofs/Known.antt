-- A named inode of a tree whose names keep the rules is there, and its kind is known.
use Rattle.btr_reader.proofs.Imports.{◌≡◌, ℕ, ◌<◌, Bool, List, [], ◌∷◌, Contains, Option, Some, None, refl, sym, ap, subst, ◌∙◌, option_and_then, FIRST_FREE_OBJECTID, BadBtrfs, Body, NoInode, inode_of, Inode, TreeItem, NameList, Kind, Symlink, DirIndex, find_inode_item, inode_on, kind_of_mode, IsDirectoryInode, followed, IsNamedInode, root, entry, Target, inode, tree, NamesTarget as IsNameOf, LeadsToTarget, KeepsNames, no_root_directory, no_inode, bad_inode, bad_mode, long_target}

-- an inode that is there, and its kind
pub record IsKnown (items : List TreeItem) (ino : ℕ) : Type 0 where
  pub item : TreeItem
  pub own : Inode
  pub kind : Kind
  pub has_item : find_inode_item items ino ≡ Some item
  pub body : inode_of item.body ≡ Some own
  pub known : kind_of_mode own.mode ≡ Some kind

pub own_on : (items : List TreeItem) (ino : ℕ) (k : IsKnown items ino) → inode_on items ino ≡ Some k.own
own_on items ino k = ap (option_and_then (λ (i : TreeItem). inode_of i.body)) k.has_item ∙ k.body

-- the item of an inode
item_by : (o : Option TreeItem) (own : Inode) → option_and_then (λ (i : TreeItem). inode_of i.body) o ≡ Some own → (i : TreeItem) × (o ≡ Some i) × (inode_of i.body ≡ Some own)
item_by None own is = cc
item_by (Some i) own is = (i, refl, is)

module _ (has_root : ℕ → Bool) (items : List TreeItem) (root_at : ℕ) (keeps : KeepsNames has_root items root_at) where
  absent : (ino : ℕ) → IsNamedInode items ino → find_inode_item items ino ≡ None → ⊥
  absent _ root none = keeps (BadBtrfs root_at NoInode) (no_root_directory none refl)
  absent _ (entry n among dir directory names) none = keeps (BadBtrfs n.leaf NoInode) (no_inode n among (record { named = dir; directory = directory }) names none refl)

  item_of : (ino : ℕ) → IsNamedInode items ino → (o : Option TreeItem) → find_inode_item items ino ≡ o → (i : TreeItem) × (find_inode_item items ino ≡ Some i)
  item_of ino named None is = absurd (absent ino named is)
  item_of ino named (Some i) is = (i, is)

  body_of : (ino : ℕ) (i : TreeItem) → IsNamedInode items ino → find_inode_item items ino ≡ Some i → (o : Option Inode) → inode_of i.body ≡ o → (own : Inode) × (inode_of i.body ≡ Some own)
  body_of ino i named there None is = absurd (keeps (BadBtrfs i.leaf Body) (bad_inode ino i named there is refl))
  body_of ino i named there (Some own) is = (own, is)

  kind_in : (ino : ℕ) (i : TreeItem) (own : Inode) → IsNamedInode items ino → find_inode_item items ino ≡ Some i → inode_of i.body ≡ Some own → (o : Option Kind) → kind_of_mode own.mode ≡ o
      → (kind : Kind) × (kind_of_mode own.mode ≡ Some kind)
  kind_in ino i own named there body None is = absurd (keeps (BadBtrfs i.leaf Body) (bad_mode ino i own named there body is refl))
  kind_in ino i own named there body (Some kind) is = (kind, is)

  pub is_known : (ino : ℕ) → IsNamedInode items ino → IsKnown items ino
  is_known ino named =
      let item = item_of ino named (find_inode_item items ino) refl in
      let body = body_of ino item.0 named item.1 (inode_of item.0.body) refl in
      let kind = kind_in ino item.0 body.0 named item.1 body.1 (kind_of_mode body.0.mode) refl in
      record { item = item.0; own = body.0; kind = kind.0; has_item = item.1; body = body.1; known = kind.1 }

  -- the target of a named symlink is not too long
  pub not_long : (ino : ℕ) (own : Inode) → IsNamedInode items ino → inode_on items ino ≡ Some own → kind_of_mode own.mode ≡ Some Symlink → 4095 < own.size → ⊥
  not_long ino own named on kind long =
      let item = item_by (find_inode_item items ino) own on in
      keeps (BadBtrfs item.0.leaf Body) (long_target ino item.0 own named item.1 item.2 kind long refl)

-- what a path leads to from there: an inode that is named, or another tree
abbrev pub IsThere : List TreeItem → Target → Type 0
IsThere items (inode ino) = IsNamedInode items ino
IsThere items (tree number) = Unit {0}

module _ (items : List TreeItem) where
  there_next : (n : DirIndex) (next : Target) → Contains (followed items) n → IsNamedInode items n.dir → IsDirectoryInode items n.dir → IsNameOf n next → IsThere items next
  there_next n (inode ino) among named directory (names, same) = subst (IsNamedInode items) same (entry n among named directory names)
  there_next n (tree number) among named directory is = tt

  there : (path : NameList) (from to : Target) → IsThere items from → LeadsToTarget items from path to → IsThere items to
  there [] from to is leads = subst (IsThere items) leads is
  there (name ∷ names) (tree number) to is leads = absurd leads
  there (name ∷ names) (inode ino) to is (n, next, among, at, dir, called, names_it, rest) =
      there names next to (there_next n next among (subst (IsNamedInode items) (sym at) is) (subst (IsDirectoryInode items) (sym at) dir) names_it) rest

  pub leads_named : (path : NameList) (ino : ℕ) → LeadsToTarget items (inode FIRST_FREE_OBJECTID) path (inode ino) → IsNamedInode items ino
  leads_named path ino leads = there path (inode FIRST_FREE_OBJECTID) (inode ino) root leads
