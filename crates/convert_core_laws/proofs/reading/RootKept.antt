-- Where the rules of names are kept, those of the root directory alone are.
use Rattle.convert_core_laws.proofs.Imports.{◌≡◌, ◌≤◌, ◌<◌, ℕ, zero, suc, ◌&&◌, ◌||◌, ◌==◌, Bool, true, false, not, List, [], ◌∷◌, ◌++◌, length, get_or, Option, Some, None, refl, sym, ap, subst, ◌∙◌, ⊎_elim, arith, Contains, codes, if◌then◌else◌, option_and_then, both_ways, cases_Bool, cases_lt, eq-eqb, eqb-true, get_or_default, Contains-append_left, Contains-append_right, FIRST_FREE_OBJECTID, in_filter, BtrRefusal, BadBtrfs, Body, NoInode, NameForm, DirEntryValue, inode_of, Inode, Key, find_inode_item, inode_on, kind_of_mode, index_entry, is_index, is_name, is_saved_name, names_inode, names_tree, naming_at, naming_of, dir_indexes, own_naming, AreIn, IsOpen, KeepsNames, bad_index, bad_inode, bad_location, bad_mode, bad_name, no_root_directory, root_is_none, twice, DirIndex, entry_named, index_refusals, index_refusals_at, is_called, is_root_directory, location_refusals, name_refusals, own_index_refusals, root_refusals, saved_location, twice_refusals, TreeItem, Kind, Directory, File, Symlink, Character, Block, Fifo, Socket, Subvolume, contains_cases, contains_head, contains_tail}
use Rattle.std.proofs.Common.{AllPairs}
use Rattle.btr_reader.specs.btr_reader_names.Inodes.{HasKind}
use Rattle.btr_reader.specs.btr_reader_names.Links.{is_followed, root}
use Rattle.reiser_volume.proofs.fs_paths.Nodes.{same_name-true}
use Rattle.btr_reader.specs.btr_reader_names.Passes.{DifferInName}
use Rattle.btr_reader.proofs.RootNames.{none_twice}

-- an entry of an item is one of all
entry_in : (items : List TreeItem) (i : TreeItem) (e : DirEntryValue) → Contains items i → is_index i ≡ true → index_entry i.body ≡ Some e → Contains (dir_indexes items) (naming_of i e)
entry_in [] i e h t is = absurd (omega (arith, h.1))
entry_in (j ∷ items) i e h t is =
    ⊎_elim
    (λ (same : j ≡ i).
    let own : own_naming i ≡ naming_of i e ∷ [] = ap (λ (b : Bool). if b then naming_at i (index_entry i.body) else []) t ∙ ap (naming_at i) is in
    Contains-append_left (own_naming j) (dir_indexes items) (naming_of i e)
    (subst (λ (x : TreeItem). Contains (own_naming x) (naming_of i e)) (sym same) (subst (λ (l : List DirIndex). Contains l (naming_of i e)) (sym own) (contains_head (naming_of i e) []))))
    (λ (later : Contains items i). Contains-append_right (own_naming j) (dir_indexes items) (naming_of i e) (entry_in items i e later t is))
    (contains_cases i j items h)

index_all : (items : List TreeItem) → ((i : TreeItem) → Contains items i → own_index_refusals i ≡ []) → index_refusals items ≡ []
index_all [] each = refl
index_all (i ∷ items) each =
    ap (λ (rs : List BtrRefusal). rs ++ index_refusals items) (each i (contains_head i items)) ∙ index_all items (λ j h. each j (contains_tail j i items h))

-- a list around one of its elements
parted : (xs : List DirIndex) (j : ℕ) (d : DirIndex) → j < length xs → (before : List DirIndex) × (after : List DirIndex) × (xs ≡ before ++ (get_or xs j d ∷ after))
parted [] j d h = absurd (omega (arith, h))
parted (y ∷ ys) zero d h = ([], ys, refl)
parted (y ∷ ys) (suc j) d h = let r = parted ys j d (omega (arith, h)) in (y ∷ r.0, r.1, ap (λ (l : List DirIndex). y ∷ l) r.2)

-- two elements, the earlier first
are_in : (xs : List DirIndex) (i j : ℕ) (d : DirIndex) → i < j → j < length xs → AreIn xs (get_or xs i d) (get_or xs j d)
are_in [] i j d less h = absurd (omega (arith, h))
are_in (x ∷ xs) i zero d less h = absurd (omega (arith, less))
are_in (x ∷ xs) zero (suc j) d less h =
    let at = parted xs j d (omega (arith, h)) in
    record { before = x ∷ at.0; after = at.1; split = ap (λ (l : List DirIndex). x ∷ l) at.2; earlier = contains_head x at.0 }
are_in (x ∷ xs) (suc i) (suc j) d less h =
    let rest = are_in xs i j d (omega (arith, less)) (omega (arith, h)) in
    record { before = x ∷ rest.before; after = rest.after; split = ap (λ (l : List DirIndex). x ∷ l) rest.split; earlier = contains_tail (get_or xs i d) x rest.before rest.earlier }

module _ (has : ℕ → Bool) (items : List TreeItem) (address : ℕ) (keeps : KeepsNames has items address) where
  -- ---- the root directory is there

  is_directory_kind : (own : Inode) (kind : Kind) → inode_on items FIRST_FREE_OBJECTID ≡ Some own → kind_of_mode own.mode ≡ Some kind → kind ≡ Directory
  is_directory_kind own Directory on is = refl
  is_directory_kind own File on is = absurd (keeps (BadBtrfs address NoInode) (root_is_none own File on is (λ e. cc e) refl))
  is_directory_kind own Symlink on is = absurd (keeps (BadBtrfs address NoInode) (root_is_none own Symlink on is (λ e. cc e) refl))
  is_directory_kind own Character on is = absurd (keeps (BadBtrfs address NoInode) (root_is_none own Character on is (λ e. cc e) refl))
  is_directory_kind own Block on is = absurd (keeps (BadBtrfs address NoInode) (root_is_none own Block on is (λ e. cc e) refl))
  is_directory_kind own Fifo on is = absurd (keeps (BadBtrfs address NoInode) (root_is_none own Fifo on is (λ e. cc e) refl))
  is_directory_kind own Socket on is = absurd (keeps (BadBtrfs address NoInode) (root_is_none own Socket on is (λ e. cc e) refl))
  is_directory_kind own Subvolume on is = absurd (keeps (BadBtrfs address NoInode) (root_is_none own Subvolume on is (λ e. cc e) refl))

  by_kind : (i : TreeItem) (own : Inode) (kind : Option Kind) → find_inode_item items FIRST_FREE_OBJECTID ≡ Some i → inode_of i.body ≡ Some own → kind_of_mode own.mode ≡ kind → HasKind items FIRST_FREE_OBJECTID Directory
  by_kind i own None item is none = absurd (keeps (BadBtrfs i.leaf Body) (bad_mode FIRST_FREE_OBJECTID i own root item is none refl))
  by_kind i own (Some kind) item is mode =
      let on : inode_on items FIRST_FREE_OBJECTID ≡ Some own = ap (λ (o : Option TreeItem). option_and_then (λ j. inode_of j.body) o) item ∙ is in
      (own, on, mode ∙ ap (λ (k : Kind). let o : Option Kind = Some k in o) (is_directory_kind own kind on mode))

  by_inode : (i : TreeItem) (own : Option Inode) → find_inode_item items FIRST_FREE_OBJECTID ≡ Some i → inode_of i.body ≡ own → HasKind items FIRST_FREE_OBJECTID Directory
  by_inode i None item none = absurd (keeps (BadBtrfs i.leaf Body) (bad_inode FIRST_FREE_OBJECTID i root item none refl))
  by_inode i (Some own) item is = by_kind i own (kind_of_mode own.mode) item is refl

  by_item : (i : Option TreeItem) → find_inode_item items FIRST_FREE_OBJECTID ≡ i → HasKind items FIRST_FREE_OBJECTID Directory
  by_item None none = absurd (keeps (BadBtrfs address NoInode) (no_root_directory none refl))
  by_item (Some i) item = by_inode i (inode_of i.body) item refl

  root_open : IsOpen items FIRST_FREE_OBJECTID
  root_open = record { named = root; directory = by_item (find_inode_item items FIRST_FREE_OBJECTID) refl }

  open_at : (ino : ℕ) → ino ≡ FIRST_FREE_OBJECTID → IsOpen items ino
  open_at ino is = subst (IsOpen items) (sym is) root_open

  -- ---- no name is there twice

  differ : AllPairs (DifferInName is_root_directory) (dir_indexes items)
  differ = λ i j d less h opened dir name.
      let is : (get_or (dir_indexes items) j d).dir ≡ 256 = eqb-true (get_or (dir_indexes items) j d).dir 256 opened in
      keeps (BadBtrfs (get_or (dir_indexes items) j d).leaf NameForm) (twice (get_or (dir_indexes items) i d) (get_or (dir_indexes items) j d) (are_in (dir_indexes items) i j d less h) (open_at (get_or (dir_indexes items) j d).dir is) dir name refl)

  pub one_name : (m n : DirIndex) → Contains (dir_indexes items) m → Contains (dir_indexes items) n → m.dir ≡ FIRST_FREE_OBJECTID → n.dir ≡ FIRST_FREE_OBJECTID → m.name ≡ n.name → m ≡ n
  one_name m n h k dir_m dir_n name =
      ⊎_elim (λ (less : h.0 < k.0). absurd (apart m n h k less dir_m dir_n name))
      (λ (rest : k.0 ≤ h.0). ⊎_elim (λ (more : k.0 < h.0). absurd (apart n m k h more dir_n dir_m (sym name)))
      (λ (end : h.0 ≤ k.0). let at : h.0 ≡ k.0 = omega (arith, rest, end) in sym h.2 ∙ (ap (λ (i : ℕ). get_or (dir_indexes items) i m) at ∙ (get_or_default (dir_indexes items) k.0 m n k.1 ∙ k.2))) (cases_lt k.0 h.0))
      (cases_lt h.0 k.0)
    where
      apart : (a b : DirIndex) (p : Contains (dir_indexes items) a) (q : Contains (dir_indexes items) b) → p.0 < q.0 → a.dir ≡ FIRST_FREE_OBJECTID → b.dir ≡ FIRST_FREE_OBJECTID → a.name ≡ b.name → ⊥
      apart a b p q less dir_a dir_b same =
          let second : get_or (dir_indexes items) q.0 a ≡ b = get_or_default (dir_indexes items) q.0 a b q.1 ∙ q.2 in
          let ordered : AreIn (dir_indexes items) a b = subst (λ (x : DirIndex). AreIn (dir_indexes items) a x) second (subst (λ (x : DirIndex). AreIn (dir_indexes items) x (get_or (dir_indexes items) q.0 a)) p.2 (are_in (dir_indexes items) p.0 q.0 a less q.1)) in
          keeps (BadBtrfs b.leaf NameForm) (twice a b ordered (open_at b.dir dir_b) (dir_a ∙ sym dir_b) same refl)

  -- ---- and where the saved entry leads to a tree, nothing is wrong with the entries

  module _ (saved : DirIndex) (there : Contains (dir_indexes items) saved) (dir : saved.dir ≡ FIRST_FREE_OBJECTID) (name : saved.name ≡ codes "reiserfs_saved") (leads : names_tree saved ≡ true) where
    -- an entry with this name is this one
    saved_is : (n : DirIndex) → Contains (dir_indexes items) n → n.dir ≡ FIRST_FREE_OBJECTID → is_saved_name n.name ≡ true → n ≡ saved
    saved_is n h at called = one_name n saved h there at dir (same_name-true n.name (codes "reiserfs_saved") called ∙ sym name)

    location_sound : (n : DirIndex) → Contains (dir_indexes items) n → n.dir ≡ FIRST_FREE_OBJECTID → location_refusals n ≡ []
    location_sound n h at = by (names_inode n) (names_tree n) refl refl
      where
        tree_there : is_saved_name n.name ≡ true → names_tree n ≡ true
        tree_there called = subst (λ (x : DirIndex). names_tree x ≡ true) (sym (saved_is n h at called)) leads

        by : (a b : Bool) → names_inode n ≡ a → names_tree n ≡ b → (if a || b then [] else BadBtrfs n.leaf Body ∷ []) ≡ []
        by true b is_a is_b = refl
        by false true is_a is_b = refl
        by false false is_a is_b =
            ⊎_elim (λ (called : is_saved_name n.name ≡ true). absurd (both_ways (names_tree n) is_b (tree_there called)))
            (λ (other : is_saved_name n.name ≡ false).
            let goes : is_followed n ≡ true = ap (λ (b : Bool). not ((n.dir == FIRST_FREE_OBJECTID) && b)) other ∙ off (n.dir == FIRST_FREE_OBJECTID) in
            absurd (keeps (BadBtrfs n.leaf Body) (bad_location n (in_filter is_followed (dir_indexes items) n h goes) (open_at n.dir at) is_a is_b refl)))
            (cases_Bool (is_saved_name n.name))
          where
            off : (b : Bool) → not (b && false) ≡ true
            off true = refl
            off false = refl

    name_sound : (n : DirIndex) → Contains (dir_indexes items) n → n.dir ≡ FIRST_FREE_OBJECTID → name_refusals n ≡ []
    name_sound n h at = by (is_name n.name) refl
      where
        by : (b : Bool) → is_name n.name ≡ b → (if b then [] else BadBtrfs n.leaf NameForm ∷ []) ≡ []
        by true is = refl
        by false is = absurd (keeps (BadBtrfs n.leaf NameForm) (bad_name n h (open_at n.dir at) is refl))

    index_sound : (i : TreeItem) → Contains items i → own_index_refusals i ≡ []
    index_sound i h = by (is_index i) (i.key.objectid == FIRST_FREE_OBJECTID) refl refl
      where
        entry_sound : is_index i ≡ true → i.key.objectid ≡ FIRST_FREE_OBJECTID → (e : Option DirEntryValue) → index_entry i.body ≡ e → index_refusals_at i e ≡ []
        entry_sound t at None none = absurd (keeps (BadBtrfs i.leaf Body) (bad_index i h t (open_at i.key.objectid at) none refl))
        entry_sound t at (Some e) is =
            let there_too : Contains (dir_indexes items) (naming_of i e) = entry_in items i e h t is in
            ap (λ (rs : List BtrRefusal). rs ++ location_refusals (naming_of i e)) (name_sound (naming_of i e) there_too at) ∙ location_sound (naming_of i e) there_too at

        by : (a b : Bool) → is_index i ≡ a → (i.key.objectid == FIRST_FREE_OBJECTID) ≡ b → (if a && b then index_refusals_at i (index_entry i.body) else []) ≡ []
        by true true t at = entry_sound t (eqb-true i.key.objectid 256 at) (index_entry i.body) refl
        by true false t at = refl
        by false b t at = refl

    pub root_sound : root_refusals items ≡ []
    root_sound = ap (λ (rs : List BtrRefusal). rs ++ twice_refusals (dir_indexes items)) (index_all items index_sound) ∙ none_twice (dir_indexes items) differ

    -- the entry that is found is this one
    first_saved : (ns : List DirIndex) → ((n : DirIndex) → Contains ns n → Contains (dir_indexes items) n) → Contains ns saved → entry_named (is_called (codes "reiserfs_saved")) ns ≡ Some saved.location
    first_saved [] all h = absurd (omega (arith, h.1))
    first_saved (n ∷ ns) all h = by (first_saved ns (λ x k. all x (contains_tail x n ns k))) (n.dir == FIRST_FREE_OBJECTID) (is_saved_name n.name) refl refl
      where
        later : (Contains ns saved → entry_named (is_called (codes "reiserfs_saved")) ns ≡ Some saved.location) → (n ≡ saved → ⊥) → entry_named (is_called (codes "reiserfs_saved")) ns ≡ Some saved.location
        later next other = ⊎_elim (λ (same : n ≡ saved). absurd (other same)) next (contains_cases saved n ns h)

        called_saved : is_saved_name saved.name ≡ true
        called_saved = ap is_saved_name name

        by : (Contains ns saved → entry_named (is_called (codes "reiserfs_saved")) ns ≡ Some saved.location) → (a b : Bool) → (n.dir == FIRST_FREE_OBJECTID) ≡ a → is_saved_name n.name ≡ b
            → (if a && b then Some n.location else entry_named (is_called (codes "reiserfs_saved")) ns) ≡ Some saved.location
        by next true true at called = ap (λ (x : DirIndex). let o : Option Key = Some x.location in o) (saved_is n (all n (contains_head n ns)) (eqb-true n.dir 256 at) called)
        by next true false at called = later next (λ same. both_ways (is_saved_name n.name) called (subst (λ (x : DirIndex). is_saved_name x.name ≡ true) (sym same) called_saved))
        by next false b at called = later next (λ same. both_ways (n.dir == FIRST_FREE_OBJECTID) at (eq-eqb n.dir 256 (ap (λ (x : DirIndex). x.dir) same ∙ dir)))

    pub saved_found : saved_location items ≡ Some saved.location
    saved_found = first_saved (dir_indexes items) (λ n h. h) there
