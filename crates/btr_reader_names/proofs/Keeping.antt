-- Where no look blames anything, no rule is broken.
use Rattle.btr_reader_names.proofs.Imports.{◌≡◌, ℕ, ◌==◌, Bool, true, false, not, ◌&&◌, nat_lt, List, ◌∷◌, Contains, AllPairs, Option, Some, None, is_some, if◌then◌else◌, refl, sym, ap, subst, ◌∙◌, true≢false, arith, option_and_then, option_map_or, and_from, nat_tests, Contains-append_left, Contains-append_right, AllPairs-filter, FIRST_FREE_OBJECTID, BtrRule, Body, NoInode, NameForm, DirTwice, inode_of, Inode, TreeItem, Kind, Directory, NodeId, at_head, InodeFound, DirIndex, OffForm, NameTable, find_inode_item, kind_of_mode, is_directory, dir_indexes, followed, is_followed, is_name, names_inode, names_tree, IsNamedInode, fits_size, is_good, IsGoodNode, inode_rule, tree_rule, target_rule, entry_rule, IsGoodEntry, DifferInName, leads_down, LeadApart, AreIn, IsOpen, KeepsNames, no_root_directory, root_is_none, bad_inode, bad_mode, long_target, bad_index, bad_name, twice, bad_location, no_inode, no_tree, directory_twice, root_named, inode_node, AreNamed, is_open, is_link, kind_found, has_item, is_dir, HasNotedNames}
use Rattle.btr_reader_names.proofs.Members.{pair_of}
use Rattle.btr_reader_names.proofs.Told.{dir_from, dir_to, absent_to, item_to, same_some}
use Rattle.btr_reader_names.proofs.Refusing.{to_off_forms}
use Rattle.btr_reader_names.proofs.Reaching.{naming_to, followed_to, open_to}

some_none : {X : Type 0} (x : X) → Some x ≡ None → ⊥
some_none x h = cc

first_in : {X : Type 0} (xs : List X) (x y : X) → AreIn xs x y → Contains xs x
first_in xs x y a = subst (λ l. Contains l x) (sym a.split) (Contains-append_left a.before (y ∷ a.after) x a.earlier)

second_in : {X : Type 0} (xs : List X) (x y : X) → AreIn xs x y → Contains xs y
second_in xs x y a = subst (λ l. Contains l y) (sym a.split) (Contains-append_right a.before (y ∷ a.after) y (at_head y a.after))

-- what an entry that breaks no rule does not do
named_well : (a : Bool) (rest : Option BtrRule) → (if a then rest else Some NameForm) ≡ None → (a ≡ true) × (rest ≡ None)
named_well true rest h = (refl, h)
named_well false rest h = absurd (some_none NameForm h)

inode_there : (b e : Bool) → (if b then (if e then Some DirTwice else None) else Some NoInode) ≡ None → (b ≡ true) × (e ≡ false)
inode_there true true h = absurd (some_none DirTwice h)
inode_there true false h = (refl, refl)
inode_there false e h = absurd (some_none NoInode h)

tree_there : (b : Bool) → (if b then None else Some NoInode) ≡ None → b ≡ true
tree_there true h = refl
tree_there false h = absurd (some_none NoInode h)

module _ (t : NameTable) (items : List TreeItem) (noted : HasNotedNames t items) (roots : ℕ → Bool) (root_at : ℕ) (has : NodeId → Bool) (named : AreNamed items has)
    (root_dir : is_dir t FIRST_FREE_OBJECTID ≡ true) (inodes : (node : NodeId) → has node ≡ true → IsGoodNode t node) (forms : (o : OffForm) → Contains t.off_form.items o → is_open t has o.dir ≡ false)
    (entries : (n : DirIndex) → Contains t.namings.items n → IsGoodEntry t (is_open t has) roots n) (once : AllPairs (DifferInName (is_open t has)) t.namings.items)
    (apart : AllPairs (LeadApart t has) t.namings.items) where
  -- a named inode that is there is good
  good : (ino : ℕ) (i : TreeItem) → IsNamedInode items ino → find_inode_item items ino ≡ Some i → option_map_or is_good (inode_of i.body) false ≡ true
  good ino i is there =
      let at = item_to t items noted ino i there in
      ap (λ (o : Option Inode). option_map_or is_good o false) (sym at.3) ∙ inodes (inode_node ino) (named.whole ino is) at.0 at.1

  entry_good : (n : DirIndex) → Contains (dir_indexes items) n → IsOpen items n.dir → entry_rule t roots n ≡ None
  entry_good n among opened = entries n (naming_to t items noted n among) (open_to t items noted has named n.dir opened)

  target_good : (n : DirIndex) → Contains (followed items) n → IsOpen items n.dir → target_rule t roots n ≡ None
  target_good n among opened =
      let r = followed_to t items noted n among in
      let whole = named_well (is_name n.name) (if is_followed n then target_rule t roots n else None) (entries n r.0 (open_to t items noted has named n.dir opened)) in
      sym (ap (λ (b : Bool). if b then target_rule t roots n else None) r.1) ∙ whole.1

  inode_good : (n : DirIndex) → Contains (followed items) n → IsOpen items n.dir → names_inode n ≡ true → (has_item t n.location.objectid ≡ true) × ((n.location.objectid == FIRST_FREE_OBJECTID) ≡ false)
  inode_good n among opened names =
      inode_there (has_item t n.location.objectid) (n.location.objectid == FIRST_FREE_OBJECTID)
      (sym (ap (λ (b : Bool). if b then inode_rule t n.location.objectid else (if names_tree n then tree_rule roots n.location.objectid else Some Body)) names) ∙ target_good n among opened)

  -- an entry of the tree by its location: no inode's key is a root's
  tree_good : (n : DirIndex) → Contains (followed items) n → IsOpen items n.dir → names_inode n ≡ false → (b : Bool) → names_tree n ≡ b → (b ≡ true) × (roots n.location.objectid ≡ true)
  tree_good n among opened other true names = (
    refl,
    tree_there (roots n.location.objectid)
        (sym (ap (λ (b : Bool). if names_inode n then inode_rule t n.location.objectid else (if b then tree_rule roots n.location.objectid else Some Body)) names
        ∙ ap (λ (b : Bool). if b then inode_rule t n.location.objectid else tree_rule roots n.location.objectid) other)
        ∙ target_good n among opened),
  )
  tree_good n among opened other false names =
      absurd (some_none Body
      (sym (ap (λ (b : Bool). if names_inode n then inode_rule t n.location.objectid else (if b then tree_rule roots n.location.objectid else Some Body)) names
      ∙ ap (λ (b : Bool). if b then inode_rule t n.location.objectid else Some Body) other)
      ∙ target_good n among opened))

  not_both : (n : DirIndex) → names_tree n ≡ true → names_inode n ≡ false
  not_both n tree = grind (arith, nat_tests, tree)

  down : (n : DirIndex) → Contains (followed items) n → IsOpen items n.dir → names_inode n ≡ true → is_dir t n.location.objectid ≡ true → leads_down t has n ≡ true
  down n among opened names dir =
      let r = followed_to t items noted n among in
      and_from (is_link t has n) (names_inode n && is_dir t n.location.objectid) (and_from (is_followed n) (is_open t has n.dir) r.1 (open_to t items noted has named n.dir opened))
      (and_from (names_inode n) (is_dir t n.location.objectid) names dir)

  pub keeps : KeepsNames roots items root_at
  keeps r (no_root_directory none is) =
      true≢false (sym root_dir ∙ ap (λ (f : Option InodeFound). option_map_or is_directory (option_and_then kind_found f) false) (absent_to t items noted FIRST_FREE_OBJECTID none))
  keeps r (root_is_none own kind on known other is) =
      let d = dir_from t items noted FIRST_FREE_OBJECTID root_dir in
      let same = same_some own d.0 (sym on ∙ d.1) in
      other (same_some kind Directory (sym known ∙ (ap (λ (i : Inode). kind_of_mode i.mode) same ∙ d.2)))
  keeps r (bad_inode ino i is there body refused) = true≢false (sym (good ino i is there) ∙ ap (λ (o : Option Inode). option_map_or is_good o false) body)
  keeps r (bad_mode ino i own is there body unknown refused) =
      true≢false (sym (good ino i is there) ∙ (ap (λ (o : Option Inode). option_map_or is_good o false) body ∙ ap (λ (k : Option Kind). option_map_or (fits_size own.size) k false) unknown))
  keeps r (long_target ino i own is there body known long refused) =
      let above : nat_lt 4095 own.size ≡ true = grind (arith, nat_tests, long) in
      true≢false (sym (good ino i is there)
      ∙ (ap (λ (o : Option Inode). option_map_or is_good o false) body ∙ (ap (λ (k : Option Kind). option_map_or (fits_size own.size) k false) known ∙ ap (λ (b : Bool). not (true && b)) above)))
  keeps r (bad_index i among is opened none refused) =
      let off : OffForm = record { leaf = i.leaf; dir = i.key.objectid } in
      true≢false (sym (open_to t items noted has named i.key.objectid opened) ∙ forms off (subst (λ (l : List OffForm). Contains l off) (sym noted.off_forms) (to_off_forms items i among is none)))
  keeps r (bad_name n among opened bad refused) =
      let whole = named_well (is_name n.name) (if is_followed n then target_rule t roots n else None) (entry_good n among opened) in
      true≢false (sym whole.0 ∙ bad)
  keeps r (twice m n both opened dir name refused) =
      pair_of (DifferInName (is_open t has)) t.namings.items m n once (subst (λ (l : List DirIndex). AreIn l m n) (sym noted.namings) both) (open_to t items noted has named n.dir opened) dir name
  keeps r (bad_location n among opened other neither refused) = true≢false (sym (tree_good n among opened other false neither).0)
  keeps r (no_inode n among opened names none refused) =
      true≢false (sym (inode_good n among opened names).0 ∙ ap (λ (f : Option InodeFound). is_some f) (absent_to t items noted n.location.objectid none))
  keeps r (no_tree n among opened names none refused) = true≢false (sym (tree_good n among opened (not_both n names) true names).1 ∙ none)
  keeps r (directory_twice m n both open_m open_n names_m names_n same dir refused) =
      let among_m = first_in (followed items) m n both in
      let among_n = second_in (followed items) m n both in
      let dir_n = dir_to t items noted n.location.objectid dir in
      let dir_m : is_dir t m.location.objectid ≡ true = ap (λ (k : ℕ). is_dir t k) same ∙ dir_n in
      let all = AllPairs-filter (LeadApart t has) is_followed (dir_indexes items) (subst (λ (l : List DirIndex). AllPairs (LeadApart t has) l) noted.namings apart) in
      pair_of (LeadApart t has) (followed items) m n all both (down m among_m open_m names_m dir_m) (down n among_n open_n names_n dir_n) same
  keeps r (root_named n among opened names top refused) =
      let here : (n.location.objectid == FIRST_FREE_OBJECTID) ≡ true = ap (λ (k : ℕ). k == FIRST_FREE_OBJECTID) top in
      true≢false (sym here ∙ (inode_good n among opened names).1)
