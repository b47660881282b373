-- What each look blames is a rule that is broken.
use Rattle.btr_reader_names.proofs.Imports.{◌≡◌, ℕ, ◌==◌, Bool, true, false, not, ◌&&◌, nat_lt, List, [], ◌∷◌, Contains, Option, Some, None, is_some, if◌then◌else◌, ⊎_elim, refl, sym, ap, subst, ◌∙◌, true≢false, arith, option_and_then, option_map_or, and_parts, eqb-true, nat_tests, Contains-append_cases, Contains-append_left, Contains-append_right, FIRST_FREE_OBJECTID, BtrRefusal, BadBtrfs, BtrRule, Body, NoInode, NameForm, DirTwice, inode_of, Inode, TreeItem, Kind, NodeId, head_or_tail, in_tail, at_head, InodeFound, DirIndex, OffForm, NameTable, find_inode_item, inode_on, kind_of_mode, is_symlink, dir_indexes, is_followed, is_index, index_entry, is_name, names_inode, names_tree, IsNamedInode, root, BlamesRoot, root_absent, root_off, root_other, fits_size, is_good, is_good_item, BlamesForm, inode_rule, tree_rule, target_rule, BlamesEntry, leads_down, AreIn, IsOpen, BreaksNames, no_root_directory, root_is_none, bad_inode, bad_mode, long_target, bad_index, bad_name, twice, bad_location, no_inode, no_tree, directory_twice, root_named, AreNamed, is_open, is_link, own_off_form, off_form_at, off_forms, told, has_item, is_dir, HasNotedNames}
use Rattle.btr_reader_walk.specs.btr_keys.DirEntry.{DirEntryValue}
use Rattle.btr_reader_names.proofs.Members.{filter_in}
use Rattle.btr_reader_names.proofs.Told.{dir_from, absent_from, item_from, symlink_is, not_directory, same_some}
use Rattle.btr_reader_names.proofs.Reaching.{naming_from, followed_from, open_from}

at_leaf : (r : BtrRefusal) (a b : ℕ) (rule : BtrRule) → a ≡ b → r ≡ BadBtrfs a rule → r ≡ BadBtrfs b rule
at_leaf r a b rule same is = is ∙ ap (λ (n : ℕ). BadBtrfs n rule) same

not_false : (b : Bool) → not b ≡ false → b ≡ true
not_false true h = refl
not_false false h = absurd (true≢false h)

some_not_none : {X : Type 0} (x : X) → Some x ≡ None → ⊥
some_not_none x h = cc

-- the directory index that an off form is
pub from_off_forms : (items : List TreeItem) (o : OffForm) → Contains (off_forms items) o → (i : TreeItem) × Contains items i × (is_index i ≡ true) × (index_entry i.body ≡ None) × (o ≡ record { leaf = i.leaf; dir = i.key.objectid })
from_off_forms [] o h = absurd (omega (arith, h.1))
from_off_forms (i ∷ items) o h =
    ⊎_elim (λ own. by (is_index i) refl (index_entry i.body) refl own) (λ later. let r = from_off_forms items o later in (r.0, in_tail i items r.0 r.1, r.2, r.3, r.4)) (Contains-append_cases (own_off_form i) (off_forms items) o h)
  where
    one : (x : OffForm) → Contains (x ∷ []) o → o ≡ x
    one x c = ⊎_elim (λ own. sym own) (λ none. absurd (omega (arith, none.1))) (head_or_tail x [] o c)

    by : (b : Bool) → is_index i ≡ b → (e : Option DirEntryValue) → index_entry i.body ≡ e → Contains (if b then off_form_at i e else []) o
        → (j : TreeItem) × Contains (i ∷ items) j × (is_index j ≡ true) × (index_entry j.body ≡ None) × (o ≡ record { leaf = j.leaf; dir = j.key.objectid })
    by true is None none c = (i, at_head i items, is, none, one (record { leaf = i.leaf; dir = i.key.objectid }) c)
    by true is (Some e) some c = absurd (omega (arith, c.1))
    by false is e some c = absurd (omega (arith, c.1))

-- and the other way round
pub to_off_forms : (items : List TreeItem) (i : TreeItem) → Contains items i → is_index i ≡ true → index_entry i.body ≡ None → Contains (off_forms items) (record { leaf = i.leaf; dir = i.key.objectid })
to_off_forms [] i h is none = absurd (omega (arith, h.1))
to_off_forms (j ∷ items) i h is none =
    ⊎_elim (λ own. Contains-append_left (own_off_form j) (off_forms items) _ (subst (λ (x : TreeItem). Contains (own_off_form x) (record { leaf = i.leaf; dir = i.key.objectid })) (sym own) here))
    (λ later. Contains-append_right (own_off_form j) (off_forms items) _ (to_off_forms items i later is none)) (head_or_tail j items i h)
  where
    here : Contains (own_off_form i) (record { leaf = i.leaf; dir = i.key.objectid })
    here =
        subst (λ (b : Bool). Contains (if b then off_form_at i (index_entry i.body) else []) (record { leaf = i.leaf; dir = i.key.objectid })) (sym is)
        (subst (λ (e : Option DirEntryValue). Contains (off_form_at i e) (record { leaf = i.leaf; dir = i.key.objectid })) (sym none) (at_head (record { leaf = i.leaf; dir = i.key.objectid }) []))

module _ (t : NameTable) (items : List TreeItem) (noted : HasNotedNames t items) (roots : ℕ → Bool) (root_at : ℕ) (r : BtrRefusal) where
  abbrev Broken : Type 0
  Broken = BreaksNames roots items root_at r

  -- the item of a named inode
  pub item_refused : (ino : ℕ) (f : InodeFound) → IsNamedInode items ino → told t ino ≡ Some f → is_good_item f ≡ false → r ≡ BadBtrfs f.leaf Body → Broken
  item_refused ino f named has bad is =
      let at = item_from t items noted ino f has in
      let i : TreeItem = at.0 in
      let blamed : r ≡ BadBtrfs i.leaf Body = at_leaf r f.leaf i.leaf Body at.2 is in
      by i at.1 blamed (inode_of i.body) refl (sym (ap (λ (o : Option Inode). option_map_or is_good o false) at.3) ∙ bad)
    where
      by_kind : (i : TreeItem) → find_inode_item items ino ≡ Some i → r ≡ BadBtrfs i.leaf Body → (own : Inode) → inode_of i.body ≡ Some own → (kind : Option Kind) → kind_of_mode own.mode ≡ kind → option_map_or (fits_size own.size) kind false ≡ false → Broken
      by_kind i there blamed own body None unknown off = bad_mode ino i own named there body unknown blamed
      by_kind i there blamed own body (Some kind) known off =
          let parts = and_parts (is_symlink kind) (nat_lt 4095 own.size) (not_false (is_symlink kind && nat_lt 4095 own.size) off) in
          long_target ino i own named there body (known ∙ ap (λ (k : Kind). Some k) (symlink_is kind parts.0)) (grind (arith, nat_tests, parts.1)) blamed

      by : (i : TreeItem) → find_inode_item items ino ≡ Some i → r ≡ BadBtrfs i.leaf Body → (o : Option Inode) → inode_of i.body ≡ o → option_map_or is_good o false ≡ false → Broken
      by i there blamed None body off = bad_inode ino i named there body blamed
      by i there blamed (Some own) body off = by_kind i there blamed own body (kind_of_mode own.mode) refl off

  unknown_bad : (o : Option Inode) → option_and_then (λ (own : Inode). kind_of_mode own.mode) o ≡ None → option_map_or is_good o false ≡ false
  unknown_bad None h = refl
  unknown_bad (Some own) h = ap (λ (k : Option Kind). option_map_or (fits_size own.size) k false) h

  known_on : (i : TreeItem) (o : Option Inode) (kind : Kind) → find_inode_item items FIRST_FREE_OBJECTID ≡ Some i → o ≡ inode_of i.body → option_and_then (λ (own : Inode). kind_of_mode own.mode) o ≡ Some kind → (own : Inode) × (inode_on items FIRST_FREE_OBJECTID ≡ Some own) × (kind_of_mode own.mode ≡ Some kind)
  known_on i None kind there body h = cc
  known_on i (Some own) kind there body h = (own, ap (λ (x : Option TreeItem). option_and_then (λ j. inode_of j.body) x) there ∙ sym body, h)

  pub root_refused : BlamesRoot t root_at r → Broken
  root_refused (root_absent none is) = no_root_directory (absent_from t items noted FIRST_FREE_OBJECTID none) is
  root_refused (root_off f has unknown is) = item_refused FIRST_FREE_OBJECTID f root has (unknown_bad f.inode unknown) is
  root_refused (root_other f kind has known not_dir is) =
      let at = item_from t items noted FIRST_FREE_OBJECTID f has in
      let on = known_on at.0 f.inode kind at.1 at.3 known in
      root_is_none on.0 kind on.1 on.2 (not_directory kind not_dir) is

  module _ (has : NodeId → Bool) (named : AreNamed items has) where
    pub form_refused : (o : OffForm) → Contains t.off_form.items o → BlamesForm (is_open t has) o r → Broken
    form_refused o among blames =
        let at = from_off_forms items o (subst (λ (l : List OffForm). Contains l o) noted.off_forms among) in
        let i : TreeItem = at.0 in
        let opened : IsOpen items i.key.objectid = subst (IsOpen items) (ap (λ (f : OffForm). f.dir) at.4) (open_from t items noted has named o.dir blames.0) in
        bad_index i at.1 at.2 opened at.3 (at_leaf r o.leaf i.leaf Body (ap (λ (f : OffForm). f.leaf) at.4) blames.1)

    module _ (n : DirIndex) (among : Contains t.namings.items n) (opened : IsOpen items n.dir) where
      with_rule : (rule other : BtrRule) → Some other ≡ Some rule → r ≡ BadBtrfs n.leaf rule → r ≡ BadBtrfs n.leaf other
      with_rule rule other same is = is ∙ ap (λ (x : BtrRule). BadBtrfs n.leaf x) (sym (same_some other rule same))

      inode_refused : is_followed n ≡ true → names_inode n ≡ true → (b : Bool) → has_item t n.location.objectid ≡ b → (e : Bool) → (n.location.objectid == FIRST_FREE_OBJECTID) ≡ e
          → (rule : BtrRule) → (if b then (if e then Some DirTwice else None) else Some NoInode) ≡ Some rule → r ≡ BadBtrfs n.leaf rule → Broken
      inode_refused follows names true there true top rule broken is =
          root_named n (followed_from t items noted n among follows) opened names (eqb-true n.location.objectid 256 top) (with_rule rule DirTwice broken is)
      inode_refused follows names true there false top rule broken is = absurd (some_not_none rule (sym broken))
      inode_refused follows names false none e top rule broken is =
          no_inode n (followed_from t items noted n among follows) opened names (absent_from t items noted n.location.objectid (nothing (told t n.location.objectid) none)) (with_rule rule NoInode broken is)
        where
          nothing : (o : Option InodeFound) → is_some o ≡ false → o ≡ None
          nothing None h = refl
          nothing (Some f) h = absurd (true≢false h)

      tree_refused : is_followed n ≡ true → names_tree n ≡ true → (b : Bool) → roots n.location.objectid ≡ b → (rule : BtrRule) → (if b then None else Some NoInode) ≡ Some rule → r ≡ BadBtrfs n.leaf rule → Broken
      tree_refused follows names true there rule broken is = absurd (some_not_none rule (sym broken))
      tree_refused follows names false none rule broken is = no_tree n (followed_from t items noted n among follows) opened names none (with_rule rule NoInode broken is)

      target_refused : is_followed n ≡ true → (a : Bool) → names_inode n ≡ a → (b : Bool) → names_tree n ≡ b
          → (rule : BtrRule) → (if a then inode_rule t n.location.objectid else (if b then tree_rule roots n.location.objectid else Some Body)) ≡ Some rule → r ≡ BadBtrfs n.leaf rule → Broken
      target_refused follows true names b _ rule broken is =
          inode_refused follows names (has_item t n.location.objectid) refl (n.location.objectid == FIRST_FREE_OBJECTID) refl rule broken is
      target_refused follows false other true names rule broken is = tree_refused follows names (roots n.location.objectid) refl rule broken is
      target_refused follows false other false neither rule broken is =
          bad_location n (followed_from t items noted n among follows) opened other neither (with_rule rule Body broken is)

      rule_refused : (a : Bool) → is_name n.name ≡ a → (b : Bool) → is_followed n ≡ b → (rule : BtrRule) → (if a then (if b then target_rule t roots n else None) else Some NameForm) ≡ Some rule → r ≡ BadBtrfs n.leaf rule → Broken
      rule_refused false bad b _ rule broken is = bad_name n (naming_from t items noted n among) opened bad (with_rule rule NameForm broken is)
      rule_refused true good true follows rule broken is = target_refused follows (names_inode n) refl (names_tree n) refl rule broken is
      rule_refused true good false other rule broken is = absurd (some_not_none rule (sym broken))

    pub entry_refused : (n : DirIndex) → Contains t.namings.items n → BlamesEntry t (is_open t has) roots n r → Broken
    entry_refused n among (rule, opened, broken, is) = rule_refused n among (open_from t items noted has named n.dir opened) (is_name n.name) refl (is_followed n) refl rule broken is

    pub twice_refused : (m n : DirIndex) → AreIn t.namings.items m n → is_open t has n.dir ≡ true → m.dir ≡ n.dir → m.name ≡ n.name → r ≡ BadBtrfs n.leaf NameForm → Broken
    twice_refused m n both opened dir name is =
        twice m n (subst (λ (l : List DirIndex). AreIn l m n) noted.namings both) (open_from t items noted has named n.dir opened) dir name is

    pub again_refused : (m n : DirIndex) → AreIn t.namings.items m n → leads_down t has m ≡ true → leads_down t has n ≡ true → m.location.objectid ≡ n.location.objectid → r ≡ BadBtrfs n.leaf DirTwice → Broken
    again_refused m n both first second same is =
        let one = and_parts (is_link t has m) (names_inode m && is_dir t m.location.objectid) first in
        let two = and_parts (is_link t has n) (names_inode n && is_dir t n.location.objectid) second in
        let link_one = and_parts (is_followed m) (is_open t has m.dir) one.0 in
        let link_two = and_parts (is_followed n) (is_open t has n.dir) two.0 in
        let to_one = and_parts (names_inode m) (is_dir t m.location.objectid) one.1 in
        let to_two = and_parts (names_inode n) (is_dir t n.location.objectid) two.1 in
        let among = filter_in is_followed (dir_indexes items) m n link_one.0 link_two.0 (subst (λ (l : List DirIndex). AreIn l m n) noted.namings both) in
        directory_twice m n among (open_from t items noted has named m.dir link_one.1) (open_from t items noted has named n.dir link_two.1) to_one.0 to_two.0 same (dir_from t items noted n.location.objectid to_two.1) is
