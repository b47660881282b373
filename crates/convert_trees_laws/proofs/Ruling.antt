-- The names of a tree of the file tree's items keep the rules of a Btrfs tree.
use Rattle.convert_trees_laws.proofs.Imports.{◌≡◌, ◌≢◌, ◌≤◌, ◌<◌, ℕ, ◌^◌, ◌==◌, Bool, true, false, List, [], ◌∷◌, map, Contains, Option, Some, None, refl, sym, ap, subst, ◌∙◌, ⊎_elim, true≢false, if◌then◌else◌, arith, AllByRecursion, flat_map, eqb-true, DIR_INDEX, INODE_ITEM, ROOT_ITEM, FIRST_FREE_OBJECTID, keys, Image, from_map, Kind, Directory, File, Symlink, Character, Block, Fifo, Socket, Subvolume, inode_of, Inode, Key, find_inode_item, inode_on, IsDirectoryInode, kind_of_mode as tree_kind, followed, is_followed, is_name, dir_indexes, names_inode, names_tree, IsNamedInode, entry, AreIn, BreaksNames, no_root_directory, root_is_none, bad_inode, bad_mode, long_target, bad_index, bad_name, twice, bad_location, no_inode, no_tree, directory_twice, root_named, DirIndex, TreeItem, HasPieces, made_from, AreSortedKeys, numbered, two_cases, IndexedLink, Indexed, indexed, indexed_in, names_in, next_index, saved_entry, Source, inode_in, kind_in, ino_of, size_by, size_in, EntriesAreThere, naming_by, namings_by, unplaced, InodesAreThere, ObjectKey, Naming, root, same_key, IsDirectory, same_key-true, by_inode, volume_items, Volume, Options, Piece, Plan, NamesKeepRules, ReadAs}
use Rattle.btr_reader.specs.btr_reader_names.Links.{root as top}
use Rattle.btr_reader.specs.refusals.declared.refusal.BtrRefusal.{BtrRefusal}
use Rattle.convert_trees_laws.proofs.Keys.{inodes_climb}
use Rattle.convert_trees_laws.proofs.Indexing.{indexes_readable}
use Rattle.convert_trees_laws.proofs.Known.{directories_apart, directory_there, is_directory_there, names_apart, root_known, target_short}
use Rattle.convert_trees_laws.proofs.Linking.{entries_apart, is_link}
use Rattle.convert_trees_laws.proofs.Lists.{Apart, Across, all_from, apart_both, apart_climb, apart_flat, apart_from, apart_in, apart_kept, apart_map, apart_unmap, apart_with, earlier_in, later_in}
use Rattle.convert_trees_laws.proofs.Telling.{HasInode, IsLinkOf, IsTold, directory_from, good_link, inode_there, link, link_told, on_tree, one_object, root_number, saved, size_of_inode, told}

-- two entries of one directory have two names
abbrev Differ : DirIndex → DirIndex → Type 0
Differ m n = m.dir ≡ n.dir → m.name ≢ n.name

abbrev DifferAsLinks : Naming → Naming → Type 0
DifferAsLinks m n = m.dir ≡ n.dir → m.name ≢ n.name

never : (b : Bool) → b ≡ true → b ≡ false → ⊥
never b yes_ no_ = true≢false (sym yes_ ∙ no_)

same_item : (a b : TreeItem) (r : Option TreeItem) → r ≡ Some a → r ≡ Some b → a ≡ b
same_item a b r first second = cc

same_inode : (a b : Inode) (r : Option Inode) → r ≡ Some a → r ≡ Some b → a ≡ b
same_inode a b r first second = cc

same_kind : (a b : Kind) (r : Option Kind) → r ≡ Some a → r ≡ Some b → a ≡ b
same_kind a b r first second = cc

some_item : (a : TreeItem) (r : Option TreeItem) → r ≡ Some a → r ≡ None → ⊥
some_item a r first second = absurd (cc)

some_inode : (a : Inode) (r : Option Inode) → r ≡ Some a → r ≡ None → ⊥
some_inode a r first second = absurd (cc)

some_kind : (a : Kind) (r : Option Kind) → r ≡ Some a → r ≡ None → ⊥
some_kind a r first second = absurd (cc)

module _ (volume : Volume) (image : Image) (o : Options) (plan : Plan) (pieces : List Piece) (has : HasPieces volume image o plan pieces) where
  abbrev s : Source
  s = made_from volume image o pieces

  abbrev all : List ObjectKey
  all = keys volume.named

  root_there : Contains all root
  root_there = root_known volume image has.accepted has.opened

  known : (l : Naming) → Contains s.links l → Contains all l.target
  known l h = (good_link volume image o plan pieces has l h).target_known

  one : (a b : ObjectKey) → Contains all a → Contains all b → ino_of s a ≡ ino_of s b → a ≡ b
  one = one_object volume image o plan pieces has

  -- ---- the names of a directory

  abbrev listed_by : ObjectKey → List DirIndex
  listed_by key = namings_by s key (kind_in s key)

  listed_dir : (key : ObjectKey) (kind : Kind) (n : DirIndex) → Contains (namings_by s key kind) n → n.dir ≡ ino_of s key
  listed_dir key Directory n h = let m = from_map (naming_by (ino_of s key)) (indexed_in (kind_in s) s.keys s.links key) n h in sym (ap (λ (x : DirIndex). x.dir) m.2)
  listed_dir key File n h = absurd (omega (arith, h.1))
  listed_dir key Symlink n h = absurd (omega (arith, h.1))
  listed_dir key Character n h = absurd (omega (arith, h.1))
  listed_dir key Block n h = absurd (omega (arith, h.1))
  listed_dir key Fifo n h = absurd (omega (arith, h.1))
  listed_dir key Socket n h = absurd (omega (arith, h.1))
  listed_dir key Subvolume n h = absurd (omega (arith, h.1))

  abbrev DifferIndexed : ℕ → Indexed → Indexed → Type 0
  DifferIndexed ino e f = Differ (naming_by ino e) (naming_by ino f)

  entries_differ : (key : ObjectKey) → Apart (DifferIndexed (ino_of s key)) (indexed_in (kind_in s) s.keys s.links key)
  entries_differ key =
      let told : List Indexed = map (indexed (kind_in s) s.keys) (names_in s.links key) in
      let last : List Indexed = if same_key key root then (next_index s.links key, saved_entry) ∷ [] else [] in
      apart_both (DifferIndexed (ino_of s key)) told last
      (apart_map (DifferIndexed (ino_of s key)) (indexed (kind_in s) s.keys) (names_in s.links key)
      (apart_with (λ (e f : IndexedLink). DifferAsLinks e.link f.link) (λ (e f : IndexedLink). DifferIndexed (ino_of s key) (indexed (kind_in s) s.keys e) (indexed (kind_in s) s.keys f)) (names_in s.links key)
      (λ e f in_e in_f differ same. differ ((is_link s.links key e in_e).dir_is ∙ sym (is_link s.links key f in_f).dir_is))
      (entries_apart DifferAsLinks s.links key (apart_from DifferAsLinks s.links (names_apart volume image has.accepted has.opened)))))
      (last_apart (same_key key root))
      (all_from (λ (x : Indexed). AllByRecursion (λ (y : Indexed). DifferIndexed (ino_of s key) x y) last) told (λ x h. let m = from_map (indexed (kind_in s) s.keys) (names_in s.links key) x h in against x m.0 m.1 m.2 (same_key key root) refl))
    where
      last_apart : (b : Bool) → Apart (DifferIndexed (ino_of s key)) (if b then (next_index s.links key, saved_entry) ∷ [] else [])
      last_apart true = (tt, tt)
      last_apart false = tt

      against : (x : Indexed) (e : IndexedLink) → Contains (names_in s.links key) e → indexed (kind_in s) s.keys e ≡ x → (b : Bool) → same_key key root ≡ b
          → AllByRecursion (λ (y : Indexed). DifferIndexed (ino_of s key) x y) (if b then (next_index s.links key, saved_entry) ∷ [] else [])
      against x e h is true at =
          let l = is_link s.links key e h in
          (λ same name. (good_link volume image o plan pieces has e.link l.among).free (l.dir_is ∙ same_key-true key root at) (ap (λ (y : Indexed). y.1.name) is ∙ name), tt)
      against x e h is false at = tt

  inner : (key : ObjectKey) (kind : Kind) → Apart Differ (namings_by s key kind)
  inner key Directory = apart_map Differ (naming_by (ino_of s key)) (indexed_in (kind_in s) s.keys s.links key) (entries_differ key)
  inner key File = tt
  inner key Symlink = tt
  inner key Character = tt
  inner key Block = tt
  inner key Fifo = tt
  inner key Socket = tt
  inner key Subvolume = tt

  listed_differ : Apart Differ (flat_map listed_by (by_inode all))
  listed_differ =
      let sorted : AreSortedKeys image all = record { accepted = has.accepted; are_keys = has.opened.are_keys; ascend = has.opened.ascends } in
      let at = numbered image all sorted in
      apart_flat Differ listed_by (by_inode all) (all_from (λ key. Apart Differ (listed_by key)) (by_inode all) (λ key h. inner key (kind_in s key)))
      (apart_with (λ (a b : ObjectKey). ino_of s a < ino_of s b) (Across Differ listed_by) (by_inode all)
      (λ a b in_a in_b less x y in_x in_y same.
      let of_x = listed_dir a (kind_in s a) x in_x in
      let of_y = listed_dir b (kind_in s b) y in_y in
      absurd (omega (arith, less, of_x, of_y, same)))
      (apart_climb (ino_of s) (by_inode all) (inodes_climb all at.0 at.1)))

  module _ (items : List TreeItem) (read : ReadAs s items) (inodes : InodesAreThere) (entries : EntriesAreThere) where
    names_differ : Apart Differ (dir_indexes items)
    names_differ = apart_unmap Differ unplaced (dir_indexes items) (subst (Apart Differ) (sym (entries volume image o plan pieces items has read)) listed_differ)

    inode_of_key : (key : ObjectKey) → Contains all key → HasInode s items key
    inode_of_key key h = inode_there volume image o plan pieces has items read inodes key h

    -- an entry that is followed is a link
    record IsFollowed (n : DirIndex) : Type 0 where
      link_ : Naming
      among : Contains s.links link_
      is : IsLinkOf s n link_

    link_by : (n : DirIndex) → Contains (followed items) n → IsFollowed n
    link_by n h = let l = link_told volume image o plan pieces has items read entries n h in record { link_ = l.0; among = l.1; is = l.2 }

    names_one : (n : DirIndex) → Contains (followed items) n → names_inode n ≡ true
    names_one n h = let l = link_by n h in ap (λ (k : Key). k.kind == INODE_ITEM) l.is.location

    names_no_tree : (n : DirIndex) → Contains (followed items) n → names_tree n ≡ false
    names_no_tree n h = let l = link_by n h in ap (λ (k : Key). k.kind == ROOT_ITEM) l.is.location

    leads_to : (n : DirIndex) (l : Naming) → IsLinkOf s n l → n.location.objectid ≡ ino_of s l.target
    leads_to n l is = ap (λ (k : Key). k.objectid) is.location

    -- a named inode is that of an object
    named_object : (ino : ℕ) → IsNamedInode items ino → (key : ObjectKey) × Contains all key × (ino_of s key ≡ ino)
    named_object ino top = (root, root_there, root_number volume image o plan pieces has)
    named_object ino (entry n h named directory names) = let l = link_by n h in (l.link_.target, known l.link_ l.among, sym (leads_to n l.link_ l.is))

    -- what is read of a named inode
    record IsRead (ino : ℕ) : Type 0 where
      key : ObjectKey
      among : Contains all key
      at : HasInode s items key
      item : find_inode_item items ino ≡ Some at.item

    read_named : (ino : ℕ) → IsNamedInode items ino → IsRead ino
    read_named ino named =
        let k = named_object ino named in
        let at = inode_of_key k.0 k.1 in
        record { key = k.0; among = k.1; at = at; item = ap (find_inode_item items) (sym k.2) ∙ at.found }

    -- what is read where its item is found
    read_own : (ino : ℕ) (i : TreeItem) (r : IsRead ino) → find_inode_item items ino ≡ Some i → inode_of i.body ≡ Some r.at.own
    read_own ino i r found = ap (λ (j : TreeItem). inode_of j.body) (same_item i r.at.item (find_inode_item items ino) found r.item) ∙ r.at.told

    short_target : (ino : ℕ) (i : TreeItem) (own : Inode) → IsNamedInode items ino → find_inode_item items ino ≡ Some i → inode_of i.body ≡ Some own → tree_kind own.mode ≡ Some Symlink → own.size ≤ 3900
    short_target ino i own named found told kind =
        let r = read_named ino named in
        let same : r.at.own ≡ own = same_inode r.at.own own (inode_of i.body) (read_own ino i r found) told in
        let symlink : kind_in s r.key ≡ Symlink = same_kind (kind_in s r.key) Symlink (tree_kind own.mode) (ap (λ (j : Inode). tree_kind j.mode) (sym same) ∙ r.at.kind) kind in
        let few = target_short volume image has.accepted has.opened o pieces r.key r.among symlink in
        let size : (inode_in s r.key).size ≡ size_in s r.key = size_of_inode s r.key ∙ ap (size_by s r.key) symlink in
        let low : (inode_in s r.key).size < 2 ^ 64 = omega (arith, size, few) in
        let is = r.at.size low in
        let here = ap (λ (j : Inode). j.size) same in
        omega (arith, is, here, size, few)

    -- two entries do not lead to one directory
    directories_once : (m n : DirIndex) → AreIn (followed items) m n → m.location.objectid ≡ n.location.objectid → IsDirectoryInode items n.location.objectid → ⊥
    directories_once m n are same directory =
        let in_m : Contains (followed items) m = earlier_in (followed items) m n are in
        let in_n : Contains (followed items) n = later_in (followed items) m n are in
        let a = link_by m in_m in
        let b = link_by n in_n in
        let differ : Differ m n = apart_in Differ (followed items) m n (apart_kept Differ is_followed (dir_indexes items) names_differ) are in
        let target : a.link_.target ≡ b.link_.target = one a.link_.target b.link_.target (known a.link_ a.among) (known b.link_ b.among) (sym (leads_to m a.link_ a.is) ∙ (same ∙ leads_to n b.link_ b.is)) in
        let there : kind_in s b.link_.target ≡ Directory = directory_from s items b.link_.target (inode_of_key b.link_.target (known b.link_ b.among)) (subst (IsDirectoryInode items) (leads_to n b.link_ b.is) directory) in
        let object : IsDirectory (volume_items image) b.link_.target = is_directory_there volume image has.accepted has.opened o pieces b.link_.target (known b.link_ b.among) there in
        ⊎_elim
        (λ (one_link : a.link_ ≡ b.link_). differ (a.is.dir ∙ (ap (λ (l : Naming). ino_of s l.dir) one_link ∙ sym b.is.dir)) (a.is.name ∙ (ap (λ (l : Naming). l.name) one_link ∙ sym b.is.name)))
        (λ apart. ⊎_elim (λ first. first object target) (λ second. second (subst (IsDirectory (volume_items image)) (sym target) object) (sym target)) apart)
        (two_cases (λ (x y : Naming). IsDirectory (volume_items image) y.target → x.target ≢ y.target) s.links a.link_ b.link_ (directories_apart volume image has.accepted has.opened) a.among b.among)

    good_name : (n : DirIndex) → Contains (dir_indexes items) n → is_name n.name ≡ true
    good_name n h = by (told volume image o plan pieces has items read entries n h)
      where
        by : IsTold s n → is_name n.name ≡ true
        by (link l among dir name location) = ap is_name name ∙ (good_link volume image o plan pieces has l among).name
        by (saved dir name location) = ap is_name name

    keeps : (has_root : ℕ → Bool) (at : ℕ) (r : BtrRefusal) → BreaksNames has_root items at r → ⊥
    keeps has_root at r (no_root_directory none is) = let own = inode_of_key root root_there in some_item own.item (find_inode_item items FIRST_FREE_OBJECTID) (ap (find_inode_item items) (sym (root_number volume image o plan pieces has)) ∙ own.found) none
    keeps has_root at r (root_is_none own kind on known_kind other is) =
        let there = inode_of_key root root_there in
        let same : there.own ≡ own = same_inode there.own own (inode_on items FIRST_FREE_OBJECTID) (ap (inode_on items) (sym (root_number volume image o plan pieces has)) ∙ on_tree s items root there) on in
        let root_kind = directory_there volume image has.accepted has.opened o pieces root has.accepted.objects.root_directory in
        other (same_kind kind (kind_in s root) (tree_kind own.mode) known_kind (ap (λ (j : Inode). tree_kind j.mode) (sym same) ∙ there.kind) ∙ root_kind)
    keeps has_root at r (bad_inode ino i named found none is) = let own = read_named ino named in some_inode own.at.own (inode_of i.body) (read_own ino i own found) none
    keeps has_root at r (bad_mode ino i own named found told none is) =
        let there = read_named ino named in
        let same : there.at.own ≡ own = same_inode there.at.own own (inode_of i.body) (read_own ino i there found) told in
        some_kind (kind_in s there.key) (tree_kind own.mode) (ap (λ (j : Inode). tree_kind j.mode) (sym same) ∙ there.at.kind) none
    keeps has_root at r (long_target ino i own named found told kind long is) = let few = short_target ino i own named found told kind in omega (arith, few, long)
    keeps has_root at r (bad_index i among index opened none is) = indexes_readable volume image o plan pieces items i has read among (eqb-true i.key.kind DIR_INDEX index) none
    keeps has_root at r (bad_name n among opened bad is) = never (is_name n.name) (good_name n among) bad
    keeps has_root at r (twice m n are opened dir name is) = apart_in Differ (dir_indexes items) m n names_differ are dir name
    keeps has_root at r (bad_location n among opened no_one no_other is) = never (names_inode n) (names_one n among) no_one
    keeps has_root at r (no_inode n among opened names none is) =
        let l = link_by n among in
        let own = inode_of_key l.link_.target (known l.link_ l.among) in
        some_item own.item (find_inode_item items n.location.objectid) (ap (find_inode_item items) (leads_to n l.link_ l.is) ∙ own.found) none
    keeps has_root at r (no_tree n among opened names none is) = never (names_tree n) names (names_no_tree n among)
    keeps has_root at r (directory_twice m n are open_m open_n names_m names_n same directory is) = directories_once m n are same directory
    keeps has_root at r (root_named n among opened names to_root is) =
        let l = link_by n among in
        (good_link volume image o plan pieces has l.link_ l.among).not_root (one l.link_.target root (known l.link_ l.among) root_there (sym (leads_to n l.link_ l.is) ∙ (to_root ∙ sym (root_number volume image o plan pieces has))))

pub names_keep_rules : InodesAreThere → EntriesAreThere → NamesKeepRules
names_keep_rules inodes entries volume image o plan pieces items has_root at has read = λ r breaks. keeps volume image o plan pieces has items read inodes entries has_root at r breaks
