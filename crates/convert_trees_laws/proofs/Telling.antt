-- The inodes and the entries of a tree of the file tree's items, by the objects and the links of the volume.
use Rattle.convert_trees_laws.proofs.Imports.{◌≡◌, ◌<◌, ℕ, ◌-◌, ◌^◌, ◌==◌, ◌&&◌, not, Bool, true, false, List, [], ◌∷◌, map, filter, Contains, Option, Some, option_and_then, if◌then◌else◌, refl, sym, ap, subst, ◌∙◌, ◌⊎◌, inl, inr, ⊎_elim, true≢false, arith, cases_Bool, eqb-true, not_from_false, Contains-append_cases, Contains-append_left, INODE_ITEM, ROOT_ITEM, CONV_IMAGE_SUBVOL, FIRST_FREE_OBJECTID, keys, Image, at_head, in_tail, head_or_tail, in_filter, in_flat_map, in_map, from_filter, from_flat_map, from_map, Kind, Directory, File, Symlink, Character, Block, Fifo, Socket, Subvolume, inode_of, make_key, Inode, find_inode_item, inode_on, kind_of_mode as tree_kind, IsDirectoryInode, followed, is_followed, is_saved_name, dir_indexes, DirIndex, Item, TreeItem, HasPieces, made_from, IndexedLink, Indexed, indexed, indexed_in, names_in, next_index, saved_entry, Source, inode_in, kind_in, ino_of, size_by, stat_in, EntriesAreThere, naming_by, namings_by, unplaced, InodesAreThere, saved_name, ObjectKey, Naming, root, same_key, same_key-true, same_key-self, by_inode, Volume, Options, Piece, Plan, ReadAs}
use Rattle.btr_reader.proofs.fs_paths.Nodes.{same_name-true}
use Rattle.convert_trees_laws.proofs.Keys.{root_first}
use Rattle.convert_trees_laws.proofs.InodeRead.{inode_read}
use Rattle.convert_trees_laws.proofs.Known.{IsGood, directory_there, good, kind_is, mode_low, one, root_known, tree_kind_is}
use Rattle.convert_trees_laws.proofs.Linking.{is_link, link_is}

-- ---- inodes

mode_in : (s : Source) (key : ObjectKey) → (inode_in s key).mode ≡ (stat_in s key).fields.mode
unfolding inode_in
mode_in s key = refl

pub size_of_inode : (s : Source) (key : ObjectKey) → (inode_in s key).size ≡ size_by s key (kind_in s key)
unfolding inode_in
size_of_inode s key = refl

-- the inode of an object is there, and has its kind and size
pub record HasInode (s : Source) (items : List TreeItem) (key : ObjectKey) : Type 0 where
  pub item : TreeItem
  pub found : find_inode_item items (ino_of s key) ≡ Some item
  pub own : Inode
  pub told : inode_of item.body ≡ Some own
  pub kind : tree_kind own.mode ≡ Some (kind_in s key)
  pub size : (inode_in s key).size < 2 ^ 64 → own.size ≡ (inode_in s key).size

pub on_tree : (s : Source) (items : List TreeItem) (key : ObjectKey) (at : HasInode s items key) → inode_on items (ino_of s key) ≡ Some at.own
on_tree s items key at = ap (option_and_then (λ (i : TreeItem). inode_of i.body)) at.found ∙ at.told

same_inode : (a b : Inode) → (let r : Option Inode = Some a in r) ≡ Some b → a ≡ b
same_inode a b is = cc

same_kind : (a b : Kind) → (let r : Option Kind = Some a in r) ≡ Some b → a ≡ b
same_kind a b is = cc

pub directory_in : (s : Source) (items : List TreeItem) (key : ObjectKey) → HasInode s items key → kind_in s key ≡ Directory → IsDirectoryInode items (ino_of s key)
directory_in s items key at is = (at.own, on_tree s items key at, at.kind ∙ ap (λ (k : Kind). let r : Option Kind = Some k in r) is)

pub directory_from : (s : Source) (items : List TreeItem) (key : ObjectKey) → HasInode s items key → IsDirectoryInode items (ino_of s key) → kind_in s key ≡ Directory
directory_from s items key at is =
    let same : at.own ≡ is.0 = same_inode at.own is.0 (sym (on_tree s items key at) ∙ is.1) in
    same_kind (kind_in s key) Directory (sym at.kind ∙ (ap (λ (i : Inode). tree_kind i.mode) same ∙ is.2))

-- ---- entries

-- an entry of the directory with this key
pub record IsEntryIn (s : Source) (key : ObjectKey) (n : DirIndex) : Type 0 where
  pub among : Contains s.keys key
  pub directory : kind_in s key ≡ Directory
  pub entry : Indexed
  pub listed : Contains (indexed_in (kind_in s) s.keys s.links key) entry
  pub is : unplaced n ≡ naming_by (ino_of s key) entry

-- an entry is a link, or the root's entry for the tree of the saved image
pub data IsTold (s : Source) (n : DirIndex) : Type 0 where
  link : (l : Naming) → Contains s.links l → n.dir ≡ ino_of s l.dir → n.name ≡ l.name → n.location ≡ make_key (ino_of s l.target) INODE_ITEM 0 → IsTold s n
  saved : n.dir ≡ FIRST_FREE_OBJECTID → n.name ≡ saved_name → n.location ≡ make_key CONV_IMAGE_SUBVOL ROOT_ITEM (2 ^ 64 - 1) → IsTold s n

-- the entry that a link is
pub record IsLinkOf (s : Source) (n : DirIndex) (l : Naming) : Type 0 where
  pub dir : n.dir ≡ ino_of s l.dir
  pub name : n.name ≡ l.name
  pub location : n.location ≡ make_key (ino_of s l.target) INODE_ITEM 0

entry_cases : (s : Source) (key : ObjectKey) (e : Indexed) → Contains (indexed_in (kind_in s) s.keys s.links key) e
    → ((f : IndexedLink) × Contains (names_in s.links key) f × (indexed (kind_in s) s.keys f ≡ e)) ⊎ ((key ≡ root) × ((next_index s.links key, saved_entry) ≡ e))
entry_cases s key e h =
    ⊎_elim
    (λ (first : Contains (map (indexed (kind_in s) s.keys) (names_in s.links key)) e). inl (from_map (indexed (kind_in s) s.keys) (names_in s.links key) e first))
    (λ (second : Contains (if same_key key root then (next_index s.links key, saved_entry) ∷ [] else []) e). inr (by (same_key key root) refl second))
    (Contains-append_cases (map (indexed (kind_in s) s.keys) (names_in s.links key)) (if same_key key root then (next_index s.links key, saved_entry) ∷ [] else []) e h)
  where
    by : (b : Bool) → same_key key root ≡ b → Contains {X = Indexed} (if b then (next_index s.links key, saved_entry) ∷ [] else []) e → (key ≡ root) × ((next_index s.links key, saved_entry) ≡ e)
    by true is h = (same_key-true key root is, ⊎_elim (λ same. same) (λ (later : Contains [] e). absurd (omega (arith, later.1))) (head_or_tail (next_index s.links key, saved_entry) [] e h))
    by false is h = absurd (omega (arith, h.1))

-- the root's entry for the saved image is not followed
saved_apart : (n : DirIndex) → n.dir ≡ FIRST_FREE_OBJECTID → n.name ≡ saved_name → is_followed n ≡ false
saved_apart n dir name = ap (λ (d : ℕ). not ((d == 256) && is_saved_name n.name)) dir ∙ ap (λ (x : List ℕ). not (is_saved_name x)) name

in_order : (all : List ObjectKey) (key : ObjectKey) → Contains all key → Contains (by_inode all) key
in_order all key h =
    ⊎_elim
    (λ (t : same_key key root ≡ true). subst (λ (k : ObjectKey). Contains (root ∷ filter (λ x. not (same_key x root)) all) k) (sym (same_key-true key root t)) (at_head root (filter (λ x. not (same_key x root)) all)))
    (λ (f : same_key key root ≡ false). in_tail root (filter (λ x. not (same_key x root)) all) key (in_filter (λ x. not (same_key x root)) all key h (not_from_false (same_key key root) f)))
    (cases_Bool (same_key key root))

module _ (volume : Volume) (image : Image) (o : Options) (plan : Plan) (pieces : List Piece) (has : HasPieces volume image o plan pieces) where
  abbrev s : Source
  s = made_from volume image o pieces

  abbrev all : List ObjectKey
  all = keys volume.named

  from_order : (key : ObjectKey) → Contains (by_inode all) key → Contains all key
  from_order key h =
      ⊎_elim (λ (same : root ≡ key). subst (Contains all) same (root_known volume image has.accepted has.opened))
      (λ (later : Contains (filter (λ x. not (same_key x root)) all) key). (from_filter (λ x. not (same_key x root)) all key later).0) (head_or_tail root (filter (λ x. not (same_key x root)) all) key h)

  pub good_link : (l : Naming) → Contains s.links l → IsGood volume image l
  good_link l h = good volume image has.accepted has.opened l h

  pub link_directory : (l : Naming) → Contains s.links l → kind_in s l.dir ≡ Directory
  link_directory l h = directory_there volume image has.accepted has.opened o pieces l.dir (good_link l h).directory

  pub root_number : ino_of s root ≡ 256
  root_number = root_first all root (same_key-self root)

  pub one_object : (a b : ObjectKey) → Contains all a → Contains all b → ino_of s a ≡ ino_of s b → a ≡ b
  one_object = one volume image has.accepted has.opened

  module _ (items : List TreeItem) (read : ReadAs s items) where
    pub inode_there : InodesAreThere → (key : ObjectKey) → Contains all key → HasInode s items key
    inode_there law key h =
        let at = law volume image o plan pieces items key has read h in
        let own = inode_read (inode_in s key) in
        let kind = kind_is volume image has.accepted has.opened o pieces key h in
        let mode : own.own.mode ≡ (stat_in s key).fields.mode = own.mode (subst (λ (m : ℕ). m < 2 ^ 32) (sym (mode_in s key)) (mode_low (stat_in s key).fields.mode (kind_in s key) kind)) ∙ mode_in s key in
        record {
          item = at.0;
          found = at.1;
          own = own.own;
          told = ap (λ (i : Item). inode_of i.1) at.2 ∙ own.read;
          kind = ap tree_kind mode ∙ tree_kind_is (stat_in s key).fields.mode (kind_in s key) kind;
          size = own.size;
        }

    abbrev listed_by : ObjectKey → List DirIndex
    listed_by key = namings_by s key (kind_in s key)

    entry_by : (key : ObjectKey) (kind : Kind) (n : DirIndex) → Contains all key → kind_in s key ≡ kind → Contains (namings_by s key kind) (unplaced n) → IsEntryIn s key n
    entry_by key Directory n among is h =
        let m = from_map (naming_by (ino_of s key)) (indexed_in (kind_in s) s.keys s.links key) (unplaced n) h in
        record { among = among; directory = is; entry = m.0; listed = m.1; is = sym m.2 }
    entry_by key File n among is h = absurd (omega (arith, h.1))
    entry_by key Symlink n among is h = absurd (omega (arith, h.1))
    entry_by key Character n among is h = absurd (omega (arith, h.1))
    entry_by key Block n among is h = absurd (omega (arith, h.1))
    entry_by key Fifo n among is h = absurd (omega (arith, h.1))
    entry_by key Socket n among is h = absurd (omega (arith, h.1))
    entry_by key Subvolume n among is h = absurd (omega (arith, h.1))

    -- each entry stands in a directory
    pub entry_from : EntriesAreThere → (n : DirIndex) → Contains (dir_indexes items) n → (key : ObjectKey) × IsEntryIn s key n
    entry_from law n h =
        let told = law volume image o plan pieces items has read in
        let at = from_flat_map listed_by (by_inode all) (unplaced n) (subst (λ (l : List DirIndex). Contains l (unplaced n)) told (in_map unplaced (dir_indexes items) n h)) in
        (at.0, entry_by at.0 (kind_in s at.0) n (from_order at.0 at.1) refl at.2)

    told_entry : (n : DirIndex) (key : ObjectKey) → IsEntryIn s key n → IsTold s n
    told_entry n key at =
        ⊎_elim
        (λ (first : (f : IndexedLink) × Contains (names_in s.links key) f × (indexed (kind_in s) s.keys f ≡ at.entry)).
        let l = is_link s.links key first.0 first.1 in
        let is : unplaced n ≡ naming_by (ino_of s key) (indexed (kind_in s) s.keys first.0) = at.is ∙ ap (naming_by (ino_of s key)) (sym first.2) in
        link first.0.link l.among (ap (λ (m : DirIndex). m.dir) is ∙ ap (ino_of s) (sym l.dir_is)) (ap (λ (m : DirIndex). m.name) is) (ap (λ (m : DirIndex). m.location) is))
        (λ (second : (key ≡ root) × ((next_index s.links key, saved_entry) ≡ at.entry)).
        let is : unplaced n ≡ naming_by (ino_of s key) (next_index s.links key, saved_entry) = at.is ∙ ap (naming_by (ino_of s key)) (sym second.1) in
        saved (ap (λ (m : DirIndex). m.dir) is ∙ (ap (ino_of s) second.0 ∙ root_number)) (ap (λ (m : DirIndex). m.name) is) (ap (λ (m : DirIndex). m.location) is))
        (entry_cases s key at.entry at.listed)

    pub told : EntriesAreThere → (n : DirIndex) → Contains (dir_indexes items) n → IsTold s n
    told law n h = let at = entry_from law n h in told_entry n at.0 at.1

    -- each one that is followed is a link
    pub link_told : EntriesAreThere → (n : DirIndex) → Contains (followed items) n → (l : Naming) × Contains s.links l × IsLinkOf s n l
    link_told law n h = let kept = from_filter is_followed (dir_indexes items) n h in by kept.1 (told law n kept.0)
      where
        by : is_followed n ≡ true → IsTold s n → (l : Naming) × Contains s.links l × IsLinkOf s n l
        by is (link l among dir name location) = (l, among, record { dir = dir; name = name; location = location })
        by is (saved dir name location) = absurd (true≢false (sym is ∙ saved_apart n dir name))

    -- a link is followed
    pub link_followed : (n : DirIndex) (l : Naming) → Contains s.links l → IsLinkOf s n l → is_followed n ≡ true
    link_followed n l h is = by (n.dir == FIRST_FREE_OBJECTID) (is_saved_name n.name) refl refl
      where
        by : (a b : Bool) → (n.dir == FIRST_FREE_OBJECTID) ≡ a → is_saved_name n.name ≡ b → not (a && b) ≡ true
        by false b dir name = refl
        by true false dir name = refl
        by true true dir name =
            let g = good_link l h in
            let number : ino_of s l.dir ≡ ino_of s root = sym is.dir ∙ (eqb-true n.dir 256 dir ∙ sym root_number) in
            absurd (g.free (one_object l.dir root g.dir_known (root_known volume image has.accepted has.opened) number) (sym is.name ∙ same_name-true n.name saved_name name))

    -- each link is an entry that is followed
    pub link_there : EntriesAreThere → (l : Naming) → Contains s.links l → (n : DirIndex) × Contains (followed items) n × IsLinkOf s n l
    link_there law l h =
        let g = good_link l h in
        let f = link_is s.links l h in
        let e : Indexed = indexed (kind_in s) s.keys f.0 in
        let listed : Contains (indexed_in (kind_in s) s.keys s.links l.dir) e
        = Contains-append_left (map (indexed (kind_in s) s.keys) (names_in s.links l.dir)) (if same_key l.dir root then (next_index s.links l.dir, saved_entry) ∷ [] else []) e (in_map (indexed (kind_in s) s.keys) (names_in s.links l.dir) f.0 f.1) in
        let here : Contains (listed_by l.dir) (naming_by (ino_of s l.dir) e)
        = subst (λ (k : Kind). Contains (namings_by s l.dir k) (naming_by (ino_of s l.dir) e)) (sym (link_directory l h)) (in_map (naming_by (ino_of s l.dir)) (indexed_in (kind_in s) s.keys s.links l.dir) e listed) in
        let there : Contains (map unplaced (dir_indexes items)) (naming_by (ino_of s l.dir) e)
        = subst (λ (ns : List DirIndex). Contains ns (naming_by (ino_of s l.dir) e)) (sym (law volume image o plan pieces items has read)) (in_flat_map listed_by (by_inode all) l.dir (naming_by (ino_of s l.dir) e) (in_order all l.dir g.dir_known) here) in
        let m = from_map unplaced (dir_indexes items) (naming_by (ino_of s l.dir) e) there in
        let is : IsLinkOf s m.0 l = record {
          dir = ap (λ (x : DirIndex). x.dir) m.2;
          name = ap (λ (x : DirIndex). x.name) m.2 ∙ ap (λ (x : Naming). x.name) f.2;
          location = ap (λ (x : DirIndex). x.location) m.2 ∙ ap (λ (x : Naming). make_key (ino_of s x.target) INODE_ITEM 0) f.2;
        } in
        (m.0, in_filter is_followed (dir_indexes items) m.0 m.1 (link_followed m.0 l h is), is)
