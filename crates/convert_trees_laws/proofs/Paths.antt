-- The paths of a tree of the file tree's items are those of the volume.
use Rattle.convert_trees_laws.proofs.Imports.{◌≡◌, ◌≢◌, ℕ, ◌==◌, ◌&&◌, not, Bool, false, List, [], ◌∷◌, ◌++◌, map, filter, Contains, refl, sym, ap, subst, ◌∙◌, true≢false, flat_map, ne_eqb, map-append, filter-append, INODE_ITEM, ROOT_ITEM, FIRST_FREE_OBJECTID, keys, Image, from_filter, from_map, NameList, Kind, Directory, File, Symlink, Character, Block, Fifo, Socket, Subvolume, Key, is_followed, is_saved_name, dir_indexes, NamesTarget, Target, inode, tree, LeadsToTarget as LeadsOn, DirIndex, TreeItem, HasPieces, made_from, Indexed, indexed, indexed_in, names_in, next_index, saved_entry, Source, kind_in, ino_of, EntriesAreThere, naming_by, namings_by, unplaced, InodesAreThere, ObjectKey, Naming, root, same_key, LeadsToObject, Volume, Options, Piece, Plan, NamesAreKept, ReadAs}
use Rattle.convert_trees_laws.proofs.Known.{directory_there, root_known}
use Rattle.convert_trees_laws.proofs.Linking.{is_link}
use Rattle.convert_trees_laws.proofs.Lists.{all_from, kept_flat_none, kept_map, kept_none}
use Rattle.convert_trees_laws.proofs.Telling.{IsLinkOf, directory_in, good_link, inode_there, link_directory, link_followed, link_there, link_told, one_object}

-- an entry is no part of the paths
abbrev aside : DirIndex → Bool
aside n = not (is_followed n)

module _ (volume : Volume) (image : Image) (o : Options) (plan : Plan) (pieces : List Piece) (has : HasPieces volume image o plan pieces) where
  abbrev s : Source
  s = made_from volume image o pieces

  abbrev all : List ObjectKey
  all = keys volume.named

  root_there : Contains all root
  root_there = root_known volume image has.accepted has.opened

  module _ (items : List TreeItem) (read : ReadAs s items) (inodes : InodesAreThere) (entries : EntriesAreThere) where
    down : (from : ObjectKey) (path : NameList) (key : ObjectKey) → Contains all from → LeadsToObject s.links from path key → LeadsOn items (inode (ino_of s from)) path (inode (ino_of s key))
    down from [] key among leads = ap (λ (k : ObjectKey). inode (ino_of s k)) leads
    down from (name ∷ names) key among leads =
        let l : Naming = leads.0 in
        let n = link_there volume image o plan pieces has items read entries l leads.1 in
        let g = good_link volume image o plan pieces has l leads.1 in
        let directory : kind_in s from ≡ Directory = subst (λ (k : ObjectKey). kind_in s k ≡ Directory) leads.2 (link_directory volume image o plan pieces has l leads.1) in (
          n.0,
          inode (ino_of s l.target),
          n.1,
          n.2.dir ∙ ap (ino_of s) leads.2,
          directory_in s items from (inode_there volume image o plan pieces has items read inodes from among) directory,
          n.2.name ∙ leads.3,
          (ap (λ (k : Key). k.kind == INODE_ITEM) n.2.location, ap (λ (k : Key). k.objectid) n.2.location),
          down l.target names key g.target_known leads.4,
        )

    abbrev Reaches : ObjectKey → NameList → Target → Type 0
    Reaches from path to = (key : ObjectKey) × Contains all key × (to ≡ inode (ino_of s key)) × LeadsToObject s.links from path key

    goes_on : (n : DirIndex) (l : Naming) (next to : Target) (names : NameList) → IsLinkOf s n l → NamesTarget n next → LeadsOn items next names to → (LeadsOn items (inode (ino_of s l.target)) names to → Reaches l.target names to) → Reaches l.target names to
    goes_on n l (inode ino) to names is named leads later =
        let same : ino ≡ ino_of s l.target = sym named.1 ∙ ap (λ (k : Key). k.objectid) is.location in
        later (subst (λ (i : ℕ). LeadsOn items (inode i) names to) same leads)
    goes_on n l (tree number) to names is named leads later = absurd (true≢false (sym named.0 ∙ ap (λ (k : Key). k.kind == ROOT_ITEM) is.location))

    up : (from : ObjectKey) (path : NameList) (to : Target) → Contains all from → LeadsOn items (inode (ino_of s from)) path to → Reaches from path to
    up from [] to among leads = (from, among, sym leads, refl)
    up from (name ∷ names) to among leads =
        let n : DirIndex = leads.0 in
        let l = link_told volume image o plan pieces has items read entries n leads.2 in
        let g = good_link volume image o plan pieces has l.0 l.1 in
        let dir : l.0.dir ≡ from = one_object volume image o plan pieces has l.0.dir from g.dir_known among (sym l.2.dir ∙ leads.3) in
        let rest = goes_on n l.0 leads.1 to names l.2 leads.6 leads.7 (λ there. up l.0.target names to g.target_known there) in
        (rest.0, rest.1, rest.2, (l.0, l.1, dir, sym l.2.name ∙ leads.5, rest.3))

    -- ---- the one entry aside

    abbrev listed_by : ObjectKey → List DirIndex
    listed_by key = namings_by s key (kind_in s key)

    abbrev named : ObjectKey → List Indexed
    named key = map (indexed (kind_in s) s.keys) (names_in s.links key)

    not_aside : (key : ObjectKey) (n : DirIndex) → Contains (map (naming_by (ino_of s key)) (named key)) n → aside n ≡ false
    not_aside key n h =
        let m = from_map (naming_by (ino_of s key)) (named key) n h in
        let e = from_map (indexed (kind_in s) s.keys) (names_in s.links key) m.0 m.1 in
        let l = is_link s.links key e.0 e.1 in
        let is : naming_by (ino_of s key) (indexed (kind_in s) s.keys e.0) ≡ n = ap (naming_by (ino_of s key)) e.2 ∙ m.2 in
        ap not (link_followed volume image o plan pieces has items read n e.0.link l.among (record {
          dir = sym (ap (λ (x : DirIndex). x.dir) is) ∙ ap (ino_of s) (sym l.dir_is);
          name = sym (ap (λ (x : DirIndex). x.name) is);
          location = sym (ap (λ (x : DirIndex). x.location) is);
        }))

    root_aside : filter aside (listed_by root) ≡ naming_by 256 (next_index s.links root, saved_entry) ∷ []
    root_aside =
        let f : Indexed → DirIndex = naming_by (ino_of s root) in
        let last : List Indexed = (next_index s.links root, saved_entry) ∷ [] in
        ap (λ (k : Kind). filter aside (namings_by s root k)) (directory_there volume image has.accepted has.opened o pieces root has.accepted.objects.root_directory)
        ∙ (ap (filter aside) (map-append f (named root) last)
        ∙ (filter-append aside (map f (named root)) (map f last)
        ∙ ap (λ (l : List DirIndex). l ++ filter aside (map f last)) (kept_none aside (map f (named root)) (all_from (λ n. aside n ≡ false) (map f (named root)) (not_aside root)))))

    other_aside : (key : ObjectKey) (kind : Kind) → Contains all key → key ≢ root → filter aside (namings_by s key kind) ≡ []
    other_aside key Directory among other =
        kept_none aside (map (naming_by (ino_of s key)) (indexed_in (kind_in s) s.keys s.links key)) (all_from (λ n. aside n ≡ false) (map (naming_by (ino_of s key)) (indexed_in (kind_in s) s.keys s.links key)) (λ n h.
        let m = from_map (naming_by (ino_of s key)) (indexed_in (kind_in s) s.keys s.links key) n h in
        let apart : (n.dir == FIRST_FREE_OBJECTID) ≡ false = ne_eqb n.dir 256 (λ is. other (one_object volume image o plan pieces has key root among root_there (ap (λ (x : DirIndex). x.dir) m.2 ∙ is))) in
        ap (λ (b : Bool). not (not (b && is_saved_name n.name))) apart))
    other_aside key File among other = refl
    other_aside key Symlink among other = refl
    other_aside key Character among other = refl
    other_aside key Block among other = refl
    other_aside key Fifo among other = refl
    other_aside key Socket among other = refl
    other_aside key Subvolume among other = refl

    others_aside : filter aside (flat_map listed_by (filter (λ key. not (same_key key root)) all)) ≡ []
    others_aside =
        let others : List ObjectKey = filter (λ key. not (same_key key root)) all in
        kept_flat_none aside listed_by others (all_from (λ key. filter aside (listed_by key) ≡ []) others (λ key h.
        let kept = from_filter (λ k. not (same_key k root)) all key h in
        other_aside key (kind_in s key) kept.0 (λ is. true≢false (sym kept.1 ∙ ap not (ap (λ (k : ObjectKey). same_key k root) is)))))

    saved_alone : map unplaced (filter aside (dir_indexes items)) ≡ naming_by 256 (next_index s.links root, saved_entry) ∷ []
    saved_alone =
        let others : List ObjectKey = filter (λ key. not (same_key key root)) all in
        sym (kept_map aside unplaced (dir_indexes items))
        ∙ (ap (filter aside) (entries volume image o plan pieces items has read)
        ∙ (filter-append aside (listed_by root) (flat_map listed_by others)
        ∙ (ap (λ (l : List DirIndex). l ++ filter aside (flat_map listed_by others)) root_aside ∙ ap (λ (l : List DirIndex). naming_by 256 (next_index s.links root, saved_entry) ∷ l) others_aside)))

pub names_are_kept : InodesAreThere → EntriesAreThere → NamesAreKept
names_are_kept inodes entries volume image o plan pieces items has read = record {
  kept = λ path key leads. down volume image o plan pieces has items read inodes entries root path key (root_there volume image o plan pieces has) leads;
  only = λ path to leads. up volume image o plan pieces has items read inodes entries root path to (root_there volume image o plan pieces has) leads;
  apart = one_object volume image o plan pieces has;
  saved = saved_alone volume image o plan pieces has items read inodes entries;
}
