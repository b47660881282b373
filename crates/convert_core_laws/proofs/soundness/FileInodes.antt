-- The inodes and the entries of the file tree keep the rules of Linux.
use Rattle.convert_core_laws.proofs.Imports.{◌≡◌, ◌≢◌, ◌≤◌, ◌<◌, ℕ, zero, suc, ◌+◌, ◌/◌, ◌^◌, ◌==◌, Bool, true, false, cond, List, [], ◌∷◌, map, count_by, length, Option, Some, None, refl, sym, ap, subst, ◌∙◌, ⊎_elim, true≢false, arith, ◌++◌, AllByRecursion, cases_lt, eq-eqb, eqb-true, ne_eqb, All-from_recursion, Contains-append_left, AllPairs-cons, sum_by-cons, FT_DIR, INODE_IMMUTABLE, INODE_APPEND, keys, Image, inode_bytes, Item, is_name, NodePointer, Super, AreInodes, IsDirEntry, IsOwned, KeepsInode, SameName, HasInode, HasKind, entry_type, is_orphan, ref_name_count, other_flags, ComesToEnd, below, unnamed, IndexEntry, IsThere, index_entries, names_inode_item, TreeOn, two_cases, IsMaking, Making, HasPieces, IndexedLink as Link, Indexed, entry_kind, indexed, indexed_in, indexed_links, names_in, next_index, saved_entry, entries_behind, entry_behind, Source, fs_tree_items, ino_of, inode_in, kind_in, link_count, object_items, stat_in, InodesAreThere, HasBytes, directories_apart, is_directory_there, kind_is, links_short, names_apart, root_known, entries_apart, is_link, Across, Apart, all_from, all_in, apart_both, apart_climb, apart_flat, apart_from, apart_map, apart_with, good_link, one_object, root_number, link_directory, from_filter, from_flat_map, from_map, head_or_tail, in_filter, in_map, in_flat_map, at_head, in_tail, all_from_contains, is_directory, kind_of_code, Kind, Directory, File, Symlink, Character, Block, Fifo, Socket, Subvolume, root, same_key, IsNamed, IsReachedBy, followed, is_followed, namings, IsDirectory, ObjectKey, Naming, volume_items, accepted_is_small, same_key-self, same_key-true, bit_and, inode_flags, Walked, AreDistinct, none_pass, one_passes}
use Rattle.std.proofs.Common.{flat_map, Contains, All, AllPairs, is_some, if◌then◌else◌}
use Rattle.reiser_volume.specs.reiser_volume_objects.Kinds.{kind_of_mode}
use Rattle.convert_core_laws.proofs.Owned.{IsOf, of_object}
use Rattle.convert_core_laws.proofs.soundness.Assembling.{entries_are}
use Rattle.convert_core_laws.proofs.soundness.Entered.{IsEntry, IsOfDirectory, by_image, by_link, of_directory}
use Rattle.convert_core_laws.proofs.soundness.Flags.{flags_are, flags_known, inode_reads, inode_there, link_flags}
use Rattle.convert_core_laws.proofs.soundness.Inodes.{count_told, some_same, each_object, kind_told, made_once, mode_in, names_count, nlink_in, nlink_other, root_kind, tree}
use Rattle.convert_core_laws.proofs.soundness.Names.{climbs, from_order, in_order, is_in, objects, tells_tree}
use Rattle.convert_core_laws.proofs.soundness.Numbers.{inode_range}
use Rattle.convert_core_laws.proofs.soundness.Objects.{index_some, indexes, link_among, listed, names, s}
use Rattle.convert_core_laws.proofs.soundness.Telling.{index_by}

-- what holds of each element and each later one holds of each two
pub pairs_from : {X : Type 0} (R : X → X → Type 0) (xs : List X) → Apart R xs → AllPairs R xs
pairs_from R [] apart = λ i j d l h. absurd (omega (arith, h))
pairs_from R (x ∷ xs) apart = AllPairs-cons R x xs (All-from_recursion (R x) xs apart.0) (pairs_from R xs apart.1)

-- an element that passes is counted
count_some : {X : Type 0} (p : X → Bool) (xs : List X) (x : X) → Contains xs x → p x ≡ true → 1 ≤ count_by p xs
count_some p [] x h t = absurd (omega (arith, h.1))
count_some {X} p (y ∷ xs) x h t =
    let whole = sum_by-cons (λ (z : X). cond (p z) 1 0) y xs in
    ⊎_elim
    (λ (same : y ≡ x). let one : cond (p y) 1 0 ≡ 1 = ap {B = ℕ} (λ (b : Bool). cond b 1 0) (ap p same ∙ t) in omega (arith, whole, one))
    (λ (later : Contains xs x). let more = count_some p xs x later t in omega (arith, whole, more)) (head_or_tail y xs x h)

-- each link is one of those with their indexes
link_entry : (before links : List Naming) (n : Naming) → Contains links n → (e : Link) × Contains (entries_behind before links) e × (e.link ≡ n)
link_entry before [] n h = absurd (omega (arith, h.1))
link_entry before (l ∷ links) n h =
    let rest : List Link = entries_behind (before ++ l ∷ []) links in
    ⊎_elim (λ (same : l ≡ n). (entry_behind before l, at_head (entry_behind before l) rest, same))
    (λ (later : Contains links n). let e = link_entry (before ++ l ∷ []) links n later in (e.0, in_tail (entry_behind before l) rest e.0 e.1, e.2)) (head_or_tail l links n h)

-- ---- modes

none_above : (code : ℕ) → 12 < code → kind_of_code code ≡ None
none_above code high =
    rw (ne_eqb code 4 (λ is. omega (arith, is, high)), ne_eqb code 8 (λ is. omega (arith, is, high)), ne_eqb code 10 (λ is. omega (arith, is, high)), ne_eqb code 2 (λ is. omega (arith, is, high)), ne_eqb code 6 (λ is. omega (arith, is, high)), ne_eqb code 1 (λ is. omega (arith, is, high)), ne_eqb code 12 (λ is. omega (arith, is, high)))
    refl

no_kind : (kind : Kind) → (let o : Option Kind = None in o) ≡ Some kind → ⊥
no_kind kind is = absurd (cc)

-- a mode with a kind has 16 bits
mode_short : (mode : ℕ) (kind : Kind) → kind_of_mode mode ≡ Some kind → mode < 2 ^ 16
mode_short mode kind is =
    ⊎_elim (λ (high : 12 < mode / 4096). absurd (no_kind kind (sym (none_above (mode / 4096) high) ∙ is))) (λ (low : mode / 4096 ≤ 12). omega (arith, low)) (cases_lt 12 (mode / 4096))

-- an entry is written as it is read
same_type : (kind : Kind) → entry_kind kind ≡ entry_type kind
same_type File = refl
same_type Directory = refl
same_type Character = refl
same_type Block = refl
same_type Fifo = refl
same_type Socket = refl
same_type Symlink = refl
same_type Subvolume = refl

module _ (image : Image) (m : Making) (made : IsMaking image m) where
  abbrev of : HasPieces m.volume image m.options m.plan m.pieces
  of = made.has_pieces

  abbrev src : Source
  src = s image m made

  abbrev all : List ObjectKey
  all = keys m.volume.named

  -- ---- the links of an object

  reached_link : (steps : ℕ) (key : ObjectKey) (reached : IsReachedBy (followed (volume_items image)) (suc steps) key) → Contains src.links reached.0
  reached_link steps key reached =
      let n : Naming = reached.0 in
      let kept = from_filter is_followed (namings (volume_items image)) n reached.1 in
      let has : of.opened.are_links.has n.dir ≡ true = (of.opened.are_links.exact n.dir).1 (steps, reached.3) in
      let visible : Contains of.opened.visible n = subst (λ (ns : List Naming). Contains ns n) (sym of.opened.are_links.are_visible) (in_filter (λ (x : Naming). of.opened.are_links.has x.dir) (namings (volume_items image)) n kept.0 has) in
      subst (λ (ns : List Naming). Contains ns n) (sym of.opened.are_links.are_links) (in_filter is_followed of.opened.visible n visible kept.1)

  link_of : (steps : ℕ) (key : ObjectKey) → IsReachedBy (followed (volume_items image)) steps key → key ≢ root → (l : Naming) × Contains src.links l × (l.target ≡ key)
  link_of zero key reached other = absurd (other reached)
  link_of (suc steps) key reached other = (reached.0, reached_link steps key reached, reached.2)

  -- each object but the root has one
  link_to : (key : ObjectKey) → Contains all key → key ≢ root → (l : Naming) × Contains src.links l × (l.target ≡ key)
  link_to key among other = let named : IsNamed (volume_items image) key = (of.opened.are_keys.exact key).0 among in link_of named.0 key named.1 other

  abbrev names_key : ObjectKey → Naming → Bool
  names_key key l = same_key l.target key

  some_link : (key : ObjectKey) → Contains all key → key ≢ root → 1 ≤ count_by (names_key key) src.links
  some_link key among other =
      let l = link_to key among other in
      count_some (names_key key) src.links l.0 l.1 (ap (λ (k : ObjectKey). same_key k key) l.2 ∙ same_key-self key)

  links_distinct : AreDistinct src.links
  links_distinct = λ i j d l h e. names_apart m.volume image of.accepted of.opened i j d l h (ap (λ (n : Naming). n.dir) e) (ap (λ (n : Naming). n.name) e)

  -- a directory has just one, and the root has none
  one_link : (key : ObjectKey) → Contains all key → kind_in src key ≡ Directory → key ≢ root → count_by (names_key key) src.links ≡ 1
  one_link key among directory other =
      let l = link_to key among other in
      one_passes (names_key key) src.links l.0 links_distinct l.1 (ap (λ (k : ObjectKey). same_key k key) l.2 ∙ same_key-self key) (λ y h t. same l.0 l.1 l.2 y h (same_key-true y.target key t))
    where
      is : IsDirectory (volume_items image) key
      is = is_directory_there m.volume image of.accepted of.opened m.options m.pieces key among directory

      same : (x : Naming) → Contains src.links x → x.target ≡ key → (y : Naming) → Contains src.links y → y.target ≡ key → x ≡ y
      same x in_x at_x y in_y at_y =
          ⊎_elim (λ (e : x ≡ y). e)
          (λ either. ⊎_elim
          (λ first. absurd (first (subst (IsDirectory (volume_items image)) (sym at_y) is) (at_x ∙ sym at_y)))
          (λ second. absurd (second (subst (IsDirectory (volume_items image)) (sym at_x) is) (at_y ∙ sym at_x))) either)
          (two_cases (λ (a b : Naming). IsDirectory (volume_items image) b.target → a.target ≢ b.target) src.links x y (directories_apart m.volume image of.accepted of.opened) in_x in_y)

  no_link : count_by (names_key root) src.links ≡ 0
  no_link = none_pass (names_key root) src.links (λ l h t. (good_link m.volume image m.options m.plan m.pieces of l h).not_root (same_key-true l.target root t))

  is_root : (key : ObjectKey) → Contains all key → (256 == ino_of src key) ≡ true → key ≡ root
  is_root key among t = one_object m.volume image m.options m.plan m.pieces of key root among (root_known m.volume image of.accepted of.opened) (sym (eqb-true 256 (ino_of src key) t) ∙ sym (root_number m.volume image m.options m.plan m.pieces of))

  module _ (sup : Super) (nodes : Walked) (there : InodesAreThere) (bytes : HasBytes image) where
    abbrev t : TreeOn
    t = tree image m made nodes

    pub has_inode : (key : ObjectKey) → Contains all key → HasInode (tree image m made nodes) (ino_of src key) (inode_in src key)
    has_inode key among = record { body = inode_bytes (inode_in src key); there = inode_there src key among; reads = inode_reads there m.volume image m.options m.plan m.pieces of bytes key among }

    pub has_kind : (key : ObjectKey) → Contains all key → HasKind (tree image m made nodes) (ino_of src key) (kind_in src key)
    has_kind key among = (inode_in src key, has_inode key among, kind_told image m made key among)

    -- ---- entries

    -- the directory is one
    directory_of : (key : ObjectKey) (x : Indexed) → IsEntry image m made key x → kind_in src key ≡ Directory
    directory_of key x (by_link f h is) = (is_in image m made key f h).directory
    directory_of key x (by_image at is) = ap (kind_in src) at ∙ root_kind image m made

    -- what a link names
    module _ (e : IndexEntry) (o : IsOfDirectory image m made e) where
      leads : (f : Link) → Contains (names_in src.links o.key) f → indexed (kind_in src) src.keys f ≡ o.x → (kind : Kind) × HasKind (tree image m made nodes) e.entry.location.objectid kind × (e.entry.kind ≡ entry_type kind)
      leads f h is =
          let target : ObjectKey = f.link.target in
          let number : ino_of src target ≡ e.entry.location.objectid = ap (λ (y : Indexed). y.1.location.objectid) is ∙ ap (λ (y : IndexEntry). y.entry.location.objectid) o.is in
          let type : e.entry.kind ≡ entry_kind (kind_in src target) = sym (ap (λ (y : IndexEntry). y.entry.kind) o.is) ∙ sym (ap (λ (y : Indexed). y.1.kind) is) in
          let among : Contains all target = (good_link m.volume image m.options m.plan m.pieces of f.link (link_among src.links f (is_in image m made o.key f h).entry)).target_known in
          (kind_in src target, subst (λ (n : ℕ). HasKind (tree image m made nodes) n (kind_in src target)) number (has_kind target among), type ∙ same_type (kind_in src target))

      inode_of_entry : names_inode_item e ≡ true → IsEntry image m made o.key o.x → (kind : Kind) × HasKind (tree image m made nodes) e.entry.location.objectid kind × (e.entry.kind ≡ entry_type kind)
      inode_of_entry to_inode (by_link f h is) = leads f h is
      inode_of_entry to_inode (by_image at is) =
          absurd (true≢false (sym to_inode ∙ (sym (ap names_inode_item o.is) ∙ sym (ap (λ (y : Indexed). names_inode_item (index_by (ino_of src o.key) y)) is))))

      tree_of_entry : names_inode_item e ≡ false → IsEntry image m made o.key o.x → e.entry.kind ≡ FT_DIR
      tree_of_entry none (by_link f h is) = absurd (true≢false (ap (λ (y : Indexed). names_inode_item (index_by (ino_of src o.key) y)) is ∙ (ap names_inode_item o.is ∙ none)))
      tree_of_entry none (by_image at is) = sym (ap (λ (y : IndexEntry). y.entry.kind) o.is) ∙ sym (ap (λ (y : Indexed). y.1.kind) is)

      record IsGoodName (name : List ℕ) (index : ℕ) : Type 0 where
        good : is_name name ≡ true
        short : length name ≤ 255
        above : 2 ≤ index

      named : IsEntry image m made o.key o.x → IsGoodName o.x.1.name o.x.0
      named (by_link f h is) =
          let entry : Contains (indexed_links src.links) f = (is_in image m made o.key f h).entry in
          let among : Contains src.links f.link = link_among src.links f entry in
          subst (λ (y : Indexed). IsGoodName y.1.name y.0) is
          (record { good = (good_link m.volume image m.options m.plan m.pieces of f.link among).name; short = links_short m.volume image of.accepted of.opened f.link among; above = index_some [] src.links f entry })
      named (by_image at is) = subst (λ (y : Indexed). IsGoodName y.1.name y.0) is (record { good = refl; short = omega arith; above = omega arith })

      is_entry : IsDirEntry (tree image m made nodes) e
      is_entry =
          let name : IsGoodName e.entry.name e.index = subst (λ (y : IndexEntry). IsGoodName y.entry.name y.index) o.is (named o.entry) in
          record {
            directory =
                subst (λ (n : ℕ). HasKind (tree image m made nodes) n Directory) (ap (λ (y : IndexEntry). y.entry.dir) o.is)
                (subst (HasKind (tree image m made nodes) (ino_of src o.key)) (directory_of o.key o.x o.entry) (has_kind o.key o.among));
            inode = λ to_inode. inode_of_entry to_inode o.entry;
            tree = λ none. tree_of_entry none o.entry;
            name = name.good;
            short = name.short;
            index = name.above;
          }

    -- ---- names differ

    abbrev Differ : IndexEntry → IndexEntry → Type 0
    Differ e f = ¬ SameName e f

    abbrev DifferAsLinks : Naming → Naming → Type 0
    DifferAsLinks a b = a.dir ≡ b.dir → a.name ≢ b.name

    abbrev DifferIndexed : Indexed → Indexed → Type 0
    DifferIndexed x y = x.1.name ≢ y.1.name

    in_directory : (key : ObjectKey) → Apart DifferIndexed (indexed_in (kind_in src) src.keys src.links key)
    in_directory key =
        let told : List Indexed = map (indexed (kind_in src) src.keys) (names_in src.links key) in
        let last : List Indexed = if same_key key root then (next_index src.links key, saved_entry) ∷ [] else [] in
        apart_both DifferIndexed told last
        (apart_map DifferIndexed (indexed (kind_in src) src.keys) (names_in src.links key)
        (apart_with (λ (e f : Link). DifferAsLinks e.link f.link) (λ (e f : Link). DifferIndexed (indexed (kind_in src) src.keys e) (indexed (kind_in src) src.keys f)) (names_in src.links key)
        (λ e f in_e in_f differ. differ ((is_link src.links key e in_e).dir_is ∙ sym (is_link src.links key f in_f).dir_is))
        (entries_apart DifferAsLinks src.links key (apart_from DifferAsLinks src.links (names_apart m.volume image of.accepted of.opened)))))
        (last_apart (same_key key root))
        (all_from (λ (x : Indexed). AllByRecursion (λ (y : Indexed). DifferIndexed x y) last) told (λ x h. let f = from_map (indexed (kind_in src) src.keys) (names_in src.links key) x h in against x f.0 f.1 f.2 (same_key key root) refl))
      where
        last_apart : (b : Bool) → Apart DifferIndexed (if b then (next_index src.links key, saved_entry) ∷ [] else [])
        last_apart true = (tt, tt)
        last_apart false = tt

        against : (x : Indexed) (e : Link) → Contains (names_in src.links key) e → indexed (kind_in src) src.keys e ≡ x → (b : Bool) → same_key key root ≡ b
            → AllByRecursion (λ (y : Indexed). DifferIndexed x y) (if b then (next_index src.links key, saved_entry) ∷ [] else [])
        against x e h is true at =
            let l = is_link src.links key e h in
            (λ name. (good_link m.volume image m.options m.plan m.pieces of e.link l.among).free (l.dir_is ∙ same_key-true key root at) (ap (λ (y : Indexed). y.1.name) is ∙ name), tt)
        against x e h is false at = tt

    of_kind : (key : ObjectKey) (kind : Kind) → Apart DifferIndexed (listed image m made key kind)
    of_kind key Directory = in_directory key
    of_kind key File = tt
    of_kind key Symlink = tt
    of_kind key Character = tt
    of_kind key Block = tt
    of_kind key Fifo = tt
    of_kind key Socket = tt
    of_kind key Subvolume = tt

    dir_is : (key : ObjectKey) (e : IndexEntry) → Contains (indexes image m made key) e → e.entry.dir ≡ ino_of src key
    dir_is key e h = let x = from_map (index_by (ino_of src key)) (listed image m made key (kind_in src key)) e h in sym (ap (λ (y : IndexEntry). y.entry.dir) x.2)

    all_differ : Apart Differ (flat_map (indexes image m made) (objects image m made))
    all_differ =
        apart_flat Differ (indexes image m made) (objects image m made)
        (all_from (λ (key : ObjectKey). Apart Differ (indexes image m made key)) (objects image m made) (λ key h.
        apart_map Differ (index_by (ino_of src key)) (listed image m made key (kind_in src key))
        (apart_with DifferIndexed (λ (x y : Indexed). Differ (index_by (ino_of src key) x) (index_by (ino_of src key) y)) (listed image m made key (kind_in src key)) (λ x y in_x in_y differ same. differ same.1) (of_kind key (kind_in src key)))))
        (apart_with (λ (a b : ObjectKey). ino_of src a < ino_of src b) (Across Differ (indexes image m made)) (objects image m made)
        (λ a b in_a in_b less x y in_x in_y same.
        let of_x = dir_is a x in_x in
        let of_y = dir_is b y in_y in
        let dir = same.0 in
        absurd (omega (arith, less, of_x, of_y, dir)))
        (apart_climb (ino_of src) (objects image m made) (climbs image m made)))

    -- ---- inodes

    -- the links are the names
    links_are : (key : ObjectKey) → Contains all key → (link_count src key ≡ ref_name_count (tree image m made nodes) (ino_of src key)) × (1 ≤ ref_name_count (tree image m made nodes) (ino_of src key))
    links_are key among = by (kind_in src key) refl (256 == ino_of src key) refl
      where
        -- the root's name of itself, and its links
        count : ref_name_count (tree image m made nodes) (ino_of src key) ≡ cond (256 == ino_of src key) 1 0 + count_by (names_key key) src.links
        count = names_count image m made nodes key among

        one_name : kind_in src key ≡ Directory → ref_name_count (tree image m made nodes) (ino_of src key) ≡ 1 → (link_count src key ≡ ref_name_count (tree image m made nodes) (ino_of src key)) × (1 ≤ ref_name_count (tree image m made nodes) (ino_of src key))
        one_name directory one = (ap (λ (k : Kind). if is_directory k then 1 else count_by (names_key key) src.links) directory ∙ sym one, omega (arith, one))

        not_root : (256 == ino_of src key) ≡ false → key ≢ root
        not_root f same = true≢false (sym (eq-eqb 256 (ino_of src key) (sym (ap (ino_of src) same ∙ root_number m.volume image m.options m.plan m.pieces of))) ∙ f)

        other : (kind_in src key ≡ Directory → ⊥) → (link_count src key ≡ ref_name_count (tree image m made nodes) (ino_of src key)) × (1 ≤ ref_name_count (tree image m made nodes) (ino_of src key))
        other no_directory =
            let told : count_by (names_key key) src.links ≡ ref_name_count (tree image m made nodes) (ino_of src key) = count_told image m made nodes key among no_directory in
            let some = some_link key among (λ same. no_directory (ap (kind_in src) same ∙ root_kind image m made)) in
            (nlink_other image m made nodes key among no_directory ∙ told, omega (arith, told, some))

        by : (k : Kind) → kind_in src key ≡ k → (b : Bool) → (256 == ino_of src key) ≡ b → (link_count src key ≡ ref_name_count (tree image m made nodes) (ino_of src key)) × (1 ≤ ref_name_count (tree image m made nodes) (ino_of src key))
        by Directory is true t =
            let none : count_by (names_key key) src.links ≡ 0 = subst (λ (k : ObjectKey). count_by (names_key k) src.links ≡ 0) (sym (is_root key among t)) no_link in
            let own : cond (256 == ino_of src key) 1 0 ≡ 1 = ap {B = ℕ} (λ (c : Bool). cond c 1 0) t in
            let whole = count in
            one_name is (omega (arith, none, own, whole))
        by Directory is false f =
            let one = one_link key among is (not_root f) in
            let own : cond (256 == ino_of src key) 1 0 ≡ 0 = ap {B = ℕ} (λ (c : Bool). cond c 1 0) f in
            let whole = count in
            one_name is (omega (arith, one, own, whole))
        by File is b t = other (λ d. cc (sym is ∙ d))
        by Symlink is b t = other (λ d. cc (sym is ∙ d))
        by Character is b t = other (λ d. cc (sym is ∙ d))
        by Block is b t = other (λ d. cc (sym is ∙ d))
        by Fifo is b t = other (λ d. cc (sym is ∙ d))
        by Socket is b t = other (λ d. cc (sym is ∙ d))
        by Subvolume is b t = other (λ d. cc (sym is ∙ d))

    keeps : (key : ObjectKey) → Contains all key → KeepsInode sup (tree image m made nodes) (ino_of src key) (inode_in src key)
    keeps key among =
        let links = links_are key among in
        let some = links.1 in
        let once = made_once src key in
        let generation = once.0 in
        let transid = once.1 in
        let short : (stat_in src key).fields.mode < 2 ^ 16 = mode_short (stat_in src key).fields.mode (kind_in src key) (kind_is m.volume image of.accepted of.opened m.options m.pieces key among) in
        record {
          kind = ap is_some (kind_told image m made key among);
          bits = subst (λ (n : ℕ). n < 2 ^ 16) (sym (mode_in src key)) short;
          generation = (omega (arith, generation), omega (arith, transid));
          links = nlink_in src key ∙ links.0;
          orphan = λ none. absurd (omega (arith, none, some));
          flags = subst (λ (n : ℕ). bit_and n other_flags ≡ 0) (sym (flags_are src key)) (flags_known src.datasum src.flags (stat_in src key) (kind_in src key));
          symlink = λ is. subst (λ (n : ℕ). bit_and n (INODE_IMMUTABLE + INODE_APPEND) ≡ 0) (sym (flags_are src key))
              (subst (λ (k : Kind). bit_and (inode_flags src.datasum src.flags (stat_in src key) k) (INODE_IMMUTABLE + INODE_APPEND) ≡ 0) (sym (some_same (kind_in src key) Symlink (sym (kind_told image m made key among) ∙ is)))
              (link_flags src.datasum src.flags (stat_in src key)));
        }

    entries_told : index_entries (tree image m made nodes) ≡ flat_map (indexes image m made) (objects image m made)
    entries_told = entries_are (tree image m made nodes) (flat_map (indexes image m made) (objects image m made)) (flat_map (names image m made) (objects image m made)) (tells_tree image m made)

    -- ---- what stands above an object

    -- the link of a directory is an entry
    entry_there : (l : Naming) → Contains src.links l → (e : IndexEntry) × Contains (index_entries (tree image m made nodes)) e × (names_inode_item e ≡ true) × (e.entry.dir ≡ ino_of src l.dir) × (e.entry.location.objectid ≡ ino_of src l.target)
    entry_there l h =
        let of_link = link_entry [] src.links l h in
        let f : Link = of_link.0 in
        let x : Indexed = indexed (kind_in src) src.keys f in
        let within : Contains (names_in src.links l.dir) f = in_filter (λ (g : Link). same_key g.link.dir l.dir) (indexed_links src.links) f of_link.1 (ap (λ (n : Naming). same_key n.dir l.dir) of_link.2 ∙ same_key-self l.dir) in
        let in_list : Contains (listed image m made l.dir Directory) x =
        Contains-append_left (map (indexed (kind_in src) src.keys) (names_in src.links l.dir)) (if same_key l.dir root then (next_index src.links l.dir, saved_entry) ∷ [] else []) x
        (in_map (indexed (kind_in src) src.keys) (names_in src.links l.dir) f within) in
        let in_own : Contains (listed image m made l.dir (kind_in src l.dir)) x =
        subst (λ (kind : Kind). Contains (listed image m made l.dir kind) x) (sym (link_directory m.volume image m.options m.plan m.pieces of l h)) in_list in
        let known : Contains all l.dir = (good_link m.volume image m.options m.plan m.pieces of l h).dir_known in (
          index_by (ino_of src l.dir) x,
          subst (λ (es : List IndexEntry). Contains es (index_by (ino_of src l.dir) x)) (sym entries_told)
              (in_flat_map (indexes image m made) (objects image m made) l.dir (index_by (ino_of src l.dir) x) (in_order image m made l.dir known) (in_map (index_by (ino_of src l.dir)) (listed image m made l.dir (kind_in src l.dir)) x in_own)),
          refl,
          refl,
          ap (λ (n : Naming). ino_of src n.target) of_link.2,
        )

    root_end : ComesToEnd (tree image m made nodes) (ino_of src root)
    root_end = unnamed (ino_of src root) (λ e h to_inode same. named_root e (of_directory image m made e (subst (λ (es : List IndexEntry). Contains es e) entries_told h)) to_inode same)
      where
        named_root : (e : IndexEntry) (o : IsOfDirectory image m made e) → names_inode_item e ≡ true → e.entry.location.objectid ≡ ino_of src root → ⊥
        named_root e o to_inode same = by o.entry
          where
            by : IsEntry image m made o.key o.x → ⊥
            by (by_link f h is) =
                let target : ObjectKey = f.link.target in
                let number : ino_of src target ≡ e.entry.location.objectid = ap (λ (y : Indexed). y.1.location.objectid) is ∙ ap (λ (y : IndexEntry). y.entry.location.objectid) o.is in
                let good = good_link m.volume image m.options m.plan m.pieces of f.link (link_among src.links f (is_in image m made o.key f h).entry) in
                good.not_root (one_object m.volume image m.options m.plan m.pieces of target root good.target_known (root_known m.volume image of.accepted of.opened) (number ∙ same))
            by (by_image at is) =
                true≢false (sym to_inode ∙ (sym (ap names_inode_item o.is) ∙ sym (ap (λ (y : Indexed). names_inode_item (index_by (ino_of src o.key) y)) is)))

    comes_to_end : (steps : ℕ) (key : ObjectKey) → IsReachedBy (followed (volume_items image)) steps key → ComesToEnd (tree image m made nodes) (ino_of src key)
    comes_to_end zero key reached = subst (λ (k : ObjectKey). ComesToEnd (tree image m made nodes) (ino_of src k)) (sym reached) root_end
    comes_to_end (suc steps) key reached =
        let l : Naming = reached.0 in
        let e = entry_there l (reached_link steps key reached) in
        let above : ComesToEnd (tree image m made nodes) e.0.entry.dir = subst (λ (n : ℕ). ComesToEnd (tree image m made nodes) n) (sym e.3) (comes_to_end steps l.dir reached.3) in
        subst (λ (n : ℕ). ComesToEnd (tree image m made nodes) n) (e.4 ∙ ap (ino_of src) reached.2) (below e.0 e.1 e.2 above)

    all_end : (ino : ℕ) → HasKind (tree image m made nodes) ino Directory → ComesToEnd (tree image m made nodes) ino
    all_end ino has =
        each_object image m made nodes there bytes (λ n inode. ComesToEnd (tree image m made nodes) n)
        (λ key among. let named : IsNamed (volume_items image) key = (of.opened.are_keys.exact key).0 among in comes_to_end named.0 key named.1) ino has.1.body has.0 has.1.there has.1.reads

    -- ---- the whole tree

    owned_by : (i : Item) → Contains (fs_tree_items src) i → IsOwned (tree image m made nodes) i
    unfolding fs_tree_items
    owned_by i h =
        let at = from_flat_map (object_items src) (objects image m made) i h in
        let number : i.0.objectid ≡ ino_of src at.0 = all_in (IsOf (ino_of src at.0)) (object_items src at.0) i (of_object src at.0) at.2 in
        let range = inode_range all at.0 ((accepted_is_small image of.accepted).objects all of.opened.are_keys) in
        let low = range.0 in
        let high = range.1 in
        record {
          there = subst (IsThere (tree image m made nodes)) (sym number) (inode_bytes (inode_in src at.0), inode_there src at.0 (from_order image m made at.0 at.1));
          low = omega (arith, number, low);
          high = omega (arith, number, high);
        }

    pub file_inodes : AreInodes sup (tree image m made nodes)
    file_inodes =
        let index_all : List IndexEntry = flat_map (indexes image m made) (objects image m made) in
        let are : index_entries (tree image m made nodes) ≡ index_all = entries_told in
        record {
          root =
              subst (λ (n : ℕ). HasKind (tree image m made nodes) n Directory) (root_number m.volume image m.options m.plan m.pieces of)
              (subst (HasKind (tree image m made nodes) (ino_of src root)) (root_kind image m made) (has_kind root (root_known m.volume image of.accepted of.opened)));
          entries = subst (All (IsDirEntry (tree image m made nodes))) (sym are) (all_from_contains (IsDirEntry (tree image m made nodes)) index_all (λ e h. is_entry e (of_directory image m made e h)));
          once = subst (AllPairs Differ) (sym are) (pairs_from Differ index_all all_differ);
          inodes = λ ino inode has. each_object image m made nodes there bytes (KeepsInode sup (tree image m made nodes)) keeps ino has.body inode has.there has.reads;
          owned = all_from_contains (λ (i : Item). is_orphan i ≡ false → IsOwned (tree image m made nodes) i) (fs_tree_items src) (λ i h plain. owned_by i h);
          above = all_end;
        }
