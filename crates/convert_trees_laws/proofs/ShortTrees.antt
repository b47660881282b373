-- The items of the three trees are short.
use Rattle.convert_trees_laws.proofs.Imports.{◌≡◌, ◌≤◌, ℕ, ◌+◌, ◌*◌, ◌==◌, ◌&&◌, nat_le, not, Bool, true, false, cond, List, [], ◌∷◌, ◌++◌, length, filter, sum_by, Option, Some, refl, sym, ap, subst, ◌∙◌, ⊎_elim, if◌then◌else◌, arith, AllByRecursion, and_parts, leb-true, All-from_recursion, sum_by-cons, FIRST_FREE_OBJECTID, DIRECTORY_MODE, IMAGE_MODE, name_hash, keys, from_filter, Image, contains_head, contains_tail, Kind, Directory, File, Symlink, Character, Block, Fifo, Socket, Subvolume, Item, extent_item, inline_extent, inode_item, inode_made, ref_item, tail_block, target_bytes, block_from, ReiserItem, ObjectKey, Naming, items_of, root, same_key, IsNamed, namings, IsObject, AreNames, crowd_of, extended_crowd_of, ino_of_key, extended_one, links_one, stays_in_tree, is_tail, by_inode, IsOpened, links_in, IsAccepted, volume_items, Volume, Options, Piece, AreSortedKeys, numbered, inodes_apart, kind_there, stat_there, two_cases, extents_at, file_block, piece_bytes, pieces_of, pieces_of_volume, source_block, Indexed, entry_to, letters, image_entries, image_flags, image_head, image_items, image_name, relocation_items, root_directory_items, Source, content_items, file_extent_items, inline_in, inode_in, kind_in, name_items, ino_of, object_items, size_in, fs_tree_items, name_items_root, name_items_other, made_from, IsShort, ItemsAreShort}
use Rattle.convert_steps.specs.reiser_volume_objects.Names.{is_followed}
use Rattle.std.specs.Prelude.{Contains, ◌≢◌}
use Rattle.convert_trees_laws.proofs.Rising.{all_append, all_flat}
use Rattle.convert_trees_laws.proofs.Short.{entries_short, entry_items_short, extents_short, inline_short, inode_short, ref_long, refs_short}

-- ---- the small trees

ref_short : (ino parent index : ℕ) (name : List ℕ) → length name ≤ 255 → IsShort (ref_item ino parent index name)
ref_short ino parent index name low = let long = ref_long (record { index = index; name = name }) in omega (arith, long, low)

root_short : (now : ℕ) (list : List Indexed) → AllByRecursion (λ (e : Indexed). length e.1.name ≤ 255) list → ((m : ℕ) → sum_by (λ (e : Indexed). 30 + length e.1.name) (filter (λ e. name_hash e.1.name == m) list) ≤ 3900) → AllByRecursion IsShort (root_directory_items now list)
root_short now list low few = (inode_short FIRST_FREE_OBJECTID (inode_made now DIRECTORY_MODE (2 * letters list) 0 0), (ref_short FIRST_FREE_OBJECTID FIRST_FREE_OBJECTID 0 (46 ∷ 46 ∷ []) (omega arith), entry_items_short FIRST_FREE_OBJECTID list low few))

relocation_short : (now : ℕ) → AllByRecursion IsShort (relocation_items now)
unfolding relocation_items
relocation_short now = root_short now [] tt (λ m. omega arith)

name_low : length image_name ≤ 255
name_low = omega arith

image_few : (m : ℕ) → sum_by (λ (e : Indexed). 30 + length e.1.name) (filter (λ (e : Indexed). name_hash e.1.name == m) image_entries) ≤ 3900
image_few m = by (name_hash image_name == m)
  where
    by : (b : Bool) → sum_by (λ (e : Indexed). 30 + length e.1.name) (cond b ((2, entry_to 257 File image_name) ∷ []) []) ≤ 3900
    by true = let one = sum_by-cons (λ (e : Indexed). 30 + length e.1.name) (2, entry_to 257 File image_name) [] in let low = name_low in omega (arith, one, low)
    by false = omega arith

image_short : (blocks : ℕ) (pieces : List Piece) (datasum : Bool) (now : ℕ) → AllByRecursion IsShort (image_items blocks pieces datasum now)
unfolding image_items image_head
image_short blocks pieces datasum now =
    let inode : Item = inode_item 257 (inode_made now IMAGE_MODE (4096 * blocks) (piece_bytes (pieces_of_volume pieces)) (image_flags datasum)) in
    let name : Item = ref_item 257 FIRST_FREE_OBJECTID 2 image_name in
    all_append IsShort (root_directory_items now image_entries ++ (inode ∷ name ∷ [])) (extents_at 257 source_block (pieces_of_volume pieces))
    (all_append IsShort (root_directory_items now image_entries) (inode ∷ name ∷ []) (root_short now image_entries (name_low, tt) image_few)
    (inode_short 257 (inode_made now IMAGE_MODE (4096 * blocks) (piece_bytes (pieces_of_volume pieces)) (image_flags datasum)), (ref_short 257 FIRST_FREE_OBJECTID 2 image_name name_low, tt)))
    (extents_short 257 source_block (pieces_of_volume pieces))

-- ---- the file tree

module _ (volume : Volume) (image : Image) (o : Options) (pieces : List Piece) (accepted : IsAccepted image) (opened : IsOpened volume image) where
  abbrev s : Source
  s = made_from volume image o pieces

  abbrev items : List ReiserItem
  items = volume_items image

  abbrev all : List ObjectKey
  all = keys volume.named

  abbrev links : List Naming
  links = links_in volume

  names : AreNames items
  names = accepted.names

  links_same : names.links ≡ links
  links_same = links_one items names.visible names.links opened.visible links names.are_links opened.are_links

  one : (a b : ObjectKey) → Contains all a → Contains all b → ino_of_key all a ≡ ino_of_key all b → a ≡ b
  one a b in_a in_b same =
      let sorted : AreSortedKeys image all = record { accepted = accepted; are_keys = opened.are_keys; ascend = opened.ascends } in
      let at = numbered image all sorted in
      ⊎_elim (λ is. is) (λ apart. ⊎_elim (λ first. absurd (first same)) (λ second. absurd (second (sym same))) apart) (two_cases (λ x y. ino_of_key all x ≢ ino_of_key all y) all a b (inodes_apart all at.0 at.1) in_a in_b)

  known : (n : Naming) → Contains links n → Contains all n.dir
  known n h =
      let followed = from_filter is_followed opened.visible n (subst (λ (ns : List Naming). Contains ns n) opened.are_links.are_links h) in
      let seen = from_filter (λ m. opened.are_links.has m.dir) (namings items) n (subst (λ (ns : List Naming). Contains ns n) opened.are_links.are_visible followed.0) in
      (opened.are_keys.exact n.dir).1 ((opened.are_links.exact n.dir).0 seen.1)

  far : (key : ObjectKey) (m : ℕ) → extended_crowd_of links all key m ≤ 3900
  far key m =
      let few = names.keeps.extended_crowds key m in
      let same = extended_one items names.keys all names.are_keys opened.are_keys names.links key m ∙ ap (λ (ns : List Naming). extended_crowd_of ns all key m) links_same in
      omega (arith, few, same)

  crowds : (dir : ObjectKey) (m : ℕ) → crowd_of links dir m ≤ 3900
  crowds dir m = subst (λ (ns : List Naming). crowd_of ns dir m ≤ 3900) links_same (names.keeps.crowds dir m)

  pub short : (n : Naming) → Contains links n → length n.name ≤ 255
  short n h = names.keeps.short n (subst (λ (ns : List Naming). Contains ns n) (sym links_same) h)

  -- what is inline is small
  inline_small : (key : ObjectKey) → IsNamed items key → inline_in s key ≡ true → size_in s key ≤ 3900
  inline_small key named is = by (kind_in s key) refl is
    where
      object : IsObject items key
      object = accepted.objects.each key named

      by : (kind : Kind) → kind_in s key ≡ kind → stays_in_tree o.inline (items_of key items) (size_in s key) kind ≡ true → size_in s key ≤ 3900
      by File same t =
          let parts = and_parts o.inline (nat_le (size_in s key) 2048 && is_tail (block_from (items_of key items) (size_in s key) 0)) t in
          let more = and_parts (nat_le (size_in s key) 2048) (is_tail (block_from (items_of key items) (size_in s key) 0)) parts.1 in
          let low = leb-true (size_in s key) 2048 more.0 in
          omega (arith, low)
      by Symlink same t =
          let kind : object.kind ≡ Symlink = sym (kind_there items key object) ∙ same in
          let few = names.keeps.targets key object.stat named object.has_stat (object.known ∙ ap (λ (k : Kind). let r : Option Kind = Some k in r) kind) in
          let stat = ap (λ st. st.fields.size) (stat_there items key object) in
          omega (arith, few, stat)
      by Directory same t = absurd (cc)
      by Character same t = absurd (cc)
      by Block same t = absurd (cc)
      by Fifo same t = absurd (cc)
      by Socket same t = absurd (cc)
      by Subvolume same t = absurd (cc)

  data_short : (key : ObjectKey) → IsNamed items key → AllByRecursion IsShort (file_extent_items s key)
  unfolding file_extent_items
  data_short key named = by (inline_in s key) refl
    where
      by : (b : Bool) → inline_in s key ≡ b → AllByRecursion IsShort (if b then extent_item (ino_of s key) 0 (inline_extent (target_bytes (items_of key s.items) (size_in s key))) ∷ [] else extents_at (ino_of s key) file_block (pieces_of s.pieces (ino_of s key)))
      by true is = (inline_short (ino_of s key) (size_in s key) (tail_block (items_of key s.items) (size_in s key) 0) (inline_small key named is), tt)
      by false is = extents_short (ino_of s key) file_block (pieces_of s.pieces (ino_of s key))

  content_short : (key : ObjectKey) (kind : Kind) → IsNamed items key → AllByRecursion IsShort (content_items s key kind)
  content_short key Directory named = entries_short (kind_in s) all links key (ino_of s key) short (crowds key)
  content_short key File named = data_short key named
  content_short key Symlink named = data_short key named
  content_short key Character named = tt
  content_short key Block named = tt
  content_short key Fifo named = tt
  content_short key Socket named = tt
  content_short key Subvolume named = tt

  names_short : (key : ObjectKey) → AllByRecursion IsShort (name_items s key)
  names_short key = by (same_key key root) refl
    where
      by : (b : Bool) → same_key key root ≡ b → AllByRecursion IsShort (name_items s key)
      by true is = subst (AllByRecursion IsShort) (sym (name_items_root s key is)) (ref_short FIRST_FREE_OBJECTID FIRST_FREE_OBJECTID 0 (46 ∷ 46 ∷ []) (omega arith), tt)
      by false is = subst (AllByRecursion IsShort) (sym (name_items_other s key s.keys s.links is refl refl)) (refs_short all links key one known (far key))

  object_short : (key : ObjectKey) → IsNamed items key → AllByRecursion IsShort (object_items s key)
  unfolding object_items
  object_short key named = (inode_short (ino_of s key) (inode_in s key), all_append IsShort (name_items s key) (content_items s key (kind_in s key)) (names_short key) (content_short key (kind_in s key) named))

  others_short : (ks : List ObjectKey) → ((key : ObjectKey) → Contains ks key → IsNamed items key) → AllByRecursion (λ key. AllByRecursion IsShort (object_items s key)) (filter (λ key. not (same_key key root)) ks)
  others_short [] named = tt
  others_short (k ∷ ks) named = by (not (same_key k root)) (others_short ks (λ key h. named key (contains_tail key k ks h)))
    where
      by : (b : Bool) → AllByRecursion (λ key. AllByRecursion IsShort (object_items s key)) (filter (λ key. not (same_key key root)) ks)
          → AllByRecursion (λ key. AllByRecursion IsShort (object_items s key)) (cond b (k ∷ filter (λ key. not (same_key key root)) ks) (filter (λ key. not (same_key key root)) ks))
      by true later = (object_short k (named k (contains_head k ks)), later)
      by false later = later

  tree_short : AllByRecursion IsShort (fs_tree_items s)
  unfolding fs_tree_items
  tree_short =
      let root_named : IsNamed items root = (0, refl) in
      all_flat IsShort (object_items s) (by_inode all) (object_short root root_named, others_short all (λ key h. (opened.are_keys.exact key).0 h))

pub items_are_short : ItemsAreShort
items_are_short volume image o plan pieces now has = record {
  files = All-from_recursion IsShort (fs_tree_items (made_from volume image o pieces)) (tree_short volume image o pieces has.accepted has.opened);
  saved = All-from_recursion IsShort (image_items volume.sup.blocks pieces o.datasum now) (image_short volume.sup.blocks pieces o.datasum now);
  relocation = All-from_recursion IsShort (relocation_items now) (relocation_short now);
}
