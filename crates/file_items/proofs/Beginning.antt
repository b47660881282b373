-- How an object begins: its inode, its names and what it holds.
use Rattle.file_items.proofs.Imports.{◌≡◌, ◌≤◌, ◌<◌, ℕ, ◌+◌, ◌^◌, Bool, true, false, cond, List, [], ◌∷◌, ◌++◌, length, filter, map, count_by, sum_by, Option, Some, None, sym, ap, subst, ◌∙◌, if◌then◌else◌, arith, true≢false, unwrap_or, option_map_or, length-map, length-filter, sum_by-cons, sum_by-append, INODE_ITEM, Kind, Directory, is_directory, Image, make_key, Item, is_under, Spot, places_count, links_one, same_key, root, items_of, ObjectKey, Naming, ObjectStat, accepted_is_small, stat_at, kind_by, no_stat, links_in, volume_items, InodeNumbers, Volume, HoldsBy, pieces_of, piece_bytes, inode_from, IsKnown, IndexedLink, Indexed, entries_behind, entry_behind, indexed, indexed_in, letters, next_index, saved_entry, IsObjectAt, HasContent, Begins, file_ahead, Source, ino_of, stat_in, kind_in, size_in, inline_in, size_by, nbytes_by, inode_in, name_items, content_items, object_items, FileInHand, LinkIndex}
use Rattle.std.proofs.lemmas.List.{append_assoc}
use Rattle.unit_plan.specs.btr_keys.Inode.{inode_bytes}
use Rattle.unit_plan.specs.btr_keys.declared.inode.Inode.{Inode}
use Rattle.reiser_volume_objects.specs.Rules.{IsDirectory}
use Rattle.file_items.proofs.Held.{contains_at}

-- the names of some entries are names of links
some_letters : (kind : ObjectKey → Kind) (all : List ObjectKey) (p : IndexedLink → Bool) (before links : List Naming) → letters (map (indexed kind all) (filter p (entries_behind before links))) ≤ sum_by (λ n. length n.name) links
some_letters kind all p before [] = omega arith
some_letters kind all p before (n ∷ links) = by (p (entry_behind before n)) (some_letters kind all p (before ++ n ∷ []) links) (sum_by-cons (λ (m : Naming). length m.name) n links)
  where
    rest : List IndexedLink
    rest = filter p (entries_behind (before ++ n ∷ []) links)

    by : (b : Bool) → letters (map (indexed kind all) rest) ≤ sum_by (λ m. length m.name) links → sum_by (λ m. length m.name) (n ∷ links) ≡ length n.name + sum_by (λ m. length m.name) links
        → letters (map (indexed kind all) (cond b (entry_behind before n ∷ rest) rest)) ≤ sum_by (λ m. length m.name) (n ∷ links)
    by true less whole =
        let one : letters (indexed kind all (entry_behind before n) ∷ map (indexed kind all) rest) ≡ length n.name + letters (map (indexed kind all) rest) = sum_by-cons (λ (e : Indexed). length e.1.name) (indexed kind all (entry_behind before n)) (map (indexed kind all) rest) in
        omega (arith, less, whole, one)
    by false less whole = omega (arith, less, whole)

-- those of a directory, with the entry for the saved image
pub letters_few : (kind : ObjectKey → Kind) (all : List ObjectKey) (links : List Naming) (dir : ObjectKey) → letters (indexed_in kind all links dir) ≤ sum_by (λ n. length n.name) links + 14
letters_few kind all links dir = by (same_key dir root)
  where
    own : List Indexed
    own = map (indexed kind all) (filter (λ e. same_key e.link.dir dir) (entries_behind [] links))

    by : (b : Bool) → letters (own ++ (if b then (next_index links dir, saved_entry) ∷ [] else [])) ≤ sum_by (λ n. length n.name) links + 14
    by true =
        let less = some_letters kind all (λ e. same_key e.link.dir dir) [] links in
        let both : letters (own ++ (next_index links dir, saved_entry) ∷ []) ≡ letters own + 14 = sum_by-append (λ (e : Indexed). length e.1.name) own ((next_index links dir, saved_entry) ∷ []) in
        omega (arith, less, both)
    by false =
        let less = some_letters kind all (λ e. same_key e.link.dir dir) [] links in
        let both : letters (own ++ []) ≡ letters own + 0 = sum_by-append (λ (e : Indexed). length e.1.name) own [] in
        omega (arith, less, both)

module _ (volume : Volume) (index : LinkIndex) (numbers : InodeNumbers) (image : Image) (known : IsKnown volume index numbers image) (place : ℕ) (key : ObjectKey) (at : IsObjectAt volume place key) where
  -- the names of a directory of an accepted volume are short
  pub letters_small : (kind : ObjectKey → Kind) (all : List ObjectKey) (dir : ObjectKey) → letters (indexed_in kind all (links_in volume) dir) < 2 ^ 62
  letters_small kind all dir =
      let few = letters_few kind all (links_in volume) dir in
      let most = (accepted_is_small image known.accepted).names known.opened.visible (links_in volume) known.opened.are_links in
      omega (arith, few, most)

  -- the spots of an object are as many as its links
  pub links_count : length (filter (is_under place) index.by_target) ≡ count_by (λ n. same_key n.target key) (links_in volume)
  links_count =
      sym (length-map (filter (is_under place) index.by_target) (λ (s : Spot). s.number))
      ∙ (ap length (known.index_is.targets place key at)
      ∙ (places_count (λ (n : Naming). same_key n.target key) 0 (links_in volume)
      ∙ length-filter (λ (n : Naming). same_key n.target key) (links_in volume)))

  -- an object that is no directory has less than 2^32 of them
  pub links_small : is_directory (kind_by (stat_at (volume_items image) key)) ≡ false → count_by (λ n. same_key n.target key) (links_in volume) < 2 ^ 32
  links_small other =
      let names = known.accepted.names in
      let same = links_one (volume_items image) names.visible names.links known.opened.visible (links_in volume) names.are_links known.opened.are_links in
      subst (λ (l : List Naming). count_by (λ n. same_key n.target key) l < 2 ^ 32) same (names.keeps.counts key ((known.opened.are_keys.exact key).0 (contains_at volume place key at)) none)
    where
      none : IsDirectory (volume_items image) key → ⊥
      none d =
          let kind_is : kind_by (stat_at (volume_items image) key) ≡ Directory =
          ap (λ (o : Option ObjectStat). kind_by (unwrap_or o no_stat)) d.has_stat ∙ ap (λ (o : Option Kind). unwrap_or o kind_by_none) d.known in
          absurd (true≢false (sym (ap is_directory kind_is) ∙ other))
        where
          kind_by_none : Kind
          kind_by_none = kind_by no_stat

-- the bytes of the extents of an object, by what stays in the tree
pub bytes_held : (s : Source) (key : ObjectKey) (held : Option ℕ) (block : List ℕ) → HoldsBy (inline_in s key) (items_of key s.items) (size_in s key) held block
    → option_map_or (λ n. n) held (piece_bytes (pieces_of s.pieces (ino_of s key))) ≡ nbytes_by s key
bytes_held s key held block holds = by (inline_in s key) held holds
  where
    by : (b : Bool) (o : Option ℕ) → HoldsBy b (items_of key s.items) (size_in s key) o block
        → option_map_or (λ n. n) o (piece_bytes (pieces_of s.pieces (ino_of s key))) ≡ (if b then size_in s key else piece_bytes (pieces_of s.pieces (ino_of s key)))
    by true None never = absurd never
    by true (Some n) has = has.count
    by false o none = ap (λ (p : Option ℕ). option_map_or (λ n. n) p (piece_bytes (pieces_of s.pieces (ino_of s key)))) none

-- the inode of an object
pub inode_of_object : (s : Source) (key : ObjectKey) (flags : ℕ) (stat : ObjectStat) (kind : Kind) (size nbytes nlink : ℕ) → flags ≡ s.flags → stat_in s key ≡ stat → kind ≡ kind_in s key → size ≡ size_by s key kind → nbytes ≡ nbytes_by s key → nlink ≡ (if is_directory kind then 1 else count_by (λ n. same_key n.target key) s.links)
    → inode_from s.datasum flags stat kind size nbytes nlink ≡ inode_in s key
unfolding inode_in
inode_of_object s key flags stat kind size nbytes nlink flags_are stat_is kind_is size_is nbytes_is nlink_is =
    ap (λ (f : ℕ). inode_from s.datasum f stat kind size nbytes nlink) flags_are
    ∙ (ap (λ (t : ObjectStat). inode_from s.datasum s.flags t kind size nbytes nlink) (sym stat_is)
    ∙ (ap (λ (n : ℕ). inode_from s.datasum s.flags (stat_in s key) kind n nbytes nlink) size_is
    ∙ (ap (λ (n : ℕ). inode_from s.datasum s.flags (stat_in s key) kind (size_by s key kind) n nlink) nbytes_is
    ∙ (ap (λ (n : ℕ). inode_from s.datasum s.flags (stat_in s key) kind (size_by s key kind) (nbytes_by s key) n) nlink_is
    ∙ ap (λ (k : Kind). inode_from s.datasum s.flags (stat_in s key) k (size_by s key k) (nbytes_by s key) (if is_directory k then 1 else count_by (λ n. same_key n.target key) s.links)) kind_is))))

-- an object begins by its inode, its names and its content
pub begins : (s : Source) (key : ObjectKey) (file : FileInHand) (ino : ℕ) (inode : Inode) (items₀ items₁ items₂ items₃ : List Item) → ino ≡ ino_of s key → inode ≡ inode_in s key → items₁ ≡ items₀ ++ (make_key ino INODE_ITEM 0, inode_bytes inode) ∷ [] → items₂ ≡ items₁ ++ name_items s key
    → HasContent s key file items₂ items₃ → Begins s key file items₀ items₃
unfolding object_items
begins s key file ino inode items₀ items₁ items₂ items₃ ino_is inode_is one two content = record {
  item = (make_key ino INODE_ITEM 0, inode_bytes inode);
  items = name_items s key ++ content.items;
  added =
      content.added
      ∙ (ap (λ (l : List Item). l ++ content.items) (two ∙ ap (λ (l : List Item). l ++ name_items s key) one)
      ∙ (ap (λ (l : List Item). l ++ content.items) (append_assoc items₀ ((make_key ino INODE_ITEM 0, inode_bytes inode) ∷ []) (name_items s key))
      ∙ append_assoc items₀ ((make_key ino INODE_ITEM 0, inode_bytes inode) ∷ name_items s key) content.items));
  are =
      ap (λ (i : ℕ). (make_key i INODE_ITEM 0, inode_bytes (inode_in s key)) ∷ (name_items s key ++ content_items s key (kind_in s key))) (sym ino_is)
      ∙ (ap (λ (i : Inode). (make_key ino INODE_ITEM 0, inode_bytes i) ∷ (name_items s key ++ content_items s key (kind_in s key))) (sym inode_is)
      ∙ ap (λ (l : List Item). (make_key ino INODE_ITEM 0, inode_bytes inode) ∷ l) (ap (λ (l : List Item). name_items s key ++ l) content.are ∙ sym (append_assoc (name_items s key) content.items (file_ahead file s.pieces))));
}
