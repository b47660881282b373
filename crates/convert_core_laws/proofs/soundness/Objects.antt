-- What the items of one object of the file tree tell.
use Rattle.convert_core_laws.proofs.Imports.{◌≡◌, ◌≤◌, ℕ, ◌+◌, ◌^◌, Bool, true, false, not, List, [], ◌∷◌, ◌++◌, append_assoc, length, length-append, map, filter, count_by, refl, sym, ap, subst, ◌∙◌, ⊎_elim, arith, AllByRecursion, IsPermutation, append-nil, map-append, Contains-permutation, IsPermutation-append, IsPermutation-filter_both, IsPermutation-map, IsPermutation-refl, IsPermutation-sym, IsPermutation-trans, count_by-le-length, DIR_INDEX, DIR_ITEM, INODE_EXTREF, INODE_REF, FIRST_FREE_OBJECTID, extref_hash, name_hash, keys, Image, dir_entry_bytes, extref_bytes, extref_head, InodeRefValue, inode_ref_bytes, inode_ref_head, make_key, Item, BackName, NamedEntry, IndexEntry, own_name, IsMaking, Making, HasPieces, made_from, extents_at, file_block, pieces_of, IndexedLink as Link, Indexed, indexed_links, entries_behind, entry_behind, extref, extrefs, indexed, indexed_in, inode_ref, inode_refs, names_in, names_of, next_index, parent_of, root_ref, saved_entry, Source, content_items, file_extent_items, inline_in, inode_in, kind_in, name_items, ino_of, object_items, size_in, name_items_other, name_items_root, all_append, all_mapped, all_true, length_bytes, Kind, Directory, File, Symlink, Character, Block, Fifo, Socket, Subvolume, extent_item, inline_extent, regular_extent, ascending, grouped, inode_item, from_filter, head_or_tail, in_filter, file_byte, target_bytes, items_of, root, same_key, IsNamed, ObjectKey, Naming, same_key-self, volume_items, accepted_is_small, links_short, is_link, all_from, Piece}
use Rattle.std.proofs.Common.{flat_map, Contains, if◌then◌else◌}
use Rattle.convert_core_laws.proofs.Holding.{StaysInTree, stays}
use Rattle.convert_core_laws.proofs.Pieces.{all_of_inode}
use Rattle.convert_core_laws.proofs.ByteReading.{inline_read, regular_read}
use Rattle.convert_core_laws.proofs.soundness.Uses.{piece_small}
use Rattle.convert_core_laws.proofs.soundness.Numbers.{inode_low, inode_range}
use Rattle.convert_core_laws.proofs.soundness.Assembling.{Tells, entry_part, tells_of}
use Rattle.convert_core_laws.proofs.soundness.Fits.{entry_fits, is_entry, saved_fits, saved_is_entry}
use Rattle.convert_core_laws.proofs.soundness.NameLists.{grouped_all, mapped_flat}
use Rattle.convert_core_laws.proofs.soundness.Telling.{FitsEntry, FitsFar, FitsRef, Told, entry_by, index_by, mapped_twice, told_append, told_entries, told_extent, told_fars, told_inode, told_none, told_ref, told_refs}

-- ---- indexes are low

index_low : (before ls : List Naming) (e : Link) → Contains (entries_behind before ls) e → e.index ≤ 2 + length (before ++ ls)
index_low before [] e h = absurd (omega (arith, h.1))
index_low before (n ∷ ls) e h =
    ⊎_elim
    (λ (is : entry_behind before n ≡ e).
    let own : 2 + count_by (λ (m : Naming). same_key m.dir n.dir) before ≡ e.index = ap (λ (f : Link). f.index) is in
    let low = count_by-le-length (λ (m : Naming). same_key m.dir n.dir) before in
    let long = length-append before (n ∷ ls) in
    omega (arith, own, low, long))
    (λ (later : Contains (entries_behind (before ++ n ∷ []) ls) e).
    subst (λ (l : List Naming). e.index ≤ 2 + length l) (append_assoc before (n ∷ []) ls) (index_low (before ++ n ∷ []) ls e later))
    (head_or_tail (entry_behind before n) (entries_behind (before ++ n ∷ []) ls) e h)

-- and at least 2
pub index_some : (before ls : List Naming) (e : Link) → Contains (entries_behind before ls) e → 2 ≤ e.index
index_some before [] e h = absurd (omega (arith, h.1))
index_some before (n ∷ ls) e h =
    ⊎_elim
    (λ (is : entry_behind before n ≡ e).
    let own : 2 + count_by (λ (m : Naming). same_key m.dir n.dir) before ≡ e.index = ap (λ (f : Link). f.index) is in
    omega (arith, own))
    (λ (later : Contains (entries_behind (before ++ n ∷ []) ls) e). index_some (before ++ n ∷ []) ls e later) (head_or_tail (entry_behind before n) (entries_behind (before ++ n ∷ []) ls) e h)

pub link_among : (links : List Naming) (e : Link) → Contains (indexed_links links) e → Contains links e.link
link_among links e h = (is_link links e.link.dir e (in_filter (λ (f : Link). same_key f.link.dir e.link.dir) (indexed_links links) e h (same_key-self e.link.dir))).among

-- ---- groups of what each element gives

groups_give : {A B : Type 0} (number : A → ℕ) (f : A → B) (xs : List A) → IsPermutation (map f xs) (flat_map (λ g. map f g.1) (grouped number xs))
groups_give {A} {B} number f xs =
    subst (IsPermutation (map f xs)) (mapped_flat (λ (g : ℕ × List A). g.1) f (grouped number xs))
    (IsPermutation-sym (map f (flat_map (λ g. g.1) (grouped number xs))) (map f xs) (IsPermutation-map f (flat_map (λ g. g.1) (grouped number xs)) xs (grouped_all number xs)))

twice : (b : Bool) → b ≡ not (not b)
twice true = refl
twice false = refl

-- the root directory's name of itself
abbrev pub own_ref : InodeRefValue
own_ref = record { index = 0; name = 46 ∷ 46 ∷ [] }

pub own_fits : inode_ref_head.fits own_ref
unfolding inode_ref_head
own_fits = ((tt, omega arith), omega arith)

module _ (image : Image) (m : Making) (made : IsMaking image m) where
  abbrev of : HasPieces m.volume image m.options m.plan m.pieces
  of = made.has_pieces

  abbrev pub s : Source
  s = made_from m.volume image m.options m.pieces

  abbrev pub all : List ObjectKey
  all = keys m.volume.named

  few : length all ≤ 2 ^ 37
  few = (accepted_is_small image of.accepted).objects all of.opened.are_keys

  links_few : length s.links ≤ 2 ^ 37
  links_few = (accepted_is_small image of.accepted).links of.opened.visible s.links of.opened.are_links

  short : (e : Link) → Contains (indexed_links s.links) e → length e.link.name ≤ 255
  short e h = links_short m.volume image of.accepted of.opened e.link (link_among s.links e h)

  ref_fits : (e : Link) → Contains (indexed_links s.links) e → inode_ref_head.fits (inode_ref e)
  unfolding inode_ref_head
  ref_fits e h =
      let index : e.index ≤ 2 + length s.links = index_low [] s.links e h in
      let count = links_few in
      let name = short e h in
      ((tt, omega (arith, index, count)), omega (arith, name))

  far_fits : (e : Link) → Contains (indexed_links s.links) e → extref_head.fits (extref s.keys e)
  unfolding extref_head
  far_fits e h =
      let index : e.index ≤ 2 + length s.links = index_low [] s.links e h in
      let count = links_few in
      let name = short e h in
      let dir = inode_low all e.link.dir few in
      (((tt, omega (arith, dir)), omega (arith, index, count)), omega (arith, name))

  -- the entries that stand in an object of a kind
  abbrev pub listed : ObjectKey → Kind → List Indexed
  listed key Directory = indexed_in (kind_in s) s.keys s.links key
  listed key File = []
  listed key Symlink = []
  listed key Character = []
  listed key Block = []
  listed key Fifo = []
  listed key Socket = []
  listed key Subvolume = []

  -- a name as the object tells it
  abbrev pub back : ObjectKey → Link → BackName
  back key e = record { inode = ino_of s key; dir = parent_of s.keys e; index = e.index; name = e.link.name }

  abbrev pub indexes : ObjectKey → List IndexEntry
  indexes key = map (index_by (ino_of s key)) (listed key (kind_in s key))

  abbrev pub names : ObjectKey → List BackName
  names key = if same_key key root then own_name ∷ [] else map (back key) (names_of s.links key)

  module _ (key : ObjectKey) (among : Contains (keys m.volume.named) key) where
    abbrev n : ℕ
    n = ino_of s key

    -- ---- entries

    entries_fit : AllByRecursion (FitsEntry n) (indexed_in (kind_in s) s.keys s.links key)
    entries_fit =
        all_append (FitsEntry n) (map (indexed (kind_in s) s.keys) (names_in s.links key)) (if same_key key root then (next_index s.links key, saved_entry) ∷ [] else [])
        (all_mapped (FitsEntry n) (indexed (kind_in s) s.keys) (names_in s.links key)
        (all_from (λ (e : Link). FitsEntry n (indexed (kind_in s) s.keys e)) (names_in s.links key) (λ e h. record {
          fits = entry_fits (ino_of s e.link.target) (kind_in s e.link.target) e.link.name (inode_low all e.link.target few) (short e (from_filter (λ (f : Link). same_key f.link.dir key) (indexed_links s.links) e h).0);
          entry = (let range = inode_range all e.link.target few in let low = range.0 in let high = range.1 in is_entry (ino_of s e.link.target) (kind_in s e.link.target) e.link.name low (omega (arith, high)));
        })))
        (saved (same_key key root))
      where
        saved : (b : Bool) → AllByRecursion (FitsEntry (ino_of s key)) (if b then (next_index s.links key, saved_entry) ∷ [] else [])
        saved true = (record { fits = saved_fits; entry = saved_is_entry }, tt)
        saved false = tt

    -- ---- contents

    told_pieces : (at : Piece → ℕ) (ps : List Piece) → AllByRecursion (Contains m.pieces) ps → Told (extents_at n at ps) [] [] [] []
    told_pieces at [] inside = told_none
    told_pieces at (p ∷ ps) inside =
        let end = (piece_small image m made p inside.0).end in
        told_append (extent_item n (at p) (regular_extent p.place p.count) ∷ []) (extents_at n at ps) [] [] [] [] [] [] [] []
        (told_extent n (at p) (regular_extent p.place p.count) (regular_read p.place p.count (omega (arith, end)) (omega (arith, end)))) (told_pieces at ps inside.1)

    told_data : Told (file_extent_items s key) [] [] [] []
    unfolding file_extent_items
    told_data = by (inline_in s key) refl
      where
        by : (b : Bool) → inline_in s key ≡ b
            → Told (if b then extent_item (ino_of s key) 0 (inline_extent (target_bytes (items_of key s.items) (size_in s key))) ∷ [] else extents_at (ino_of s key) file_block (pieces_of s.pieces (ino_of s key))) [] [] [] []
        by true is =
            let is_named : IsNamed (volume_items image) key = (of.opened.are_keys.exact key).0 among in
            let bytes : List ℕ = target_bytes (items_of key s.items) (size_in s key) in
            let st : StaysInTree image of.accepted key is_named = stays image of.accepted key is_named m.options.inline is in
            let low = st.short in
            let long : length bytes ≡ size_in s key = ap length st.bytes ∙ length_bytes (size_in s key) (file_byte image (items_of key s.items)) 0 in
            told_extent (ino_of s key) 0 (inline_extent bytes) (inline_read bytes (omega (arith, long, low)))
        by false is = told_pieces file_block (pieces_of m.pieces (ino_of s key)) (all_of_inode (Contains m.pieces) m.pieces (ino_of s key) (λ q k t. k))

    abbrev hashes : Kind → List NamedEntry
    hashes kind = flat_map (λ g. map (entry_by n) g.1) (grouped (λ (e : Indexed). name_hash e.1.name) (listed key kind))

    told_content : (kind : Kind) → Told (content_items s key kind) (hashes kind) (map (index_by n) (listed key kind)) [] []
    told_content Directory = told_entries n (indexed_in (kind_in s) s.keys s.links key) entries_fit
    told_content File = told_data
    told_content Symlink = told_data
    told_content Character = told_none
    told_content Block = told_none
    told_content Fifo = told_none
    told_content Socket = told_none
    told_content Subvolume = told_none

    same_entries : (kind : Kind) → IsPermutation (map entry_part (map (index_by n) (listed key kind))) (hashes kind)
    same_entries kind =
        subst (λ (l : List NamedEntry). IsPermutation l (hashes kind)) (sym (mapped_twice (index_by n) entry_part (listed key kind)))
        (groups_give (λ (e : Indexed). name_hash e.1.name) (entry_by n) (listed key kind))

    -- ---- names

    abbrev named : Bool → List BackName
    named b = if b then own_name ∷ [] else map (back key) (names_of s.links key)

    record NamesAre (b : Bool) : Type 0 where
      refs : List BackName
      fars : List BackName
      told : Told (name_items s key) [] [] refs fars
      same : IsPermutation (named b) (refs ++ fars)

    names_at : (b : Bool) → same_key key root ≡ b → NamesAre b
    names_at true is = record {
      refs = own_name ∷ [];
      fars = [];
      told = subst (λ (l : List Item). Told l [] [] (own_name ∷ []) []) (sym (name_items_root s key is)) (told_ref FIRST_FREE_OBJECTID FIRST_FREE_OBJECTID own_ref own_fits);
      same = IsPermutation-refl (own_name ∷ []);
    }
    names_at false is =
        let own : List Link = names_of s.links key in
        let plain : List Link = filter (λ e. not e.extended) own in
        let late : List Link = filter (λ e. e.extended) own in
        let far : List Link = ascending (parent_of s.keys) late in
        let refs : List BackName = flat_map (λ g. map (back key) g.1) (grouped (parent_of s.keys) plain) in
        let fars : List BackName = flat_map (λ g. map (back key) g.1) (grouped (λ e. extref_hash (parent_of s.keys e) e.link.name) far) in
        let of_plain : (e : Link) → Contains plain e → Contains (indexed_links s.links) e = λ e h. (from_filter (λ (f : Link). same_key f.link.target key) (indexed_links s.links) e (from_filter (λ (f : Link). not f.extended) own e h).0).0 in
        let of_late : (e : Link) → Contains late e → Contains (indexed_links s.links) e = λ e h. (from_filter (λ (f : Link). same_key f.link.target key) (indexed_links s.links) e (from_filter (λ (f : Link). f.extended) own e h).0).0 in
        let order : IsPermutation far late = grouped_all (parent_of s.keys) late in
        let one : Told (inode_refs s.keys s.links key) [] [] refs [] = told_refs n (parent_of s.keys) inode_ref plain (all_from (FitsRef n (parent_of s.keys) inode_ref) plain (λ e h. ref_fits e (of_plain e h))) in
        let two : Told (extrefs s.keys s.links key) [] [] [] fars = told_fars n (extref s.keys) far (all_from (FitsFar n (extref s.keys)) far (λ e h. far_fits e (of_late e (Contains-permutation far late e order h)))) in
        let both : Told (inode_refs s.keys s.links key ++ extrefs s.keys s.links key) [] [] refs fars =
        subst (λ (l : List BackName). Told (inode_refs s.keys s.links key ++ extrefs s.keys s.links key) [] [] l fars) (append-nil refs)
        (told_append (inode_refs s.keys s.links key) (extrefs s.keys s.links key) [] [] [] [] refs [] [] fars one two) in
        let parts : IsPermutation own (plain ++ late) = IsPermutation-filter_both (λ (e : Link). not e.extended) (λ (e : Link). e.extended) (λ e. twice e.extended) own in
        let mapped : IsPermutation (map (back key) own) (map (back key) plain ++ map (back key) late) = subst (IsPermutation (map (back key) own)) (map-append (back key) plain late) (IsPermutation-map (back key) own (plain ++ late) parts) in
        let lates : IsPermutation (map (back key) late) fars =
        IsPermutation-trans (map (back key) late) (map (back key) far) fars (IsPermutation-map (back key) late far (IsPermutation-sym far late order)) (groups_give (λ (e : Link). extref_hash (parent_of s.keys e) e.link.name) (back key) far) in
        record {
          refs = refs;
          fars = fars;
          told = subst (λ (l : List Item). Told l [] [] refs fars) (sym (name_items_other s key s.keys s.links is refl refl)) both;
          same = IsPermutation-trans (map (back key) own) (map (back key) plain ++ map (back key) late) (refs ++ fars) mapped (IsPermutation-append (map (back key) plain) refs (map (back key) late) fars (groups_give (parent_of s.keys) (back key) plain) lates);
        }

    -- ---- kinds

    -- an item is behind that of an inode
    abbrev pub IsBehind : Item → Type 0
    IsBehind i = 12 ≤ i.0.kind

    data_behind : AllByRecursion IsBehind (file_extent_items s key)
    unfolding file_extent_items
    data_behind = by (inline_in s key)
      where
        by : (b : Bool) → AllByRecursion IsBehind (if b then extent_item (ino_of s key) 0 (inline_extent (target_bytes (items_of key s.items) (size_in s key))) ∷ [] else extents_at (ino_of s key) file_block (pieces_of s.pieces (ino_of s key)))
        by true = (omega arith, tt)
        by false = all_mapped IsBehind (λ (p : Piece). extent_item (ino_of s key) (file_block p) (regular_extent p.place p.count)) (pieces_of s.pieces (ino_of s key)) (all_true _ (pieces_of s.pieces (ino_of s key)) (λ p. omega arith))

    content_behind : (kind : Kind) → AllByRecursion IsBehind (content_items s key kind)
    content_behind Directory =
        let list : List Indexed = indexed_in (kind_in s) s.keys s.links key in
        let groups : List (ℕ × List Indexed) = grouped (λ (e : Indexed). name_hash e.1.name) list in
        all_append IsBehind (map (λ (g : ℕ × List Indexed). (make_key n DIR_ITEM g.0, flat_map (λ (e : Indexed). dir_entry_bytes e.1) g.1)) groups) (map (λ (e : Indexed). (make_key n DIR_INDEX e.0, dir_entry_bytes e.1)) list)
        (all_mapped IsBehind (λ (g : ℕ × List Indexed). (make_key n DIR_ITEM g.0, flat_map (λ (e : Indexed). dir_entry_bytes e.1) g.1)) groups (all_true _ groups (λ g. omega arith)))
        (all_mapped IsBehind (λ (e : Indexed). (make_key n DIR_INDEX e.0, dir_entry_bytes e.1)) list (all_true _ list (λ e. omega arith)))
    content_behind File = data_behind
    content_behind Symlink = data_behind
    content_behind Character = tt
    content_behind Block = tt
    content_behind Fifo = tt
    content_behind Socket = tt
    content_behind Subvolume = tt

    names_behind : AllByRecursion IsBehind (name_items s key)
    unfolding name_items
    names_behind = by (same_key key root)
      where
        by : (b : Bool) → AllByRecursion IsBehind (if b then root_ref ∷ [] else inode_refs s.keys s.links key ++ extrefs s.keys s.links key)
        by true = (omega arith, tt)
        by false =
            let plain : List Link = filter (λ e. not e.extended) (names_of s.links key) in
            let far : List Link = ascending (parent_of s.keys) (filter (λ e. e.extended) (names_of s.links key)) in
            let hash : Link → ℕ = λ e. extref_hash (parent_of s.keys e) e.link.name in
            all_append IsBehind (inode_refs s.keys s.links key) (extrefs s.keys s.links key)
            (all_mapped IsBehind (λ (g : ℕ × List Link). (make_key (ino_of s key) INODE_REF g.0, flat_map (λ e. inode_ref_bytes (inode_ref e)) g.1)) (grouped (parent_of s.keys) plain) (all_true _ (grouped (parent_of s.keys) plain) (λ g. omega arith)))
            (all_mapped IsBehind (λ (g : ℕ × List Link). (make_key (ino_of s key) INODE_EXTREF g.0, flat_map (λ e. extref_bytes (extref s.keys e)) g.1)) (grouped hash far) (all_true _ (grouped hash far) (λ g. omega arith)))

    pub rest_behind : AllByRecursion IsBehind (name_items s key ++ content_items s key (kind_in s key))
    rest_behind = all_append IsBehind (name_items s key) (content_items s key (kind_in s key)) names_behind (content_behind (kind_in s key))

    -- ---- the whole object

    pub tells_object : Tells (object_items s key) (indexes key) (names key)
    unfolding object_items
    tells_object =
        let kind : Kind = kind_in s key in
        let at : NamesAre (same_key key root) = names_at (same_key key root) refl in
        let rest : Told (name_items s key ++ content_items s key kind) (hashes kind) (indexes key) (at.refs ++ []) (at.fars ++ []) =
        told_append (name_items s key) (content_items s key kind) [] (hashes kind) [] (indexes key) at.refs [] at.fars [] at.told (told_content kind) in
        let plain : Told (name_items s key ++ content_items s key kind) (hashes kind) (indexes key) at.refs at.fars =
        subst (λ (l : List BackName). Told (name_items s key ++ content_items s key kind) (hashes kind) (indexes key) at.refs l) (append-nil at.fars)
        (subst (λ (l : List BackName). Told (name_items s key ++ content_items s key kind) (hashes kind) (indexes key) l (at.fars ++ [])) (append-nil at.refs) rest) in
        let whole : Told (inode_item n (inode_in s key) ∷ (name_items s key ++ content_items s key kind)) (hashes kind) (indexes key) at.refs at.fars =
        told_append (inode_item n (inode_in s key) ∷ []) (name_items s key ++ content_items s key kind) [] (hashes kind) [] (indexes key) [] at.refs [] at.fars (told_inode n (inode_in s key)) plain in
        tells_of (inode_item n (inode_in s key) ∷ (name_items s key ++ content_items s key kind)) (hashes kind) (indexes key) at.refs at.fars (names key) whole (same_entries kind) at.same
