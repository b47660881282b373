-- The saved image of a converted volume is read.
use Rattle.convert_core_laws.proofs.Imports.{◌≡◌, ◌≤◌, ◌<◌, ℕ, ◌+◌, ◌-◌, ◌*◌, ◌/◌, ◌%◌, ◌^◌, ◌&&◌, eqb, nat_lt, Bool, true, false, not, cond, List, [], ◌∷◌, ◌++◌, map, Option, Some, None, refl, sym, ap, subst, ◌∙◌, ⊎_elim, arith, Contains, codes, if◌then◌else◌, pos, w64, list_any, option_and_then, both_ways, eq-eqb, lt-ltb, fits_signed_from_abs, append-nil, DIR_INDEX, DIR_ITEM, EXTENT_DATA, INODE_ITEM, INODE_REF, FIRST_FREE_OBJECTID, DIRECTORY_MODE, IMAGE_MODE, name_hash, Image, block_at, BtrRefusal, Ids, File, extents_of, extents_refusals, DirEntryValue, dir_entry_bytes, dir_entry_head, dir_items_of, FileExtentValue, file_extent_bytes, file_extent_of, inode_bytes, inode_layout, inode_of, key_layout, make_key, stamp_layout, Inode, Key, dir_items_read_back, inodes_read_back, find_inode_item, index_entry, naming_at, dir_indexes, only_one, own_naming, DirIndex, Item, keys_of, IsNodeSize, ascends, ImageFile, entry_named, file_if_image, file_refusals, if_there, image_at, image_entry, image_in, image_place, image_refusals_in, index_refusals, index_refusals_at, inode_number, is_called, is_inline, own_index_refusals, own_refusals, root_refusals, twice_refusals, TreeItem, bare_item, MapRange, IsMaking, Making, image_tree_items, TreeRoots, can_move, blocks_few, used_inside, extents_at, piece_bytes, pieces_of_volume, source_block, entry_to, letters, root_ref, image_entries, image_flags, image_head, image_items, image_name, ImageKeysAscend, regular_extent, inode_item as new_item, inode_made, ref_item, stamp_of, has, contains_head, contains_tail, used_of, TreeNode, blocks_are, Options, Piece, IsNewVolume, map_for, HasSavedImage, IsImageOf, SavedImageReads}
use Rattle.std.specs.Prelude.{◌||◌}
use Rattle.btr_reader.specs.Image.{file_block}
use Rattle.convert_core_laws.proofs.reading.Chunks.{item_parts}
use Rattle.convert_core_laws.proofs.reading.SavedExtents.{AreSources, FoundIn, IsSource, extents_sound, place_of, reads_extent, source_in, sources_bytes}
use Rattle.convert_core_laws.proofs.reading.SavedPieces.{are_sources, held, member, six_behind}
use Rattle.convert_core_laws.proofs.reading.Superblock.{size}

-- ---- the items of the image's tree

-- the image's inode
abbrev file_inode : ℕ → ℕ → Bool → ℕ → Inode
file_inode blocks nbytes datasum now = inode_made now IMAGE_MODE (4096 * blocks) nbytes (image_flags datasum)

-- the entry that names it
abbrev entry : DirEntryValue
entry = entry_to 257 File image_name

-- the whole, one item after the other
abbrev in_order : ℕ → List Piece → Bool → ℕ → List Item
in_order blocks pieces datasum now =
    new_item FIRST_FREE_OBJECTID (inode_made now DIRECTORY_MODE (2 * letters image_entries) 0 0)
    ∷ (root_ref
    ∷ ((make_key FIRST_FREE_OBJECTID DIR_ITEM (name_hash image_name), dir_entry_bytes entry ++ [])
    ∷ ((make_key FIRST_FREE_OBJECTID DIR_INDEX 2, dir_entry_bytes entry)
    ∷ (new_item 257 (file_inode blocks (piece_bytes (pieces_of_volume pieces)) datasum now)
    ∷ (ref_item 257 FIRST_FREE_OBJECTID 2 image_name
    ∷ extents_at 257 source_block (pieces_of_volume pieces))))))

order_is : (blocks : ℕ) (pieces : List Piece) (datasum : Bool) (now : ℕ) → image_items blocks pieces datasum now ≡ in_order blocks pieces datasum now
unfolding image_items image_head
order_is blocks pieces datasum now = refl

-- ---- what other items are

no_naming : (i : TreeItem) (key : Key) → i.key ≡ key → eqb key.kind DIR_INDEX ≡ false → own_naming i ≡ []
no_naming i key is off = ap (λ (k : Key). if eqb k.kind DIR_INDEX then naming_at i (index_entry i.body) else []) is ∙ ap (λ (b : Bool). if b then naming_at i (index_entry i.body) else []) off

no_index : (i : TreeItem) (key : Key) → i.key ≡ key → eqb key.kind DIR_INDEX ≡ false → own_index_refusals i ≡ []
no_index i key is off =
    ap (λ (k : Key). if eqb k.kind DIR_INDEX && eqb k.objectid 256 then index_refusals_at i (index_entry i.body) else []) is
    ∙ ap (λ (b : Bool). if b && eqb key.objectid 256 then index_refusals_at i (index_entry i.body) else []) off

-- extents name nothing, and are all of the file
extents_names : (ps : List Piece) (items : List TreeItem) → map bare_item items ≡ extents_at 257 source_block ps → (dir_indexes items ≡ []) × (index_refusals items ≡ [])
extents_names [] [] are = (refl, refl)
extents_names [] (i ∷ items) are = absurd (cc are)
extents_names (p ∷ ps) [] are = absurd (cc are)
extents_names (p ∷ ps) (i ∷ items) are =
    let parts = item_parts i items (make_key 257 EXTENT_DATA (4096 * source_block p), file_extent_bytes (regular_extent p.place p.count)) (extents_at 257 source_block ps) are in
    let rest = extents_names ps items parts.2 in (
      ap (λ (l : List DirIndex). l ++ dir_indexes items) (no_naming i (make_key 257 EXTENT_DATA (4096 * source_block p)) parts.0 refl) ∙ rest.0,
      ap (λ (l : List BtrRefusal). l ++ index_refusals items) (no_index i (make_key 257 EXTENT_DATA (4096 * source_block p)) parts.0 refl) ∙ rest.1,
    )

extents_own : (ps : List Piece) (items : List TreeItem) → map bare_item items ≡ extents_at 257 source_block ps → extents_of items 257 ≡ items
extents_own [] [] are = refl
extents_own [] (i ∷ items) are = absurd (cc are)
extents_own (p ∷ ps) [] are = absurd (cc are)
extents_own (p ∷ ps) (i ∷ items) are =
    let parts = item_parts i items (make_key 257 EXTENT_DATA (4096 * source_block p), file_extent_bytes (regular_extent p.place p.count)) (extents_at 257 source_block ps) are in
    ap (λ (k : Key). cond (eqb k.objectid 257 && eqb k.kind EXTENT_DATA) (i ∷ extents_of items 257) (extents_of items 257)) parts.0 ∙ ap (λ (l : List TreeItem). i ∷ l) (extents_own ps items parts.2)

not_extent : (i : TreeItem) (items : List TreeItem) (key : Key) → i.key ≡ key → (eqb key.objectid 257 && eqb key.kind EXTENT_DATA) ≡ false → extents_of (i ∷ items) 257 ≡ extents_of items 257
not_extent i items key is off =
    ap (λ (k : Key). cond (eqb k.objectid 257 && eqb k.kind EXTENT_DATA) (i ∷ extents_of items 257) (extents_of items 257)) is
    ∙ ap (λ (b : Bool). cond b (i ∷ extents_of items 257) (extents_of items 257)) off

not_inode : (i : TreeItem) (items : List TreeItem) (key : Key) → i.key ≡ key → (eqb key.objectid 257 && (eqb key.kind INODE_ITEM && eqb key.offset 0)) ≡ false → find_inode_item (i ∷ items) 257 ≡ find_inode_item items 257
not_inode i items key is off =
    ap (λ (k : Key). if eqb k.objectid 257 && (eqb k.kind INODE_ITEM && eqb k.offset 0) then Some i else find_inode_item items 257) is
    ∙ ap (λ (b : Bool). if b then Some i else find_inode_item items 257) off

-- ---- the inode and the entry that are read back

entry_fits : dir_entry_head.fits entry
unfolding dir_entry_head key_layout
entry_fits = (((((tt, (((tt, omega arith), omega arith), omega arith)), omega arith), omega arith), omega arith), omega arith)

entry_read : index_entry (dir_entry_bytes entry) ≡ Some entry
entry_read = ap only_one (ap dir_items_of (sym (append-nil (dir_entry_bytes entry))) ∙ dir_items_read_back entry [] (entry_fits, tt))

stamp_fits : (now : ℕ) → now < 2 ^ 63 → stamp_layout.fits (stamp_of now)
unfolding stamp_layout
stamp_fits now low = ((tt, fits_signed_from_abs w64 (pos now) (omega (arith, low))), omega arith)

inode_fits : (blocks nbytes : ℕ) (datasum : Bool) (now : ℕ) → blocks ≤ 2 ^ 29 → nbytes ≤ 2 ^ 41 → now < 2 ^ 63 → inode_layout.fits (file_inode blocks nbytes datasum now)
unfolding inode_layout
inode_fits blocks nbytes datasum now few small low =
    ((((((((((((((((tt, omega arith), omega arith), omega (arith, few)), omega (arith, small)), omega arith), omega arith), omega arith), omega arith), omega arith), omega arith), flags datasum), omega arith), stamp_fits now low), stamp_fits now low), stamp_fits now low), stamp_fits 0 (omega arith))
  where
    flags : (b : Bool) → (if b then 4 else 5) < 256 ^ 8
    flags true = omega arith
    flags false = omega arith

inode_read : (blocks nbytes : ℕ) (datasum : Bool) (now : ℕ) → blocks ≤ 2 ^ 29 → nbytes ≤ 2 ^ 41 → now < 2 ^ 63 → inode_of (inode_bytes (file_inode blocks nbytes datasum now)) ≡ Some (file_inode blocks nbytes datasum now)
inode_read blocks nbytes datasum now few small low = inodes_read_back (file_inode blocks nbytes datasum now) (inode_fits blocks nbytes datasum now few small low)

-- ---- a tree with these items

-- what is known of the items one after the other
record IsTold (blocks : ℕ) (pieces : List Piece) (datasum : Bool) (now : ℕ) (items : List TreeItem) : Type 0 where
  index : TreeItem
  inode : TreeItem
  extents : List TreeItem
  are : map bare_item extents ≡ extents_at 257 source_block (pieces_of_volume pieces)
  index_key : index.key ≡ make_key FIRST_FREE_OBJECTID DIR_INDEX 2
  index_body : index.body ≡ dir_entry_bytes entry
  inode_body : inode.body ≡ inode_bytes (file_inode blocks (piece_bytes (pieces_of_volume pieces)) datasum now)
  namings_are : dir_indexes items ≡ own_naming index
  refusals_are : index_refusals items ≡ own_index_refusals index
  inode_is : find_inode_item items 257 ≡ Some inode
  extents_are : extents_of items 257 ≡ extents

one_left : {A : Type 0} (a b c d e f g : List A) → a ≡ [] → b ≡ [] → c ≡ [] → e ≡ [] → f ≡ [] → g ≡ [] → a ++ (b ++ (c ++ (d ++ (e ++ (f ++ g))))) ≡ d
one_left a b c d e f g is_a is_b is_c is_e is_f is_g = rw (is_a, is_b, is_c, is_e, is_f, is_g) (append-nil d)

-- the same of the items by themselves
module _ (blocks : ℕ) (pieces : List Piece) (datasum : Bool) (now : ℕ) (a b c d f g : TreeItem) (extents : List TreeItem) where
  told_by : a.key ≡ make_key FIRST_FREE_OBJECTID INODE_ITEM 0 → b.key ≡ make_key FIRST_FREE_OBJECTID INODE_REF FIRST_FREE_OBJECTID → c.key ≡ make_key FIRST_FREE_OBJECTID DIR_ITEM (name_hash image_name) → d.key ≡ make_key FIRST_FREE_OBJECTID DIR_INDEX 2 → d.body ≡ dir_entry_bytes entry → f.key ≡ make_key 257 INODE_ITEM 0
      → f.body ≡ inode_bytes (file_inode blocks (piece_bytes (pieces_of_volume pieces)) datasum now) → g.key ≡ make_key 257 INODE_REF FIRST_FREE_OBJECTID → map bare_item extents ≡ extents_at 257 source_block (pieces_of_volume pieces)
      → IsTold blocks pieces datasum now (a ∷ (b ∷ (c ∷ (d ∷ (f ∷ (g ∷ extents))))))
  told_by ka kb kc kd bd kf bf kg are =
      let names = extents_names (pieces_of_volume pieces) extents are in
      record {
        index = d;
        inode = f;
        extents = extents;
        are = are;
        index_key = kd;
        index_body = bd;
        inode_body = bf;
        namings_are =
            one_left (own_naming a) (own_naming b) (own_naming c) (own_naming d) (own_naming f) (own_naming g) (dir_indexes extents)
            (no_naming a (make_key FIRST_FREE_OBJECTID INODE_ITEM 0) ka refl) (no_naming b (make_key FIRST_FREE_OBJECTID INODE_REF FIRST_FREE_OBJECTID) kb refl) (no_naming c (make_key FIRST_FREE_OBJECTID DIR_ITEM (name_hash image_name)) kc refl)
            (no_naming f (make_key 257 INODE_ITEM 0) kf refl) (no_naming g (make_key 257 INODE_REF FIRST_FREE_OBJECTID) kg refl) names.0;
        refusals_are =
            one_left (own_index_refusals a) (own_index_refusals b) (own_index_refusals c) (own_index_refusals d) (own_index_refusals f) (own_index_refusals g) (index_refusals extents)
            (no_index a (make_key FIRST_FREE_OBJECTID INODE_ITEM 0) ka refl) (no_index b (make_key FIRST_FREE_OBJECTID INODE_REF FIRST_FREE_OBJECTID) kb refl) (no_index c (make_key FIRST_FREE_OBJECTID DIR_ITEM (name_hash image_name)) kc refl)
            (no_index f (make_key 257 INODE_ITEM 0) kf refl) (no_index g (make_key 257 INODE_REF FIRST_FREE_OBJECTID) kg refl) names.1;
        inode_is =
            not_inode a (b ∷ (c ∷ (d ∷ (f ∷ (g ∷ extents))))) (make_key FIRST_FREE_OBJECTID INODE_ITEM 0) ka refl
            ∙ (not_inode b (c ∷ (d ∷ (f ∷ (g ∷ extents)))) (make_key FIRST_FREE_OBJECTID INODE_REF FIRST_FREE_OBJECTID) kb refl
            ∙ (not_inode c (d ∷ (f ∷ (g ∷ extents))) (make_key FIRST_FREE_OBJECTID DIR_ITEM (name_hash image_name)) kc refl
            ∙ (not_inode d (f ∷ (g ∷ extents)) (make_key FIRST_FREE_OBJECTID DIR_INDEX 2) kd refl
            ∙ ap (λ (k : Key). if eqb k.objectid 257 && (eqb k.kind INODE_ITEM && eqb k.offset 0) then Some f else find_inode_item (g ∷ extents) 257) kf)));
        extents_are =
            not_extent a (b ∷ (c ∷ (d ∷ (f ∷ (g ∷ extents))))) (make_key FIRST_FREE_OBJECTID INODE_ITEM 0) ka refl
            ∙ (not_extent b (c ∷ (d ∷ (f ∷ (g ∷ extents)))) (make_key FIRST_FREE_OBJECTID INODE_REF FIRST_FREE_OBJECTID) kb refl
            ∙ (not_extent c (d ∷ (f ∷ (g ∷ extents))) (make_key FIRST_FREE_OBJECTID DIR_ITEM (name_hash image_name)) kc refl
            ∙ (not_extent d (f ∷ (g ∷ extents)) (make_key FIRST_FREE_OBJECTID DIR_INDEX 2) kd refl
            ∙ (not_extent f (g ∷ extents) (make_key 257 INODE_ITEM 0) kf refl
            ∙ (not_extent g extents (make_key 257 INODE_REF FIRST_FREE_OBJECTID) kg refl ∙ extents_own (pieces_of_volume pieces) extents are)))));
      }

told : (blocks : ℕ) (pieces : List Piece) (datasum : Bool) (now : ℕ) (items : List TreeItem) → map bare_item items ≡ in_order blocks pieces datasum now → IsTold blocks pieces datasum now items
told blocks pieces datasum now [] e = absurd (cc e)
told blocks pieces datasum now (a ∷ []) e = absurd (cc e)
told blocks pieces datasum now (a ∷ (b ∷ [])) e = absurd (cc e)
told blocks pieces datasum now (a ∷ (b ∷ (c ∷ []))) e = absurd (cc e)
told blocks pieces datasum now (a ∷ (b ∷ (c ∷ (d ∷ [])))) e = absurd (cc e)
told blocks pieces datasum now (a ∷ (b ∷ (c ∷ (d ∷ (f ∷ []))))) e = absurd (cc e)
told blocks pieces datasum now (a ∷ (b ∷ (c ∷ (d ∷ (f ∷ (g ∷ extents)))))) e =
    let root : Item = new_item FIRST_FREE_OBJECTID (inode_made now DIRECTORY_MODE (2 * letters image_entries) 0 0) in
    let hashed : Item = (make_key FIRST_FREE_OBJECTID DIR_ITEM (name_hash image_name), dir_entry_bytes entry ++ []) in
    let indexed : Item = (make_key FIRST_FREE_OBJECTID DIR_INDEX 2, dir_entry_bytes entry) in
    let inode : Item = new_item 257 (file_inode blocks (piece_bytes (pieces_of_volume pieces)) datasum now) in
    let named : Item = ref_item 257 FIRST_FREE_OBJECTID 2 image_name in
    let last : List Item = extents_at 257 source_block (pieces_of_volume pieces) in
    let pa = item_parts a (b ∷ (c ∷ (d ∷ (f ∷ (g ∷ extents))))) root (root_ref ∷ (hashed ∷ (indexed ∷ (inode ∷ (named ∷ last))))) e in
    let pb = item_parts b (c ∷ (d ∷ (f ∷ (g ∷ extents)))) root_ref (hashed ∷ (indexed ∷ (inode ∷ (named ∷ last)))) pa.2 in
    let pc = item_parts c (d ∷ (f ∷ (g ∷ extents))) hashed (indexed ∷ (inode ∷ (named ∷ last))) pb.2 in
    let pd = item_parts d (f ∷ (g ∷ extents)) indexed (inode ∷ (named ∷ last)) pc.2 in
    let pf = item_parts f (g ∷ extents) inode (named ∷ last) pd.2 in
    let pg = item_parts g extents named last pf.2 in
    told_by blocks pieces datasum now a b c d f g extents pa.0 pb.0 pc.0 pd.0 pd.1 pf.0 pf.1 pg.0 pg.2

-- none of the extents is inline
no_inline : (ps : List Piece) (items : List TreeItem) → ((p : Piece) → Contains ps p → p.place + p.count ≤ 2 ^ 29) → map bare_item items ≡ extents_at 257 source_block ps → list_any (λ e. is_inline (file_extent_of e.body)) items ≡ false
no_inline [] [] small are = refl
no_inline [] (i ∷ items) small are = absurd (cc are)
no_inline (p ∷ ps) [] small are = absurd (cc are)
no_inline (p ∷ ps) (i ∷ items) small are =
    let parts = item_parts i items (make_key 257 EXTENT_DATA (4096 * source_block p), file_extent_bytes (regular_extent p.place p.count)) (extents_at 257 source_block ps) are in
    ap (λ (o : Option FileExtentValue). is_inline o || list_any (λ e. is_inline (file_extent_of e.body)) items) (reads_extent p i.body (small p (contains_head p ps)) parts.1)
    ∙ no_inline ps items (λ q h. small q (contains_tail q p ps h)) parts.2

module _ (blocks : ℕ) (pieces : List Piece) (datasum : Bool) (now : ℕ) (items : List TreeItem) (t : IsTold blocks pieces datasum now items) (few : blocks ≤ 2 ^ 29) (small : piece_bytes (pieces_of_volume pieces) ≤ 2 ^ 41) (low : now < 2 ^ 63) where
  abbrev own : Inode
  own = file_inode blocks (piece_bytes (pieces_of_volume pieces)) datasum now

  abbrev naming : DirIndex
  naming = record { leaf = t.index.leaf; dir = FIRST_FREE_OBJECTID; index = 2; location = make_key 257 INODE_ITEM 0; name = image_name }

  naming_is : own_naming t.index ≡ naming ∷ []
  naming_is =
      ap (λ (b : List ℕ). if eqb t.index.key.kind DIR_INDEX then naming_at t.index (index_entry b) else []) t.index_body
      ∙ (ap (λ (o : Option DirEntryValue). if eqb t.index.key.kind DIR_INDEX then naming_at t.index o else []) entry_read
      ∙ ap (λ (k : Key). if eqb k.kind DIR_INDEX then (let n : DirIndex = record { leaf = t.index.leaf; dir = k.objectid; index = k.offset; location = make_key 257 INODE_ITEM 0; name = image_name } in n ∷ []) else []) t.index_key)

  names_sound : root_refusals items ≡ []
  names_sound =
      ap (λ (rs : List BtrRefusal). rs ++ twice_refusals (dir_indexes items)) (t.refusals_are ∙ index_sound)
      ∙ ap twice_refusals (t.namings_are ∙ naming_is)
    where
      index_sound : own_index_refusals t.index ≡ []
      index_sound =
          ap (λ (b : List ℕ). if eqb t.index.key.kind DIR_INDEX && eqb t.index.key.objectid 256 then index_refusals_at t.index (index_entry b) else []) t.index_body
          ∙ (ap (λ (o : Option DirEntryValue). if eqb t.index.key.kind DIR_INDEX && eqb t.index.key.objectid 256 then index_refusals_at t.index o else []) entry_read ∙ none (eqb t.index.key.kind DIR_INDEX && eqb t.index.key.objectid 256))
        where
          none : (b : Bool) → (if b then index_refusals_at t.index (Some entry) else []) ≡ []
          none true = refl
          none false = refl

  number_is : option_and_then inode_number (image_entry items) ≡ Some 257
  number_is = ap (λ (ns : List DirIndex). option_and_then inode_number (entry_named (is_called (codes "image")) ns)) (t.namings_are ∙ naming_is)

  own_is : inode_of t.inode.body ≡ Some own
  own_is = ap inode_of t.inode_body ∙ inode_read blocks (piece_bytes (pieces_of_volume pieces)) datasum now few small low

  module _ (ranges : List MapRange) (sources : AreSources ranges 0 (pieces_of_volume pieces)) (lie : (p : Piece) → Contains (pieces_of_volume pieces) p → p.place + p.count ≤ 2 ^ 29) where
    extents_none : image_refusals_in ranges items ≡ []
    extents_none =
        ap (λ (o : Option ℕ). if_there (λ ino. file_refusals ranges items ino (find_inode_item items ino)) o) number_is
        ∙ (ap (λ (o : Option TreeItem). file_refusals ranges items 257 o) t.inode_is
        ∙ (ap (λ (o : Option Inode). own_refusals ranges (extents_of items 257) t.inode.leaf o) own_is
        ∙ (ap (extents_refusals ranges 0 0) t.extents_are ∙ extents_sound ranges (pieces_of_volume pieces) t.extents 0 0 t.are sources (omega arith))))

    abbrev file : ImageFile
    file = record { extents = t.extents; blocks = 4096 * blocks / 4096 }

    file_is : image_in items ≡ Some (record { extents = t.extents; blocks = 4096 * blocks / 4096 })
    file_is =
        ap (λ (o : Option ℕ). option_and_then (λ ino. image_at items ino (find_inode_item items ino)) o) number_is
        ∙ (ap (λ (o : Option TreeItem). image_at items 257 o) t.inode_is
        ∙ (ap (λ (o : Option Inode). file_if_image (extents_of items 257) o) own_is
        ∙ (ap (λ (es : List TreeItem). file_if_image es (Some own)) t.extents_are
        ∙ whole (eqb (4096 * blocks % 4096) 0) (list_any (λ e. is_inline (file_extent_of e.body)) t.extents) (eq-eqb (4096 * blocks % 4096) 0 (omega arith)) (no_inline (pieces_of_volume pieces) t.extents lie t.are))))
      where
        whole : (a b : Bool) → a ≡ true → b ≡ false → (if true && (a && not b) then Some file else None) ≡ Some file
        whole a b s r = rw (s, r) refl

module _ (rising : ImageKeysAscend) (o : Options) (ids : Ids) (now : ℕ) (image other : Image) (m : Making) (r : TreeRoots) (nodes : List TreeNode) (items : List TreeItem) (v : IsNewVolume o ids now image other m r nodes) (low : now < 2 ^ 63) (are : map bare_item items ≡ image_tree_items m) where
  abbrev making : IsMaking image m
  making = v.new.conversion.making

  abbrev ranges : List MapRange
  ranges = map_for m.chunks

  abbrev ps : List Piece
  ps = pieces_of_volume m.pieces

  fit : IsNodeSize m.options.nodesize
  fit = size o ids now image other m r nodes v

  tell : IsTold m.volume.sup.blocks m.pieces m.options.datasum m.now items
  tell = told m.volume.sup.blocks m.pieces m.options.datasum m.now items (are ∙ order_is m.volume.sup.blocks m.pieces m.options.datasum m.now)

  few : m.volume.sup.blocks ≤ 2 ^ 29
  few = blocks_few m.volume image m.options m.plan m.pieces making.has_pieces

  made_low : m.now < 2 ^ 63
  made_low = subst (λ (n : ℕ). n < 2 ^ 63) (sym v.new.conversion.now_is) low

  sources : AreSources (map_for m.chunks) 0 (pieces_of_volume m.pieces)
  sources =
      are_sources image m making fit
      (six_behind (new_item FIRST_FREE_OBJECTID (inode_made m.now DIRECTORY_MODE (2 * letters image_entries) 0 0)) root_ref (make_key FIRST_FREE_OBJECTID DIR_ITEM (name_hash image_name), dir_entry_bytes entry ++ []) (make_key FIRST_FREE_OBJECTID DIR_INDEX 2, dir_entry_bytes entry)
      (new_item 257 (file_inode m.volume.sup.blocks (piece_bytes (pieces_of_volume m.pieces)) m.options.datasum m.now)) (ref_item 257 FIRST_FREE_OBJECTID 2 image_name) (extents_at 257 source_block (pieces_of_volume m.pieces))
      (ap (λ (items : List Item). ascends (keys_of items)) (sym (order_is m.volume.sup.blocks m.pieces m.options.datasum m.now)) ∙ (rising m.volume image m.options m.plan m.pieces m.now making.has_pieces).saved))

  small : piece_bytes (pieces_of_volume m.pieces) ≤ 2 ^ 41
  small = sources_bytes (map_for m.chunks) 0 (pieces_of_volume m.pieces) sources (omega arith)

  lie : (p : Piece) → Contains (pieces_of_volume m.pieces) p → p.place + p.count ≤ 2 ^ 29
  lie p h = (source_in (map_for m.chunks) 0 (pieces_of_volume m.pieces) sources p h).small

  -- the place of a block of the image
  place_is : (b : ℕ) → b < m.volume.sup.blocks → image_place (map_for m.chunks) (record { extents = tell.extents; blocks = 4096 * m.volume.sup.blocks / 4096 }) b ≡ file_block (map_for m.chunks) tell.extents b
  place_is b inside = ap (λ (t : Bool). if t then file_block (map_for m.chunks) tell.extents b else None) (lt-ltb b (4096 * m.volume.sup.blocks / 4096) (omega (arith, inside)))

  is_image_of : IsImageOf image other (map_for m.chunks) m.volume.sup.blocks (record { extents = tell.extents; blocks = 4096 * m.volume.sup.blocks / 4096 })
  is_image_of = record {
    blocks_are = omega arith;
    used_ = λ b t.
        let holder = held image m making fit b t in
        let inside = used_inside (used_of image) no_owner b t in
        let same = blocks_are image m making in
        ⊎_elim
        (λ (found : FoundIn (map_for m.chunks) ps b (file_block (map_for m.chunks) tell.extents b)).
        let of : IsSource (map_for m.chunks) found.piece = source_in (map_for m.chunks) 0 ps sources found.piece found.among in
        let one = member image m making fit found.piece found.among in
        let low = found.holds.0 in
        let high = found.holds.1 in
        let at : source_block found.piece + (b - source_block found.piece) ≡ b = omega (arith, low) in (
          found.piece.place + (b - source_block found.piece),
          place_is b (omega (arith, inside, same)) ∙ found.is,
          (v.new.stands.pieces found.piece one.0).blocks (source_block found.piece) (b - source_block found.piece) of.from (omega (arith, low, high)) ∙ ap (block_at image) at,
        ))
        (λ none. absurd (none.1 holder.0 holder.1 holder.2))
        (place_of (map_for m.chunks) ps tell.extents 0 b tell.are sources);
    holes = λ b t.
        ⊎_elim
        (λ (found : FoundIn (map_for m.chunks) ps b (file_block (map_for m.chunks) tell.extents b)).
        let of : IsSource (map_for m.chunks) found.piece = source_in (map_for m.chunks) 0 ps sources found.piece found.among in
        let one = member image m making fit found.piece found.among in
        let low = found.holds.0 in
        let high = found.holds.1 in
        let at : source_block found.piece + (b - source_block found.piece) ≡ b = omega (arith, low) in
        let is : has (used_of image) b ≡ true =
        subst (λ (n : ℕ). has (used_of image) n ≡ true) at
        ((can_move m.volume image m.options m.plan m.pieces making.has_pieces).sources found.piece (source_block found.piece) (b - source_block found.piece) one.0 of.from (omega (arith, low, high))) in
        absurd (both_ways (has (used_of image) b) t is))
        (λ none. nowhere (nat_lt b (4096 * m.volume.sup.blocks / 4096)) (file_block (map_for m.chunks) tell.extents b) none.0)
        (place_of (map_for m.chunks) ps tell.extents 0 b tell.are sources);
  }
    where
      no_owner : ℕ → Option (ℕ × ℕ)
      no_owner b = None

      nowhere : (t : Bool) (o : Option ℕ) → o ≡ None → (if t then o else None) ≡ None
      nowhere true o is = is
      nowhere false o is = refl

  pub has_image : HasSavedImage image other (map_for m.chunks) m.volume.sup.blocks items
  has_image = record {
    file = record { extents = tell.extents; blocks = 4096 * m.volume.sup.blocks / 4096 };
    found_ = file_is m.volume.sup.blocks m.pieces m.options.datasum m.now items tell few small made_low (map_for m.chunks) sources lie;
    names = names_sound m.volume.sup.blocks m.pieces m.options.datasum m.now items tell few small made_low;
    extents = extents_none m.volume.sup.blocks m.pieces m.options.datasum m.now items tell few small made_low (map_for m.chunks) sources lie;
    is = is_image_of;
  }

pub saved_image_reads : ImageKeysAscend → SavedImageReads
saved_image_reads rising = λ o ids now image other m r nodes items v low are. has_image rising o ids now image other m r nodes items v low are
