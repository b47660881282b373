-- The names of the tree of the saved image.
use Rattle.convert_core_laws.proofs.Imports.{◌≡◌, ◌≤◌, ◌<◌, ◌⊎◌, inl, inr, ℕ, ◌+◌, ◌*◌, ◌^◌, Bool, true, false, List, [], ◌∷◌, ◌++◌, map, Some, refl, sym, ap, subst, ◌∙◌, ⊎_elim, true≢false, arith, ◌≢◌, AllByRecursion, All-cons, All-from_recursion, All-nil, filter-append, IsPermutation-refl, INODE_ITEM, CONV_IMAGE_SUBVOL, FIRST_FREE_OBJECTID, inode_bytes, inode_of, InodeRefValue, inode_ref_head, make_key, Inode, Item, AreInodes, IsDirEntry, IsOwned, KeepsInode, SameName, AreTreeNames, IsInode, HasKind, is_orphan, inode_nbytes, ref_name_count, other_flags, ComesToEnd, below, unnamed, BackName, IndexEntry, IsThere, index_entries, names_inode_item, own_name, TreeOn, NodePointer, Super, extents_at, piece_bytes, pieces_of_volume, source_block, entry_items, entry_to, root_ref, image_entries, image_head, image_items, image_name, root_directory_items, all_append, all_mapped, all_true, sum_mapped, Directory, File, extent_item, regular_extent, inode_item, ref_item, at_head, head_or_tail, all_in, Piece, cases_eq, Walked, walked_tree}
use Rattle.std.proofs.Common.{sum_by, All, AllPairs, Contains, bit_and}
use Rattle.convert_core_laws.proofs.ByteReading.{filter_all, filter_none, is_extent, regular_read}
use Rattle.convert_core_laws.proofs.soundness.Flags.{image_inode, image_inode_reads, image_inode_there}
use Rattle.convert_core_laws.proofs.soundness.Assembling.{Tells, count_is, entries_are, have_names, tells_of}
use Rattle.convert_core_laws.proofs.soundness.Fits.{entry_fits, is_entry}
use Rattle.convert_core_laws.proofs.soundness.Inodes.{bytes_are, piece_adds, sum_on}
use Rattle.convert_core_laws.proofs.soundness.Small.{root_inode, root_inode_keeps, root_inode_told, root_reads, root_told, some_inode}
use Rattle.convert_core_laws.proofs.soundness.Telling.{FitsEntry, Told, hash_entries, index_by, told_append, told_extent, told_inode, told_none, told_ref}

-- the only name of the saved image
abbrev image_ref : InodeRefValue
image_ref = record { index = 2; name = image_name }

image_ref_fits : inode_ref_head.fits image_ref
unfolding inode_ref_head
image_ref_fits = ((tt, omega arith), omega arith)

image_entry_fits : AllByRecursion (FitsEntry FIRST_FREE_OBJECTID) image_entries
image_entry_fits = (record { fits = entry_fits 257 File image_name (omega arith) (omega arith); entry = is_entry 257 File image_name (omega arith) (omega arith) }, tt)

abbrev image_index : IndexEntry
image_index = index_by FIRST_FREE_OBJECTID (2, entry_to 257 File image_name)

abbrev image_back : BackName
image_back = record { inode = 257; dir = FIRST_FREE_OBJECTID; index = 2; name = image_name }

-- a piece that lies behind the reserved blocks, on a device of at most 2^41 bytes
pub record IsLow (p : Piece) : Type 0 where
  pub some : 1 ≤ p.place
  pub end : p.place + p.count ≤ 2 ^ 29

module _ (blocks now : ℕ) (pieces : List Piece) (datasum : Bool) (few : blocks ≤ 2 ^ 29) (small : piece_bytes (pieces_of_volume pieces) ≤ 2 ^ 41) (low : now < 2 ^ 63) (are_low : AllByRecursion IsLow (pieces_of_volume pieces)) where
  abbrev parts : List Piece
  parts = pieces_of_volume pieces

  abbrev own : Inode
  own = image_inode blocks pieces datasum now

  abbrev extents : List Item
  extents = extents_at 257 source_block parts

  abbrev of_image : List Item
  of_image = inode_item 257 own ∷ (ref_item 257 FIRST_FREE_OBJECTID 2 image_name ∷ [])

  abbrev indexes : List IndexEntry
  indexes = map (index_by FIRST_FREE_OBJECTID) image_entries

  abbrev names : List BackName
  names = own_name ∷ (image_back ∷ [])

  parts_told : (ps : List Piece) → AllByRecursion IsLow ps → Told (extents_at 257 source_block ps) [] [] [] []
  parts_told [] each = told_none
  parts_told (p ∷ ps) each =
      let end = each.0.end in
      told_append (extent_item 257 (source_block p) (regular_extent p.place p.count) ∷ []) (extents_at 257 source_block ps) [] [] [] [] [] [] [] []
      (told_extent 257 (source_block p) (regular_extent p.place p.count) (regular_read p.place p.count (omega (arith, end)) (omega (arith, end)))) (parts_told ps each.1)

  of_image_told : Told of_image [] [] (image_back ∷ []) []
  of_image_told = told_append (inode_item 257 own ∷ []) (ref_item 257 FIRST_FREE_OBJECTID 2 image_name ∷ []) [] [] [] [] [] (image_back ∷ []) [] [] (told_inode 257 own) (told_ref 257 FIRST_FREE_OBJECTID image_ref image_ref_fits)

  told : Told ((root_directory_items now image_entries ++ of_image) ++ extents) (hash_entries FIRST_FREE_OBJECTID image_entries) indexes names []
  told =
      told_append (root_directory_items now image_entries ++ of_image) extents (hash_entries FIRST_FREE_OBJECTID image_entries) [] indexes [] names [] [] []
      (told_append (root_directory_items now image_entries) of_image (hash_entries FIRST_FREE_OBJECTID image_entries) [] indexes [] (own_name ∷ []) (image_back ∷ []) [] [] (root_told now image_entries image_entry_fits) of_image_told)
      (parts_told parts are_low)

  tells : Tells (image_items blocks pieces datasum now) indexes names
  unfolding image_items image_head
  tells = tells_of ((root_directory_items now image_entries ++ of_image) ++ extents) (hash_entries FIRST_FREE_OBJECTID image_entries) indexes names [] names told (IsPermutation-refl (hash_entries FIRST_FREE_OBJECTID image_entries)) (IsPermutation-refl names)

  module _ (nodes : Walked) (roots : List Item) where
    abbrev pub saved : TreeOn
    saved = walked_tree CONV_IMAGE_SUBVOL nodes (image_items blocks pieces datasum now)

    -- ---- bytes

    no_root_bytes : inode_nbytes saved FIRST_FREE_OBJECTID ≡ 0
    unfolding image_items image_head
    no_root_bytes =
        bytes_are saved FIRST_FREE_OBJECTID
        ∙ ap (sum_by _)
        (filter-append (is_extent FIRST_FREE_OBJECTID) (root_directory_items now image_entries ++ of_image) extents
        ∙ filter_none (is_extent FIRST_FREE_OBJECTID) extents (all_mapped (λ i. is_extent FIRST_FREE_OBJECTID i ≡ false) (λ (p : Piece). extent_item 257 (source_block p) (regular_extent p.place p.count)) parts (all_true _ parts (λ p. refl))))

    own_bytes_are : inode_nbytes saved 257 ≡ piece_bytes parts
    unfolding image_items image_head
    own_bytes_are =
        bytes_are saved 257
        ∙ (ap (sum_by _)
        (filter-append (is_extent 257) (root_directory_items now image_entries ++ of_image) extents
        ∙ filter_all (is_extent 257) extents (all_mapped (λ i. is_extent 257 i ≡ true) (λ (p : Piece). extent_item 257 (source_block p) (regular_extent p.place p.count)) parts (all_true _ parts (λ p. refl))))
        ∙ (sum_mapped (λ (p : Piece). extent_item 257 (source_block p) (regular_extent p.place p.count)) _ parts
        ∙ sum_on _ (λ (p : Piece). 4096 * p.count) parts (λ p h.
        let is = all_in IsLow parts p are_low h in
        let end = is.end in
        piece_adds p.place p.count 257 (source_block p) is.some (omega (arith, end)) (omega (arith, end)))))

    -- ---- inodes

    -- the items of inodes are these two
    abbrev IsOne : Item → Type 0
    IsOne i = i.0.kind ≡ INODE_ITEM → (inode_item FIRST_FREE_OBJECTID (root_inode now image_entries) ≡ i) ⊎ (inode_item 257 own ≡ i)

    ones : AllByRecursion IsOne (image_items blocks pieces datasum now)
    unfolding image_items image_head
    ones =
        all_append IsOne (root_directory_items now image_entries ++ of_image) extents
        (λ e. inl refl, (λ e. absurd (omega (arith, e)), (λ e. absurd (omega (arith, e)), (λ e. absurd (omega (arith, e)), (λ e. inr refl, (λ e. absurd (omega (arith, e)), tt))))))
        (all_mapped IsOne (λ (p : Piece). extent_item 257 (source_block p) (regular_extent p.place p.count)) parts (all_true _ parts (λ p e. absurd (omega (arith, e)))))

    own_told : IsInode saved 257 own
    own_told = record {
      directory = λ is. absurd (cc is);
      other = λ no_. sym (count_is saved indexes names tells 257);
      bytes = sym own_bytes_are;
      files = λ is. refl;
    }

    inodes : (ino : ℕ) (body : List ℕ) (inode : Inode) → Contains (image_items blocks pieces datasum now) (make_key ino INODE_ITEM 0, body) → inode_of body ≡ Some inode → IsInode saved ino inode
    inodes ino body inode h read =
        ⊎_elim
        (λ (is : inode_item FIRST_FREE_OBJECTID (root_inode now image_entries) ≡ (make_key ino INODE_ITEM 0, body)).
        let number : 256 ≡ ino = ap (λ (i : Item). i.0.objectid) is in
        let same : root_inode now image_entries ≡ inode = some_inode (root_inode now image_entries) inode (sym (root_reads now image_entries low (omega arith)) ∙ (ap (λ (i : Item). inode_of i.1) is ∙ read)) in
        subst (IsInode saved ino) same (subst (λ (k : ℕ). IsInode saved k (root_inode now image_entries)) number (root_inode_told now image_entries saved names tells no_root_bytes)))
        (λ (is : inode_item 257 own ≡ (make_key ino INODE_ITEM 0, body)).
        let number : 257 ≡ ino = ap (λ (i : Item). i.0.objectid) is in
        let same : own ≡ inode = some_inode own inode (sym (image_inode_reads blocks pieces datasum now few small low) ∙ (ap (λ (i : Item). inode_of i.1) is ∙ read)) in
        subst (IsInode saved ino) same (subst (λ (k : ℕ). IsInode saved k own) number own_told))
        (all_in IsOne (image_items blocks pieces datasum now) (make_key ino INODE_ITEM 0, body) ones h refl)

    root_in : Contains (image_items blocks pieces datasum now) (inode_item FIRST_FREE_OBJECTID (root_inode now image_entries))
    unfolding image_items image_head
    root_in = at_head (inode_item FIRST_FREE_OBJECTID (root_inode now image_entries)) (((root_ref ∷ entry_items FIRST_FREE_OBJECTID image_entries) ++ of_image) ++ extents)

    root_there : IsThere saved FIRST_FREE_OBJECTID
    root_there = (inode_bytes (root_inode now image_entries), root_in)

    pub saved_names : AreTreeNames roots saved
    saved_names =
        have_names saved indexes names tells roots (IsPermutation-refl names)
        (λ e h is. let same = only e h in absurd (true≢false (ap names_inode_item same ∙ is)))
        (λ e h. let same = only e h in subst (λ (x : IndexEntry). IsThere saved x.entry.dir × (names_inode_item x ≡ true → IsThere saved x.entry.location.objectid)) same (root_there, λ is. (inode_bytes own, image_inode_there blocks pieces datasum now)))
        inodes
      where
        only : (e : IndexEntry) → Contains indexes e → image_index ≡ e
        only e h = ⊎_elim (λ (is : image_index ≡ e). is) (λ (none : Contains [] e). absurd (omega (arith, none.1))) (head_or_tail (image_index) [] e h)

    -- ---- the rules of inodes

    root_is : HasKind saved FIRST_FREE_OBJECTID Directory
    root_is = (root_inode now image_entries, record { body = inode_bytes (root_inode now image_entries); there = root_in; reads = root_reads now image_entries low (omega arith) }, refl)

    pub own_is : HasKind saved 257 File
    own_is = (own, record { body = inode_bytes own; there = image_inode_there blocks pieces datasum now; reads = image_inode_reads blocks pieces datasum now few small low }, refl)

    own_keeps : (sup : Super) → KeepsInode sup saved 257 own
    own_keeps sup =
        let count : ref_name_count saved 257 ≡ 1 = count_is saved indexes names tells 257 in
        record {
          kind = refl;
          bits = omega arith;
          generation = (omega arith, omega arith);
          links = sym count;
          orphan = λ none. absurd (omega (arith, none, count));
          flags = own_flags datasum;
          symlink = λ is. absurd (cc is);
        }
      where
        own_flags : (b : Bool) → bit_and (image_inode blocks pieces b now).flags other_flags ≡ 0
        own_flags true = refl
        own_flags false = refl

    entry_keeps : IsDirEntry saved image_index
    entry_keeps = record {
      directory = root_is;
      inode = λ to_inode. (File, own_is, refl);
      tree = λ none. absurd (true≢false none);
      name = refl;
      short = omega arith;
      index = omega arith;
    }

    -- each item is of one of the two inodes
    abbrev OwnedOrOrphan : Item → Type 0
    OwnedOrOrphan i = is_orphan i ≡ false → IsOwned saved i

    own_there : IsThere saved 257
    own_there = (inode_bytes own, image_inode_there blocks pieces datasum now)

    all_owned : AllByRecursion OwnedOrOrphan (image_items blocks pieces datasum now)
    unfolding image_items image_head
    all_owned =
        let top : (kind offset : ℕ) (body : List ℕ) → IsOwned saved (make_key FIRST_FREE_OBJECTID kind offset, body) = λ kind offset body. record { there = root_there; low = omega arith; high = omega arith } in
        let image : (kind offset : ℕ) (body : List ℕ) → IsOwned saved (make_key 257 kind offset, body) = λ kind offset body. record { there = own_there; low = omega arith; high = omega arith } in
        all_append OwnedOrOrphan (root_directory_items now image_entries ++ of_image) extents
        ((λ plain. top _ _ _), ((λ plain. top _ _ _), ((λ plain. top _ _ _), ((λ plain. top _ _ _), ((λ plain. image _ _ _), ((λ plain. image _ _ _), tt))))))
        (all_mapped OwnedOrOrphan (λ (p : Piece). extent_item 257 (source_block p) (regular_extent p.place p.count)) parts (all_true _ parts (λ p plain. image _ _ _)))

    -- ---- what stands above an inode

    only_index : (e : IndexEntry) → Contains (index_entries saved) e → image_index ≡ e
    only_index e h =
        ⊎_elim (λ (is : image_index ≡ e). is) (λ (none : Contains [] e). absurd (omega (arith, none.1)))
        (head_or_tail image_index [] e (subst (λ (l : List IndexEntry). Contains l e) (entries_are saved indexes names tells) h))

    no_name : (ino : ℕ) → ino ≢ 257 → ComesToEnd saved ino
    no_name ino apart = unnamed ino (λ e h to_inode same. let number : 257 ≡ e.entry.location.objectid = ap (λ (x : IndexEntry). x.entry.location.objectid) (only_index e h) in apart (omega (arith, number, same)))

    ends : (ino : ℕ) → ComesToEnd saved ino
    ends ino =
        ⊎_elim
        (λ (is : ino ≡ 257).
        subst (λ (n : ℕ). ComesToEnd saved n) (sym is)
        (below image_index (subst (λ (l : List IndexEntry). Contains l image_index) (sym (entries_are saved indexes names tells)) (at_head image_index [])) refl (no_name 256 (λ e. omega (arith, e)))))
        (λ (apart : ino ≢ 257). no_name ino apart) (cases_eq ino 257)

    pub saved_inodes : (sup : Super) → AreInodes sup saved
    saved_inodes sup =
        let are : index_entries saved ≡ indexes = entries_are saved indexes names tells in
        record {
          root = root_is;
          entries = subst (All (IsDirEntry saved)) (sym are) (All-cons (IsDirEntry saved) image_index [] entry_keeps (All-nil (IsDirEntry saved)));
          once = subst (AllPairs (λ (e f : IndexEntry). ¬ SameName e f)) (sym are) (λ i j d l h. absurd (omega (arith, l, h)));
          inodes = λ ino inode has.
              ⊎_elim
              (λ (is : inode_item FIRST_FREE_OBJECTID (root_inode now image_entries) ≡ (make_key ino INODE_ITEM 0, has.body)).
              let number : 256 ≡ ino = ap (λ (i : Item). i.0.objectid) is in
              let same : root_inode now image_entries ≡ inode = some_inode (root_inode now image_entries) inode (sym (root_reads now image_entries low (omega arith)) ∙ (ap (λ (i : Item). inode_of i.1) is ∙ has.reads)) in
              subst (KeepsInode sup saved ino) same (subst (λ (k : ℕ). KeepsInode sup saved k (root_inode now image_entries)) number (root_inode_keeps now image_entries sup saved names tells refl)))
              (λ (is : inode_item 257 own ≡ (make_key ino INODE_ITEM 0, has.body)).
              let number : 257 ≡ ino = ap (λ (i : Item). i.0.objectid) is in
              let same : own ≡ inode = some_inode own inode (sym (image_inode_reads blocks pieces datasum now few small low) ∙ (ap (λ (i : Item). inode_of i.1) is ∙ has.reads)) in
              subst (KeepsInode sup saved ino) same (subst (λ (k : ℕ). KeepsInode sup saved k own) number (own_keeps sup)))
              (all_in IsOne (image_items blocks pieces datasum now) (make_key ino INODE_ITEM 0, has.body) ones has.there refl);
          owned = All-from_recursion OwnedOrOrphan (image_items blocks pieces datasum now) all_owned;
          above = λ ino has. ends ino;
        }
