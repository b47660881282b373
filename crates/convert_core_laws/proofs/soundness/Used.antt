-- Each piece of data is used by a tree.
use Rattle.convert_core_laws.proofs.Imports.{◌≡◌, ◌<◌, ℕ, ◌*◌, ◌^◌, eqb, Bool, true, false, List, [], ◌∷◌, filter, Option, Some, None, refl, sym, ap, subst, ◌∙◌, arith, Contains, if◌then◌else◌, is_some, AllByRecursion, option_map_or, eq-eqb, Contains-append_right, CONV_IMAGE_SUBVOL, FS_TREE, from_filter, in_filter, in_flat_map, in_map, keys, Image, file_extent_bytes, file_extent_of, Item, IsNodeSize, DataUse, IsData, Recount, TreeOn, all_trees, data_uses, use_in, uses_in, IsMaking, Making, HasExtents, HasPieces, made_from, file_tree_items, image_tree_items, TreeRoots, super_for, numbered, extents_at, file_block, is_owned_by, pieces_of, pieces_of_volume, piece_bytes, source_block, image_head, image_items, Source, file_extent_items, inline_in, ino_of, size_in, fs_tree_items, FilesAreHeld, can_move, has_bytes, extent_item, inline_extent, regular_extent, target_bytes, items_of, ascending_filter, contains_head, contains_tail, ObjectKey, TreeNode, Piece, recount_for, tree_for, Files, SavedImage}
use Rattle.convert_core_laws.proofs.Owned.{extents_found}
use Rattle.convert_core_laws.proofs.Pieces.{one_of_inode}
use Rattle.convert_core_laws.proofs.ByteReading.{is_extent}
use Rattle.convert_core_laws.proofs.soundness.AllUses.{from_is, source_low, span_of}
use Rattle.convert_core_laws.proofs.soundness.Uses.{owner_low, piece_use, use_at, uses_of}
use Rattle.convert_core_laws.proofs.soundness.Among.{tree_there}

all_self : {X : Type 0} (P : X → Type 0) (xs : List X) → ((x : X) → Contains xs x → P x) → AllByRecursion P xs
all_self P [] each = tt
all_self P (x ∷ xs) each = (each x (contains_head x xs), all_self P xs (λ y h. each y (contains_tail y x xs h)))

behind_head : (blocks : ℕ) (pieces : List Piece) (datasum : Bool) (now : ℕ) (i : Item) → Contains (extents_at 257 source_block (pieces_of_volume pieces)) i → Contains (image_items blocks pieces datasum now) i
unfolding image_items
behind_head blocks pieces datasum now i h = Contains-append_right (image_head blocks (piece_bytes (pieces_of_volume pieces)) datasum now) (extents_at 257 source_block (pieces_of_volume pieces)) i h

-- the extents of a file that is not inline are those of its pieces
in_extents : (s : Source) (key : ObjectKey) (item : Item) → inline_in s key ≡ false → Contains (extents_at (ino_of s key) file_block (pieces_of s.pieces (ino_of s key))) item → Contains (file_extent_items s key) item
unfolding file_extent_items
in_extents s key item off h = by (inline_in s key) off
  where
    by : (b : Bool) → b ≡ false
        → Contains (if b then extent_item (ino_of s key) 0 (inline_extent (target_bytes (items_of key s.items) (size_in s key))) ∷ [] else extents_at (ino_of s key) file_block (pieces_of s.pieces (ino_of s key))) item
    by true f = absurd (cc f)
    by false f = h

module _ (image : Image) (m : Making) (made : IsMaking image m) (size : IsNodeSize m.options.nodesize) (held : FilesAreHeld) where
  abbrev of : HasPieces m.volume image m.options m.plan m.pieces
  of = made.has_pieces

  abbrev s : Source
  s = made_from m.volume image m.options m.pieces

  -- a piece that holds no block of the volume has an owner
  pub owned : (q : Piece) → Contains m.pieces q → q.from ≡ None → (i : ℕ) × (b : ℕ) × (q.owner ≡ Some (i, b))
  owned q h none = let w = (can_move m.volume image m.options m.plan m.pieces of).owners q h none in (_, w.1, w.3)

  module _ (other : Image) (r : TreeRoots) (nodes : List TreeNode) where
    abbrev k : Recount
    k = recount_for image other m r nodes

    abbrev files : TreeOn
    files = tree_for other (super_for m r nodes) FS_TREE (r.tree Files) (file_tree_items image m)

    abbrev saved : TreeOn
    saved = tree_for other (super_for m r nodes) CONV_IMAGE_SUBVOL (r.tree SavedImage) (image_tree_items m)

    files_there : Contains (all_trees k) files
    files_there = tree_there image other m r nodes Files

    saved_there : Contains (all_trees k) saved
    saved_there = tree_there image other m r nodes SavedImage

    one_use : (tree inode block : ℕ) (p : Piece) → Contains m.pieces p → 4096 * block < 2 ^ 64
        → Contains (use_in tree (extent_item inode block (regular_extent p.place p.count)) (file_extent_of (file_extent_bytes (regular_extent p.place p.count)))) (use_at tree inode block p)
    one_use tree inode block p h low =
        subst (λ (l : List DataUse). Contains l (use_at tree inode block p)) (sym (piece_use image m made tree inode block p h low)) (contains_head (use_at tree inode block p) [])

    -- by the saved image
    pub saved_use : (p : Piece) → Contains m.pieces p → is_some p.from ≡ true → Contains (data_uses k) (use_at CONV_IMAGE_SUBVOL 257 (source_block p) p)
    saved_use p h t =
        let some : List Piece = filter (λ (q : Piece). is_some q.from) m.pieces in
        let listed : Contains (pieces_of_volume m.pieces) p =
        (from_filter (λ (q : Piece). eqb (source_block q) (source_block p)) (pieces_of_volume m.pieces) p
        (subst (λ (ps : List Piece). Contains ps p) (sym (ascending_filter source_block (source_block p) some))
        (in_filter (λ (q : Piece). eqb (source_block q) (source_block p)) some p (in_filter (λ (q : Piece). is_some q.from) m.pieces p h t) (eq-eqb (source_block p) (source_block p) refl)))).0 in
        let i : Item = extent_item 257 (source_block p) (regular_extent p.place p.count) in
        let there : Contains (image_tree_items m) i =
        behind_head m.volume.sup.blocks m.pieces m.options.datasum m.now i (in_map (λ (q : Piece). extent_item 257 (source_block q) (regular_extent q.place q.count)) (pieces_of_volume m.pieces) p listed) in
        let low = source_low image m made size p h (from_is image m made size p t) in
        in_flat_map uses_in (all_trees k) saved (use_at CONV_IMAGE_SUBVOL 257 (source_block p) p) saved_there
        (uses_of saved (use_at CONV_IMAGE_SUBVOL 257 (source_block p) p) i there refl (one_use CONV_IMAGE_SUBVOL 257 (source_block p) p h (omega (arith, low))))

    -- by the file that owns it
    pub file_use : (p : Piece) (i b : ℕ) → Contains m.pieces p → p.owner ≡ Some (i, b) → Contains (data_uses k) (use_at FS_TREE i b p)
    file_use p i b h own =
        let at = numbered image (keys m.volume.named) (record { accepted = of.accepted; are_keys = of.opened.are_keys; ascend = of.opened.ascends }) in
        let w = (held m.volume image m.options m.plan m.pieces of).each p i b h own in
        let key : ObjectKey = w.0 in
        let ext : HasExtents s key = w.1 in
        let number : ino_of s key ≡ i = w.2 in
        let block : file_block p ≡ b = ap (λ (x : Option (ℕ × ℕ)). option_map_or (λ y. y.1) x 0) own in
        let mine : p.owner ≡ Some (ino_of s key, file_block p) =
        own ∙ (ap (λ (x : ℕ). let y : Option (ℕ × ℕ) = Some (x, b) in y) (sym number) ∙ ap (λ (x : ℕ). let y : Option (ℕ × ℕ) = Some (ino_of s key, x) in y) (sym block)) in
        let test : is_owned_by (ino_of s key) p ≡ true = ap (λ (x : Option (ℕ × ℕ)). option_map_or (λ y. eqb y.0 (ino_of s key)) x false) mine ∙ eq-eqb (ino_of s key) (ino_of s key) refl in
        let listed : Contains (pieces_of m.pieces (ino_of s key)) p =
        one_of_inode (Contains (pieces_of m.pieces (ino_of s key))) m.pieces (ino_of s key) p (all_self (Contains (pieces_of m.pieces (ino_of s key))) (pieces_of m.pieces (ino_of s key)) (λ x l. l)) h test in
        let item : Item = extent_item (ino_of s key) (file_block p) (regular_extent p.place p.count) in
        let there : Contains (file_extent_items s key) item = in_extents s key item ext.not_inline (in_map (λ (q : Piece). extent_item (ino_of s key) (file_block q) (regular_extent q.place q.count)) (pieces_of m.pieces (ino_of s key)) p listed) in
        let among : Contains (fs_tree_items s) item =
        (from_filter (is_extent (ino_of s key)) (fs_tree_items s) item
        (subst (λ (l : List Item). Contains l item) (sym (extents_found s at.0 at.1 key ext.named (ap has_bytes ext.file))) there)).0 in
        let low = owner_low image m made p (ino_of s key) h mine in
        let told : Contains (data_uses k) (use_at FS_TREE (ino_of s key) (file_block p) p) =
        in_flat_map uses_in (all_trees k) files (use_at FS_TREE (ino_of s key) (file_block p) p) files_there
        (uses_of files (use_at FS_TREE (ino_of s key) (file_block p) p) item among refl (one_use FS_TREE (ino_of s key) (file_block p) p h (omega (arith, low)))) in
        subst (λ (x : ℕ). Contains (data_uses k) (use_at FS_TREE i x p)) block (subst (λ (x : ℕ). Contains (data_uses k) (use_at FS_TREE x (file_block p) p)) number told)

    -- Each piece is a range of data.
    pub is_data : (p : Piece) → Contains m.pieces p → IsData k (span_of p)
    is_data p h = by p.from refl
      where
        by : (o : Option ℕ) → p.from ≡ o → IsData k (span_of p)
        by None is = let w = owned p h is in (use_at FS_TREE w.0 w.1 p, file_use p w.0 w.1 h w.2, refl)
        by (Some b) is = (use_at CONV_IMAGE_SUBVOL 257 (source_block p) p, saved_use p h (ap is_some is), refl)
