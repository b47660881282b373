-- The extents of an object, in the tree itself or from its pieces on.
use Rattle.file_items.proofs.Imports.{◌≡◌, ℕ, ◌-◌, Bool, true, false, List, [], ◌∷◌, ◌++◌, length, drop, take, Option, Some, None, refl, sym, ap, subst, ◌∙◌, if◌then◌else◌, arith, flat_map, append-nil, Item, extent_item, inline_extent, ObjectKey, items_of, by_inode, Piece, HoldsBy, pieces_of, pieces_of_volume, piece_bytes, file_block, source_block, extents_at, image_head, image_items, HasAddedExtents, file_ahead, Source, ino_of, size_in, inline_in, file_extent_items, object_items, fs_tree_items, FileInHand}
use Rattle.reiser_volume_files.specs.Bytes.{target_bytes}
use Rattle.file_items.proofs.Streaming.{none_left}

extents_by : (s : Source) (key : ObjectKey) (b : Bool) → inline_in s key ≡ b
    → file_extent_items s key ≡ (if b then extent_item (ino_of s key) 0 (inline_extent (target_bytes (items_of key s.items) (size_in s key))) ∷ [] else extents_at (ino_of s key) file_block (pieces_of s.pieces (ino_of s key)))
unfolding file_extent_items
extents_by s key b is =
    ap (λ (c : Bool). if c then extent_item (ino_of s key) 0 (inline_extent (target_bytes (items_of key s.items) (size_in s key))) ∷ [] else extents_at (ino_of s key) file_block (pieces_of s.pieces (ino_of s key))) is

pub held_inline : (s : Source) (key : ObjectKey) (ino n : ℕ) (held : Option ℕ) (block : List ℕ) (file : FileInHand) (old new : List Item) → ino ≡ ino_of s key → held ≡ Some n → file ≡ record { ino = ino; left = 0 }
    → HoldsBy (inline_in s key) (items_of key s.items) (size_in s key) held block → new ≡ old ++ extent_item ino 0 (inline_extent (take n block)) ∷ [] → HasAddedExtents s key file old new
held_inline s key ino n held block file old new ino_is held_is file_is holds new_is = by (inline_in s key) refl (subst (λ (o : Option ℕ). HoldsBy (inline_in s key) (items_of key s.items) (size_in s key) o block) held_is holds)
  where
    none_some : (m : ℕ) → Some m ≡ None → ⊥
    none_some m is = absurd cc

    empty : file_ahead file s.pieces ≡ []
    empty =
        ap (λ (f : FileInHand). file_ahead f s.pieces) file_is
        ∙ ap (extents_at ino file_block) (none_left (pieces_of s.pieces ino) (length (pieces_of s.pieces ino) - 0) (omega arith))

    by : (b : Bool) → inline_in s key ≡ b → HoldsBy b (items_of key s.items) (size_in s key) (Some n) block → HasAddedExtents s key file old new
    by false is none = absurd (none_some n none)
    by true is has = record {
      items = extent_item ino 0 (inline_extent (take n block)) ∷ [];
      added = new_is;
      are =
          extents_by s key true is
          ∙ (ap (λ (i : ℕ). extent_item i 0 (inline_extent (target_bytes (items_of key s.items) (size_in s key))) ∷ []) (sym ino_is)
          ∙ (ap (λ (l : List ℕ). extent_item ino 0 (inline_extent (take (size_in s key) l)) ∷ []) (sym has.bytes)
          ∙ (ap (λ (k : ℕ). extent_item ino 0 (inline_extent (take k block)) ∷ []) (sym has.count)
          ∙ ap (λ (l : List Item). (extent_item ino 0 (inline_extent (take n block)) ∷ []) ++ l) (sym empty))));
    }

pub held_in_pieces : (s : Source) (key : ObjectKey) (ino count : ℕ) (held : Option ℕ) (block : List ℕ) (file : FileInHand) (old : List Item) → ino ≡ ino_of s key → held ≡ None → file ≡ record { ino = ino; left = count } → count ≡ length (pieces_of s.pieces (ino_of s key))
    → HoldsBy (inline_in s key) (items_of key s.items) (size_in s key) held block → HasAddedExtents s key file old old
held_in_pieces s key ino count held block file old ino_is held_is file_is count_is holds = by (inline_in s key) refl (subst (λ (o : Option ℕ). HoldsBy (inline_in s key) (items_of key s.items) (size_in s key) o block) held_is holds)
  where
    whole : file_ahead file s.pieces ≡ extents_at (ino_of s key) file_block (pieces_of s.pieces (ino_of s key))
    whole =
        ap (λ (f : FileInHand). file_ahead f s.pieces) file_is
        ∙ (ap (λ (i : ℕ). extents_at i file_block (drop (length (pieces_of s.pieces i) - count) (pieces_of s.pieces i))) ino_is
        ∙ ap (λ (k : ℕ). extents_at (ino_of s key) file_block (drop k (pieces_of s.pieces (ino_of s key)))) none)
      where
        none : length (pieces_of s.pieces (ino_of s key)) - count ≡ 0
        none = omega (arith, count_is)

    by : (b : Bool) → inline_in s key ≡ b → HoldsBy b (items_of key s.items) (size_in s key) None block → HasAddedExtents s key file old old
    by true is never = absurd never
    by false is has = record { items = []; added = sym (append-nil old); are = extents_by s key false is ∙ sym whole }

-- the stream of the file tree begins with all objects
pub tree_begins : (s : Source) (pieces : List Piece) → file_ahead (record { ino = 0; left = 0 }) pieces ++ flat_map (object_items s) (by_inode s.keys) ≡ fs_tree_items s
unfolding fs_tree_items
tree_begins s pieces = ap (λ (l : List Item). l ++ flat_map (object_items s) (by_inode s.keys)) (ap (extents_at 0 file_block) (none_left (pieces_of pieces 0) (length (pieces_of pieces 0) - 0) (omega arith)))

-- that of the saved image with its head
pub image_is : (blocks nbytes now : ℕ) (pieces : List Piece) (datasum : Bool) (head : List Item) → head ≡ image_head blocks nbytes datasum now → nbytes ≡ piece_bytes (pieces_of_volume pieces)
    → head ++ extents_at 257 source_block (pieces_of_volume pieces) ≡ image_items blocks pieces datasum now
unfolding image_items
image_is blocks nbytes now pieces datasum head head_is bytes_is =
    ap (λ (l : List Item). l ++ extents_at 257 source_block (pieces_of_volume pieces)) (head_is ∙ ap (λ (n : ℕ). image_head blocks n datasum now) bytes_is)
