-- The uses of data that a recount of a converted volume finds are those of the pieces.
use Rattle.convert_core_laws.proofs.Imports.{◌≡◌, ◌≤◌, ◌<◌, ℕ, ◌+◌, ◌-◌, ◌*◌, ◌%◌, ◌^◌, inl, eqb, Bool, true, false, List, [], ◌∷◌, length, filter, Option, Some, refl, sym, ap, subst, ◌∙◌, ⊎_elim, arith, Contains, MatchOption, if◌then◌else◌, AllByRecursion, and_from, cases_lt, eq-eqb, ne_eqb, EXTENT_DATA, CONV_IMAGE_SUBVOL, FS_TREE, from_flat_map, from_map, in_filter, in_flat_map, keys, Image, file_extent_bytes, file_extent_of, Item, DataUse, TreeOn, use_in, uses_in, IsMaking, Making, HasPieces, made_from, file_tree_items, well, piece_apart, all_at, numbered, extents_at, file_block, is_owned_by, pieces_of, Source, file_extent_items, inline_in, ino_of, size_in, fs_tree_items, length_bytes, extent_item, inline_extent, regular_extent, file_byte, target_bytes, contains_cases, ObjectKey, items_of, IsNamed, used_of, volume_items, used_few, Piece}
use Rattle.convert_core_laws.proofs.Holding.{StaysInTree, stays}
use Rattle.convert_core_laws.proofs.Owned.{any_extents}
use Rattle.convert_core_laws.proofs.Pieces.{all_of_inode}
use Rattle.convert_core_laws.proofs.ByteReading.{inline_read, is_extent, regular_read}
use Rattle.convert_core_laws.proofs.Sound.{owner_is}

-- a tree's use of a piece, from a block of a file on
abbrev pub use_at : ℕ → ℕ → ℕ → Piece → DataUse
use_at tree inode block p = record {
  start = 4096 * p.place;
  length = 4096 * p.count;
  tree = tree;
  inode = inode;
  offset = 4096 * block;
  part = 0;
  part_length = 4096 * p.count;
  compression = 0;
  written = true;
}

-- a use is that of a piece, by a file of tree 5 that owns it, or by the saved image
pub data IsUse (m : Making) (u : DataUse) : Type 0 where
  by_file : (p : Piece) (inode block : ℕ) → Contains m.pieces p → p.owner ≡ Some (inode, block) → u ≡ use_at FS_TREE inode block p → IsUse m u
  by_image : (p : Piece) (block : ℕ) → Contains m.pieces p → p.from ≡ Some block → u ≡ use_at CONV_IMAGE_SUBVOL 257 block p → IsUse m u

-- ---- the uses of a tree are those of its file extents

pub uses_from : (t : TreeOn) (u : DataUse) → Contains (uses_in t) u → (i : Item) × Contains t.items i × (eqb i.0.kind EXTENT_DATA ≡ true) × Contains (use_in t.number i (file_extent_of i.1)) u
uses_from t u h =
    let at = from_flat_map (λ (i : Item). if eqb i.0.kind EXTENT_DATA then use_in t.number i (file_extent_of i.1) else []) t.items u h in
    let parts = by (eqb at.0.0.kind EXTENT_DATA) (use_in t.number at.0 (file_extent_of at.0.1)) at.2 in
    (at.0, at.1, parts.0, parts.1)
  where
    by : (b : Bool) (us : List DataUse) → Contains (if b then us else []) u → (b ≡ true) × Contains us u
    by true us k = (refl, k)
    by false us k = absurd (omega (arith, k.1))

pub uses_of : (t : TreeOn) (u : DataUse) (i : Item) → Contains t.items i → eqb i.0.kind EXTENT_DATA ≡ true → Contains (use_in t.number i (file_extent_of i.1)) u → Contains (uses_in t) u
uses_of t u i h is k =
    in_flat_map (λ (j : Item). if eqb j.0.kind EXTENT_DATA then use_in t.number j (file_extent_of j.1) else []) t.items i u h
    (by (eqb i.0.kind EXTENT_DATA) (use_in t.number i (file_extent_of i.1)) is k)
  where
    by : (b : Bool) (us : List DataUse) → b ≡ true → Contains us u → Contains (if b then us else []) u
    by true us t k = k
    by false us t k = absurd (cc t)

-- ---- what one extent tells

module _ (image : Image) (m : Making) (made : IsMaking image m) where
  abbrev of : HasPieces m.volume image m.options m.plan m.pieces
  of = made.has_pieces

  pub record IsSmall (p : Piece) : Type 0 where
    pub some : 1 ≤ p.count
    pub high : 256 ≤ p.place
    pub end : p.place + p.count ≤ 2 ^ 29

  pub piece_small : (p : Piece) → Contains m.pieces p → IsSmall p
  piece_small p h =
      let some : 1 ≤ p.count = all_at (λ (q : Piece). 1 ≤ q.count) m.pieces p (well m.volume image m.options m.plan m.pieces of).apart.some h in
      let inside : p.place + p.count ≤ length (used_of image) = all_at (λ (q : Piece). q.place + q.count ≤ length (used_of image)) m.pieces p (well m.volume image m.options m.plan m.pieces of).apart.inside h in
      let few = used_few image m made in
      record {
        some = some;
        high =
            ⊎_elim (λ (low : p.place < 256). absurd (piece_apart m.volume image m.options m.plan m.pieces of p h p.place (omega arith) (omega (arith, some)) (inl low)))
            (λ (high : 256 ≤ p.place). high) (cases_lt p.place 256);
        end = omega (arith, inside, few);
      }

  -- an extent of a piece is one use of it
  pub piece_use : (tree inode block : ℕ) (p : Piece) → Contains m.pieces p → 4096 * block < 2 ^ 64
      → use_in tree (extent_item inode block (regular_extent p.place p.count)) (file_extent_of (file_extent_bytes (regular_extent p.place p.count))) ≡ use_at tree inode block p ∷ []
  piece_use tree inode block p h low =
      let is = piece_small p h in
      let end = is.end in
      let high = is.high in
      let no_hole : eqb (4096 * p.place) 0 ≡ false = ne_eqb (4096 * p.place) 0 (λ e. omega (arith, e, high)) in
      let offset : (4096 * block + (2 ^ 64 - 0)) % 2 ^ 64 ≡ 4096 * block = omega (arith, low) in
      ap (use_in tree (extent_item inode block (regular_extent p.place p.count))) (regular_read p.place p.count (omega (arith, end)) (omega (arith, end)))
      ∙ (ap (λ (b : Bool). if b then [] else by ((4096 * block + (2 ^ 64 - 0)) % 2 ^ 64) ∷ []) no_hole
      ∙ ap (λ (n : ℕ). by n ∷ []) offset)
    where
      by : ℕ → DataUse
      by n = record { start = 4096 * p.place; length = 4096 * p.count; tree = tree; inode = inode; offset = n; part = 0; part_length = 4096 * p.count; compression = 0; written = true }

  -- ---- the file tree

  abbrev s : Source
  s = made_from m.volume image m.options m.pieces

  is_owned : (inode : ℕ) (p : Piece) → Contains (pieces_of m.pieces inode) p → Contains m.pieces p × (is_owned_by inode p ≡ true)
  is_owned inode p h =
      each_of (pieces_of m.pieces inode) p (all_of_inode (λ q. Contains m.pieces q × (is_owned_by inode q ≡ true)) m.pieces inode (λ q k t. (k, t))) h
    where
      each_of : (xs : List Piece) (q : Piece) → AllByRecursion (λ y. Contains m.pieces y × (is_owned_by inode y ≡ true)) xs → Contains xs q → Contains m.pieces q × (is_owned_by inode q ≡ true)
      each_of [] q all k = absurd (omega (arith, k.1))
      each_of (x ∷ xs) q all k =
          ⊎_elim (λ (same : x ≡ q). subst (λ (y : Piece). Contains m.pieces y × (is_owned_by inode y ≡ true)) same all.0) (λ (later : Contains xs q). each_of xs q all.1 later) (contains_cases q x xs k)

  pub owner_low : (p : Piece) (inode : ℕ) → Contains m.pieces p → p.owner ≡ Some (inode, file_block p) → file_block p + p.count ≤ 2 ^ 32
  owner_low p inode h own =
      let bound : MatchOption p.owner (Unit {0}) (λ w. w.1 + p.count ≤ 2 ^ 32) = all_at (λ (r : Piece). MatchOption r.owner (Unit {0}) (λ w. w.1 + r.count ≤ 2 ^ 32)) m.pieces p (well m.volume image m.options m.plan m.pieces of).apart.owners h in
      subst (λ (w : Option (ℕ × ℕ)). MatchOption w (Unit {0}) (λ x. x.1 + p.count ≤ 2 ^ 32)) own bound

  -- a file extent that tells a use is that of a piece, by a file that owns it
  abbrev pub IsOfPiece : Item → Type 0
  IsOfPiece i = (p : Piece) × (inode : ℕ) × Contains m.pieces p × (p.owner ≡ Some (inode, file_block p)) × (extent_item inode (file_block p) (regular_extent p.place p.count) ≡ i)

  object_piece : (key : ObjectKey) (i : Item) (u : DataUse) → Contains s.keys key → Contains (file_extent_items s key) i → Contains (use_in FS_TREE i (file_extent_of i.1)) u → IsOfPiece i
  unfolding file_extent_items
  object_piece key i u among h k = by (inline_in s key) refl h
    where
      is_named : IsNamed (volume_items image) key
      is_named = (of.opened.are_keys.exact key).0 among

      bytes : List ℕ
      bytes = target_bytes (items_of key s.items) (size_in s key)

      by : (b : Bool) → inline_in s key ≡ b
          → Contains (if b then extent_item (ino_of s key) 0 (inline_extent (target_bytes (items_of key s.items) (size_in s key))) ∷ [] else extents_at (ino_of s key) file_block (pieces_of s.pieces (ino_of s key))) i → IsOfPiece i
      by true is there =
          let st : StaysInTree image of.accepted key is_named = stays image of.accepted key is_named m.options.inline is in
          let short = st.short in
          let long : length bytes ≡ size_in s key = ap length st.bytes ∙ length_bytes (size_in s key) (file_byte image (items_of key s.items)) 0 in
          let same : extent_item (ino_of s key) 0 (inline_extent bytes) ≡ i =
          ⊎_elim (λ (e : extent_item (ino_of s key) 0 (inline_extent bytes) ≡ i). e) (λ (none : Contains [] i). absurd (omega (arith, none.1))) (contains_cases i (extent_item (ino_of s key) 0 (inline_extent bytes)) [] there) in
          let told : use_in FS_TREE (extent_item (ino_of s key) 0 (inline_extent bytes)) (file_extent_of (file_extent_bytes (inline_extent bytes))) ≡ [] =
          ap (use_in FS_TREE (extent_item (ino_of s key) 0 (inline_extent bytes))) (inline_read bytes (omega (arith, long, short))) in
          let none : Contains [] u = subst (λ (l : List DataUse). Contains l u) told (subst (λ (j : Item). Contains (use_in FS_TREE j (file_extent_of j.1)) u) (sym same) k) in
          absurd (omega (arith, none.1))
      by false is there =
          let at = from_map (λ (p : Piece). extent_item (ino_of s key) (file_block p) (regular_extent p.place p.count)) (pieces_of m.pieces (ino_of s key)) i there in
          let owned = is_owned (ino_of s key) at.0 at.1 in
          (at.0, ino_of s key, owned.0, owner_is (ino_of s key) at.0 owned.1, at.2)

  pub file_piece : (i : Item) (u : DataUse) → Contains (file_tree_items image m) i → eqb i.0.kind EXTENT_DATA ≡ true → Contains (use_in FS_TREE i (file_extent_of i.1)) u → IsOfPiece i
  file_piece i u h is k =
      let at = numbered image (keys m.volume.named) (record { accepted = of.accepted; are_keys = of.opened.are_keys; ascend = of.opened.ascends }) in
      let ino : ℕ = i.0.objectid in
      let there : Contains (filter (is_extent ino) (fs_tree_items s)) i = in_filter (is_extent ino) (fs_tree_items s) i h (and_from (eqb ino ino) (eqb i.0.kind EXTENT_DATA) (eq-eqb ino ino refl) is) in
      ⊎_elim
      (λ of_key. object_piece of_key.0 i u of_key.1 (subst (λ (l : List Item). Contains l i) of_key.3 there) k)
      (λ (none : filter (is_extent ino) (fs_tree_items s) ≡ []). let empty : Contains [] i = subst (λ (l : List Item). Contains l i) none there in absurd (omega (arith, empty.1)))
      (any_extents s at.0 at.1 ino)

  pub file_uses : (i : Item) (u : DataUse) → Contains (file_tree_items image m) i → eqb i.0.kind EXTENT_DATA ≡ true → Contains (use_in FS_TREE i (file_extent_of i.1)) u → IsUse m u
  file_uses i u h is k =
      let at = file_piece i u h is k in
      let p : Piece = at.0 in
      let inode : ℕ = at.1 in
      let low = owner_low p inode at.2 at.3 in
      let told = piece_use FS_TREE inode (file_block p) p at.2 (omega (arith, low)) in
      let one : Contains (use_at FS_TREE inode (file_block p) p ∷ []) u =
      subst (λ (l : List DataUse). Contains l u) told (subst (λ (j : Item). Contains (use_in FS_TREE j (file_extent_of j.1)) u) (sym at.4) k) in
      ⊎_elim (λ (e : use_at FS_TREE inode (file_block p) p ≡ u). by_file p inode (file_block p) at.2 at.3 (sym e))
      (λ (none : Contains [] u). absurd (omega (arith, none.1))) (contains_cases u (use_at FS_TREE inode (file_block p) p) [] one)
