-- The bytes of a named file or symlink are those that the volume had.
use Rattle.convert_core_laws.proofs.Imports.{◌≡◌, ◌≢◌, ◌≤◌, ◌<◌, ℕ, ◌+◌, ◌-◌, ◌*◌, ◌/◌, ◌%◌, ◌^◌, ◌==◌, ◌&&◌, nat_le, nat_lt, inl, Bool, true, false, List, [], ◌∷◌, length, map, filter, get_or, Option, Some, None, refl, sym, ap, subst, ◌∙◌, ⊎_elim, arith, Contains, MatchOption, AllByRecursion, range_with_len, option_map_or, cases_lt, nat_tests, get_or-replicate, keys, Image, block_at, extents_of, Item, bare_item, MapRange, HasExtents, HasPieces, HoldFiles, ComesFrom, in_piece, made_from, can_move, well, piece_apart, AreSortedKeys, all_at, numbered, inodes_apart, two_cases, extents_at, file_block, is_owned_by, pieces_of, Source, file_extent_items, inline_in, kind_in, ino_of, size_in, fs_tree_items, FilesAreHeld, has_bytes, File, byte_at, length_bytes, same_bytes, extent_item, inline_extent, RunFrom, Disk, Tail, file_byte, tail_block, target_bytes, held_from, block_from, ino_of_key, ObjectKey, items_of, IsNamed, used_of, volume_items, Volume, accepted_is_small, used_length, ReiserItem, Options, Piece, Plan, BytesAreKept, MapsPieces, PiecesStand, ExtentsKeepRules}
use Rattle.std.proofs.Common.{if◌then◌else◌}
use Rattle.btr_reader.specs.btr_reader_contents.Extents.{file_byte as byte_on}
use Rattle.convert_core.specs.convert_steps.Moved.{HoldMoved}
use Rattle.reiser_volume.specs.fs_rows.Bytes.{bytes_by}
use Rattle.convert_core_laws.proofs.Holding.{StaysInTree, held_byte, other_is_file, stays, up_to_byte}
use Rattle.convert_core_laws.proofs.Owned.{any_extents, extents_found}
use Rattle.convert_core_laws.proofs.Pieces.{Fits, all_of_inode, covers_byte, one_of_inode, piece_byte, placed_byte, read_pieces}
use Rattle.convert_core_laws.proofs.Sound.{AreSound, IsWell, all_follow, bare_extents, inline_sound, no_refusals, owner_is, pieces_sound}
use Rattle.convert_core_laws.proofs.ByteReading.{bare_byte, byte_by, inline_read, is_extent, item_byte}

-- ---- two ways to say that pieces stand

pub pieces_stand : PiecesStand
pieces_stand volume image other o pieces ranges = (
  λ s. (λ p among. record { blocks = λ b j from few. s.blocks p b j among from few; tail = λ key k none named owner. s.tails p key k among none named owner }, record { places = s.mapped }),
  λ both. record {
    blocks = λ p b j among from few. (both.0 p among).blocks b j from few;
    tails = λ p key k among none named owner. (both.0 p among).tail key k none named owner;
    mapped = both.1.places;
  },
)

-- ---- bytes by a function

mapped_bytes : (f : ℕ → ℕ) (n : ℕ) → map f (range_with_len 0 n) ≡ bytes_by n f 0
unfolding bytes_by
mapped_bytes f n = λ i. map (λ k. f (plus k i)) (range_with_len 0 n)
  where
    plus : (k : ℕ) → k ≡ 0 + k
    plus k = omega arith

zero_read : (f : ℕ → ℕ) (k : ℕ) → f (0 + k) ≡ f k
zero_read f k = ap f (omega arith)

-- ---- a file whose bytes stay in the tree

inline_byte : (other : Image) (ranges : List MapRange) (ino k : ℕ) (bytes : List ℕ) → length bytes < 2 ^ 64 → k < length bytes → item_byte other ranges (extent_item ino 0 (inline_extent bytes) ∷ []) k ≡ get_or bytes k 0
inline_byte other ranges ino k bytes few below =
    ap (λ e. byte_by other ranges (4096 * 0) e k 0) (inline_read bytes few)
    ∙ (ap (λ (b : Bool). if b then get_or bytes (k - 4096 * 0) 0 else 0) (inside (length bytes) below) ∙ ap (λ (j : ℕ). get_or bytes j 0) (let e : k - 4096 * 0 ≡ k = omega arith in e))
  where
    inside : (n : ℕ) → k < n → (nat_le (4096 * 0) k && nat_lt k (4096 * 0 + n)) ≡ true
    inside n less = grind (arith, nat_tests)

module _ (volume : Volume) (image : Image) (o : Options) (plan : Plan) (pieces : List Piece) (ranges : List MapRange) (has : HasPieces volume image o plan pieces)
    (maps : MapsPieces pieces ranges) (files : HoldFiles (made_from volume image o pieces)) where
  abbrev s : Source
  s = made_from volume image o pieces

  sorted : AreSortedKeys image (keys volume.named)
  sorted = record { accepted = has.accepted; are_keys = has.opened.are_keys; ascend = has.opened.ascends }

  -- ---- pieces

  blocks_few : length (used_of image) ≤ 2 ^ 29
  blocks_few = let long = used_length image in let few = (accepted_is_small image has.accepted).blocks in omega (arith, long, few)

  place_high : (p : Piece) → Contains pieces p → 0 < p.count → 256 ≤ p.place
  place_high p among some =
      ⊎_elim (λ (low : p.place < 256). absurd (piece_apart volume image o plan pieces has p among p.place (omega arith) (omega (arith, some)) (inl low))) (λ (high : 256 ≤ p.place). high) (cases_lt p.place 256)

  fits : (p : Piece) → Contains pieces p → Fits p
  fits p among =
      let inside : p.place + p.count ≤ length (used_of image) = all_at (λ q. q.place + q.count ≤ length (used_of image)) pieces p (well volume image o plan pieces has).apart.inside among in
      let few = blocks_few in
      record { low = omega (arith, inside, few); few = omega (arith, inside, few) }

  one_block : (p : Piece) → Contains pieces p → p.from ≡ None → p.count ≡ 1
  one_block p among none = all_at (λ q. q.from ≢ Some q.place → q.count ≡ 1) pieces p (can_move volume image o plan pieces has).single among (λ is. no_block p.place (sym none ∙ is))
    where
      no_block : (b : ℕ) → (let x : Option ℕ = None in x) ≡ Some b → ⊥
      no_block b is = absurd (cc)

  -- ---- keys by their inodes

  one_key : (a b : ObjectKey) → Contains s.keys a → Contains s.keys b → ino_of s a ≡ ino_of s b → a ≡ b
  one_key a b in_a in_b same =
      let at = numbered image (keys volume.named) sorted in
      ⊎_elim (λ is. is) (λ apart. ⊎_elim (λ one. absurd (one same)) (λ second. absurd (second (sym same))) apart)
      (two_cases (λ x y. ino_of_key s.keys x ≢ ino_of_key s.keys y) s.keys a b (inodes_apart s.keys at.0 at.1) in_a in_b)

  module _ (key : ObjectKey) (among_keys : Contains s.keys key) where
    abbrev items : List ReiserItem
    items = items_of key s.items

    abbrev size : ℕ
    size = size_in s key

    abbrev ino : ℕ
    ino = ino_of s key

    is_named : IsNamed (volume_items image) key
    is_named = (has.opened.are_keys.exact key).0 among_keys

    -- byte n by where its block lies
    abbrev wanted : ℕ → ℕ
    wanted n = get_or (held_from image items size (n / 4096) (block_from items size (n / 4096))) (n % 4096) 0

    -- ---- bytes in pieces

    owned_test : (p : Piece) (k : ℕ) → p.owner ≡ Some (ino, k) → is_owned_by ino p ≡ true
    owned_test p k own = ap (λ (w : Option (ℕ × ℕ)). option_map_or (λ x. x.0 == ino) w false) own ∙ self ino
      where
        self : (m : ℕ) → (m == m) ≡ true
        self m = grind (arith, nat_tests)

    cover_parts : (a c n : ℕ) → (nat_le (4096 * a) n && nat_lt n (4096 * a + 4096 * c)) ≡ true → (4096 * a ≤ n) × (n < 4096 * (a + c))
    cover_parts a c n t = let low : 4096 * a ≤ n = grind (arith, nat_tests) in let high : n < 4096 * a + 4096 * c = grind (arith, nat_tests) in (low, omega (arith, high))

    cover_from : (a c n : ℕ) → a ≤ n / 4096 → n / 4096 < a + c → (nat_le (4096 * a) n && nat_lt n (4096 * a + 4096 * c)) ≡ true
    cover_from a c n low high = let from : 4096 * a ≤ n = omega (arith, low) in let to : n < 4096 * a + 4096 * c = omega (arith, high) in both n (4096 * a) (4096 * a + 4096 * c) from to
      where
        both : (n x y : ℕ) → x ≤ n → n < y → (nat_le x n && nat_lt n y) ≡ true
        both n x y from to = grind (arith, nat_tests)

    -- ---- the rules of extents

    well_made : (p : Piece) → Contains pieces p → is_owned_by ino p ≡ true → IsWell ranges p
    well_made p among owned =
        let own = owner_is ino p owned in
        let some : 1 ≤ p.count = all_at (λ q. 1 ≤ q.count) pieces p (well volume image o plan pieces has).apart.some among in
        let bound : MatchOption p.owner (Unit {0}) (λ w. w.1 + p.count ≤ 2 ^ 32) = all_at (λ (r : Piece). MatchOption r.owner (Unit {0}) (λ w. w.1 + r.count ≤ 2 ^ 32)) pieces p (well volume image o plan pieces has).apart.owners among in
        record {
          fits = fits p among;
          high = place_high p among (omega (arith, some));
          short = subst (λ (w : Option (ℕ × ℕ)). MatchOption w (Unit {0}) (λ x. x.1 + p.count ≤ 2 ^ 32)) own bound;
          mapped = λ a low high. maps.places p a among low high;
        }

    sound : has_bytes (kind_in s key) ≡ true → AreSound ranges 0 0 (file_extent_items s key)
    unfolding file_extent_items
    sound kind = by (inline_in s key) refl
      where
        none_before : (ps : List Piece) → AllByRecursion (λ p. 0 ≤ 4096 * file_block p) ps
        none_before [] = tt
        none_before (p ∷ ps) = (omega arith, none_before ps)

        by : (b : Bool) → inline_in s key ≡ b → AreSound ranges 0 0 (if b then extent_item ino 0 (inline_extent (target_bytes items size)) ∷ [] else extents_at ino file_block (pieces_of pieces ino))
        by true is =
            let st : StaysInTree image has.accepted key is_named = stays image has.accepted key is_named o.inline is in
            let short = st.short in
            let long : length (target_bytes items size) ≡ size = ap length st.bytes ∙ length_bytes size (file_byte image items) 0 in
            inline_sound ranges ino (target_bytes items size) (omega (arith, long, short))
        by false is =
            pieces_sound ranges ino (pieces_of pieces ino) 0 0 (omega arith) (all_of_inode (IsWell ranges) pieces ino well_made)
            (all_follow pieces (λ p among. all_at (λ q. 1 ≤ q.count) pieces p (well volume image o plan pieces has).apart.some among) files.once ino) (none_before (pieces_of pieces ino))

    module _ (other : Image) (hold : HoldMoved volume image other pieces) where
      -- what the blocks of a piece hold
      stands : (p : Piece) (j n : ℕ) → Contains pieces p → p.owner ≡ Some (ino, file_block p) → j < p.count → n / 4096 ≡ file_block p + j → n < size
          → get_or (block_at other (p.place + j)) (n % 4096) 0 ≡ get_or (held_from image items size (n / 4096) (Some (in_piece p j))) (n % 4096) 0
      stands p j n among own inside at below = by p.from refl
        where
          by : (x : Option ℕ) → p.from ≡ x → get_or (block_at other (p.place + j)) (n % 4096) 0 ≡ get_or (held_from image items size (n / 4096) (Some (option_map_or (λ b. Disk (b + j)) p.from Tail))) (n % 4096) 0
          by (Some b) is =
              let k : ℕ = n / 4096 in
              ap (λ (bytes : List ℕ). get_or bytes (n % 4096) 0) ((hold p among).blocks b j is inside)
              ∙ (sym (up_to_byte (block_at image (b + j)) size k (n % 4096) (omega arith) (omega (arith, below)))
              ∙ sym (ap (λ (x : Option ℕ). get_or (held_from image items size k (Some (option_map_or (λ c. Disk (c + j)) x Tail))) (n % 4096) 0) is))
          by None is =
              let k : ℕ = n / 4096 in
              let one = one_block p among is in
              let here : p.place + j ≡ p.place = omega (arith, one, inside) in
              let block : file_block p ≡ k = omega (arith, one, inside, at) in
              ap (λ (b : ℕ). get_or (block_at other b) (n % 4096) 0) here
              ∙ (ap (λ (bytes : List ℕ). get_or bytes (n % 4096) 0) ((hold p among).tail key (file_block p) is among_keys own)
              ∙ (ap (λ (m : ℕ). get_or (tail_block items size m) (n % 4096) 0) block
              ∙ sym (ap (λ (x : Option ℕ). get_or (held_from image items size k (Some (option_map_or (λ c. Disk (c + j)) x Tail))) (n % 4096) 0) is)))

      -- a piece in which the byte lies gives it
      gives : (n : ℕ) → n < size → (p : Piece) → Contains pieces p → is_owned_by ino p ≡ true → covers_byte p n ≡ true → piece_byte other ranges p n ≡ wanted n
      gives n below p among owned in_it =
          let own = owner_is ino p owned in
          let parts = cover_parts (file_block p) p.count n in_it in
          let low = parts.0 in
          let high = parts.1 in
          let j : ℕ = n / 4096 - file_block p in
          let inside : j < p.count = omega (arith, low, high) in
          let at : n / 4096 ≡ file_block p + j = omega (arith, low) in
          let whose = files.each p ino (file_block p) among own in
          let same : whose.0 ≡ key = one_key whose.0 key whose.1.named among_keys whose.2 in
          let lies : block_from items size (file_block p + j) ≡ Some (in_piece p j) = subst (λ (x : ObjectKey). ComesFrom s x (file_block p + j) (in_piece p j)) same (whose.3 j inside) in
          placed_byte other ranges p n (place_high p among (omega (arith, inside))) low high (λ a from to. maps.places p a among from to)
          ∙ (stands p j n among own inside at below
          ∙ ap (λ (from : Option RunFrom). get_or (held_from image items size (n / 4096) from) (n % 4096) 0) (sym (ap (block_from items size) at ∙ lies)))

      -- a block that lies anywhere lies in a piece
      in_none : (n : ℕ) → HasExtents s key → AllByRecursion (λ p. covers_byte p n ≡ false) (pieces_of pieces ino) → wanted n ≡ 0
      in_none n ext none = by (block_from items size (n / 4096)) refl
        where
          never : (b : Bool) → b ≡ true → b ≡ false → ⊥
          never b on off = absurd (cc)

          by : (x : Option RunFrom) → block_from items size (n / 4096) ≡ x → wanted n ≡ 0
          by None is = ap (λ (from : Option RunFrom). get_or (held_from image items size (n / 4096) from) (n % 4096) 0) is ∙ zero_at
            where
              zero_at : get_or (held_from image items size (n / 4096) None) (n % 4096) 0 ≡ 0
              zero_at = get_or-replicate 4096 (n % 4096) 0 0 (omega arith)
          by (Some from) is =
              let w = files.whole key (n / 4096) from ext is in
              let p : Piece = w.0 in
              let own : p.owner ≡ Some (ino, w.1) = w.3 in
              let block : file_block p ≡ w.1 = ap (λ (x : Option (ℕ × ℕ)). option_map_or (λ y. y.1) x 0) own in
              let low = w.4 in
              let high = w.5 in
              let out : covers_byte p n ≡ false = one_of_inode (λ q. covers_byte q n ≡ false) pieces ino p none w.2 (owned_test p w.1 own) in
              absurd (never (covers_byte p n) (cover_from (file_block p) p.count n (omega (arith, block, low)) (omega (arith, block, high))) out)

      extent_byte : (n : ℕ) → HasExtents s key → n < size → item_byte other ranges (extents_at ino file_block (pieces_of pieces ino)) n ≡ wanted n
      extent_byte n ext below =
          read_pieces other ranges ino n (wanted n) (pieces_of pieces ino) (all_of_inode Fits pieces ino (λ p among owned. fits p among))
          (all_of_inode (λ p. covers_byte p n ≡ true → piece_byte other ranges p n ≡ wanted n) pieces ino (λ p among owned. gives n below p among owned)) (in_none n ext)

      -- ---- the extents of the object

      byte_kept : has_bytes (kind_in s key) ≡ true → (n : ℕ) → n < size → item_byte other ranges (file_extent_items s key) n ≡ file_byte image items n
      unfolding file_extent_items
      byte_kept kind n below = by (inline_in s key) refl
        where
          by : (b : Bool) → inline_in s key ≡ b → item_byte other ranges (if b then extent_item ino 0 (inline_extent (target_bytes items size)) ∷ [] else extents_at ino file_block (pieces_of pieces ino)) n ≡ file_byte image items n
          by true is =
              let st : StaysInTree image has.accepted key is_named = stays image has.accepted key is_named o.inline is in
              let short = st.short in
              let long : length (target_bytes items size) ≡ size = ap length st.bytes ∙ length_bytes size (file_byte image items) 0 in
              inline_byte other ranges ino n (target_bytes items size) (omega (arith, long, short)) (omega (arith, long, below))
              ∙ (ap (λ (bytes : List ℕ). get_or bytes n 0) st.bytes ∙ (byte_at size (file_byte image items) 0 n below ∙ zero_read (file_byte image items) n))
          by false is =
              let file : kind_in s key ≡ File = other_is_file image has.accepted key is_named o.inline (kind_in s key) kind is in
              extent_byte n (record { named = among_keys; file = file; not_inline = is }) below ∙ sym (held_byte image has.accepted key is_named n below)

pub bytes_kept : FilesAreHeld → BytesAreKept
bytes_kept held volume image other o plan pieces ranges items key has hold maps read named kind =
    let s : Source = made_from volume image o pieces in
    let at = numbered image (keys volume.named) (record { accepted = has.accepted; are_keys = has.opened.are_keys; ascend = has.opened.ascends }) in
    let size : ℕ = size_in s key in
    let own : List ReiserItem = items_of key s.items in
    mapped_bytes (byte_on other ranges (extents_of items (ino_of s key))) size
    ∙ same_bytes size (byte_on other ranges (extents_of items (ino_of s key))) (file_byte image own) 0 (λ j below.
    let n : ℕ = 0 + j in
    let low : n < size = omega (arith, below) in
    bare_byte other ranges items (ino_of s key) n
    ∙ (ap (λ (l : List Item). item_byte other ranges (filter (is_extent (ino_of s key)) l) n) read
    ∙ (ap (λ (l : List Item). item_byte other ranges l n) (extents_found s at.0 at.1 key named kind)
    ∙ byte_kept volume image o plan pieces ranges has maps (held volume image o plan pieces has) key named other hold kind n low)))

pub extents_kept : FilesAreHeld → ExtentsKeepRules
extents_kept held volume image o plan pieces ranges items ino has maps read =
    let s : Source = made_from volume image o pieces in
    let at = numbered image (keys volume.named) (record { accepted = has.accepted; are_keys = has.opened.are_keys; ascend = has.opened.ascends }) in
    let bare : map bare_item (extents_of items ino) ≡ filter (is_extent ino) (fs_tree_items s) = bare_extents items ino ∙ ap (filter (is_extent ino)) read in
    no_refusals ranges 0 0 (extents_of items ino)
    (⊎_elim
    (λ of. subst (AreSound ranges 0 0) (sym (bare ∙ of.3)) (sound volume image o plan pieces ranges has maps (held volume image o plan pieces has) of.0 of.1 of.2))
    (λ none. subst (AreSound ranges 0 0) (sym (bare ∙ none)) tt)
    (any_extents s at.0 at.1 ino))
