-- The blocks of a file are in place.
use Rattle.convert_core_laws.proofs.Imports.{◌≡◌, ◌≤◌, ◌<◌, ℕ, ◌+◌, ◌-◌, ◌*◌, ◌==◌, ◌&&◌, nat_le, nat_lt, Bool, true, false, List, [], ◌∷◌, length, map, filter, Option, Some, None, refl, sym, ap, subst, ◌∙◌, arith, Contains, unwrap_or, AllByRecursion, option_map_or, and_parts, leb-true, nat_tests, keys, Image, IsReserved, is_reserved, extents_of, Item, TreeItem, bare_item, MapRange, IsMaking, Making, HasExtents, HasPieces, HoldFiles, ComesFrom, in_piece, made_from, file_tree_items, GivesItsOwn, FileAt, file_at, AreSortedKeys, HoldsBlock, all_at, numbered, reserved_no, extents_at, file_block, is_owned_by, pieces_of, Source, file_extent_items, inline_in, kind_in, ino_of, size_in, FilesAreHeld, has_bytes, Kind, File, extent_item, inline_extent, target_bytes, block_from, file_runs, RunFrom, Disk, Tail, items_of, ObjectKey, ObjectStat, used_length, stays_in_tree, is_tail, kind_by, no_stat, stat_at, superblock, used_of, volume_items, ReiserItem, HasSamePaths, Piece, AreBlocksInPlace, byte_place}
use Rattle.std.proofs.Common.{if◌then◌else◌}
use Rattle.convert_core.proofs.extent_pieces.Telling.{RunLies, runs_lie}
use Rattle.reiser_volume.specs.reiser_volume_files.declared.map.FileRun.{FileRun}
use Rattle.reiser_volume.proofs.Mapping.{maps_tell_owned}
use Rattle.reiser_volume.specs.Owners.{Owns, TellsOwned}
use Rattle.convert_core_laws.proofs.going_back.Staying.{stays}
use Rattle.convert_core_laws.proofs.Owned.{extents_found}
use Rattle.convert_core_laws.proofs.Pieces.{all_of_inode, covers_byte, one_of_inode}
use Rattle.convert_core_laws.proofs.ByteReading.{is_extent}
use Rattle.convert_core_laws.proofs.Sound.{owner_is}
use Rattle.convert_core_laws.proofs.placement.Extents.{bare_place, item_place, piece_at, piece_place, read_places}

-- ---- small facts

never : (b : Bool) → b ≡ true → b ≡ false → ⊥
never b on off = absurd (cc)

same_from : (a b : RunFrom) → Some a ≡ Some b → a ≡ b
same_from a b is = cc

-- what lies on the disk in a piece lies in a block that the piece holds
on_disk : (from : Option ℕ) (i b : ℕ) → option_map_or (λ (a : ℕ). Disk (a + i)) from Tail ≡ Disk b → (first : ℕ) × (from ≡ Some first) × (first + i ≡ b)
on_disk None i b is = absurd (cc)
on_disk (Some first) i b is = (first, refl, cc)

cover_parts : (a c n : ℕ) → (nat_le (4096 * a) n && nat_lt n (4096 * a + 4096 * c)) ≡ true → (4096 * a ≤ n) × (n < 4096 * (a + c))
cover_parts a c n t = let low : 4096 * a ≤ n = grind (arith, nat_tests) in let high : n < 4096 * a + 4096 * c = grind (arith, nat_tests) in (low, omega (arith, high))

cover_from : (a c n : ℕ) → 4096 * a ≤ n → n < 4096 * a + 4096 * c → (nat_le (4096 * a) n && nat_lt n (4096 * a + 4096 * c)) ≡ true
cover_from a c n low high = both n (4096 * a) (4096 * a + 4096 * c) low high
  where
    both : (n x y : ℕ) → x ≤ n → n < y → (nat_le x n && nat_lt n y) ≡ true
    both n x y from to = grind (arith, nat_tests)

self : (n : ℕ) → (n == n) ≡ true
self n = grind (arith, nat_tests)

module _ (image : Image) (m : Making) (made : IsMaking image m) (held : FilesAreHeld) where
  abbrev of : HasPieces m.volume image m.options m.plan m.pieces
  of = made.has_pieces

  abbrev s : Source
  s = made_from m.volume image m.options m.pieces

  files : HoldFiles s
  files = held m.volume image m.options m.plan m.pieces of

  sorted : AreSortedKeys image (keys m.volume.named)
  sorted = record { accepted = of.accepted; are_keys = of.opened.are_keys; ascend = of.opened.ascends }

  module _ (key : ObjectKey) (k b : ℕ) (owns : Owns image key k b) where
    abbrev ino : ℕ
    ino = ino_of s key

    among_keys : Contains (keys m.volume.named) key
    among_keys = (of.opened.are_keys.exact key).1 owns.named

    -- the block is that of file block k
    lies : ComesFrom s key k (Disk b)
    lies =
        let f : FileAt = file_at (volume_items image) (keys m.volume.named) key in
        let runs : List FileRun = file_runs (items_of key (volume_items image)) (stat_at (volume_items image) key).fields.size in
        let tells : TellsOwned image key runs = maps_tell_owned image of.accepted key owns.named in
        let found = tells.whole k b owns in
        let r : FileRun = found.0 in
        let first : ℕ = found.1 in
        let low : r.at ≤ k = found.4 in
        let at : ComesFrom s key (r.at + (k - r.at)) (Disk (first + (k - r.at))) = (all_at (RunLies f) runs r (runs_lie f) found.2).lies first (k - r.at) found.3 (omega (arith, found.5)) in
        subst (λ (c : ℕ). ComesFrom s key k (Disk c)) (sym found.6) (subst (λ (j : ℕ). ComesFrom s key j (Disk (first + (k - r.at)))) (let e : r.at + (k - r.at) ≡ k = omega arith in e) at)

    file : kind_in s key ≡ File
    file = ap kind_by (ap (λ (o : Option ObjectStat). unwrap_or o no_stat) owns.has_stat) ∙ ap (λ (o : Option Kind). unwrap_or o File) owns.file

    below : 4096 * k < size_in s key
    below = subst (λ (t : ObjectStat). 4096 * k < t.fields.size) (sym (ap (λ (o : Option ObjectStat). unwrap_or o no_stat) owns.has_stat)) owns.below

    -- a file that owns a block has extents
    not_inline : inline_in s key ≡ false
    not_inline = by (inline_in s key) refl
      where
        by : (t : Bool) → inline_in s key ≡ t → t ≡ false
        by false is = refl
        by true is =
            let items : List ReiserItem = items_of key s.items in
            let size : ℕ = size_in s key in
            let small = and_parts s.inline (nat_le size 2048 && is_tail (block_from items size 0)) (sym (ap (stays_in_tree s.inline items size) file) ∙ is) in
            let tail = and_parts (nat_le size 2048) (is_tail (block_from items size 0)) small.1 in
            let short = leb-true size 2048 tail.0 in
            let first : k ≡ 0 = (let low = below in omega (arith, low, short)) in
            let disk : is_tail (block_from items size 0) ≡ false = ap is_tail (subst (λ (n : ℕ). ComesFrom s key n (Disk b)) first lies) in
            absurd (never (is_tail (block_from items size 0)) tail.1 disk)

    extents : HasExtents s key
    extents = record { named = among_keys; file = file; not_inline = not_inline }

    module _ (paths : (a c : ObjectKey) → Contains s.keys a → Contains s.keys c → ino_of s a ≡ ino_of s c → a ≡ c)
        (free : ¬ IsReserved b (superblock image).blocks) (ranges : List MapRange) (own : GivesItsOwn m ranges) (j : ℕ) (inside : j < 4096) where
      abbrev n : ℕ
      n = 4096 * k + j

      unreserved : is_reserved b (length (used_of image)) ≡ false
      unreserved = reserved_no b (length (used_of image)) (λ at. free (subst (λ (count : ℕ). IsReserved b count) (used_length image) at))

      -- a piece of the file in which the byte lies has it in the same block
      gives : (q : Piece) → Contains m.pieces q → is_owned_by ino q ≡ true → covers_byte q n ≡ true → piece_place ranges q n ≡ Some (4096 * b + j)
      gives q among owned in_it =
          let parts = cover_parts (file_block q) q.count n in_it in
          let low = parts.0 in
          let high = parts.1 in
          let i : ℕ = k - file_block q in
          let few : i < q.count = omega (arith, low, high, inside) in
          let at : file_block q + i ≡ k = omega (arith, low, inside) in
          let whose = files.each q ino (file_block q) among (owner_is ino q owned) in
          let same : whose.0 ≡ key = paths whose.0 key whose.1.named among_keys whose.2 in
          let there : ComesFrom s key (file_block q + i) (in_piece q i) = subst (λ (x : ObjectKey). ComesFrom s x (file_block q + i) (in_piece q i)) same (whose.3 i few) in
          let disk : in_piece q i ≡ Disk b = same_from (in_piece q i) (Disk b) (sym there ∙ (ap (block_from (items_of key s.items) (size_in s key)) at ∙ lies)) in
          let from = on_disk q.from i b disk in
          let block = from.2 in
          let holds : HoldsBlock b q = (from.0, from.1, omega (arith, block), omega (arith, block, few)) in
          let stay : q.from ≡ Some q.place = stays image m made q b among holds unreserved in
          let first : from.0 ≡ q.place = same_number from.0 q.place (sym from.1 ∙ stay) in
          let byte : 4096 * q.place + (n - 4096 * file_block q) ≡ 4096 * b + j = omega (arith, first, block, at, low) in
          piece_at image m made ranges own q n among low high ∙ ap (λ (x : ℕ). let o : Option ℕ = Some x in o) byte
        where
          same_number : (x y : ℕ) → Some x ≡ Some y → x ≡ y
          same_number x y is = cc

      -- and it lies in one
      some : ¬ AllByRecursion (λ q. covers_byte q n ≡ false) (pieces_of m.pieces ino)
      some none =
          let w = files.whole key k (Disk b) extents lies in
          let q : Piece = w.0 in
          let owner : q.owner ≡ Some (ino, w.1) = w.3 in
          let block : file_block q ≡ w.1 = ap (λ (x : Option (ℕ × ℕ)). option_map_or (λ y. y.1) x 0) owner in
          let owned : is_owned_by ino q ≡ true = ap (λ (x : Option (ℕ × ℕ)). option_map_or (λ y. y.0 == ino) x false) owner ∙ self ino in
          let low = w.4 in
          let high = w.5 in
          let out : covers_byte q n ≡ false = one_of_inode (λ p. covers_byte p n ≡ false) m.pieces ino q none w.2 owned in
          never (covers_byte q n) (cover_from (file_block q) q.count n (omega (arith, block, low)) (omega (arith, block, high, inside))) out

      extents_place : item_place ranges (file_extent_items s key) n ≡ Some (4096 * b + j)
      unfolding file_extent_items
      extents_place =
          ap (λ (t : Bool). item_place ranges (if t then extent_item ino 0 (inline_extent (target_bytes (items_of key s.items) (size_in s key))) ∷ [] else extents_at ino file_block (pieces_of m.pieces ino)) n) not_inline
          ∙ read_places image m made ranges ino n (Some (4096 * b + j)) (pieces_of m.pieces ino) (all_of_inode (Contains m.pieces) m.pieces ino (λ q among owned. among))
          (all_of_inode (λ q. covers_byte q n ≡ true → piece_place ranges q n ≡ Some (4096 * b + j)) m.pieces ino gives) some

      pub byte_in_place : (items : List TreeItem) → map bare_item items ≡ file_tree_items image m → byte_place ranges (extents_of items ino) n ≡ Some (4096 * b + j)
      byte_in_place items are =
          let at = numbered image (keys m.volume.named) sorted in
          bare_place ranges items ino n
          ∙ (ap (λ (l : List Item). item_place ranges (filter (is_extent ino) l) n) are
          ∙ (ap (λ (l : List Item). item_place ranges l n) (extents_found s at.0 at.1 key among_keys (ap has_bytes file)) ∙ extents_place))

pub blocks_in_place : FilesAreHeld → (image : Image) (m : Making) (made : IsMaking image m) (ranges : List MapRange) → GivesItsOwn m ranges → (items : List TreeItem) → map bare_item items ≡ file_tree_items image m
    → HasSamePaths (made_from m.volume image m.options m.pieces) items → (key : ObjectKey) → AreBlocksInPlace image key ranges (extents_of items (ino_of (made_from m.volume image m.options m.pieces) key))
blocks_in_place held image m made ranges own items are paths key = λ k b j owns free inside. byte_in_place image m made held key k b owns paths.apart free ranges own j inside items are
