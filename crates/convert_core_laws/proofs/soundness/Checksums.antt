-- The checksums of a converted volume are sound.
use Rattle.convert_core_laws.proofs.Imports.{◌≡◌, ◌≢◌, ◌≤◌, ◌<◌, ℕ, ◌+◌, ◌*◌, ◌/◌, ◌%◌, ◌^◌, Bool, true, false, not, ◌&&◌, List, [], map, take, drop, Option, Some, None, refl, sym, ap, subst, ◌∙◌, ⊎_elim, true≢false, arith, nat_le, nat_lt, get_or, ◌∷◌, All, AllPairs, Contains, if◌then◌else◌, is_some, append-nil, INODE_ITEM, CONV_IMAGE_SUBVOL, FS_TREE, from_flat_map, in_flat_map, from_filter, in_tail, Image, block_at, Ids, inode_bytes, inode_of, make_key, Inode, Item, IsNodeSize, data_kind, range_of, form_of, has_no_sums, IsExtent, some_data, DataUse, Recount, TreeOn, all_trees, data_uses, uses_in, map_of, is_within, span_of as span_of_use, file_trees, is_file_tree, Span, HasBlockSum, IsSumItem, sum_count, IsReadBy, IsSumRight, KeepsCover, KeepsSums, read_span, sum_end, sums_of, place, and_from, and_parts, le-leb, lt-ltb, leb-true, ltb-true, Form, IsMaking, Making, HasPieces, made_from, file_tree_items, image_tree_items, sum_tree_items, TreeRoots, well, blocks_few, NewIdsFit, IsNewVolume, map_for, super_for, SumKind, two_cases, piece_bytes, pieces_of_volume, source_block, Source, inode_in, kind_in, ino_of, FilesAreHeld, InodesAreThere, ImageKeysAscend, File, all_from_contains, ObjectKey, HasBytes, block_sum, sum_items, sums_item, TreeNode, Options, Piece, recount_for, tree_for, ConvertedChecksumsAreSound, Files, SavedImage, each_at, pairs_at, kind_sum, kind_width}
use Rattle.btr_check_rules.specs.Sums.{sum_items as sums_told}
use Rattle.convert_core_laws.proofs.reading.SavedExtents.{AreSources, sources_bytes}
use Rattle.convert_core_laws.proofs.reading.SavedPieces.{are_sources}
use Rattle.convert_core_laws.proofs.soundness.AllUses.{span_of, uses_are}
use Rattle.convert_core_laws.proofs.soundness.Apart.{size_big}
use Rattle.convert_core_laws.proofs.soundness.Recounting.{form_is, nodesize_is, volume_for}
use Rattle.convert_core_laws.proofs.soundness.Unreserved.{fit_size, good, means_itself}
use Rattle.convert_core_laws.proofs.soundness.Used.{file_use, is_data, owned, saved_use}
use Rattle.convert_core_laws.proofs.soundness.Uses.{IsUse, by_file, by_image, use_at}
use Rattle.convert_core_laws.proofs.soundness.Flags.{file_no_sums, file_sums, image_extents_ascend, image_inode, image_inode_reads, image_inode_there, inode_reads, inode_there, same_item}
use Rattle.convert_core_laws.proofs.soundness.Keyed.{all_other, files_rise, saved_rise, uses_tree}
use Rattle.convert_core_laws.proofs.soundness.Runs.{Covers}
use Rattle.convert_core_laws.proofs.soundness.SumItems.{EndsFirst, IsOfPiece, count_of, form_of_item, items_apart, of_piece, piece_covered, sum_of}
use Rattle.convert_core_laws.proofs.soundness.Among.{tree_there}

some_same : {A : Type 0} (a b : A) → Some a ≡ Some b → a ≡ b
some_same a b e = cc

module _ (o : Options) (ids : Ids) (now : ℕ) (image other : Image) (m : Making) (r : TreeRoots) (nodes : List TreeNode) (v : IsNewVolume o ids now image other m r nodes) (held : FilesAreHeld) (rising : ImageKeysAscend) (are_there : InodesAreThere) (now_low : now < 2 ^ 63) (bytes : HasBytes image) where
  abbrev making : IsMaking image m
  making = v.new.conversion.making

  abbrev of : HasPieces m.volume image m.options m.plan m.pieces
  of = making.has_pieces

  abbrev fit : IsNodeSize m.options.nodesize
  fit = fit_size o ids now image other m r nodes v

  abbrev k : Recount
  k = recount_for image other m r nodes

  abbrev s : Source
  s = made_from m.volume image m.options m.pieces

  abbrev sums : SumKind
  sums = m.options.sums

  abbrev items : List Item
  items = sum_tree_items other m

  abbrev files : TreeOn
  files = tree_for other (super_for m r nodes) FS_TREE (r.tree Files) (file_tree_items image m)

  abbrev saved : TreeOn
  saved = tree_for other (super_for m r nodes) CONV_IMAGE_SUBVOL (r.tree SavedImage) (image_tree_items m)

  kind_is : (form_of k.super).sums ≡ sums
  kind_is = ap (λ (f : Form). f.sums) (form_is m r nodes)

  items_are : sums_told k ≡ items
  items_are = append-nil items

  -- ---- the items are those of the pieces, where data has checksums

  record AreOn (i : Item) : Type 0 where
    on : m.options.datasum ≡ true
    among : Contains (sum_items sums other m.pieces) i

  from_items : (i : Item) → Contains items i → AreOn i
  from_items i h = by m.options.datasum refl h
    where
      by : (b : Bool) → m.options.datasum ≡ b → Contains (if b then sum_items sums other m.pieces else []) i → AreOn i
      by true on there = record { on = on; among = there }
      by false on there = absurd (omega (arith, there.1))

  to_items : (i : Item) → m.options.datasum ≡ true → Contains (sum_items sums other m.pieces) i → Contains items i
  to_items i on h = subst (λ (b : Bool). Contains (if b then sum_items sums other m.pieces else []) i) (sym on) h

  abbrev OfPiece : Item → Type 0
  OfPiece i = IsOfPiece sums other m.pieces i

  piece_of_item : (i : Item) → Contains items i → OfPiece i
  piece_of_item i h = of_piece sums other m.pieces i (from_items i h).among

  forms : All (IsSumItem m.options.nodesize sums) items
  forms =
      all_from_contains (IsSumItem m.options.nodesize sums) items (λ i h.
      let is : OfPiece i = piece_of_item i h in
      subst (IsSumItem m.options.nodesize sums) (sym is.part.is) (form_of_item m.options.nodesize sums other is.part.at is.part.long (size_big m.options.nodesize fit) is.part.some is.part.few))

  once : AllPairs (EndsFirst sums) items
  once = by m.options.datasum
    where
      by : (b : Bool) → AllPairs (EndsFirst sums) (if b then sum_items sums other m.pieces else [])
      by true = items_apart sums other m.pieces (well m.volume image m.options m.plan m.pieces of).apart.ascending
      by false = λ i j d l h. absurd (omega (arith, h))

  -- ---- each is right

  -- an address in a piece means itself
  in_piece : (p : Piece) (a : ℕ) → Contains m.pieces p → 4096 * p.place ≤ a → a < 4096 * p.place + 4096 * p.count → place (map range_of k.chunks) a ≡ Some a
  in_piece p a h low high =
      let extent : IsExtent k (span_of p) data_kind = some_data (is_data image m making fit held other r nodes p h) refl in
      means_itself o ids now image other m r nodes v a (good o ids now image other m r nodes v (span_of p) data_kind a extent low high).has

  abbrev AreSumsRight : Item → Type 0
  AreSumsRight i =
      (j q : ℕ) → j < sum_count sums i → place (map_of k) (i.0.offset + 4096 * j) ≡ Some q
      → take (kind_width sums) (drop (kind_width sums * j) i.1) ≡ take (kind_width sums) (kind_sum sums (block_at other (q / 4096)))

  item_right : (p : Piece) (at long : ℕ) → Contains m.pieces p → p.place ≤ at → at + long ≤ p.place + p.count → AreSumsRight (sums_item sums other at long)
  item_right p at long h low high = λ j q inside found.
      let count = count_of sums other at long in
      let less : j < long = omega (arith, inside, count) in
      let a : ℕ = 4096 * at + 4096 * j in
      let itself = in_piece p a h (omega (arith, low)) (omega (arith, high, less)) in
      let same : a ≡ q = some_same a q (sym itself ∙ found) in
      let block : at + j ≡ q / 4096 = omega (arith, same) in
      sum_of sums other at long j less ∙ ap (block_sum sums other) block

  rights : All (AreSumsRight) items
  rights =
      all_from_contains (AreSumsRight) items (λ i h.
      let is : OfPiece i = piece_of_item i h in
      subst (AreSumsRight) (sym is.part.is) (item_right is.piece is.part.at is.part.long is.among is.part.low is.part.high))

  -- ---- the trees that use data

  one_tree : (t : TreeOn) → Contains (all_trees k) t → (u : TreeOn) → Contains (all_trees k) u → t.number ≡ u.number → t ≡ u
  one_tree t h u l same =
      ⊎_elim (λ (e : t ≡ u). e) (λ either. ⊎_elim (λ (apart : t.number ≢ u.number). absurd (apart same)) (λ (apart : u.number ≢ t.number). absurd (apart (sym same))) either)
      (two_cases (λ (x y : TreeOn). x.number ≢ y.number) (all_trees k) t u (all_other o ids now image other m r nodes v rising) h l)

  files_there : Contains (all_trees k) files
  files_there = tree_there image other m r nodes Files

  saved_there : Contains (all_trees k) saved
  saved_there = tree_there image other m r nodes SavedImage

  -- ---- inodes

  made_low : m.now < 2 ^ 63
  made_low = subst (λ (n : ℕ). n < 2 ^ 63) (sym v.new.conversion.now_is) now_low

  sources : AreSources (map_for m.chunks) 0 (pieces_of_volume m.pieces)
  sources =
      are_sources image m making fit
      (image_extents_ascend m.volume.sup.blocks m.pieces m.options.datasum m.now (rising m.volume image m.options m.plan m.pieces m.now of).saved)

  image_bytes : piece_bytes (pieces_of_volume m.pieces) ≤ 2 ^ 41
  image_bytes = sources_bytes (map_for m.chunks) 0 (pieces_of_volume m.pieces) sources (omega arith)

  abbrev own_image : Inode
  own_image = image_inode m.volume.sup.blocks m.pieces m.options.datasum m.now

  image_reads : inode_of (inode_bytes own_image) ≡ Some own_image
  image_reads = image_inode_reads m.volume.sup.blocks m.pieces m.options.datasum m.now (blocks_few m.volume image m.options m.plan m.pieces of) image_bytes made_low

  image_sums : m.options.datasum ≡ true → has_no_sums own_image ≡ false
  image_sums on = ap (λ (b : Bool). has_no_sums (image_inode m.volume.sup.blocks m.pieces b m.now)) on

  image_no_sums : m.options.datasum ≡ false → has_no_sums own_image ≡ true
  image_no_sums off = ap (λ (b : Bool). has_no_sums (image_inode m.volume.sup.blocks m.pieces b m.now)) off

  -- the file that owns a piece
  record HasFile (inode : ℕ) : Type 0 where
    key : ObjectKey
    among : Contains s.keys key
    number_is : ino_of s key ≡ inode
    file : kind_in s key ≡ File

  file_of : (p : Piece) (inode block : ℕ) → Contains m.pieces p → p.owner ≡ Some (inode, block) → HasFile inode
  file_of p inode block h own =
      let w = (held m.volume image m.options m.plan m.pieces of).each p inode block h own in
      record { key = w.0; among = w.1.named; number_is = w.2; file = w.1.file }

  file_reads : (key : ObjectKey) → Contains s.keys key → inode_of (inode_bytes (inode_in s key)) ≡ Some (inode_in s key)
  file_reads key among = inode_reads are_there m.volume image m.options m.plan m.pieces of bytes key among

  file_item : (inode : ℕ) (f : HasFile inode) → Contains (file_tree_items image m) (make_key inode INODE_ITEM 0, inode_bytes (inode_in s f.key))
  file_item inode f = subst (λ (n : ℕ). Contains (file_tree_items image m) (make_key n INODE_ITEM 0, inode_bytes (inode_in s f.key))) f.number_is (inode_there s f.key f.among)

  -- ---- what a block with a checksum lies in

  piece_used : (p : Piece) → Contains m.pieces p → (u : DataUse) × Contains (data_uses k) u × (span_of_use u ≡ span_of p)
  piece_used p h = by p.from refl
    where
      by : (w : Option ℕ) → p.from ≡ w → (u : DataUse) × Contains (data_uses k) u × (span_of_use u ≡ span_of p)
      by (Some b) from = (use_at CONV_IMAGE_SUBVOL 257 (source_block p) p, saved_use image m making fit held other r nodes p h (ap is_some from), refl)
      by None from = let own = owned image m making fit held p h from in (use_at FS_TREE own.0 own.1 p, file_use image m making fit held other r nodes p own.0 own.1 h own.2, refl)

  -- a block is one of a piece
  record InPiece (a : ℕ) : Type 0 where
    piece : Piece
    there : Contains m.pieces piece
    low : 4096 * piece.place ≤ a
    high : a < 4096 * piece.place + 4096 * piece.count

  within_span : (a : ℕ) (i : InPiece a) → is_within (span_of i.piece) a ≡ true
  within_span a i =
      and_from (nat_le (4096 * i.piece.place) a) (nat_lt a (4096 * i.piece.place + 4096 * i.piece.count)) (le-leb (4096 * i.piece.place) a i.low) (lt-ltb a (4096 * i.piece.place + 4096 * i.piece.count) i.high)

  inside : (a : ℕ) → InPiece a → (u : DataUse) × Contains (data_uses k) u × (is_within (span_of_use u) a ≡ true)
  inside a i = let u = piece_used i.piece i.there in (u.0, u.1, ap (λ (x : Span). is_within x a) u.2 ∙ within_span a i)

  -- an item has a checksum of the block
  record HasSum (a : ℕ) : Type 0 where
    item : Item
    there : Contains items item
    low : item.0.offset ≤ a
    high : a < item.0.offset + 4096 * sum_count sums item

  to_sum : (a : ℕ) → HasBlockSum k a → HasSum a
  to_sum a h = record {
    item = h.item;
    there = subst (λ (l : List Item). Contains l h.item) items_are h.there;
    low = h.low;
    high = subst (λ (x : SumKind). a < sum_end x h.item) kind_is h.high;
  }

  from_sum : (a : ℕ) → HasSum a → HasBlockSum k a
  from_sum a h = record {
    item = h.item;
    there = subst (λ (l : List Item). Contains l h.item) (sym items_are) h.there;
    low = h.low;
    high = subst (λ (x : SumKind). a < sum_end x h.item) (sym kind_is) h.high;
  }

  summed_piece : (a : ℕ) → HasSum a → InPiece a
  summed_piece a h =
      let is : OfPiece h.item = piece_of_item h.item h.there in
      let count : sum_count sums h.item ≡ is.part.long = ap (sum_count sums) is.part.is ∙ count_of sums other is.part.at is.part.long in
      let offset : h.item.0.offset ≡ 4096 * is.part.at = ap (λ (i : Item). i.0.offset) is.part.is in
      let low = h.low in
      let high = h.high in
      let from = is.part.low in
      let to = is.part.high in
      record { piece = is.piece; there = is.among; low = omega (arith, low, offset, from); high = omega (arith, high, offset, count, to) }

  piece_summed : (a : ℕ) → a % 4096 ≡ 0 → m.options.datasum ≡ true → InPiece a → HasSum a
  piece_summed a aligned on is =
      let low = is.low in
      let high = is.high in
      let covers : Covers sums (sums_item sums other) (a / 4096) (sum_items sums other m.pieces) = piece_covered sums other m.pieces is.piece (a / 4096) is.there (omega (arith, low)) (omega (arith, high)) in
      let item : Item = sums_item sums other covers.at covers.long in
      let count = count_of sums other covers.at covers.long in
      let from = covers.low in
      let to = covers.high in
      record { item = item; there = to_items item on covers.there; low = omega (arith, from); high = omega (arith, to, count, aligned) }

  -- ---- what reads a block

  -- a file tree is one of all
  file_tree_there : (t : TreeOn) → Contains (file_trees k) t → Contains (all_trees k) t
  file_tree_there t h = in_tail k.chunk_tree (k.root_tree ∷ k.others) t (in_tail k.root_tree k.others t (from_filter is_file_tree k.others t h).0)

  -- an inode that reads data has checksums of it where the option says so
  reader_sums : (a : ℕ) (u : DataUse) (inode : Inode) → IsReadBy k a u inode → IsUse m u → has_no_sums inode ≡ not m.options.datasum
  reader_sums a u inode w (by_file p n block h own e) =
      let f : HasFile n = file_of p n block h own in
      let tree : w.tree ≡ files = one_tree w.tree (file_tree_there w.tree w.among) files files_there (sym (uses_tree w.tree u w.used) ∙ ap (λ (x : DataUse). x.tree) e) in
      let number : u.inode ≡ n = ap (λ (x : DataUse). x.inode) e in
      let item : Contains (file_tree_items image m) (make_key n INODE_ITEM 0, w.owner.body) =
      subst (λ (x : ℕ). Contains (file_tree_items image m) (make_key x INODE_ITEM 0, w.owner.body)) number (subst (λ (t : TreeOn). Contains t.items (make_key u.inode INODE_ITEM 0, w.owner.body)) tree w.owner.there) in
      let one : (make_key n INODE_ITEM 0, inode_bytes (inode_in s f.key)) ≡ (make_key n INODE_ITEM 0, w.owner.body) =
      same_item (file_tree_items image m) (make_key n INODE_ITEM 0, inode_bytes (inode_in s f.key)) (make_key n INODE_ITEM 0, w.owner.body) (files_rise image m making fit) (file_item n f) item refl in
      let same : inode_in s f.key ≡ inode = some_same (inode_in s f.key) inode (sym (file_reads f.key f.among) ∙ (ap (λ (i : Item). inode_of i.1) one ∙ w.owner.reads)) in
      ap has_no_sums (sym same) ∙ by m.options.datasum refl f
    where
      by : (b : Bool) → m.options.datasum ≡ b → (f : HasFile n) → has_no_sums (inode_in s f.key) ≡ not m.options.datasum
      by true on f = file_sums s f.key on ∙ sym (ap not on)
      by false off f = file_no_sums s f.key off f.file ∙ sym (ap not off)
  reader_sums a u inode w (by_image p block h from e) =
      let tree : w.tree ≡ saved = one_tree w.tree (file_tree_there w.tree w.among) saved saved_there (sym (uses_tree w.tree u w.used) ∙ ap (λ (x : DataUse). x.tree) e) in
      let number : u.inode ≡ 257 = ap (λ (x : DataUse). x.inode) e in
      let item : Contains (image_tree_items m) (make_key 257 INODE_ITEM 0, w.owner.body) =
      subst (λ (x : ℕ). Contains (image_tree_items m) (make_key x INODE_ITEM 0, w.owner.body)) number (subst (λ (t : TreeOn). Contains t.items (make_key u.inode INODE_ITEM 0, w.owner.body)) tree w.owner.there) in
      let one : (make_key 257 INODE_ITEM 0, inode_bytes own_image) ≡ (make_key 257 INODE_ITEM 0, w.owner.body) =
      same_item (image_tree_items m) (make_key 257 INODE_ITEM 0, inode_bytes own_image) (make_key 257 INODE_ITEM 0, w.owner.body) (saved_rise image m making fit rising) (image_inode_there m.volume.sup.blocks m.pieces m.options.datasum m.now) item refl in
      let same : own_image ≡ inode = some_same own_image inode (sym image_reads ∙ (ap (λ (i : Item). inode_of i.1) one ∙ w.owner.reads)) in
      ap has_no_sums (sym same) ∙ by m.options.datasum refl
    where
      by : (b : Bool) → m.options.datasum ≡ b → has_no_sums own_image ≡ not m.options.datasum
      by true on = image_sums on ∙ sym (ap not on)
      by false off = image_no_sums off ∙ sym (ap not off)

  of_piece_use : (a : ℕ) (p : Piece) → Contains m.pieces p → (nat_le (4096 * p.place + 0) a && nat_lt a (4096 * p.place + 0 + 4096 * p.count)) ≡ true → InPiece a
  of_piece_use a p h here =
      let parts = and_parts (nat_le (4096 * p.place + 0) a) (nat_lt a (4096 * p.place + 0 + 4096 * p.count)) here in
      let low = leb-true (4096 * p.place + 0) a parts.0 in
      let high = ltb-true a (4096 * p.place + 0 + 4096 * p.count) parts.1 in
      record { piece = p; there = h; low = omega (arith, low); high = omega (arith, high) }

  -- the block that a use of a piece reads is one of the piece
  reads_piece : (a : ℕ) (u : DataUse) → is_within (read_span u) a ≡ true → IsUse m u → InPiece a
  reads_piece a u here (by_file p n block h own e) = of_piece_use a p h (subst (λ (x : DataUse). is_within (read_span x) a ≡ true) e here)
  reads_piece a u here (by_image p block h from e) = of_piece_use a p h (subst (λ (x : DataUse). is_within (read_span x) a ≡ true) e here)

  use_is : (a : ℕ) (u : DataUse) (inode : Inode) → IsReadBy k a u inode → IsUse m u
  use_is a u inode w = uses_are image m making fit other r nodes u (in_flat_map uses_in (all_trees k) w.tree u (file_tree_there w.tree w.among) w.used)

  is_written : (u : DataUse) → IsUse m u → u.written ≡ true
  is_written u (by_file p n block h own e) = ap (λ (x : DataUse). x.written) e
  is_written u (by_image p block h from e) = ap (λ (x : DataUse). x.written) e

  data_on : (inode : Inode) → has_no_sums inode ≡ not m.options.datasum → has_no_sums inode ≡ false → m.options.datasum ≡ true
  data_on inode is none = by m.options.datasum (sym is ∙ none)
    where
      by : (b : Bool) → not b ≡ false → b ≡ true
      by true e = refl
      by false e = absurd (true≢false e)

  cover : (a : ℕ) → a % 4096 ≡ 0 → KeepsCover k a
  cover a aligned = record {
    wanted = λ u inode w written sums_. let own = use_is a u inode w in from_sum a (piece_summed a aligned (data_on inode (reader_sums a u inode w own) sums_) (reads_piece a u w.here own));
    unsummed = λ u inode w written none has.
        let own = use_is a u inode w in
        let on : m.options.datasum ≡ true = (from_items (to_sum a has).item (to_sum a has).there).on in
        true≢false (sym none ∙ (reader_sums a u inode w own ∙ ap not on));
    unwritten = λ u inode w laid_out alone has. true≢false (sym (is_written u (use_is a u inode w)) ∙ laid_out);
    inside = λ has. inside a (summed_piece a (to_sum a has));
  }

  -- ---- the part

  pub keeps : (a : ℕ) → KeepsSums other k a
  keeps a = record {
    forms = each_at (λ (i : Item). i.0.offset) a (IsSumItem k.super.nodesize (sums_of k)) (sums_told k)
        (subst (λ (n : ℕ). All (IsSumItem n (sums_of k)) (sums_told k)) (sym (nodesize_is m r nodes))
        (subst (λ (x : SumKind). All (IsSumItem m.options.nodesize x) (sums_told k)) (sym kind_is) (subst (All (IsSumItem m.options.nodesize sums)) (sym items_are) forms)));
    once = pairs_at (λ (i : Item). i.0.offset) a (EndsFirst (sums_of k)) (sums_told k)
        (subst (λ (x : SumKind). AllPairs (EndsFirst x) (sums_told k)) (sym kind_is) (subst (AllPairs (EndsFirst sums)) (sym items_are) once));
    cover = cover a;
    right = subst (λ (l : List Item). All (IsSumRight other k a) l) (sym items_are) (λ i d h. right_at (get_or items i d) (rights i d h));
  }
    where
      right_at : (i : Item) → AreSumsRight i → IsSumRight other k a i
      right_at i are =
          subst
          (λ (x : SumKind). (j q : ℕ) → j < sum_count x i → i.0.offset + 4096 * j ≡ a → place (map_of k) a ≡ Some q → take (kind_width x) (drop (kind_width x * j) i.1) ≡ take (kind_width x) (kind_sum x (block_at other (q / 4096))))
          (sym kind_is) (λ j q low at found. are j q low (ap (place (map_of k)) at ∙ found))

pub converted_checksums_are_sound : NewIdsFit → FilesAreHeld → ImageKeysAscend → InodesAreThere → ConvertedChecksumsAreSound
converted_checksums_are_sound ids_fit held rising are_there = λ o ids now image other m r nodes is size low are has bytes.
    keeps o ids now image other m r nodes (volume_for ids_fit o ids now image other m r nodes is size are has) held rising are_there low bytes
