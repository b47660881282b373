-- The file extents of a converted volume keep the rules of Linux.
use Rattle.convert_core_laws.proofs.Imports.{◌≡◌, ◌≤◌, ◌<◌, ℕ, ◌+◌, ◌*◌, ◌^◌, ◌==◌, Bool, true, false, List, [], ◌∷◌, filter, length, Some, refl, sym, ap, subst, ◌∙◌, ⊎_elim, true≢false, arith, AllByRecursion, and_from, eq-eqb, eqb-true, All-from_recursion, All-nil, AllPairs-filter, NO_HOLES, EXTENT_DATA, keys, Image, FileExtentValue, file_extent_of, Item, MapRange, NodePointer, Super, AreExtents, KeepsExtent, covered, EndsInFile, extents_in, HasKind, is_of_inode, TreeOn, has_feature, of_kind, well, all_at, numbered, extent_item, inline_extent, regular_extent, IsMaking, Making, HasPieces, AreSortedKeys, extents_at, file_block, pieces_of, pieces_of_volume, source_block, image_head, image_items, relocation_items, Source, file_extent_items, fs_tree_items, ino_of, inline_in, kind_in, size_in, Piece, FilesAreHeld, InodesAreThere, HasBytes, Apart, all_in, all_mapped, from_filter, in_filter, length_bytes, all_from_contains, volume_items, has_bytes, Kind, File, file_byte, target_bytes, items_of, IsNamed, ObjectKey, Walked}
use Rattle.std.proofs.Common.{Contains, All, AllPairs, if◌then◌else◌}
use Rattle.btr_check_rules.specs.Files.{EndsBefore}
use Rattle.convert_core_laws.proofs.ByteReading.{inline_read, is_extent, regular_read}
use Rattle.convert_core_laws.proofs.Holding.{StaysInTree, stays}
use Rattle.convert_core_laws.proofs.Owned.{any_extents}
use Rattle.convert_core_laws.proofs.Pieces.{all_of_inode}
use Rattle.convert_core_laws.proofs.Sound.{Follow, all_follow, owner_is}
use Rattle.convert_core_laws.proofs.reading.SavedExtents.{AreSources, IsSource}
use Rattle.convert_core_laws.proofs.soundness.FileInodes.{has_kind, pairs_from}
use Rattle.convert_core_laws.proofs.soundness.Inodes.{kept_twice, some_same, tree}
use Rattle.convert_core_laws.proofs.soundness.Objects.{s}
use Rattle.convert_core_laws.proofs.soundness.Uses.{IsSmall, owner_low, piece_small}

-- ---- one extent

-- a piece that lies behind the first block, on a device of at most 2^41 bytes
pub record IsPlaced (p : Piece) : Type 0 where
  pub some : 1 ≤ p.count
  pub high : 1 ≤ p.place
  pub end : p.place + p.count ≤ 2 ^ 29

abbrev pub IsOfBytes : TreeOn → ℕ → Type 0
IsOfBytes t ino = (kind : Kind) × HasKind t ino kind × (has_bytes kind ≡ true)

-- an extent keeps the rules, and ends in its file
abbrev pub IsKept : Super → TreeOn → Item → Type 0
IsKept sup t i = KeepsExtent sup t i × EndsInFile i

-- the number of the last byte of an extent that is read as this one
ends_by : (i : Item) (extent : FileExtentValue) → file_extent_of i.1 ≡ Some extent → i.0.offset + covered extent.ram_bytes extent.content < 2 ^ 64 → EndsInFile i
ends_by i extent reads low = λ e is. subst (λ (x : FileExtentValue). i.0.offset + covered x.ram_bytes x.content < 2 ^ 64) (some_same extent e (sym reads ∙ is)) low

module _ (sup : Super) (t : TreeOn) (newest : 1 ≤ sup.generation) where
  pub regular_keeps : (ino block : ℕ) (p : Piece) → IsPlaced p → block + p.count ≤ 2 ^ 32 → IsOfBytes t ino → IsKept sup t (extent_item ino block (regular_extent p.place p.count))
  regular_keeps ino block p is few owner =
      let some = is.some in
      let high = is.high in
      let end = is.end in
      let reads = regular_read p.place p.count (omega (arith, end)) (omega (arith, end)) in (
        record {
          extent = regular_extent p.place p.count;
          reads = reads;
          generation = newest;
          encoding = (refl, refl, omega arith);
          place = omega arith;
          content = (
            record {
              whole = (omega arith, omega arith, omega arith, omega arith, omega arith);
              some = λ none. omega (arith, none, some);
              in_memory = omega arith;
              on_disk = λ no_hole plain. omega arith;
              hole = (
                λ hole. (let none = eqb-true (4096 * p.place) 0 hole in absurd (omega (arith, none, high))),
                λ none. absurd (omega (arith, none, some)),
              );
            },
            λ packed. absurd (packed refl),
          );
          sums = λ needs. absurd (needs refl);
          owner = owner;
        },
        ends_by (extent_item ino block (regular_extent p.place p.count)) (regular_extent p.place p.count) reads (omega (arith, few)),
      )

  pub inline_keeps : (ino : ℕ) (bytes : List ℕ) → 1 ≤ length bytes → length bytes < 4096 → IsOfBytes t ino → IsKept sup t (extent_item ino 0 (inline_extent bytes))
  inline_keeps ino bytes some few owner = (
    record {
      extent = inline_extent bytes;
      reads = inline_read bytes (omega (arith, few));
      generation = newest;
      encoding = (refl, refl, omega arith);
      place = omega arith;
      content = (omega arith, some, omega (arith, few), few, λ plain. refl);
      sums = λ needs. absurd needs;
      owner = owner;
    },
    ends_by (extent_item ino 0 (inline_extent bytes)) (inline_extent bytes) (inline_read bytes (omega (arith, few))) (omega (arith, few)),
  )

-- ---- extents of pieces that lie one behind the other in a file

module _ (at : Piece → ℕ) where
  abbrev pub FollowBy : List Piece → Type 0
  FollowBy [] = Unit {0}
  FollowBy (p ∷ ps) = AllByRecursion (λ q. at p + p.count ≤ at q) ps × FollowBy ps

  abbrev extent_of : ℕ → Piece → Item
  extent_of ino p = extent_item ino (at p) (regular_extent p.place p.count)

  one_before : (ino : ℕ) (p : Piece) (qs : List Piece) → IsPlaced p → AllByRecursion (λ q. at p + p.count ≤ at q) qs → AllByRecursion (EndsBefore (extent_of ino p)) (extents_at ino at qs)
  one_before ino p [] is above = tt
  one_before ino p (q ∷ qs) is above = (
    λ e reads.
        let end = is.end in
        let low = above.0 in
        let same : regular_extent p.place p.count ≡ e = some_same (regular_extent p.place p.count) e (sym (regular_read p.place p.count (omega (arith, end)) (omega (arith, end))) ∙ reads) in
        subst (λ (x : FileExtentValue). 4096 * at p + covered x.ram_bytes x.content ≤ 4096 * at q) same (omega (arith, low)),
    one_before ino p qs is above.1,
  )

  all_before : (ino : ℕ) (ps : List Piece) → AllByRecursion IsPlaced ps → FollowBy ps → Apart EndsBefore (extents_at ino at ps)
  all_before ino [] placed follow = tt
  all_before ino (p ∷ ps) placed follow = (one_before ino p ps placed.0 follow.0, all_before ino ps placed.1 follow.1)

  pub pieces_apart : (ino : ℕ) (ps : List Piece) → AllByRecursion IsPlaced ps → FollowBy ps → AllPairs EndsBefore (extents_at ino at ps)
  pieces_apart ino ps placed follow = pairs_from EndsBefore (extents_at ino at ps) (all_before ino ps placed follow)

from_follow : (ps : List Piece) → Follow ps → FollowBy file_block ps
from_follow [] follow = tt
from_follow (p ∷ ps) follow = (follow.0, from_follow ps follow.1)

module _ (ranges : List MapRange) where
  sources_above : (low : ℕ) (ps : List Piece) → AreSources ranges low ps → AllByRecursion (λ q. low ≤ source_block q) ps
  sources_above low [] sources = tt
  sources_above low (p ∷ ps) sources = (sources.1, more ps (sources_above (source_block p + p.count) ps sources.2))
    where
      more : (qs : List Piece) → AllByRecursion (λ q. source_block p + p.count ≤ source_block q) qs → AllByRecursion (λ q. low ≤ source_block q) qs
      more [] above = tt
      more (q ∷ qs) above = (let first = sources.1 in let next = above.0 in omega (arith, first, next), more qs above.1)

  from_sources : (low : ℕ) (ps : List Piece) → AreSources ranges low ps → FollowBy source_block ps
  from_sources low [] sources = tt
  from_sources low (p ∷ ps) sources = (sources_above (source_block p + p.count) ps sources.2, from_sources (source_block p + p.count) ps sources.2)

  all_placed : (low : ℕ) (ps : List Piece) → AreSources ranges low ps → AllByRecursion IsPlaced ps
  all_placed low [] sources = tt
  all_placed low (p ∷ ps) sources = let is : IsSource ranges p = sources.0 in (record { some = is.some; high = is.above; end = is.small }, all_placed (source_block p + p.count) ps sources.2)

-- the extents of an inode by one test
in_one : (t : TreeOn) (ino : ℕ) → extents_in t ino ≡ filter (is_extent ino) t.items
in_one t ino = kept_twice (is_of_inode ino) (λ (i : Item). i.0.kind == EXTENT_DATA) t.items

single : (i : Item) → AllPairs EndsBefore (i ∷ [])
single i = λ a b d l h. absurd (omega (arith, l, h))

-- ---- the file tree

module _ (image : Image) (m : Making) (made : IsMaking image m) (sup : Super) (newest : 1 ≤ sup.generation) (full : has_feature sup NO_HOLES ≡ true) (nodes : Walked) (held : FilesAreHeld) (there : InodesAreThere) (bytes : HasBytes image) where
  abbrev of : HasPieces m.volume image m.options m.plan m.pieces
  of = made.has_pieces

  abbrev src : Source
  src = s image m made

  abbrev all : List ObjectKey
  all = keys m.volume.named

  placed : (p : Piece) → Contains m.pieces p → IsPlaced p
  placed p h = let is : IsSmall image m made p = piece_small image m made p h in let high = is.high in record { some = is.some; high = omega (arith, high); end = is.end }

  module _ (key : ObjectKey) (among : Contains (keys m.volume.named) key) where
    abbrev n : ℕ
    n = ino_of src key

    stays_here : inline_in src key ≡ true → (1 ≤ length (target_bytes (items_of key src.items) (size_in src key))) × (length (target_bytes (items_of key src.items) (size_in src key)) < 4096)
    stays_here is =
        let is_named : IsNamed (volume_items image) key = (of.opened.are_keys.exact key).0 among in
        let st : StaysInTree image of.accepted key is_named = stays image of.accepted key is_named m.options.inline is in
        let short = st.short in
        let some = st.some in
        let long : length (target_bytes (items_of key src.items) (size_in src key)) ≡ size_in src key = ap length st.bytes ∙ length_bytes (size_in src key) (file_byte image (items_of key src.items)) 0 in
        (omega (arith, long, some), omega (arith, long, short))

    keep : IsOfBytes (tree image m made nodes) n → AllByRecursion (IsKept sup (tree image m made nodes)) (file_extent_items src key)
    unfolding file_extent_items
    keep owner = by (inline_in src key) refl
      where
        by : (b : Bool) → inline_in src key ≡ b
            → AllByRecursion (IsKept sup (tree image m made nodes)) (if b then extent_item (ino_of src key) 0 (inline_extent (target_bytes (items_of key src.items) (size_in src key))) ∷ [] else extents_at (ino_of src key) file_block (pieces_of src.pieces (ino_of src key)))
        by true is = let here = stays_here is in (inline_keeps sup (tree image m made nodes) newest (ino_of src key) (target_bytes (items_of key src.items) (size_in src key)) here.0 here.1 owner, tt)
        by false is =
            all_mapped (IsKept sup (tree image m made nodes)) (λ (p : Piece). extent_item (ino_of src key) (file_block p) (regular_extent p.place p.count)) (pieces_of m.pieces (ino_of src key))
            (all_of_inode (λ p. IsKept sup (tree image m made nodes) (extent_item (ino_of src key) (file_block p) (regular_extent p.place p.count))) m.pieces (ino_of src key)
            (λ p h t. regular_keeps sup (tree image m made nodes) newest (ino_of src key) (file_block p) p (placed p h) (owner_low image m made p (ino_of src key) h (owner_is (ino_of src key) p t)) owner))

    lie_apart : AllPairs EndsBefore (file_extent_items src key)
    unfolding file_extent_items
    lie_apart = by (inline_in src key)
      where
        by : (b : Bool) → AllPairs EndsBefore (if b then extent_item (ino_of src key) 0 (inline_extent (target_bytes (items_of key src.items) (size_in src key))) ∷ [] else extents_at (ino_of src key) file_block (pieces_of src.pieces (ino_of src key)))
        by true = single (extent_item (ino_of src key) 0 (inline_extent (target_bytes (items_of key src.items) (size_in src key))))
        by false =
            pieces_apart file_block (ino_of src key) (pieces_of m.pieces (ino_of src key)) (all_of_inode IsPlaced m.pieces (ino_of src key) (λ p h t. placed p h))
            (from_follow (pieces_of m.pieces (ino_of src key))
            (all_follow m.pieces (λ p h. all_at (λ (q : Piece). 1 ≤ q.count) m.pieces p (well m.volume image m.options m.plan m.pieces of).apart.some h) (held m.volume image m.options m.plan m.pieces of).once (ino_of src key)))

  sorted : AreSortedKeys image all
  sorted = record { accepted = of.accepted; are_keys = of.opened.are_keys; ascend = of.opened.ascends }

  -- what holds of the extents of each object with bytes, and of none, holds of those of each number
  by_object : (P : List Item → Type 0) → P [] → ((key : ObjectKey) → Contains all key → has_bytes (kind_in src key) ≡ true → P (file_extent_items src key)) → (ino : ℕ) → P (filter (is_extent ino) (fs_tree_items src))
  by_object P none each ino =
      let at = numbered image all sorted in
      ⊎_elim
      (λ of_key. subst P (sym of_key.3) (each of_key.0 of_key.1 of_key.2))
      (λ (empty : filter (is_extent ino) (fs_tree_items src) ≡ []). subst P (sym empty) none)
      (any_extents src at.0 at.1 ino)

  each_keeps : (i : Item) → Contains (of_kind EXTENT_DATA (fs_tree_items src)) i → IsKept sup (tree image m made nodes) i
  each_keeps i h =
      let kept = from_filter (λ (j : Item). j.0.kind == EXTENT_DATA) (fs_tree_items src) i h in
      let own : is_extent i.0.objectid i ≡ true = and_from (i.0.objectid == i.0.objectid) (i.0.kind == EXTENT_DATA) (eq-eqb i.0.objectid i.0.objectid refl) kept.1 in
      all_in (IsKept sup (tree image m made nodes)) (filter (is_extent i.0.objectid) (fs_tree_items src)) i
      (by_object (AllByRecursion (IsKept sup (tree image m made nodes))) tt (λ key among has. keep key among (kind_in src key, has_kind image m made sup nodes there bytes key among, has)) i.0.objectid)
      (in_filter (is_extent i.0.objectid) (fs_tree_items src) i kept.0 own)

  all_kept : All (IsKept sup (tree image m made nodes)) (of_kind EXTENT_DATA (fs_tree_items src))
  all_kept = all_from_contains (IsKept sup (tree image m made nodes)) (of_kind EXTENT_DATA (fs_tree_items src)) each_keeps

  pub file_extents : AreExtents sup (tree image m made nodes)
  file_extents = record {
    each = λ i d h. (all_kept i d h).0;
    ends = λ i d h. (all_kept i d h).1;
    apart = λ ino. subst (AllPairs EndsBefore) (sym (in_one (tree image m made nodes) ino)) (by_object (AllPairs EndsBefore) (λ a b d l h. absurd (omega (arith, h))) (λ key among has. lie_apart key among) ino);
    covering = λ off ino inode kind has is_kind to_bytes some k low. absurd (true≢false (sym full ∙ off));
  }

-- ---- the trees of the saved image and of relocation

module _ (sup : Super) (newest : 1 ≤ sup.generation) (full : has_feature sup NO_HOLES ≡ true) (blocks now : ℕ) (pieces : List Piece) (datasum : Bool) (ranges : List MapRange) (sources : AreSources ranges 0 (pieces_of_volume pieces)) (t : TreeOn) (are : t.items ≡ image_items blocks pieces datasum now) (own : HasKind t 257 File) where
  abbrev parts : List Piece
  parts = pieces_of_volume pieces

  abbrev extents : List Item
  extents = extents_at 257 source_block parts

  of_image : of_kind EXTENT_DATA (image_items blocks pieces datasum now) ≡ extents
  unfolding image_items image_head
  of_image = all_extents parts
    where
      all_extents : (ps : List Piece) → of_kind EXTENT_DATA (extents_at 257 source_block ps) ≡ extents_at 257 source_block ps
      all_extents [] = refl
      all_extents (p ∷ ps) = ap (λ (l : List Item). extent_item 257 (source_block p) (regular_extent p.place p.count) ∷ l) (all_extents ps)

  kept : of_kind EXTENT_DATA t.items ≡ extents
  kept = ap (of_kind EXTENT_DATA) are ∙ of_image

  sources_low : (low : ℕ) (ps : List Piece) → AreSources ranges low ps → AllByRecursion (λ p. source_block p + p.count ≤ 2 ^ 32) ps
  sources_low low [] is = tt
  sources_low low (p ∷ ps) is = (let inside = is.0.inside in omega (arith, inside), sources_low (source_block p + p.count) ps is.2)

  keep_all : (ps : List Piece) → AllByRecursion IsPlaced ps → AllByRecursion (λ p. source_block p + p.count ≤ 2 ^ 32) ps → AllByRecursion (IsKept sup t) (extents_at 257 source_block ps)
  keep_all [] placed_ few = tt
  keep_all (p ∷ ps) placed_ few = (regular_keeps sup t newest 257 (source_block p) p placed_.0 few.0 (File, own, refl), keep_all ps placed_.1 few.1)

  pub saved_extents : AreExtents sup t
  saved_extents =
      let is_placed : AllByRecursion IsPlaced parts = all_placed ranges 0 parts sources in
      let all : All (IsKept sup t) (of_kind EXTENT_DATA t.items) = subst (All (IsKept sup t)) (sym kept) (All-from_recursion (IsKept sup t) extents (keep_all parts is_placed (sources_low 0 parts sources))) in
      record {
        each = λ i d h. (all i d h).0;
        ends = λ i d h. (all i d h).1;
        apart = λ ino. AllPairs-filter EndsBefore (is_of_inode ino) (of_kind EXTENT_DATA t.items) (subst (AllPairs EndsBefore) (sym kept) (pieces_apart source_block 257 parts is_placed (from_sources ranges 0 parts sources)));
        covering = λ off ino inode kind has is_kind to_bytes some k low. absurd (true≢false (sym full ∙ off));
      }

-- a tree without extents
module _ (sup : Super) (full : has_feature sup NO_HOLES ≡ true) (t : TreeOn) (none : of_kind EXTENT_DATA t.items ≡ []) where
  pub no_extents : AreExtents sup t
  no_extents = record {
    each = subst (All (KeepsExtent sup t)) (sym none) (All-nil (KeepsExtent sup t));
    ends = subst (All EndsInFile) (sym none) (All-nil EndsInFile);
    apart = λ ino. subst (λ (l : List Item). AllPairs EndsBefore (filter (is_of_inode ino) l)) (sym none) (λ a b d l h. absurd (omega (arith, h)));
    covering = λ off ino inode kind has is_kind to_bytes some k low. absurd (true≢false (sym full ∙ off));
  }

module _ (sup : Super) (full : has_feature sup NO_HOLES ≡ true) (now : ℕ) (t : TreeOn) (are : t.items ≡ relocation_items now) where
  none_in : of_kind EXTENT_DATA (relocation_items now) ≡ []
  unfolding relocation_items
  none_in = refl

  pub relocation_extents : AreExtents sup t
  relocation_extents = no_extents sup full t (ap (of_kind EXTENT_DATA) are ∙ none_in)
