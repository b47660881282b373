-- What is read of a volume depends on the blocks of its nodes and of its files' extents alone.
use Rattle.btr_reader.proofs.Imports.{◌≡◌, ◌∙◌, ◌⊎◌, ⊎_elim, inl, inr, ℕ, ◌+◌, ◌/◌, ◌%◌, ◌<◌, ◌≤◌, eqb, Bool, true, not, false, ◌&&◌, ◌||◌, cond, List, [], ◌∷◌, length, nat_le, Option, Some, None, refl, sym, ap, subst, arith, bytes_eq, slice_index, nat_tests, SUPER_BLOCK, FS_TREE, Image, block_at, BtrRefusal, WholeRow, has_bytes, Kind, Directory, File, Symlink, Character, Block, Fifo, Socket, Subvolume, at_head, head_or_tail, HasKind, aligned_of, form_of_sound, none_left, none_right, second, byte_of_place, bytes_of_inode, content_byte, covered_after, end_after, extent_length, extents_of, extents_refusals, is_aligned, is_hole, range_is_aligned, refusals_at, ContentValue, FileExtentValue, Inline, Prealloc, Regular, file_extent_of, DiskRange, items_at, pointer_in, AreRowsOfBtrfs, IsBtrfsRefusal, Opening, Part, SavedImage, Superblock, log_of, own_map, own_super, root_item, AreRows, BreaksExtents, bad_extents, roots_on, TreeItem, place, MapRange, Super, format, AreExtentsApart, IsApart, IsContentApart, IsSameOutside, IsVolumeApart, differs, is_spare, is_spare_in, root_of}
use Rattle.std.specs.Prelude.{Contains}
use Rattle.btr_reader.specs.Parts.{Tree}
use Rattle.std.proofs.lemmas.Slice.Eq.{bytes_eq-Decides}
use Rattle.btr_reader_walk.specs.outside.Format.{format_in}
use Rattle.btr_reader_walk.specs.vol_block.declared.format.Format.TheVariants.{Neither}
use Rattle.btr_reader.specs.MetadataLaws.{IsSameBtrfs, MetadataDecides, ReservedBlocksAreSpare, SamePartsDecide}
use Rattle.btr_reader.proofs.SameItems.{SameContents, rows_here, same_bytes}
use Rattle.btr_reader.proofs.Volumes.{apart_again, both, fields_same, image_same, items_same, map_same, opening_same, over, root_item_same, super_same, tree_refused, way_same}

-- an extent that is aligned stays in its disk extent
in_disk_extent : (offset k : ℕ) (r : DiskRange) → range_is_aligned offset r ≡ true → is_hole r ≡ false → k < r.num_bytes → r.offset + k < r.disk_num_bytes
in_disk_extent offset k r aligned some below = by (is_hole r) some aligned
  where
    by : (hole : Bool) → hole ≡ false
        → (eqb (offset % 4096) 0 && (eqb (r.num_bytes % 4096) 0 && (hole || (eqb (r.disk_bytenr % 4096) 0 && (eqb (r.offset % 4096) 0 && nat_le (r.offset + r.num_bytes) r.disk_num_bytes))))) ≡ true
        → r.offset + k < r.disk_num_bytes
    by true is all = absurd (cc is)
    by false is all =
        let rest = second (eqb (r.num_bytes % 4096) 0) _ (second (eqb (offset % 4096) 0) _ all) in
        let last : nat_le (r.offset + r.num_bytes) r.disk_num_bytes ≡ true = second (eqb (r.offset % 4096) 0) _ (second (eqb (r.disk_bytenr % 4096) 0) _ rest) in
        let inside : r.offset + r.num_bytes ≤ r.disk_num_bytes = grind (arith, nat_tests, last) in
        omega (arith, inside, below)

-- each of some extents with which nothing is wrong is aligned
aligned_in : (ranges : List MapRange) (e c : ℕ) (i : TreeItem) (o : Option FileExtentValue) (x : FileExtentValue) → refusals_at ranges e c i o ≡ [] → o ≡ Some x → is_aligned i.key.offset x.content ≡ true
aligned_in ranges e c i None x sound is = absurd (cc is)
aligned_in ranges e c i (Some y) x sound is =
    let same : y ≡ x = cc is in
    subst (λ (z : FileExtentValue). is_aligned i.key.offset z.content ≡ true) same (aligned_of e c i.key.offset y.content (form_of_sound ranges e c i.key.offset i.leaf y sound))

each_aligned : (ranges : List MapRange) (extents : List TreeItem) (e c : ℕ) → extents_refusals ranges e c extents ≡ [] → (i : TreeItem) (x : FileExtentValue) → Contains extents i → file_extent_of i.body ≡ Some x → is_aligned i.key.offset x.content ≡ true
each_aligned ranges [] e c sound i x among is = absurd (omega (arith, among.1))
each_aligned ranges (f ∷ extents) e c sound i x among is =
    let end : ℕ = end_after e f.key.offset (file_extent_of f.body) in
    let covered : ℕ = covered_after c (file_extent_of f.body) in
    let own : refusals_at ranges e c f (file_extent_of f.body) ≡ [] = none_left (refusals_at ranges e c f (file_extent_of f.body)) (extents_refusals ranges end covered extents) sound in
    let rest : extents_refusals ranges end covered extents ≡ [] = none_right (refusals_at ranges e c f (file_extent_of f.body)) (extents_refusals ranges end covered extents) sound in
    ⊎_elim
    (λ (same : f ≡ i). subst (λ (z : TreeItem). is_aligned z.key.offset x.content ≡ true) same (aligned_in ranges e c f (file_extent_of f.body) x own (ap (λ (z : TreeItem). file_extent_of z.body) same ∙ is)))
    (λ (later : Contains extents i). each_aligned ranges extents end covered rest i x later is)
    (head_or_tail f extents i among)

-- a list in which nothing is
none_in : {X : Type 0} (xs : List X) → ((x : X) → ¬ Contains xs x) → xs ≡ []
none_in [] none = refl
none_in (x ∷ xs) none = absurd (none x (at_head x xs))

-- what has bytes is a file or a symlink
of_kind : (items : List TreeItem) (ino : ℕ) (kind : Kind) → HasKind items ino kind → has_bytes kind ≡ true → HasKind items ino File ⊎ HasKind items ino Symlink
of_kind items ino File has bytes = inl has
of_kind items ino Symlink has bytes = inr has
of_kind items ino Directory has bytes = absurd (cc bytes)
of_kind items ino Character has bytes = absurd (cc bytes)
of_kind items ino Block has bytes = absurd (cc bytes)
of_kind items ino Fifo has bytes = absurd (cc bytes)
of_kind items ino Socket has bytes = absurd (cc bytes)
of_kind items ino Subvolume has bytes = absurd (cc bytes)

-- ---- the bytes of extents
module _ (test : ℕ → Bool) (image other : Image) (same : IsSameOutside test image other) (ranges : List MapRange) where
  byte_same : (a : Option ℕ) → IsApart test a → byte_of_place other a ≡ byte_of_place image a
  byte_same None apart = refl
  byte_same (Some p) apart = ap (λ (bytes : List ℕ). slice_index bytes (p % 4096)) (same.others (p / 4096) apart)

  -- of an extent that stays in its disk extent
  content_same : (c : ContentValue) (offset k : ℕ) → is_aligned offset c ≡ true → k < extent_length c → IsContentApart test ranges c → content_byte other ranges c k ≡ content_byte image ranges c k
  content_same (Inline bytes) offset k aligned below apart = refl
  content_same (Prealloc r) offset k aligned below apart = refl
  content_same (Regular r) offset k aligned below apart =
      elim (is_hole r) as (λ hole. is_hole r ≡ hole → cond hole 0 (byte_of_place other (place ranges (r.disk_bytenr + r.offset + k))) ≡ cond hole 0 (byte_of_place image (place ranges (r.disk_bytenr + r.offset + k)))) [
        | true ↦ λ is. refl
        | false ↦ λ is. byte_same (place ranges (r.disk_bytenr + r.offset + k)) (apart is k below (in_disk_extent offset k r aligned is below))
      ] refl

  -- of an inode with which nothing is wrong
  inode_same : (items : List TreeItem) (ino size : ℕ) → AreExtentsApart test ranges items → extents_refusals ranges 0 0 (extents_of items ino) ≡ []
      → bytes_of_inode other ranges items ino size ≡ bytes_of_inode image ranges items ino size
  inode_same items ino size apart sound =
      same_bytes image other ranges items ino size
      (λ i e k among at below. content_same e.content i.key.offset k (each_aligned ranges (extents_of items ino) 0 0 sound i e among at) below (apart ino i e among at))

  -- of each file and symlink where no extent breaks a rule
  contents_same : (items : List TreeItem) → AreExtentsApart test ranges items → ((r : BtrRefusal) → ¬ BreaksExtents ranges items r) → SameContents image other ranges items
  contents_same items apart sound ino own kind named has known bytes =
      inode_same items ino own.size apart
      (none_in (extents_refusals ranges 0 0 (extents_of items ino)) (λ r among. sound r (record { ino = ino; named = named; kind = of_kind items ino kind (own, has, known) bytes; among = among })))

back : (test : ℕ → Bool) (image other : Image) → IsSameOutside test image other → IsSameOutside test other image
back test image other same = record { size = sym same.size; others = λ b out. sym (same.others b out) }

module _ (test : ℕ → Bool) (image other : Image) (apart : IsVolumeApart test image) (same : IsSameOutside test image other) where
  refused_over : (part : Part) (r : BtrRefusal) → IsBtrfsRefusal image part r → IsBtrfsRefusal other part r
  refused_over Superblock r is = super_same test image other apart same ∙ is
  refused_over Opening r is = subst (λ (rs : List BtrRefusal). Contains rs r) (sym (opening_same test image other apart same)) is
  refused_over Tree r is =
      ⊎_elim (λ early. inl (subst (λ (rs : List BtrRefusal). Contains rs r) (sym (opening_same test image other apart same)) early))
      (λ late. inr (opening_same test image other apart same ∙ late.0, tree_refused test image other apart same r late.1)) is
  refused_over SavedImage r is =
      ⊎_elim (λ early. inl (subst (λ (rs : List BtrRefusal). Contains rs r) (sym (opening_same test image other apart same)) early))
      (λ late. inr (opening_same test image other apart same ∙ late.0, subst (λ (rs : List BtrRefusal). Contains rs r) (sym (way_same test image other apart same)) late.1)) is

  rows_over : (rows : List WholeRow) → AreRowsOfBtrfs image rows → AreRowsOfBtrfs other rows
  rows_over rows is =
      let root : root_of image FS_TREE ≡ Some is.at = ap pointer_in is.has_item ∙ is.has_root in
      let nodes = apart.files is.at root in
      let items = items_same test image other apart same 5 is.at nodes in
      record {
        readable = λ r refused. is.readable r (tree_refused test other image (apart_again test image other apart same) (back test image other same) r refused);
        item = is.item;
        has_item =
            both test image other apart same (λ t m. root_item FS_TREE (roots_on other t m)) ∙ (root_item_same test image other apart same ∙ is.has_item);
        at = is.at;
        has_root = is.has_root;
        rows_are =
            over test image other apart same (λ t m. AreRows other m (items_at other t m FS_TREE is.at) rows)
            (subst (λ (list : List TreeItem). AreRows other (own_map image) list rows) (sym items)
            (rows_here image other (own_map image) (items_at image (own_super image) (own_map image) FS_TREE is.at)
            (contents_same test image other same (own_map image) (items_at image (own_super image) (own_map image) FS_TREE is.at) (apart.extents is.at root)
            (λ r breaks. is.readable r (bad_extents is.item is.at is.has_item is.has_root breaks))) rows is.rows_are));
      }

format_same : (image other : Image) → length other ≡ length image → block_at other SUPER_BLOCK ≡ block_at image SUPER_BLOCK → format_in other ≡ format_in image
format_same image other size block =
    ap (λ (n : ℕ). cond (nat_le n 16) Neither (format (block_at other SUPER_BLOCK))) size ∙ ap (λ (bytes : List ℕ). cond (nat_le (length image) 16) Neither (format bytes)) block

same_btrfs : (test : ℕ → Bool) (image other : Image) → IsVolumeApart test image → IsSameOutside test image other → IsSameBtrfs image other
same_btrfs test image other apart same =
    let again = apart_again test image other apart same in
    let turned = back test image other same in
    record {
      format = format_same image other same.size (same.others 16 apart.superblock);
      superblock = super_same test image other apart same;
      fields = fields_same test image other apart same;
      map = map_same test image other apart same;
      log = ap log_of (super_same test image other apart same);
      refusals = λ part r. (refused_over test image other apart same part r, refused_over test other image again turned part r);
      rows = λ rows. (rows_over test image other apart same rows, rows_over test other image again turned rows);
      saved = image_same test image other apart same;
      contents = λ f b place is at. same.others place (apart.blocks f b place is at);
    }

pub metadata_decides : MetadataDecides
metadata_decides test image other apart same = record { same = same_btrfs test image other apart same; apart = apart_again test image other apart same }

-- the reserved blocks are those of the superblock, which is the same
pub reserved_blocks_are_spare : ReservedBlocksAreSpare
reserved_blocks_are_spare image other free same =
    let decided = metadata_decides (is_spare_in image) image other free same in
    (decided.same, subst (λ (s : Super). IsVolumeApart (λ b. is_spare b (s.total_bytes / 4096)) other) (sym decided.same.fields) decided.apart)

-- ---- by the blocks that differ
equal_where : (t : Bool) → not t ≡ false → t ≡ true
equal_where true is = refl
equal_where false is = absurd cc

same_outside : (image other : Image) → length other ≡ length image → IsSameOutside (differs image other) image other
same_outside image other size = record { size = size; others = λ b same. (bytes_eq-Decides (block_at other b) (block_at image b)).0 (equal_where (bytes_eq (block_at other b) (block_at image b)) same) }

pub same_parts_decide : SamePartsDecide
same_parts_decide image other size apart = metadata_decides (differs image other) image other apart (same_outside image other size)
