-- The test of a file extent tells what is asked of it.
use Rattle.btr_check_items.proofs.Imports.{◌≡◌, ℕ, ◌+◌, ◌%◌, ◌≤◌, ◌<◌, ◌==◌, ◌||◌, ◌↔◌, nat_le, true, false, not, length, Option, Some, None, refl, sym, subst, Decides, Decides-and, Decides-eqb, Decides-like, Decides-ltb, Decides-not, Kind, has_bytes, Inode, kind_of_mode, Super, ContentValue, Inline, Regular, Prealloc, FileExtentValue, has_no_sums, IsOfInode, IsCompressed, IsRange, KeepsContent, NeedsSums, are_whole, is_compressed, is_range, keeps_content, keeps_extent, keeps_head, keeps_inline, kind_has_bytes, may_have_extents, needs_sums}
use Rattle.btr_check_rules.specs.btr_reader.btr_keys.declared.file_extent.DiskRange.{DiskRange}
use Rattle.btr_check_rules.specs.btr_reader.btr_reader_contents.Extents.{is_hole}
use Rattle.btr_check_items.proofs.Deciding.{decides_if, decides_leb, decides_no, decides_same, decides_unless, decides_without, never, none_of_both, not_none, some_same}

abbrev WholeParts : ℕ → DiskRange → Type 0
WholeParts ram d = (d.disk_bytenr % 4096 ≡ 0) × ((d.disk_num_bytes % 4096 ≡ 0) × ((d.offset % 4096 ≡ 0) × ((d.num_bytes % 4096 ≡ 0) × (ram % 4096 ≡ 0))))

decides_whole : (ram : ℕ) (d : DiskRange) → Decides (are_whole ram d) (WholeParts ram d)
decides_whole ram d =
    Decides-and _ _ (Decides-eqb (d.disk_bytenr % 4096) 0)
    (Decides-and _ _ (Decides-eqb (d.disk_num_bytes % 4096) 0) (Decides-and _ _ (Decides-eqb (d.offset % 4096) 0) (Decides-and _ _ (Decides-eqb (d.num_bytes % 4096) 0) (Decides-eqb (ram % 4096) 0))))

abbrev RangeParts : ℕ → ℕ → DiskRange → Type 0
RangeParts ram compression d =
    WholeParts ram d
    × ((¬ (d.num_bytes ≡ 0))
    × ((d.offset + d.num_bytes ≤ ram)
    × ((is_hole d ≡ false → compression ≡ 0 → d.offset + d.num_bytes ≤ d.disk_num_bytes) × (is_hole d ≡ true ↔ (d.disk_num_bytes ≡ 0)))))

range_from : (ram compression : ℕ) (d : DiskRange) → RangeParts ram compression d → IsRange ram compression d
range_from ram compression d (whole, (some, (memory, (disk, hole)))) = record {
  whole = (whole.0, whole.1.0, whole.1.1.0, whole.1.1.1.0, whole.1.1.1.1);
  some = some;
  in_memory = memory;
  on_disk = disk;
  hole = hole;
}

range_parts : (ram compression : ℕ) (d : DiskRange) → IsRange ram compression d → RangeParts ram compression d
range_parts ram compression d is = ((is.whole.0, (is.whole.1, (is.whole.2, (is.whole.3, is.whole.4)))), (is.some, (is.in_memory, (is.on_disk, is.hole))))

decides_range : (ram compression : ℕ) (d : DiskRange) → Decides (is_range ram compression d) (IsRange ram compression d)
decides_range ram compression d =
    Decides-like (is_range ram compression d) (range_from ram compression d) (range_parts ram compression d)
    (Decides-and _ _ (decides_whole ram d)
    (Decides-and _ _ (Decides-not (d.num_bytes == 0) (Decides-eqb d.num_bytes 0))
    (Decides-and _ _ (decides_leb (d.offset + d.num_bytes) ram)
    (Decides-and _ _
    (decides_unless (is_hole d) (not (compression == 0) || nat_le (d.offset + d.num_bytes) d.disk_num_bytes)
    (decides_if (compression == 0) (nat_le (d.offset + d.num_bytes) d.disk_num_bytes) (Decides-eqb compression 0) (decides_leb (d.offset + d.num_bytes) d.disk_num_bytes)))
    (decides_same (is_hole d) (d.disk_num_bytes == 0) (Decides-eqb d.disk_num_bytes 0))))))

decides_compressed : (ram : ℕ) (d : DiskRange) → Decides (is_compressed ram d) (IsCompressed ram d)
decides_compressed ram d =
    Decides-like {P = (is_hole d ≡ false) × ((ram ≤ 131072) × (d.disk_num_bytes < ram))} {Q = IsCompressed ram d} (is_compressed ram d) (λ p. record { place = p.0; most = p.1.0; fewer = p.1.1 }) (λ is. (is.place, (is.most, is.fewer)))
    (Decides-and _ _ (decides_no (is_hole d)) (Decides-and _ _ (decides_leb ram 131072) (Decides-ltb d.disk_num_bytes ram)))

abbrev InlineParts : ℕ → ℕ → ℕ → ℕ → Type 0
InlineParts place ram compression size = (place ≡ 0) × ((1 ≤ ram) × ((ram ≤ 4096) × ((size < 4096) × (compression ≡ 0 → ram ≡ size))))

decides_inline : (place ram compression size : ℕ) → Decides (keeps_inline place ram compression size) (InlineParts place ram compression size)
decides_inline place ram compression size =
    Decides-and _ _ (Decides-eqb place 0)
    (Decides-and _ _ (decides_leb 1 ram)
    (Decides-and _ _ (decides_leb ram 4096) (Decides-and _ _ (Decides-ltb size 4096) (decides_if (compression == 0) (ram == size) (Decides-eqb compression 0) (Decides-eqb ram size)))))

decides_content : (place ram compression : ℕ) (content : ContentValue) → Decides (keeps_content place ram compression content) (KeepsContent place ram compression content)
decides_content place ram compression (Inline bytes) =
    Decides-like {P = InlineParts place ram compression (length bytes)} {Q = KeepsContent place ram compression (Inline bytes)} (keeps_inline place ram compression (length bytes)) (λ p. (p.0, p.1.0, p.1.1.0, p.1.1.1.0, p.1.1.1.1)) (λ is. (is.0, (is.1, (is.2, (is.3, is.4)))))
    (decides_inline place ram compression (length bytes))
decides_content place ram compression (Regular d) =
    Decides-and _ _ (decides_range ram compression d) (decides_without (compression == 0) (is_compressed ram d) (Decides-eqb compression 0) (decides_compressed ram d))
decides_content place ram compression (Prealloc d) = Decides-and _ _ (decides_range ram compression d) (Decides-eqb compression 0)

decides_needs : (compression : ℕ) (content : ContentValue) → Decides (needs_sums compression content) (NeedsSums compression content)
decides_needs compression (Inline bytes) = never (λ no. no)
decides_needs compression (Regular d) = Decides-not (compression == 0) (Decides-eqb compression 0)
decides_needs compression (Prealloc d) = Decides-not (compression == 0) (Decides-eqb compression 0)

-- ---- the inode

abbrev HasBytes : Option Kind → Type 0
HasBytes o = (kind : Kind) × (o ≡ Some kind) × (has_bytes kind ≡ true)

decides_kind : (o : Option Kind) → Decides (kind_has_bytes o) (HasBytes o)
decides_kind None = never (λ some. not_none some.0 some.1)
decides_kind (Some kind) = ((λ is. (kind, refl, is)), (λ some. let (other, same, is) = some in subst (λ (k : Kind). has_bytes k ≡ true) (sym (some_same kind other same)) is))

pub decides_bytes : (inode : Inode) → Decides (may_have_extents inode) (HasBytes (kind_of_mode inode.mode))
decides_bytes inode = decides_kind (kind_of_mode inode.mode)

-- ---- together

abbrev HeadParts : Super → FileExtentValue → Type 0
HeadParts s e = (e.generation ≤ s.generation) × ((e.encryption ≡ 0) × ((e.other ≡ 0) × (e.compression ≤ 3)))

decides_head : (s : Super) (e : FileExtentValue) → Decides (keeps_head s e) (HeadParts s e)
decides_head s e =
    Decides-and _ _ (decides_leb e.generation s.generation) (Decides-and _ _ (Decides-eqb e.encryption 0) (Decides-and _ _ (Decides-eqb e.other 0) (decides_leb e.compression 3)))

abbrev Parts : Super → Inode → ℕ → FileExtentValue → Type 0
Parts s inode place e =
    HeadParts s e
    × ((place % 4096 ≡ 0)
    × (KeepsContent place e.ram_bytes e.compression e.content × ((NeedsSums e.compression e.content → has_no_sums inode ≡ false) × HasBytes (kind_of_mode inode.mode))))

extent_from : (s : Super) (inode : Inode) (place : ℕ) (e : FileExtentValue) → Parts s inode place e → IsOfInode s inode place e
extent_from s inode place e (head, (start, (content, (sums, owner)))) = record {
  generation = head.0;
  encoding = (head.1.0, head.1.1.0, head.1.1.1);
  start = start;
  content = content;
  sums = sums;
  owner = owner;
}

extent_parts : (s : Super) (inode : Inode) (place : ℕ) (e : FileExtentValue) → IsOfInode s inode place e → Parts s inode place e
extent_parts s inode place e is = ((is.generation, (is.encoding.0, (is.encoding.1, is.encoding.2))), (is.start, (is.content, (is.sums, is.owner))))

pub decides_extent : (s : Super) (inode : Inode) (place : ℕ) (e : FileExtentValue) → Decides (keeps_extent s inode place e) (IsOfInode s inode place e)
decides_extent s inode place e =
    Decides-like (keeps_extent s inode place e) (extent_from s inode place e) (extent_parts s inode place e)
    (Decides-and _ _ (decides_head s e)
    (Decides-and _ _ (Decides-eqb (place % 4096) 0)
    (Decides-and _ _ (decides_content place e.ram_bytes e.compression e.content)
    (Decides-and _ _ (none_of_both (needs_sums e.compression e.content) (has_no_sums inode) (decides_needs e.compression e.content)) (decides_bytes inode)))))
