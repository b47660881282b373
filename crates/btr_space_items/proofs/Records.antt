-- The layouts of this crate read what they write.
use Rattle.btr_space_items.proofs.Imports.{◌≡◌, ◌+◌, ◌*◌, ◌==◌, ℕ, List, [], ◌++◌, length, drop, cond, ltb, Bool, true, false, None, Some, refl, ap, sym, ◌∙◌, arith, lit<, length-append, eq-eqb, le-ltb, take_at, append-nil, key_layout, stamp_layout, inode_layout, Reads, start, ◌▹◌, skip, u8_reads, u16_reads, u32_reads, u64_reads, array_reads, part_reads, reads_back, device_layout, make_device, stripe_layout, make_stripe, chunk_layout, make_chunk, chunk_bytes, root_item_layout, make_root_item, BlockGroupsReadBack, DevExtentsReadBack, DevicesReadBack, StripesReadBack, ExtentHeadsReadBack, ChunksReadBack, RootItemsReadBack, RootRefsReadBack, extent_head_layout, make_extent_head, extent_head_bytes}
use Rattle.byteorder.specs.Endian.{little_bytes}
use Rattle.byteorder.specs.Numbers.{little_number-reads_back}
use Rattle.btr_keys.specs.vol_block.Volume.{field}
use Rattle.btr_keys.proofs.Records.{key_reads, stamp_reads, inode_reads}
use Rattle.btr_keys.proofs.Repeats.{IsNamed, front_of}
use Rattle.btr_space_items.specs.declared.chunk.Chunk.{Chunk}
use Rattle.btr_space_items.specs.BlockGroup.{block_group_layout, make_block_group}
use Rattle.btr_space_items.specs.DevExtent.{dev_extent_layout, make_dev_extent}
use Rattle.btr_space_items.specs.RootRef.{root_ref_head, make_root_ref, root_ref_bytes}

pub block_group_reads : Reads block_group_layout (λ v. v)
unfolding block_group_layout
block_group_reads = start make_block_group ▹ u64_reads ▹ u64_reads ▹ u64_reads

pub block_groups_read_back : BlockGroupsReadBack
unfolding block_group_layout
block_groups_read_back = reads_back refl block_group_reads

pub dev_extent_reads : Reads dev_extent_layout (λ v. v)
unfolding dev_extent_layout
dev_extent_reads = start make_dev_extent ▹ u64_reads ▹ u64_reads ▹ u64_reads ▹ u64_reads ▹ array_reads

pub dev_extents_read_back : DevExtentsReadBack
unfolding dev_extent_layout
dev_extents_read_back = reads_back refl dev_extent_reads

pub device_reads : Reads device_layout (λ v. v)
unfolding device_layout
device_reads = start make_device ▹ u64_reads ▹ u64_reads ▹ u64_reads ▹ u32_reads ▹ u32_reads ▹ u32_reads ▹ u64_reads ▹ u64_reads ▹ u64_reads ▹ u32_reads ▹ u8_reads ▹ u8_reads ▹ array_reads ▹ array_reads

pub devices_read_back : DevicesReadBack
unfolding device_layout
devices_read_back = reads_back refl device_reads

pub stripe_reads : Reads stripe_layout (λ v. v)
unfolding stripe_layout
stripe_reads = start make_stripe ▹ u64_reads ▹ u64_reads ▹ array_reads

pub stripes_read_back : StripesReadBack
unfolding stripe_layout
stripes_read_back = reads_back refl stripe_reads

pub extent_head_reads : Reads extent_head_layout (λ v. v)
unfolding extent_head_layout
extent_head_reads = start make_extent_head ▹ u64_reads ▹ u64_reads ▹ u64_reads

extent_head_width : extent_head_layout.width ≡ 24
unfolding extent_head_layout
extent_head_width = refl

pub extent_heads_read_back : ExtentHeadsReadBack
extent_heads_read_back head behind fits =
    let bytes = extent_head_bytes head ++ behind in
    let same : extent_head_layout.spell head behind ≡ bytes = extent_head_reads.apart head behind in
    let long : ltb (length bytes) 24 ≡ false = le-ltb _ _ (omega (arith, length-append (extent_head_bytes head) behind, extent_head_reads.len head fits, extent_head_width)) in
    ap (λ (b : Bool). cond b None (Some (extent_head_layout.read bytes))) long ∙ ap (λ (z : List ℕ). Some (extent_head_layout.read z)) (sym same) ∙ ap Some (extent_head_reads.back head behind fits)

pub chunk_reads : Reads chunk_layout (λ v. v)
unfolding chunk_layout
chunk_reads = start make_chunk ▹ u64_reads ▹ u64_reads ▹ u64_reads ▹ u64_reads ▹ u32_reads ▹ u32_reads ▹ u32_reads ▹ u16_reads ▹ u16_reads ▹ part_reads stripe_reads

pub chunk_width : chunk_layout.width ≡ 80
unfolding chunk_layout stripe_layout
chunk_width = refl

-- where the number of stripes stands, whatever is behind the chunk
pub stripes_at : (chunk : Chunk) (behind : List ℕ) → chunk_layout.fits chunk → field 2 (chunk_layout.spell chunk behind) 44 ≡ chunk.num_stripes
unfolding chunk_layout
stripes_at chunk behind fits =
    little_number-reads_back 2 chunk.num_stripes (little_bytes 2 chunk.sub_stripes ++ (stripe_layout.spell chunk.stripe [] ++ behind)) fits.0.0.1

pub chunks_read_back : ChunksReadBack
chunks_read_back chunk fits one =
    let bytes = chunk_bytes chunk in
    let len : length bytes ≡ 80 = chunk_reads.len chunk fits ∙ chunk_width in
    let stripes : field 2 bytes 44 ≡ 1 = stripes_at chunk [] fits ∙ one in
    let long : ltb (length bytes) 80 ≡ false = le-ltb _ _ (omega (arith, len)) in
    let fills : (length bytes == 48 + 32 * field 2 bytes 44) ≡ true = eq-eqb _ _ (omega (arith, len, stripes)) in
    ap (λ (b : Bool). cond b None (cond (length bytes == 48 + 32 * field 2 bytes 44) (Some (chunk_layout.read bytes)) None)) long
    ∙ ap (λ (b : Bool). cond b (Some (chunk_layout.read bytes)) None) fills
    ∙ ap Some (chunk_reads.back chunk [] fits)

pub root_item_reads : Reads root_item_layout (λ v. v)
unfolding root_item_layout
root_item_reads = skip 64 (start make_root_item ▹ part_reads inode_reads ▹ u64_reads ▹ u64_reads ▹ u64_reads ▹ u64_reads ▹ u64_reads ▹ u64_reads ▹ u64_reads ▹ u32_reads ▹ part_reads key_reads ▹ u8_reads ▹ u8_reads ▹ u64_reads ▹ array_reads ▹ array_reads ▹ array_reads ▹ u64_reads ▹ u64_reads ▹ u64_reads ▹ u64_reads ▹ part_reads stamp_reads ▹ part_reads stamp_reads ▹ part_reads stamp_reads ▹ part_reads stamp_reads)

pub root_items_read_back : RootItemsReadBack
unfolding root_item_layout inode_layout stamp_layout key_layout
root_items_read_back = reads_back refl root_item_reads

root_ref_is_named : IsNamed 18 16 root_ref_head (λ r. r.name)
unfolding root_ref_head
root_ref_is_named = record {
  make = λ r. make_root_ref r.dirid r.sequence (length r.name);
  reads = start make_root_ref ▹ u64_reads ▹ u64_reads ▹ u16_reads;
  width = refl;
  some = lit< tt;
  name_length = λ r rest fits. little_number-reads_back 2 (length r.name) rest fits.1;
  whole = λ r rest. λ i. record { dirid = r.dirid; sequence = r.sequence; name = take_at r.name rest (length r.name) refl i };
}

pub root_refs_read_back : RootRefsReadBack
root_refs_read_back r fits =
    let named = root_ref_is_named in
    let bytes = root_ref_bytes r in
    let all : root_ref_head.spell r (r.name ++ []) ≡ bytes = ap (root_ref_head.spell r) (append-nil r.name) in
    let len : length bytes ≡ 18 + length r.name =
    ap length (named.reads.apart r r.name) ∙ length-append (root_ref_head.spell r []) r.name ∙ ap (λ (n : ℕ). n + length r.name) (named.reads.len r fits ∙ named.width) in
    let size : field 2 bytes 16 ≡ length r.name = named.name_length r r.name fits in
    let long : ltb (length bytes) 18 ≡ false = le-ltb _ _ (omega (arith, len)) in
    let fills : (length bytes == 18 + field 2 bytes 16) ≡ true = eq-eqb _ _ (omega (arith, len, size)) in
    let value = ap (λ (z : List ℕ). root_ref_head.read z (drop 18 z)) (sym all) ∙ front_of named r [] fits in
    ap (λ (b : Bool). cond b None (cond (length bytes == 18 + field 2 bytes 16) (Some (root_ref_head.read bytes (drop 18 bytes))) None)) long
    ∙ ap (λ (b : Bool). cond b (Some (root_ref_head.read bytes (drop 18 bytes))) None) fills
    ∙ ap Some value
