-- Block 16 of a sample is not half turned: it has no mark.
use Rattle.trial_core.proofs.Imports.{◌≡◌, ℕ, ◌<◌, ◌≤◌, Bool, true, false, ◌&&◌, List, length, refl, ◌∙◌, ap, arith, true≢false, sym, nat_lt, ◌==◌, codes, not, Image, block_at, needed_by, sample_on, is_half_turned, copy_place, SUPER_BLOCK, Shape, shape}
use Rattle.reiser_bitmap.specs.vol_block.Format.{has_bytes_at}
use Rattle.reiser_make.proofs.Placed.{system_below, total_some}
use Rattle.reiser_make.specs.Inner.{needed, total}
use Rattle.reiser_make.specs.Superblock.{fields_bytes, superblock_bytes, super_fields}
use Rattle.reiser_make.specs.declared.superblock.SuperFields.{SuperFields}
use Rattle.reiser_make_laws.proofs.Blocks.{system_is}
use Rattle.super_turn.specs.Marked.{has_mark, is_half, marked_place}

-- where a mark would stand there are zeros
unmarked : (f : SuperFields) → has_mark (fields_bytes f) ≡ false
unfolding fields_bytes
unmarked f = refl

-- what has no mark is not half turned, whatever else it is
none : (other has inside same : Bool) → has ≡ false → ((other && (has && inside)) && same) ≡ false
none true true inside same is = absurd (true≢false is)
none true false inside same is = refl
none false has inside same is = refl

pub not_half_turned : (number : ℕ) (disk : Image) → needed_by number ≤ 65536 → 65536 ≤ length disk → is_half_turned (sample_on number disk) ≡ false
not_half_turned number disk room long =
    let s : Shape = shape number false in
    let image : Image = sample_on number disk in
    let bytes : List ℕ = block_at image SUPER_BLOCK in
    let enough : 8210 < needed s = system_below (total s) 8210 (total_some s) (omega arith) in
    let block : bytes ≡ superblock_bytes s 65536 = system_is s 65536 16 disk (omega arith) (omega (arith, enough, room, long)) in
    none (not (has_bytes_at bytes 64 (codes "_BHRfS_M"))) (has_mark bytes) (nat_lt (marked_place bytes) (length image) && not (marked_place bytes == SUPER_BLOCK)) (is_half (block_at image (copy_place image)) bytes)
    (ap (λ (b : List ℕ). has_mark b) block ∙ unmarked (super_fields s 65536))
