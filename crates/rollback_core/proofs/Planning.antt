-- What is read of the old volume is what is to be written.
use Rattle.rollback_core.proofs.Imports.{◌≡◌, ℕ, ◌+◌, ◌==◌, nat_lt, Bool, not, ◌&&◌, List, length, codes, filter, ◌∙◌, ap, subst, FIRST_MIRROR, SECOND_MIRROR, SUPER_BLOCK, SUPER_MAGIC_OFFSET, Image, block_at, has_bytes_at, is_reserved, ImageMap, has, used_blocks, image_blocks, WayBack, IsMapOn, AreSaved, IsWayBack, rollback_summary, CanGoBack, old_used, unwrap_or, map_place}
use Rattle.std.specs.Prelude.{Option}

-- whether a block is to become zeros, by the set of used blocks
abbrev pub wiped_in : Image → List Bool → ℕ → Bool
wiped_in disk used b = nat_lt (b + 1) (length used) && (not (has used b) && has_bytes_at (block_at disk b) SUPER_MAGIC_OFFSET (codes "_BHRfS_M"))

-- the reserved ones of the used blocks
abbrev pub reserved_used : List Bool → List ℕ
reserved_used used = filter (λ b. is_reserved b (length used)) (used_blocks used)

pub prepared : (disk : Image) (m : ImageMap) (used : List Bool) (way : WayBack) → IsMapOn disk m → CanGoBack disk → used ≡ old_used disk
    → AreSaved (image_blocks disk) (filter (λ b. not (b == 16)) (reserved_used used)) way.reserved.items → way.superblock.bytes ≡ block_at (image_blocks disk) SUPER_BLOCK
    → way.copy ≡ unwrap_or (map_place m SUPER_BLOCK) SUPER_BLOCK
    → way.first ≡ wiped_in disk used FIRST_MIRROR → way.second ≡ wiped_in disk used SECOND_MIRROR
    → way.summary.blocks ≡ length (used_blocks used) → way.summary.restored ≡ length (reserved_used used) → IsWayBack disk way
prepared disk m used way on u is saved superblock copy first second blocks restored = record {
  format = on.image.leads.format;
  can = u;
  reserved = subst (λ (set : List Bool). AreSaved (image_blocks disk) (filter (λ b. not (b == 16)) (reserved_used set)) way.reserved.items) is saved;
  superblock = superblock;
  copy = copy ∙ ap (λ (o : Option ℕ). unwrap_or o SUPER_BLOCK) (on.places SUPER_BLOCK);
  first = first ∙ ap (λ (set : List Bool). wiped_in disk set FIRST_MIRROR) is;
  second = second ∙ ap (λ (set : List Bool). wiped_in disk set SECOND_MIRROR) is;
  summary_is = same (blocks ∙ ap (λ (set : List Bool). length (used_blocks set)) is) (restored ∙ ap (λ (set : List Bool). length (reserved_used set)) is);
}
  where
    same : way.summary.blocks ≡ length (used_blocks (old_used disk)) → way.summary.restored ≡ length (reserved_used (old_used disk)) → way.summary ≡ rollback_summary disk
    same one two = ap (λ (n : ℕ). record { blocks = n; restored = way.summary.restored }) one ∙ ap (λ (n : ℕ). record { blocks = length (used_blocks (old_used disk)); restored = n }) two
