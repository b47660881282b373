-- What is read of a ReiserFS superblock lies in its first 128 bytes.
use Rattle.reiser_volume.proofs.Imports.{◌≡◌, ℕ, ◌+◌, ◌^◌, ◌≤◌, ◌||◌, Bool, List, take, drop, sym, ◌∙◌, subst, arith, codes, IsCleanSuper, IsInBounds, superblock_fields, Super, has_bytes_at, has_reiser_magic}
use Rattle.super_turn.proofs.Fronts.{same_field, same_magic, same_within}

module _ (xs ys : List ℕ) (same : take 128 xs ≡ take 128 ys) where
  pub fields_front : superblock_fields xs ≡ superblock_fields ys
  fields_front =
      let blocks = same_field 128 xs ys same 4 0 (omega arith) in
      let free = same_field 128 xs ys same 4 4 (omega arith) in
      let root = same_field 128 xs ys same 4 8 (omega arith) in
      let height = same_field 128 xs ys same 2 68 (omega arith) in
      let first = same_field 128 xs ys same 4 12 (omega arith) in
      let size = same_field 128 xs ys same 4 20 (omega arith) in
      let flags = same_field 128 xs ys same 4 80 (omega arith) in
      let uuid = same_within 128 xs ys same 84 16 (omega arith) in
      let label = same_within 128 xs ys same 100 16 (omega arith) in
      λ i. record {
        blocks = blocks i;
        free = free i;
        root = root i;
        height = height i;
        journal_first = first i;
        journal_size = size i;
        flags = flags i;
        uuid = uuid i;
        label = label i;
      }

  magic_front : has_reiser_magic xs ≡ has_reiser_magic ys
  magic_front =
      let old = same_magic 128 xs ys same 52 (codes "ReIsErFs") (omega arith) in
      let two = same_magic 128 xs ys same 52 (codes "ReIsEr2Fs") (omega arith) in
      let three = same_magic 128 xs ys same 52 (codes "ReIsEr3Fs") (omega arith) in
      λ i. old i || (two i || three i)

  pub clean_front : (device : ℕ) → IsCleanSuper ys device → IsCleanSuper xs device
  clean_front device c = record {
    there = c.there;
    magic = magic_front ∙ c.magic;
    new_magic = same_magic 128 xs ys same 52 (codes "ReIsErFs") (omega arith) ∙ c.new_magic;
    blocks_fit = same_field 128 xs ys same 2 44 (omega arith) ∙ c.blocks_fit;
    journal_here = same_field 128 xs ys same 4 16 (omega arith) ∙ c.journal_here;
    undamaged = same_field 128 xs ys same 2 62 (omega arith) ∙ c.undamaged;
    count = subst (λ (s : Super). s.blocks ≤ 2 ^ 29) (sym fields_front) c.count;
    unmounted = same_field 128 xs ys same 2 50 (omega arith) ∙ c.unmounted;
    bounds = subst IsInBounds (sym fields_front) c.bounds;
    fits = subst (λ (s : Super). s.blocks ≤ device) (sym fields_front) c.fits;
  }
