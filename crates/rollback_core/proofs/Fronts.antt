-- The used blocks decide superblock, journal and bitmap of a ReiserFS volume that has them in order, and of block 16 the first 128 bytes do.
use Rattle.rollback_core.proofs.Imports.{◌≡◌, ◌≢◌, ◌≤◌, ◌∙◌, ◌+◌, ◌*◌, ℕ, true, false, Bool, cond, eqb, List, [], length, take, sym, ap, subst, arith, SUPER_BLOCK, Image, block_at, SameUsed, has, bitmap_decided, bitmap_in, journal_in, superblock_in, IsFrontAccepted, MarksSystem, superblock, used_of, SameButSuper}
use Rattle.std.specs.Prelude.{Contains}
use Rattle.reiser_bitmap.specs.Layout.{bitmap_block, bitmap_of}
use Rattle.reiser_bitmap.specs.System.{system_blocks}
use Rattle.reiser_volume.specs.reiser_super.declared.superblock.Super.{Super}
use Rattle.reiser_volume.specs.reiser_super.Rules.{IsCleanSuper}
use Rattle.reiser_volume.proofs.Fronted.{clean_front, fields_front}
use Rattle.reiser_volume.specs.reiser_super.Journal.{IsClean, pending_transactions}
use Rattle.reiser_volume.proofs.reiser_super.Footprint.{same_pending}

-- the bitmap marks the blocks that a volume of this superblock keeps for itself
abbrev Marks : Super → List Bool → Type 0
Marks s used = (b : ℕ) → Contains (system_blocks s.blocks s.journal_first s.journal_size) b → has used b ≡ true

-- no bitmap block is block 16
not_bitmap : (k : ℕ) → bitmap_block k ≢ 16
not_bitmap k = by (eqb k 0)
  where
    by : (t : Bool) → cond t 17 (32768 * k) ≢ 16
    by true is = omega (arith, is)
    by false is = omega (arith, is)

module _ (image other : Image) (a : IsFrontAccepted image) (same : SameButSuper image other) where
  system_same : (b : ℕ) → b ≢ 16 → Contains (system_blocks (superblock image).blocks (superblock image).journal_first (superblock image).journal_size) b → block_at other b ≡ block_at image b
  system_same b rest h = same.used b rest (a.system b h)

  fields_same : superblock other ≡ superblock image
  fields_same = fields_front (block_at other SUPER_BLOCK) (block_at image SUPER_BLOCK) same.front

  used_alike : used_of other ≡ used_of image
  used_alike =
      let s = superblock image in
      ap (λ (t : Super). bitmap_of t.blocks other) fields_same
      ∙ bitmap_decided s.blocks other image a.clean.superblock.bounds.blocks (λ k h. system_same (bitmap_block k) (not_bitmap k) (bitmap_in s.blocks s.journal_first s.journal_size k h))

  clean_same : length other ≡ length image → IsClean other
  clean_same size =
      let s = superblock image in
      let first = a.clean.superblock.bounds.journal_first in
      let none : pending_transactions s other ≡ [] =
      same_pending s other image (λ place low. system_same (s.journal_first + place) (λ is. omega (arith, first, is))
      (journal_in s.blocks s.journal_first s.journal_size (s.journal_first + place) (omega arith) (omega (arith, low)))) ∙ a.clean.journal in
      record {
        superblock =
            clean_front (block_at other SUPER_BLOCK) (block_at image SUPER_BLOCK) same.front (length other)
            (subst (λ (n : ℕ). IsCleanSuper (block_at image SUPER_BLOCK) n) (sym size) a.clean.superblock);
        journal = subst (λ (t : Super). pending_transactions t other ≡ []) (sym fields_same) none;
      }

  system_marked : MarksSystem other
  system_marked = subst (λ (t : Super). Marks t (used_of other)) (sym fields_same) (subst (λ (used : List Bool). Marks (superblock image) used) (sym used_alike) a.system)

  pub front_turned : length other ≡ length image → IsFrontAccepted other
  front_turned size = record { clean = clean_same size; system = system_marked }

-- where all used blocks are the same, block 16 is
module _ (image other : Image) (a : IsFrontAccepted image) (same : SameUsed (used_of image) image other) where
  but_super : SameButSuper image other
  but_super =
      let s = superblock image in
      record { front = ap (take 128) (same 16 (a.system 16 (superblock_in s.blocks s.journal_first s.journal_size))); used = λ b rest has_it. same b has_it }

  pub used_same : used_of other ≡ used_of image
  used_same = used_alike image other a but_super

  pub front_same : length other ≡ length image → IsFrontAccepted other
  front_same size = front_turned image other a but_super size
