use Rattle.reiser_bitmap.proofs.Imports.{◌≡◌, ◌+◌, ◌<◌, ◌≤◌, ◌/◌, ℕ, length, true, sym, ◌∙◌, ap, arith, BITS_IN_BLOCK, SUPER_BLOCK, Damaged, SystemFree, has, bitmap_block}
use Rattle.reiser_bitmap.proofs.SystemBlocks.{superblock_in, bitmap_in, journal_in, all_system, names_free}
use Rattle.reiser_bitmap.proofs.bitmap.Bitmap.system_used.Goals as goal

pub returns-then-not-is_used-clause-free : goal.returns-then-not-is_used-clause-free
returns-then-not-is_used-clause-free c =
    names_free c.args.self.now c.args.journal_first c.args.journal_size SUPER_BLOCK c.marked_free.result c.marked_free.ensures (superblock_in _ _ _) c.if-not-is_used.ensures

pub returns-then-not-is_used-2-clause-free : goal.returns-then-not-is_used-2-clause-free
returns-then-not-is_used-2-clause-free c =
    let within : bitmap_block c.loop-k.k < length c.args.self.now = omega (arith, c.bitmap_block-block.ensures, c.if-block-len.true, c.len.ensures) in
    names_free c.args.self.now c.args.journal_first c.args.journal_size (bitmap_block c.loop-k.k) _ (c.marked_free-then-not-is_used-2.ensures ∙ ap (λ (b : ℕ). Damaged b SystemFree) c.bitmap_block-block.ensures)
    (bitmap_in _ _ _ c.loop-k.k within) (c.if-not-is_used-2.ensures ∙ ap (has c.args.self.now) c.bitmap_block-block.ensures)

pub returns-then-not-is_used-3-clause-free : goal.returns-then-not-is_used-3-clause-free
returns-then-not-is_used-3-clause-free c =
    names_free c.args.self.now c.args.journal_first c.args.journal_size c.loop-block.block _ c.marked_free-then-not-is_used-3.ensures (journal_in _ _ _ c.loop-block.block (omega arith) (omega arith)) c.if-not-is_used-3.ensures

pub returns-clause-used : goal.returns-clause-used
returns-clause-used c =
    let superblock : has c.args.self.now SUPER_BLOCK ≡ true = sym c.if-not-is_used.ensures in
    let bitmaps_end : length c.args.self.now / BITS_IN_BLOCK + 1 ≤ c.loop-k.k = omega (arith, c.loop-k-test.false, c.len.ensures) in
    all_system (λ b. has c.args.self.now b ≡ true) (length c.args.self.now) c.args.journal_first c.args.journal_size superblock
    (λ k h within. c.loop-k.invariant k (omega arith) within) (λ b low high. c.loop-block.invariant b low (omega (arith, c.loop-block-test.false)))
