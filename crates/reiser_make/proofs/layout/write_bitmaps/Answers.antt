use Rattle.reiser_make.proofs.Imports.{◌≡◌, ◌≤◌, ◌<◌, ◌+◌, ◌-◌, ◌*◌, ℕ, map, ap, ◌∙◌, arith, div_ceil, range_with_len, BITS_IN_BLOCK, reads, IsUsed, laid_over, bitmap_placed}
use Rattle.reiser_make.proofs.Laying.{goes_more_to, only_more}
use Rattle.reiser_make.proofs.Placed.{used_bitmap}
use Rattle.reiser_make.proofs.layout.write_bitmaps.Goals as goal

inside : (k count blocks : ℕ) → k < count → count ≡ div_ceil blocks BITS_IN_BLOCK → BITS_IN_BLOCK * k < blocks
inside k count blocks lt is = omega arith

pub returns-in_err-write-clause-only : goal.returns-in_err-write-clause-only
returns-in_err-write-clause-only g c =
    only_more _ (IsUsed c.args.usage.now) _ _ _ _ _ _ _ _ _ (map (bitmap_placed c.args.usage.now.needed c.args.usage.now.blocks) (range_with_len 1 (c.loop-k.k - 1))) (BITS_IN_BLOCK * c.loop-k.k) c.put_bitmap.new.into.bytes _ c.loop-k.invariant
    (used_bitmap c.args.usage.now c.loop-k.k (inside _ _ _ c.loop-k-test.true c.bitmap_blocks-k-end.ensures)) c.write.ensures.effect

pub loop-k-preserved : goal.loop-k-preserved
loop-k-preserved g c =
    let f = bitmap_placed c.args.usage.now.needed c.args.usage.now.blocks in
    let next : c.loop-k.k - 1 + 1 ≡ c.loop-k.k + 1 - 1 = omega (arith, c.loop-k.auto.k) in
    goes_more_to _ (IsUsed c.args.usage.now) _ _ _ _ _ _ _ _ _ _ _ _ f 1 (c.loop-k.k - 1) (c.loop-k.k + 1 - 1) c.loop-k.k (BITS_IN_BLOCK * c.loop-k.k) c.put_bitmap.new.into.bytes next
    c.loop-k.invariant (omega (arith, c.loop-k.auto.k)) (used_bitmap c.args.usage.now c.loop-k.k (inside _ _ _ c.loop-k-test.true c.bitmap_blocks-k-end.ensures))
    (ap (λ bytes. (BITS_IN_BLOCK * c.loop-k.k, bytes)) c.put_bitmap.ensures) c.write.ensures.open c.write.ensures.size c.in_ok-write.ensures.cause.kept c.in_ok-write.ensures.effect

last : (k end blocks count : ℕ) → 1 ≤ k → (1 ≤ end → k ≤ end) → end ≤ k → end ≡ div_ceil blocks BITS_IN_BLOCK → 1 ≤ blocks → k - 1 ≡ div_ceil blocks BITS_IN_BLOCK - 1
last k end blocks count low high stop is some =
    let one : 1 ≤ end = omega (arith, is, some) in
    omega (arith, high one, stop, is)

pub returns-clause-written : goal.returns-clause-written
returns-clause-written g c = λ tells.
    c.loop-k.invariant.written tells
    ∙ ap (λ n. laid_over (map (bitmap_placed c.args.usage.now.needed c.args.usage.now.blocks) (range_with_len 1 n)) (reads (g.D.Disk.history c.args.disk.now)))
    (last c.loop-k.k _ c.args.usage.now.blocks 0 c.loop-k.auto.k c.loop-k.auto.k-end c.loop-k-test.false c.bitmap_blocks-k-end.ensures c.requires.some)
