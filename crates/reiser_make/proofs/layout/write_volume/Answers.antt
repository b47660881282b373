use Rattle.reiser_make.proofs.Imports.{◌++◌, ap, ◌∙◌, arith, reads, writes_then, IsUsed, laid_over, volume_blocks, system_part, data_part, leaf_part, inner_part, bitmap_part}
use Rattle.reiser_make.proofs.Laying.{laid_five}
use Rattle.reiser_make.proofs.Placed.{needed_some}
use Rattle.reiser_make.proofs.layout.write_volume.Goals as goal

pub write_bitmaps-requires-clause-some : goal.write_bitmaps-requires-clause-some
write_bitmaps-requires-clause-some g c = omega (arith, needed_some c.args.plan.now.sample, c.requires.usage.needed, c.requires.usage.fits)

pub returns-in_err-write_data-clause-only : goal.returns-in_err-write_data-clause-only
returns-in_err-write_data-clause-only g c = λ tells.
    writes_then (λ b _. IsUsed c.args.usage.now b) _ _ _ (c.write_system.ensures.only tells) (c.write_data.ensures.only tells)

pub returns-in_err-write_leaves-clause-only : goal.returns-in_err-write_leaves-clause-only
returns-in_err-write_leaves-clause-only g c = λ tells.
    writes_then (λ b _. IsUsed c.args.usage.now b) _ _ _ (c.write_system.ensures.only tells)
    (writes_then (λ b _. IsUsed c.args.usage.now b) _ _ _ (c.write_data.ensures.only tells) (c.write_leaves.ensures.only tells))

pub returns-in_err-write_inner-clause-only : goal.returns-in_err-write_inner-clause-only
returns-in_err-write_inner-clause-only g c = λ tells.
    writes_then (λ b _. IsUsed c.args.usage.now b) _ _ _ (c.write_system.ensures.only tells)
    (writes_then (λ b _. IsUsed c.args.usage.now b) _ _ _ (c.write_data.ensures.only tells)
    (writes_then (λ b _. IsUsed c.args.usage.now b) _ _ _ (c.write_leaves.ensures.only tells) (c.write_inner.ensures.only tells)))

pub returns-in_err-write_bitmaps-clause-only : goal.returns-in_err-write_bitmaps-clause-only
returns-in_err-write_bitmaps-clause-only g c = λ tells.
    writes_then (λ b _. IsUsed c.args.usage.now b) _ _ _ (c.write_system.ensures.only tells)
    (writes_then (λ b _. IsUsed c.args.usage.now b) _ _ _ (c.write_data.ensures.only tells)
    (writes_then (λ b _. IsUsed c.args.usage.now b) _ _ _ (c.write_leaves.ensures.only tells)
    (writes_then (λ b _. IsUsed c.args.usage.now b) _ _ _ (c.write_inner.ensures.only tells) (c.write_bitmaps.ensures.only tells))))

pub returns-clause-only : goal.returns-clause-only
returns-clause-only g c = λ tells.
    writes_then (λ b _. IsUsed c.args.usage.now b) _ _ _ (c.write_system.ensures.only tells)
    (writes_then (λ b _. IsUsed c.args.usage.now b) _ _ _ (c.write_data.ensures.only tells)
    (writes_then (λ b _. IsUsed c.args.usage.now b) _ _ _ (c.write_leaves.ensures.only tells)
    (writes_then (λ b _. IsUsed c.args.usage.now b) _ _ _ (c.write_inner.ensures.only tells) (c.write_bitmaps.ensures.only tells))))

pub returns-clause-written : goal.returns-clause-written
unfolding volume_blocks
returns-clause-written g c = λ tells.
    laid_five (system_part c.args.plan.now.sample c.args.usage.now.blocks) (data_part c.args.plan.now.sample) (leaf_part c.args.plan.now.sample) (inner_part c.args.plan.now.sample) (bitmap_part c.args.usage.now.needed c.args.usage.now.blocks)
    _ _ _ _ _ _
    (c.in_ok-write_system.ensures.written tells) (c.in_ok-write_data.ensures.written tells) (c.in_ok-write_leaves.ensures.written tells) (c.in_ok-write_inner.ensures.written tells) (c.in_ok-write_bitmaps.ensures.written tells)
    ∙ ap (λ n. laid_over (system_part c.args.plan.now.sample c.args.usage.now.blocks ++ (data_part c.args.plan.now.sample ++ (leaf_part c.args.plan.now.sample ++ (inner_part c.args.plan.now.sample ++ bitmap_part n c.args.usage.now.blocks)))) (reads (g.D.Disk.history c.args.disk.now))) c.requires.usage.needed
