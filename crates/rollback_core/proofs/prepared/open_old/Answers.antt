use Rattle.rollback_core.proofs.Imports.{◌<◌, ℕ, length, sym, ◌∙◌, ap, subst, Answer, ImageMap, blocks_by_map, image_blocks, RefusesRollback}
use Rattle.rollback_core.proofs.Imaged.{image_refuses, not_high, not_low, told_blocks}
use Rattle.rollback_core.proofs.prepared.open_old.Goals as goal
use Rattle.rollback_core.proofs.prepared.open_old.Goals.{then-blocks-le-SUPER_BLOCK-via-then-blocks-le-SUPER_BLOCK, then-blocks-le-SUPER_BLOCK-via-else-blocks-le-SUPER_BLOCK+then-blocks-len}

pub returns-in-Err-clause-opened : goal.returns-in-Err-clause-opened
returns-in-Err-clause-opened g c = λ tells image is on.
    let blocks = ap (λ (m : ImageMap). blocks_by_map m (g.S.BlockSource.blocks c.new-image.result.src.now)) c.new-image.ensures.map ∙ told_blocks image _ c.args.map.now on (ap g.S.BlockSource.blocks c.new-image.ensures.same ∙ is) in
    subst (λ (a : Answer). RefusesRollback image a) (sym c.image_answer.ensures) (image_refuses image c.in-Err.answer on.image (c.in-Err.ensures.refused tells (image_blocks image) blocks))

pub returns-then-blocks-le-SUPER_BLOCK-clause-opened : goal.returns-then-blocks-le-SUPER_BLOCK-clause-opened
returns-then-blocks-le-SUPER_BLOCK-clause-opened g c = λ tells image is on.
    let blocks = ap (λ (m : ImageMap). blocks_by_map m (g.S.BlockSource.blocks c.new-image.result.src.now)) c.new-image.ensures.map ∙ told_blocks image _ c.args.map.now on (ap g.S.BlockSource.blocks c.new-image.ensures.same ∙ is) in
    let accepted = c.in-Ok.ensures.accepted tells (image_blocks image) blocks in
    let used = c.bitmap.ensures ∙ (c.in-Ok.ensures.opened tells (image_blocks image) blocks).bitmap in
    elim c.then-blocks-le-SUPER_BLOCK.branch [
      | then-blocks-le-SUPER_BLOCK-via-then-blocks-le-SUPER_BLOCK w ↦
          absurd (not_low image c.args.map.now on c.bitmap.result.now accepted used c.len-blocks.result c.len-blocks.ensures w.if-blocks-le-SUPER_BLOCK.true)
      | then-blocks-le-SUPER_BLOCK-via-else-blocks-le-SUPER_BLOCK+then-blocks-len w ↦
          let map_same = c.in-Ok.ensures.kept.2 ∙ c.new-image.ensures.map in
          let size = g.met.S.BlockSource.kept_size _ _ c.in-Ok.ensures.kept.0 ∙ (ap g.S.BlockSource.size c.new-image.ensures.same ∙ (g.met.S.BlockSource.size_is _ tells ∙ ap length is)) in
          absurd (not_high image c.args.map.now on c.bitmap.result.now accepted used c.len-blocks.result _ _ c.len-blocks.ensures (ap (λ (m : ImageMap). m.blocks) map_same) size (subst (λ (n : ℕ). n < c.len-blocks.result) w.len.ensures w.if-blocks-len.true))
    ]

pub returns-clause-opened : goal.returns-clause-opened
returns-clause-opened g c = λ tells image is on.
    let blocks = ap (λ (m : ImageMap). blocks_by_map m (g.S.BlockSource.blocks c.new-image.result.src.now)) c.new-image.ensures.map ∙ told_blocks image _ c.args.map.now on (ap g.S.BlockSource.blocks c.new-image.ensures.same ∙ is) in
    record {
      volume = record { image = on.image; accepted = c.in-Ok.ensures.accepted tells (image_blocks image) blocks };
      bitmap = (c.in-Ok.ensures.opened tells (image_blocks image) blocks).bitmap;
    }
