use Rattle.rollback_core.proofs.Imports.{ap, ◌∙◌, ImageMap, blocks_by_map, image_blocks, unwrap_or}
use Rattle.std.specs.Prelude.{Option, ℕ}
use Rattle.rollback_core.proofs.Imaged.{told_blocks}
use Rattle.rollback_core.proofs.Planning.{prepared}
use Rattle.rollback_core.proofs.prepared.plan.Goals as goal

pub returns-clause-planned : goal.returns-clause-planned
returns-clause-planned g c = λ tells image is on u used.
    let disk = g.met.S.BlockSource.kept_blocks _ _ tells c.in_ok-first.ensures.kept ∙ is in
    let blocks =
    ap (λ (m : ImageMap). blocks_by_map m (g.S.BlockSource.blocks c.new-image.result.src.now)) c.new-image.ensures.map
    ∙ told_blocks image _ c.args.map.now on (ap g.S.BlockSource.blocks c.new-image.ensures.same ∙ disk) in
    let kept = c.in_ok-superblock.ensures.kept in
    let later =
    ap (λ (m : ImageMap). blocks_by_map m (g.S.BlockSource.blocks c.read_block.new.src.src.now)) kept.2
    ∙ (ap (blocks_by_map c.new-image.result.map.now) (g.met.S.BlockSource.kept_blocks _ _ tells kept.0) ∙ blocks) in
    prepared image c.args.map.now c.args.used.now _ on u used (c.in-Ok.ensures.saved tells (image_blocks image) later) (c.in_ok-superblock.ensures.block tells (image_blocks image) blocks)
    (c.unwrap_or-copy.ensures ∙ ap (λ (o : Option ℕ). unwrap_or o 16) c.place.ensures.place)
    (c.in_ok-first.ensures.first tells image is) (c.in_ok-first.ensures.second tells image is) c.used.ensures c.count_reserved.ensures
