use Rattle.convert_core.proofs.Imports.{◌∙◌, ℕ, refl, sym, ap, subst, Super, chunk_item, boot_fits_by, AreChunks, FitsVolume, PlannedChunk, is_system_role, record_bytes}
use Rattle.convert_steps.proofs.Booting.{length_record}
use Rattle.convert_core.proofs.Nodes.{units_fit}
use Rattle.convert_core.proofs.volume.superblock_of.Goals as goal

pub superblock-requires-clause-units : goal.superblock-requires-clause-units
superblock-requires-clause-units c =
    subst (λ (s : Super). FitsVolume c.args.prepared.now.plan s.blocks) (sym c.sup.ensures) (units_fit c.args.prepared.now c.requires.whole.0 c.requires.plan c.requires.whole.1)

pub superblock-requires-clause-boot : goal.superblock-requires-clause-boot
superblock-requires-clause-boot c = λ chunks are.
    let p = c.args.prepared.now in
    let whole = c.requires.whole.1 in
    let are_by = subst (λ (n : ℕ). AreChunks p.plan n chunks) (ap (λ (s : Super). s.blocks) c.sup.ensures ∙ sym whole.bitmap) are in
    boot_fits_by is_system_role refl refl (λ (k : PlannedChunk). record_bytes (chunk_item p.ids k)) (λ k. length_record p.ids k c.know_ids.ensures.device) p.volume.bitmap p.need p.plan chunks c.requires.plan.enough
    c.requires.plan.plan are_by whole.system
