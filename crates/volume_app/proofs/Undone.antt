-- A volume that is converted and then rolled back is the one before.
use Rattle.volume_app.proofs.Imports.{◌≡◌, Bool, List, sym, subst, ◌∙◌, true, Image, used_of, then_same, image_blocks, RollbackUndoesConvert}
use Rattle.reiser_volume.specs.reiser_bitmap.Bits.{has}

pub rollback_undoes_convert : RollbackUndoesConvert
rollback_undoes_convert disk other back converted restored = record {
  used = λ b is. restored.restored b (subst (λ (used : List Bool). has used b ≡ true) (sym converted.back.used) is) ∙ converted.back.blocks b is;
  volume = then_same disk (image_blocks other) back converted.back.volume restored.volume;
}
