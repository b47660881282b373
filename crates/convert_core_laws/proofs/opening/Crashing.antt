-- What a crash leaves while a volume is converted.
use Rattle.convert_core_laws.proofs.Imports.{inl, inr, ⊎_elim, UsedBlocksDecide, ConvertedVolumesOpen, CrashesLeaveVolumes}
use Rattle.convert_core_laws.proofs.going_back.Crashing.{half_stands, stands}

pub crashes_leave_volumes : UsedBlocksDecide → ConvertedVolumesOpen → CrashesLeaveVolumes
crashes_leave_volumes decide opens = λ o ids now image other either size low are has blocks.
    ⊎_elim (λ same. inl same)
    (λ rest. inr (⊎_elim (λ before. inl (stands decide o image other rest.0 rest.1 before))
    (λ turned. ⊎_elim (λ half. inl (half_stands decide o image other rest.0 rest.1 half)) (λ new. inr (opens o ids now image other new size low are has blocks)) turned) rest.2)) either
