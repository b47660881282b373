use Rattle.unit_plan.proofs.Imports.{◌≡◌, ℕ, ◌*◌, ◌/◌, refl, RoleSets}
use Rattle.unit_plan.proofs.Told.{only_marked, roles_told}
use Rattle.unit_plan.proofs.roles.Roles.new.Goals as goal

pub returns-clause-roles : goal.returns-clause-roles
returns-clause-roles c = λ u.
    let n : ℕ = c.div_ceil-units.result in
    let s : RoleSets = record { system = c.mark.new.set; metadata = c.mark-2.new.set; unallocated = c.mark_runs.new.set; usable = 16 * (c.args.blocks / 16) } in
    roles_told s c.args.plan.now c.args.blocks u
    (only_marked c.in_ok-system.system c.mark.new.set n u _ c.in_ok-system.ensures (c.mark.ensures.units u))
    (only_marked c.in_ok-metadata.metadata c.mark-2.new.set n u _ c.in_ok-metadata.ensures (c.mark-2.ensures.units u))
    (only_marked c.in_ok-unallocated.unallocated c.mark_runs.new.set n u _ c.in_ok-unallocated.ensures (c.mark_runs.ensures.units u)) refl
