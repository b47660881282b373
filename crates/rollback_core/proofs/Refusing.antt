-- A volume that can be rolled back is not refused.
use Rattle.rollback_core.proofs.Imports.{◌≡◌, Some, None, refl, sym, ◌∙◌, format_in, Image, BtrRefusal, not_refused, image_blocks, RefusedCanNotGoBack, CanGoBack, IsWayRefusal, has_log, unreadable}
use Rattle.rollback_core.proofs.RollbackFormats.{format_read}
use Rattle.convert_steps.specs.command_answers.declared.answer.Answer.TheVariants as answer
use Rattle.reiser_bitmap.specs.vol_block.declared.format.Format.TheVariants as formats

way_not_refused : (disk : Image) (r : BtrRefusal) → CanGoBack disk → IsWayRefusal disk r → ⊥
way_not_refused disk r u (has_log at log is) =
    let both : None ≡ Some at = sym u.way.log ∙ log in
    absurd (cc both)
way_not_refused disk r u (unreadable none bad) = u.way.readable r bad

not_neither : (disk : Image) → CanGoBack disk → format_in disk ≡ formats.Neither → ⊥
not_neither disk u is =
    let both : formats.Btrfs ≡ formats.Neither = sym (format_read disk u.way) ∙ is in
    absurd (cc both)

not_reiser : (disk : Image) → CanGoBack disk → format_in disk ≡ formats.Reiser → ⊥
not_reiser disk u is =
    let both : formats.Btrfs ≡ formats.Reiser = sym (format_read disk u.way) ∙ is in
    absurd (cc both)

pub refused_can_not : RefusedCanNotGoBack
refused_can_not disk (answer.Volume r) refused other short u = not_neither disk u refused.0
refused_can_not disk (answer.Btr r) refused other short u = way_not_refused disk r u refused.1
refused_can_not disk (answer.NoSpace needed free run_needed longest) refused other short u = absurd refused
refused_can_not disk answer.WrongFormat refused other short u = not_reiser disk u refused
refused_can_not disk answer.ImageMissing refused other short u = u.there refused.1
refused_can_not disk (answer.ImageDamaged r) refused other short u = not_refused (image_blocks disk) r refused.1 u.accepted
refused_can_not disk (answer.ImageMoved b) refused other short u = refused.1.elsewhere (u.in_place b refused.1.old)
refused_can_not disk (answer.ReservedUsed b) refused other short u = u.reserved b refused.1 refused.2
refused_can_not disk (answer.NotSound part address) refused other short u = absurd refused
refused_can_not disk (answer.ImageShared tree) refused other short u = absurd refused
refused_can_not disk answer.Fault refused other short u = absurd (other refl)
refused_can_not disk answer.Memory refused other short u = absurd (short refl)
