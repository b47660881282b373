use Rattle.rollback_core.proofs.Imports.{◌∙◌, Ok, Err, length, refl, sym, ap, no_log, read_here, btrfs_cause, handed_on}
use Rattle.rollback_core.proofs.Reading.{log_refuses, opening_refuses, super_refuses}
use Rattle.rollback_core.proofs.prepared.open_volume.Goals as goal

pub returns-in_err-sup-clause-opened : goal.returns-in_err-sup-clause-opened
returns-in_err-sup-clause-opened g c = λ tells image is found.
    let size = c.len.ensures ∙ (g.met.S.BlockSource.size_is _ tells ∙ ap length is) in
    let read = read_here image _ _ (Err c.in_err-sup.field-0.0) found.block_is size (sym c.in_err-sup.ensures.value) in
    handed_on c.from_residual.result _ _ _ c.from_residual.ensures.1 (super_refuses image c.in_err-sup.field-0.0 found.format read)

pub returns-then-sup-ne0-clause-opened : goal.returns-then-sup-ne0-clause-opened
returns-then-sup-ne0-clause-opened g c = λ tells image is found.
    let size = c.len.ensures ∙ (g.met.S.BlockSource.size_is _ tells ∙ ap length is) in
    let read = read_here image _ _ (Ok c.in_ok-sup.sup) found.block_is size (sym c.in_ok-sup.ensures.value) in
    log_refuses image c.in_ok-sup.sup found.format read c.if-sup-ne0.true

pub returns-in_err-open_by-clause-opened : goal.returns-in_err-open_by-clause-opened
returns-in_err-open_by-clause-opened g c = λ tells image is found.
    let size = c.len.ensures ∙ (g.met.S.BlockSource.size_is _ tells ∙ ap length is) in
    let read = read_here image _ _ (Ok c.in_ok-sup.sup) found.block_is size (sym c.in_ok-sup.ensures.value) in
    let none = no_log image c.in_ok-sup.sup read c.if-sup-ne0.false in
    let among = c.in_err-open_by.ensures.refused tells image is found.block_is in
    handed_on c.from_residual-in_err-open_by.result _ _ _ c.from_residual-in_err-open_by.ensures.1 (opening_refuses image c.in_err-open_by.field-0.0 found.format none among)

pub returns-in_err-open_by-clause-cause : goal.returns-in_err-open_by-clause-cause
returns-in_err-open_by-clause-cause g c = btrfs_cause c.from_residual-in_err-open_by.result c.in_err-open_by.field-0.0 _ _ _ refl c.from_residual-in_err-open_by.ensures.1 c.in_err-open_by.ensures.cause
