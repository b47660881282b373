use Rattle.volume_app.proofs.Imports.{inspect_meaning, inspected_text}
use Rattle.volume_app.proofs.Performing.{failed, ok_kept, performed, reading_leaves}
use Rattle.volume_app.proofs.inspect.inspect_volume.Goals as goal

pub returns-in-Ok : goal.returns-in-Ok
returns-in-Ok g c =
    rw c.printed.ensures
    (performed (inspect_meaning c.args.options.now) _ _ _ _ _ _ _ _ _ _ (inspected_text c.in-Ok.found) c.print.result
    (λ told. (c.in-Ok.ensures.right (told tt)).inspectable) (λ told. (c.in-Ok.ensures.right (told tt)).text)
    (reading_leaves _ _ _ _ _ _ _ _ c.inspect.ensures.unchanged)
    (ok_kept c.in-Ok.found _ _ c.in-Ok.ensures.cause) c.print.ensures.taken c.print.ensures.cause)

pub returns-in-Err : goal.returns-in-Err
returns-in-Err g c =
    failed (inspect_meaning c.args.options.now) _ _ _ _ _ _ _ _ _ c.in-Err.answer (λ told. c.in-Err.ensures.right (told tt)) c.in-Err.ensures.known (λ is. tt)
    (reading_leaves _ _ _ _ _ _ _ _ c.inspect.ensures.unchanged) c.in-Err.ensures.cause
