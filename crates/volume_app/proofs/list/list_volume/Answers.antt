use Rattle.volume_app.proofs.Imports.{rows_text, list_meaning}
use Rattle.volume_app.proofs.Listing.{listed_text}
use Rattle.volume_app.proofs.Performing.{failed, ok_kept, performed, reading_leaves}
use Rattle.volume_app.proofs.list.list_volume.Goals as goal

pub returns-in-Ok : goal.returns-in-Ok
returns-in-Ok g c =
    rw c.printed.ensures
    (performed list_meaning _ _ _ _ _ _ _ _ _ _ (rows_text c.in-Ok.rows) c.write_rows.result
    (λ told. (c.in-Ok.ensures.right (told tt)).listable) (λ told. listed_text _ c.in-Ok.rows (c.in-Ok.ensures.right (told tt)))
    (reading_leaves _ _ _ _ _ _ _ _ c.list.ensures.unchanged)
    (ok_kept c.in-Ok.rows _ _ c.in-Ok.ensures.cause) c.write_rows.ensures.taken c.write_rows.ensures.cause)

pub returns-in-Err : goal.returns-in-Err
returns-in-Err g c =
    failed list_meaning _ _ _ _ _ _ _ _ _ c.in-Err.answer (λ told. c.in-Err.ensures.right (told tt)) c.in-Err.ensures.known (λ is. tt)
    (reading_leaves _ _ _ _ _ _ _ _ c.list.ensures.unchanged) c.in-Err.ensures.cause
