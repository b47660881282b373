use Rattle.volume_app.proofs.Imports.{ap, inr, rollback_meaning, rollback_text, turned, reads}
use Rattle.volume_app.proofs.Outcomes.{no_fault_by, refusal_by}
use Rattle.volume_app.proofs.Performing.{failed, ok_kept, performed, printed_lacks, printed_starves, recovered_keeps, only_synced}
use Rattle.volume_app.proofs.Trees.{rollback_left_whole, rolled_back_whole}
use Rattle.volume_app.proofs.rolling_back.roll_back_volume.Goals as goal

pub returns-in-Ok : goal.returns-in-Ok
returns-in-Ok g c =
    rw c.printed.ensures
    (performed rollback_meaning _ _ _ _ _ _ _ _ _ _ (rollback_text c.in-Ok.told) c.print_rolled_back.result
    (λ told. (c.in-Ok.ensures.right (told tt)).0.can)
    (λ told. ap rollback_text (c.in-Ok.ensures.right (told tt)).1)
    (record {
      unchanged = λ told keeps. absurd (recovered_keeps c.print_rolled_back.result keeps);
      lacking = λ told is. absurd (printed_lacks c.print_rolled_back.result is);
      starved = λ told is. absurd (printed_starves c.print_rolled_back.result is);
      changed = λ told is. rolled_back_whole c.rollback_keeps.ensures _ _ (c.in-Ok.ensures.right told).0;
      settled = λ told writes is. c.in-Ok.ensures.settled told;
      crash = λ told. turned _ _ _ _ (λ image left. rollback_left_whole c.rollback_keeps.ensures _ image left) (c.roll_back.ensures.crash told);
      order = λ told. tt;
    })
    (ok_kept c.in-Ok.told _ _ c.in-Ok.ensures.cause) c.print_rolled_back.ensures.taken c.print_rolled_back.ensures.cause)

pub returns-in-Err : goal.returns-in-Err
returns-in-Err g c =
    failed rollback_meaning _ _ _ _ _ _ _ _ _ c.in-Err.answer (λ told. c.in-Err.ensures.right (told tt)) c.in-Err.ensures.known (λ is. tt)
    (record {
      unchanged = λ told keeps. c.in-Err.ensures.refused told (no_fault_by c.in-Err.answer keeps);
      lacking = λ told is. only_synced _ _ (c.in-Err.ensures.refused told (refusal_by c.in-Err.answer (inr (inr is))).0);
      starved = λ told is. ap reads (c.in-Err.ensures.refused told (no_fault_by c.in-Err.answer (inr (inr is))));
      changed = λ told is. absurd is;
      settled = λ told writes is. absurd is;
      crash = λ told. turned _ _ _ _ (λ image left. rollback_left_whole c.rollback_keeps.ensures _ image left) (c.roll_back.ensures.crash told);
      order = λ told. tt;
    })
    c.in-Err.ensures.cause
