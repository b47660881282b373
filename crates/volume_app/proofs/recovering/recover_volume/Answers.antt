use Rattle.volume_app.proofs.Imports.{ap, inr, turned, recover_meaning, recover_text}
use Rattle.volume_app.proofs.Outcomes.{no_fault_by, refusal_by}
use Rattle.volume_app.proofs.Performing.{failed, ok_kept, performed, printed_lacks, printed_starves, recovered_keeps, put_alone}
use Rattle.volume_app.proofs.Trees.{recovered_whole, recovery_left_whole}
use Rattle.volume_app.proofs.recovering.recover_volume.Goals as goal

pub returns-in-Ok : goal.returns-in-Ok
returns-in-Ok g c =
    rw c.printed.ensures
    (performed recover_meaning _ _ _ _ _ _ _ _ _ _ (recover_text c.in-Ok.told) c.print_recovered.result
    (λ told. (c.in-Ok.ensures.right (told tt)).0.can)
    (λ told. ap recover_text (c.in-Ok.ensures.right (told tt)).1)
    (record {
      unchanged = λ told keeps. absurd (recovered_keeps c.print_recovered.result keeps);
      lacking = λ told is. absurd (printed_lacks c.print_recovered.result is);
      starved = λ told is. absurd (printed_starves c.print_recovered.result is);
      changed = λ told is. recovered_whole c.recovery_keeps.ensures c.recovery_opens.ensures c.spare_blocks_decide_nothing.ensures _ _ (c.in-Ok.ensures.right told).0;
      settled = λ told writes is. c.in-Ok.ensures.settled told;
      crash = λ told. turned _ _ _ _ (λ image left. recovery_left_whole c.recovery_keeps.ensures c.recovery_opens.ensures c.spare_blocks_decide_nothing.ensures _ image left) (c.recover.ensures.crash told);
      order = c.recover.ensures.order;
    })
    (ok_kept c.in-Ok.told _ _ c.in-Ok.ensures.cause) c.print_recovered.ensures.taken c.print_recovered.ensures.cause)

pub returns-in-Err : goal.returns-in-Err
returns-in-Err g c =
    failed recover_meaning _ _ _ _ _ _ _ _ _ c.in-Err.answer (λ told. c.in-Err.ensures.right (told tt)) c.in-Err.ensures.known (λ is. tt)
    (record {
      unchanged = λ told keeps. c.in-Err.ensures.refused told (no_fault_by c.in-Err.answer keeps);
      lacking = λ told is. put_alone _ _ (c.in-Err.ensures.refused told (refusal_by c.in-Err.answer (inr (inr is))).0);
      starved = λ told is. (c.in-Err.ensures.refused told (no_fault_by c.in-Err.answer (inr (inr is)))).put;
      changed = λ told is. absurd is;
      settled = λ told writes is. absurd is;
      crash = λ told. turned _ _ _ _ (λ image left. recovery_left_whole c.recovery_keeps.ensures c.recovery_opens.ensures c.spare_blocks_decide_nothing.ensures _ image left) (c.recover.ensures.crash told);
      order = c.recover.ensures.order;
    })
    c.in-Err.ensures.cause
