use Rattle.volume_app.proofs.Imports.{ap, synced_now, trial_meaning, trial_text}
use Rattle.trial_core.specs.declared.summary.TrialSummary.{TrialSummary}
use Rattle.volume_app.proofs.Performing.{failed, ok_kept, performed, printed_lacks}
use Rattle.volume_app.proofs.Trials.{refused_keeps, refused_lacks, triable_was, tried_keeps, tried_whole}
use Rattle.volume_app.proofs.trying.try_on_path.Goals as goal

pub returns-in-Ok : goal.returns-in-Ok
returns-in-Ok g c =
    rw c.printed.ensures
    (performed (trial_meaning c.args.ids.now c.args.now c.args.number) _ _ _ _ _ _ _ _ _ _ (trial_text c.args.number c.in-Ok.told) c.print_tried.result
    (λ told. triable_was _ _ _ _ _ (c.in-Ok.ensures.right (told tt)).0)
    (λ told. ap (λ (t : TrialSummary). trial_text c.args.number t) (c.in-Ok.ensures.right (told tt)).1)
    (record {
      unchanged = λ told keeps. absurd (tried_keeps _ _ c.print_tried.result keeps);
      lacking = λ told is. absurd (printed_lacks c.print_tried.result is);
      starved = λ told is. tt;
      changed = λ told is. tried_whole c.tries_keep.ensures _ _ _ _ _ c.requires.number c.requires.moment c.know_ids.ensures (c.in-Ok.ensures.right told).0;
      settled = λ told writes is. c.in-Ok.ensures.settled told;
      crash = λ told. record { first = c.tried.ensures.first told; since = λ image left. tt };
      order = λ told. tt;
    })
    (ok_kept c.in-Ok.told _ _ c.in-Ok.ensures.cause) c.print_tried.ensures.taken c.print_tried.ensures.cause)

pub returns-in-Err : goal.returns-in-Err
returns-in-Err g c =
    failed (trial_meaning c.args.ids.now c.args.now c.args.number) _ _ _ _ _ _ _ _ _ c.in-Err.answer (λ told. c.in-Err.ensures.right (told tt)) c.in-Err.ensures.known (λ is. tt)
    (record {
      unchanged = λ told keeps. refused_keeps c.args.number (synced_now (g.D.Disk.history c.args.disk.now)) _ c.in-Err.answer (c.in-Err.ensures.leaves told) keeps;
      lacking = λ told is. refused_lacks c.args.number (g.D.Disk.history c.args.disk.now) _ c.in-Err.answer (c.in-Err.ensures.right told) (c.in-Err.ensures.leaves told) is;
      starved = λ told is. tt;
      changed = λ told is. absurd is;
      settled = λ told writes is. absurd is;
      crash = λ told. record { first = c.tried.ensures.first told; since = λ image left. tt };
      order = λ told. tt;
    })
    c.in-Err.ensures.cause
