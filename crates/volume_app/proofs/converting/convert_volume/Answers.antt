use Rattle.volume_app.proofs.Imports.{inr, refl, turned, convert_meaning, convert_text}
use Rattle.volume_app.proofs.Convertible.{converted_was}
use Rattle.volume_app.proofs.Outcomes.{memory_by, refusal_by}
use Rattle.volume_app.proofs.Performing.{failed, ok_kept, performed, printed_keeps, printed_lacks, printed_starves, put_alone}
use Rattle.volume_app.proofs.Trees.{converted_whole, either_whole}
use Rattle.volume_app.proofs.converting.convert_volume.Goals as goal

pub returns-in-Ok : goal.returns-in-Ok
returns-in-Ok g c =
    rw c.printed.ensures
    (performed (convert_meaning c.args.ids.now c.args.now c.args.options.now) _ _ _ _ _ _ _ _ _ _ (convert_text c.in-Ok.summary) c.print_summary.result
    (λ told. converted_was c.args.options.now c.args.ids.now c.args.now _ _ (c.in-Ok.ensures.right (told tt)).0)
    (λ told. (c.in-Ok.summary, (c.in-Ok.ensures.right (told tt)).1, refl))
    (record {
      unchanged = λ told keeps. absurd (printed_keeps c.print_summary.result keeps);
      lacking = λ told is. absurd (printed_lacks c.print_summary.result is);
      starved = λ told is. absurd (printed_starves c.print_summary.result is);
      changed = λ told is. converted_whole _ _ _ _ c.requires.size c.requires.moment c.know_ids.ensures c.know_id.ensures c.converted_volumes_open.ensures c.converted_volumes_are_sound.ensures c.converted_data_stays.ensures c.converted_volumes_go_back.ensures _ (c.in-Ok.ensures.right told).0;
      settled = λ told writes is. c.in-Ok.ensures.settled told;
      crash = λ told. turned _ _ _ _ (λ image left. either_whole _ _ _ _ c.requires.size c.requires.moment c.know_ids.ensures c.know_id.ensures c.converted_volumes_open.ensures c.converted_volumes_are_sound.ensures c.converted_data_stays.ensures c.converted_volumes_go_back.ensures c.used_blocks_decide.ensures image left) (c.convert.ensures.crash told);
      order = λ told. c.convert.ensures.only told;
    })
    (ok_kept c.in-Ok.summary _ _ c.in-Ok.ensures.cause) c.print_summary.ensures.taken c.print_summary.ensures.cause)

pub returns-in-Err : goal.returns-in-Err
returns-in-Err g c =
    failed (convert_meaning c.args.ids.now c.args.now c.args.options.now) _ _ _ _ _ _ _ _ _ c.in-Err.answer (λ told. c.in-Err.ensures.right (told tt)) c.in-Err.ensures.known (λ is. tt)
    (record {
      unchanged = λ told keeps. (let no = refusal_by c.in-Err.answer keeps in c.in-Err.ensures.refused told no.0 no.1);
      lacking = λ told is. (let no = refusal_by c.in-Err.answer (inr (inr is)) in put_alone _ _ (c.in-Err.ensures.refused told no.0 no.1));
      starved = λ told is. c.in-Err.ensures.memory told (memory_by c.in-Err.answer is);
      changed = λ told is. absurd is;
      settled = λ told writes is. absurd is;
      crash = λ told. turned _ _ _ _ (λ image left. either_whole _ _ _ _ c.requires.size c.requires.moment c.know_ids.ensures c.know_id.ensures c.converted_volumes_open.ensures c.converted_volumes_are_sound.ensures c.converted_data_stays.ensures c.converted_volumes_go_back.ensures c.used_blocks_decide.ensures image left) (c.convert.ensures.crash told);
      order = λ told. c.convert.ensures.only told;
    })
    c.in-Err.ensures.cause
