use Rattle.volume_app.proofs.Imports.{◌∙◌, Err, sym, ap, subst, arith, err_from_is_err_and, RefusesPart, SavedImage, BtrAnswer, Super, summary_with}
use Rattle.volume_app.proofs.Telling.{opening_refuses, image_read, summary_is, way_refuses, only_memory}
use Rattle.volume_app.proofs.summary.Summary.read.Goals as goal

pub returns-in_err-map-clause-refused : goal.returns-in_err-map-clause-refused
returns-in_err-map-clause-refused g c = λ tells image is block.
    let on = c.in_ok-volume.ensures.opened tells image is block in
    let same = g.met.S.BlockSource.kept_blocks c.args.src.now c.open_by.new.src tells c.open_by.ensures.kept ∙ is in
    let err = err_from_is_err_and c.from_residual-in_err-map.result c.from_residual-in_err-map.ensures.1 in
    rw err.1 (subst (RefusesPart image SavedImage) (sym err.2) (way_refuses image c.in_ok-volume.volume.sup _ c.in_err-map.field-0.0 on.opened (c.in_err-map.ensures.reads tells image same on)))

pub returns-in_err-map-clause-complete : goal.returns-in_err-map-clause-complete
returns-in_err-map-clause-complete g c = λ tells image is block readable same low.
    let on = c.in_ok-volume.ensures.opened tells image is block in
    let there = g.met.S.BlockSource.kept_blocks c.args.src.now c.open_by.new.src tells c.open_by.ensures.kept ∙ is in
    let err = err_from_is_err_and c.from_residual-in_err-map.result c.from_residual-in_err-map.ensures.1 in
    rw err.1 (err.2 ∙ only_memory image c.in_err-map.field-0.0 _ _ _ readable
    (way_refuses image c.in_ok-volume.volume.sup _ c.in_err-map.field-0.0 on.opened (c.in_err-map.ensures.reads tells image there on))
    (λ fault. c.image_map.ensures.cause.failed (c.in_err-map.was ∙ ap (λ (e : BtrAnswer). Err e) fault)) c.open_by.ensures.cause.later same low)

pub returns-clause-readable : goal.returns-clause-readable
returns-clause-readable g c = λ tells image is block.
    let on = c.in_ok-volume.ensures.opened tells image is block in
    let same = g.met.S.BlockSource.kept_blocks c.args.src.now c.open_by.new.src tells c.open_by.ensures.kept ∙ is in
    image_read image c.in_ok-volume.volume.sup _ c.in_ok-map.map on.opened (c.in_ok-map.ensures.reads tells image same on)

pub returns-clause-told : goal.returns-clause-told
returns-clause-told g c = λ tells image is block.
    let on = c.in_ok-volume.ensures.opened tells image is block in
    let same = g.met.S.BlockSource.kept_blocks c.args.src.now c.open_by.new.src tells c.open_by.ensures.kept ∙ is in
    c.summary_with.ensures
    ∙ (ap (λ (s : Super). summary_with s c.length_of.result) c.sup.ensures
    ∙ (ap (summary_with c.in_ok-volume.volume.sup) c.length_of.ensures
    ∙ summary_is image c.in_ok-volume.volume.sup _ c.in_ok-map.map on.opened (c.in_ok-map.ensures.reads tells image same on)))

pub returns-in_err-volume-clause-refused : goal.returns-in_err-volume-clause-refused
returns-in_err-volume-clause-refused g c = λ tells image is block.
    let err = err_from_is_err_and c.from_residual.result c.from_residual.ensures.1 in
    rw err.1 (subst (RefusesPart image SavedImage) (sym err.2) (opening_refuses image c.in_err-volume.field-0.0 (c.in_err-volume.ensures.refused tells image is block)))

pub returns-in_err-volume-clause-complete : goal.returns-in_err-volume-clause-complete
returns-in_err-volume-clause-complete g c = λ tells image is block readable same low.
    let err = err_from_is_err_and c.from_residual.result c.from_residual.ensures.1 in
    rw err.1 (err.2 ∙ only_memory image c.in_err-volume.field-0.0 _ _ _ readable (opening_refuses image c.in_err-volume.field-0.0 (c.in_err-volume.ensures.refused tells image is block))
    (λ fault. c.open_by.ensures.cause.failed (c.in_err-volume.was ∙ ap (λ (e : BtrAnswer). Err e) fault)) (omega arith) same low)
