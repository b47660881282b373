use Rattle.reiser_volume.proofs.Imports.{◌∙◌, sym, subst, arith, err_from_is_err_and, VolAnswer, Volume, IsVolumeAnswer, IsVerdict, RefusesVolume, IsOpened, IsAccepted, match_ok, match_err, if_err_to}
use Rattle.reiser_volume.proofs.Refusals.{front_known, front_refused, front_super, front_bitmap, tree_refused, tree_found, items_found, verdict_known, no_fault}
use Rattle.reiser_volume.proofs.volume.Volume.open.Goals as goal

pub returns-in_err-front-clause-answers : goal.returns-in_err-front-clause-answers
returns-in_err-front-clause-answers g c =
    let err = err_from_is_err_and c.from_residual.result c.from_residual.ensures.1 in
    rw err.1 (subst (λ (e : VolAnswer). IsVolumeAnswer e) (sym err.2) (front_known c.in_err-front.field-0.0 c.in_err-front.ensures.answers))

pub returns-in_err-front-clause-refused : goal.returns-in_err-front-clause-refused
returns-in_err-front-clause-refused g c = λ tells image is.
    let err = err_from_is_err_and c.from_residual.result c.from_residual.ensures.1 in
    rw err.1 (subst (λ (e : VolAnswer). RefusesVolume image e) (sym err.2) (front_refused image c.in_err-front.field-0.0 (c.in_err-front.ensures.refused tells image is)))

pub returns-in_err-objects-clause-kept : goal.returns-in_err-objects-clause-kept
returns-in_err-objects-clause-kept g c = g.met.S.BlockSource.kept_trans _ _ _ c.open.ensures.kept c.read.ensures.kept

pub returns-in_err-objects-clause-refused : goal.returns-in_err-objects-clause-refused
returns-in_err-objects-clause-refused g c = λ tells image is.
    let same = g.met.S.BlockSource.kept_blocks c.args.src.now c.open.new.src tells c.open.ensures.kept ∙ is in
    let front = c.in_ok-front.front in
    let of = c.in_ok-front.ensures.found tells image is in
    let err = err_from_is_err_and c.from_residual-in_err-objects.result c.from_residual-in_err-objects.ensures.1 in
    rw err.1 (subst (λ (e : VolAnswer). RefusesVolume image e) (sym err.2)
    (tree_refused image front.sup front.bitmap (front_super image front of) (front_bitmap image front of) c.in_err-objects.field-0.0 (c.in_err-objects.ensures.damage tells image same)))

pub returns-clause-kept : goal.returns-clause-kept
returns-clause-kept g c = g.met.S.BlockSource.kept_trans _ _ _ c.open.ensures.kept c.read.ensures.kept

pub returns-clause-cause : goal.returns-clause-cause
returns-clause-cause g c = record {
  later = omega (arith, c.open.ensures.cause.later, c.read.ensures.cause.later);
  failed = λ is. absurd (no_fault c.gather.result c.gather.ensures.answers is);
  kept = λ other. c.in_ok-objects.ensures.cause.kept (λ e. absurd cc) ∙ c.in_ok-front.ensures.cause.kept (λ e. absurd cc);
}

pub returns-clause-answers : goal.returns-clause-answers
returns-clause-answers g c = if_err_to c.gather.result IsVerdict IsVolumeAnswer verdict_known c.gather.ensures.answers

pub returns-clause-accepted : goal.returns-clause-accepted
returns-clause-accepted g c = λ tells image is.
    let same = g.met.S.BlockSource.kept_blocks c.args.src.now c.open.new.src tells c.open.ensures.kept ∙ is in
    let front = c.in_ok-front.front in
    let of = c.in_ok-front.ensures.found tells image is in
    let sup = front_super image front of in
    let marked = front_bitmap image front of in
    let found = tree_found image front.sup front.bitmap sup marked (c.in_ok-objects.ensures.sound tells image same) in
    let noted = items_found image front.sup front.bitmap sup marked c.in_ok-objects.objects c.in_ok-front.ensures.size (c.in_ok-objects.ensures.noted tells image same) in
    match_ok (λ (v : Volume). IsAccepted image × IsOpened v image) (λ _. IsAccepted image) (RefusesVolume image) c.gather.result (c.gather.ensures.gathered image found noted) (λ v both. both.0)

pub returns-clause-opened : goal.returns-clause-opened
returns-clause-opened g c = λ tells image is.
    let same = g.met.S.BlockSource.kept_blocks c.args.src.now c.open.new.src tells c.open.ensures.kept ∙ is in
    let front = c.in_ok-front.front in
    let of = c.in_ok-front.ensures.found tells image is in
    let sup = front_super image front of in
    let marked = front_bitmap image front of in
    let found = tree_found image front.sup front.bitmap sup marked (c.in_ok-objects.ensures.sound tells image same) in
    let noted = items_found image front.sup front.bitmap sup marked c.in_ok-objects.objects c.in_ok-front.ensures.size (c.in_ok-objects.ensures.noted tells image same) in
    match_ok (λ (v : Volume). IsAccepted image × IsOpened v image) (λ v. IsOpened v image) (RefusesVolume image) c.gather.result (c.gather.ensures.gathered image found noted) (λ v both. both.1)

pub returns-clause-refused : goal.returns-clause-refused
returns-clause-refused g c = λ tells image is.
    let same = g.met.S.BlockSource.kept_blocks c.args.src.now c.open.new.src tells c.open.ensures.kept ∙ is in
    let front = c.in_ok-front.front in
    let of = c.in_ok-front.ensures.found tells image is in
    let sup = front_super image front of in
    let marked = front_bitmap image front of in
    let found = tree_found image front.sup front.bitmap sup marked (c.in_ok-objects.ensures.sound tells image same) in
    let noted = items_found image front.sup front.bitmap sup marked c.in_ok-objects.objects c.in_ok-front.ensures.size (c.in_ok-objects.ensures.noted tells image same) in
    match_err (λ (v : Volume). IsAccepted image × IsOpened v image) (RefusesVolume image) c.gather.result (c.gather.ensures.gathered image found noted)
