use Rattle.file_items.proofs.Imports.{sym, ap, subst, arith, err_from_is_err_and, IsFaultOrMemory, ObjectStat}
use Rattle.reiser_volume.proofs.Holding.{fault_or}
use Rattle.file_items.proofs.Held.{stat_is}
use Rattle.file_items.proofs.contents.read_bytes.Goals as goal

pub returns-then-size-gt-TARGET_LIMIT-clause-held : goal.returns-then-size-gt-TARGET_LIMIT-clause-held
returns-then-size-gt-TARGET_LIMIT-clause-held g c = λ tells image is accepted opened key at small.
    let size = ap (λ (s : ObjectStat). s.fields.size) (stat_is c.args.volume.now image c.args.place key c.stat.result.now opened at (c.stat.ensures key at)) in
    absurd (omega (arith, small, size, c.if-size-gt-TARGET_LIMIT.true))

pub returns-in_err-tail-clause-held : goal.returns-in_err-tail-clause-held
returns-in_err-tail-clause-held g c = λ tells image is accepted opened key at small.
    let fault = fault_or c.in_err-tail.field-0.0 (c.in_err-tail.ensures.tail tells image is accepted opened key at) in
    let err = err_from_is_err_and c.from_residual.result c.from_residual.ensures.1 in
    rw err.1 (subst IsFaultOrMemory (sym err.2) fault)

pub returns-clause-held : goal.returns-clause-held
returns-clause-held g c = λ tells image is accepted opened key at small. record {
  count = sym (ap (λ (s : ObjectStat). s.fields.size) (stat_is c.args.volume.now image c.args.place key c.stat.result.now opened at (c.stat.ensures key at)));
  bytes = c.in_ok-tail.ensures.tail tells image is accepted opened key at;
}
