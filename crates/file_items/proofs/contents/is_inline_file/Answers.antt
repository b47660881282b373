use Rattle.file_items.proofs.Imports.{sym, ap, subst, ◌∙◌, arith, err_from_is_err_and, IsFaultOrMemory, block_from, items_of, ObjectStat, is_tail, stat_at, volume_items, begins_in_tail}
use Rattle.file_items.proofs.Held.{stat_is, first_tail, not_short}
use Rattle.file_items.proofs.contents.is_inline_file.Goals as goal

pub returns-then-stat-gt-INLINE_LIMIT-clause-test : goal.returns-then-stat-gt-INLINE_LIMIT-clause-test
returns-then-stat-gt-INLINE_LIMIT-clause-test g c = λ tells image is accepted opened key at.
    let size = ap (λ (s : ObjectStat). s.fields.size) (stat_is c.args.volume.now image c.args.place key c.stat.result.now opened at (c.stat.ensures key at)) in
    not_short (stat_at (volume_items image) key).fields.size (is_tail (block_from (items_of key (volume_items image)) (stat_at (volume_items image) key).fields.size 0)) (omega (arith, size, c.if-stat-gt-INLINE_LIMIT.true))

pub returns-in_err-map-clause-test : goal.returns-in_err-map-clause-test
returns-in_err-map-clause-test g c = λ tells image is accepted opened key at.
    let fault = c.in_err-map.ensures.map tells image is accepted opened key at in
    let err = err_from_is_err_and c.from_residual.result c.from_residual.ensures.1 in
    rw err.1 (subst IsFaultOrMemory (sym err.2) fault)

pub returns-clause-test : goal.returns-clause-test
returns-clause-test g c = λ tells image is accepted opened key at.
    let size = ap (λ (s : ObjectStat). s.fields.size) (stat_is c.args.volume.now image c.args.place key c.stat.result.now opened at (c.stat.ensures key at)) in
    c.begins_in_tail.ensures ∙ (ap begins_in_tail (c.in_ok-map.ensures.map tells image is accepted opened key at) ∙ first_tail (items_of key (volume_items image)) (stat_at (volume_items image) key).fields.size (omega (arith, size, c.if-stat-gt-INLINE_LIMIT.false)))
