use Rattle.reiser_volume.proofs.Imports.{sym, ap, subst, err_from_is_err_and, IsFaultOrMemory, ObjectKey, Super, IsKnownAt, IsOfVolume, bytes_at, volume_items}
use Rattle.reiser_volume.proofs.Rowed.{is_of, content_there, least_there, row_made}
use Rattle.reiser_volume.proofs.rows.row_at.Goals as goal

pub returns-in_err-known-clause-row : goal.returns-in_err-known-clause-row
returns-in_err-known-clause-row g c = λ tells image is accepted opened marked list has i at before.
    let of = is_of image c.args.volume.now list accepted opened has i c.args.path.now at c.args.rows.now before in
    absurd (c.in_err-known.ensures.known image (subst (λ (k : ObjectKey). IsOfVolume image c.args.volume.now k) (sym c.key_at-key.ensures) of))

pub returns-in_err-content-clause-row : goal.returns-in_err-content-clause-row
returns-in_err-content-clause-row g c = λ tells image is accepted opened marked list has i at before.
    let volume = c.args.volume.now in
    let p = c.args.path.now in
    let rows = c.args.rows.now in
    let of = is_of image volume list accepted opened has i p at rows before in
    let of_key = subst (λ (k : ObjectKey). IsOfVolume image volume k) (sym c.key_at-key.ensures) of in
    let known = c.in_ok-known.ensures.known image of_key in
    let there = content_there image volume list accepted opened has i p at rows before c.in_ok-known.known (subst (λ (k : ObjectKey). IsKnownAt (volume_items image) k c.in_ok-known.known) c.key_at-key.ensures known) (λ r. r.now) c.first_row-first.result c.first_row-first.ensures in
    let bytes = ap (λ (k : ObjectKey). bytes_at image (volume_items image) k c.in_ok-known.known.stat c.in_ok-known.known.kind) (sym c.key_at-key.ensures) in
    let kept = c.kept_mark-mark.ensures image marked in
    let fault = c.in_err-content.ensures.content tells image is of_key known kept _ bytes there in
    let err = err_from_is_err_and c.from_residual-in_err-content.result c.from_residual-in_err-content.ensures.1 in
    rw err.1 (subst IsFaultOrMemory (sym err.2) fault)

pub returns-clause-row : goal.returns-clause-row
returns-clause-row g c = λ tells image is accepted opened marked list has i at before.
    let volume = c.args.volume.now in
    let p = c.args.path.now in
    let rows = c.args.rows.now in
    let of = is_of image volume list accepted opened has i p at rows before in
    let of_key = subst (λ (k : ObjectKey). IsOfVolume image volume k) (sym c.key_at-key.ensures) of in
    let known = c.in_ok-known.ensures.known image of_key in
    let own = subst (λ (k : ObjectKey). IsKnownAt (volume_items image) k c.in_ok-known.known) c.key_at-key.ensures known in
    let there = content_there image volume list accepted opened has i p at rows before c.in_ok-known.known own (λ r. r.now) c.first_row-first.result c.first_row-first.ensures in
    let bytes = ap (λ (k : ObjectKey). bytes_at image (volume_items image) k c.in_ok-known.known.stat c.in_ok-known.known.kind) (sym c.key_at-key.ensures) in
    let kept = c.kept_mark-mark.ensures image marked in
    let content = c.in_ok-content.ensures.content tells image is of_key known kept _ bytes there in
    let least = least_there image volume list accepted opened has i p at rows before (λ r. r.now) c.first_row-first.result _ c.first_row-first.ensures c.in_ok-spot.ensures.least in
    row_made image volume list accepted opened has i p at rows before c.in_ok-known.known own _ _ _ _ c.make_row.result (ap (λ (s : Super). s.flags) opened.sup) c.in_ok-spot.ensures.path least c.in_ok-spot.ensures.names (c.make_row.ensures _ content)
