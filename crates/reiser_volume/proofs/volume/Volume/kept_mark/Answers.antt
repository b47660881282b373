use Rattle.reiser_volume.proofs.Imports.{◌∙◌, ◌<◌, None, length, sym, subst, arith, get_or_default, IsKeptMark}
use Rattle.reiser_volume.proofs.volume.Volume.kept_mark.Goals as goal

pub returns-then-place-len : goal.returns-then-place-len
returns-then-place-len c = λ image marked.
    let marks = c.args.marks.now.items in
    let within : c.in_ok-place.place < length marks = omega (arith, c.if-place-len.true, c.len.ensures) in
    subst (IsKeptMark image c.args.key) (sym (c.index.ensures ∙ get_or_default marks c.in_ok-place.place c.index.result.now None within)) (marked c.in_ok-place.place c.args.key c.in_ok-place.ensures)
