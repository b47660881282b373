use Rattle.fs_rows.proofs.Imports.{IsTrue}
use Rattle.fs_rows.proofs.MarkLemmas.{marks_block, marks_zeros, not_zeros}
use Rattle.fs_rows.proofs.mark.Marker.add.Goals as goal

pub returns-then-is_zero : goal.returns-then-is_zero
returns-then-is_zero c = λ blocks holds.
    let test : IsTrue c.is_zero.result = cc in
    marks_zeros _ blocks _ _ (c.is_zero.ensures.0 test) holds

pub returns : goal.returns
returns c = λ blocks holds.
    marks_block _ _ _ blocks c.args.index _ _ c.put_u64.ensures (not_zeros c.is_zero.result _ c.if-is_zero.false c.is_zero.ensures) c.update.ensures c.update-2.ensures holds
