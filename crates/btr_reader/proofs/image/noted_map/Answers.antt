use Rattle.btr_reader.proofs.Imports.{◌≡◌, List, Some, sym, ◌∙◌, subst, err_from_is_err_and, Refused, MapRange, extents_of, find_inode_item, file_refusals, IsAmong, TellsExtents}
use Rattle.btr_reader.proofs.Stages.{inode_off}
use Rattle.btr_reader.proofs.image.noted_map.Goals as goal

pub returns-in_err-own-clause-reads : goal.returns-in_err-own-clause-reads
returns-in_err-own-clause-reads c = λ items by k.
    let f = c.args.notes in
    let item = find_inode_item items f.number in
    let err = err_from_is_err_and c.from_residual.result c.from_residual.ensures.1 in
    rw err.1 (subst (IsAmong (file_refusals c.args.ranges.now items f.number item)) (sym err.2)
    (inode_off c.args.ranges.now items f.number item c.in_err-own.field-0.0 (c.in_err-own.ensures.finds item k.inode)))
