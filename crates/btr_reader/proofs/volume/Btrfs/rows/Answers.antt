use Rattle.btr_reader.proofs.Imports.{◌≡◌, sym, subst, arith, err_from_is_err_and, RefusesRows}
use Rattle.btr_reader.proofs.Answered.{tree_or_log, without_log}
use Rattle.btr_reader.proofs.MapBlocks.{opened_in_blocks}
use Rattle.btr_reader.proofs.volume.Btrfs.rows.Goals as goal

pub returns-in_err-tree-clause-rows : goal.returns-in_err-tree-clause-rows
returns-in_err-tree-clause-rows g c = λ tells image is volume.
    let sup = c.args.self.now.sup in
    let ranges = c.args.self.now.ranges.items in
    let none : sup.log_root ≡ 0 = omega (arith, c.if-self-ne0.false) in
    let err = err_from_is_err_and c.from_residual.result c.from_residual.ensures.1 in
    rw err.1 (subst (RefusesRows image sup ranges) (sym err.2)
    (tree_or_log image sup ranges c.in_err-tree.field-0.0 none (c.in_err-tree.ensures.finds image volume.roots)))

pub returns-clause-rows : goal.returns-clause-rows
returns-clause-rows g c = λ tells image is volume.
    let sup = c.args.self.now.sup in
    let ranges = c.args.self.now.ranges.items in
    let none : sup.log_root ≡ 0 = omega (arith, c.if-self-ne0.false) in
    let t = c.in_ok-tree.ensures.finds image volume.roots in
    without_log image sup ranges c.read_rows.result none (c.read_rows.ensures.rows tells image is (opened_in_blocks image sup ranges volume.opened) volume.roots t.0 t.1 t.2 t.3 t.4)
